-- One resolver more, whose place is empty.
use Rattle.std.proofs.Common.{◌≡◌, ◌∙◌, sym, ap, ℕ, ◌-◌, length, length-take-le, take, slice_set, Some, arith}
use Rattle.std.proofs.lemmas.List.{length-map}
use Rattle.std.proofs.lemmas.Option.{none-some}
use Rattle.model.specs.declared.reply.Reply.{Reply}
use Rattle.model.specs.ResolverMemory.{ResolverView}
use Rattle.state_memory.specs.Kept.{kept_reply}
use Rattle.proxy_state.proofs.RefusedCalls.{no_next_fault}
use Rattle.turn_world.specs.Parts.{kept_replies_at}
use Rattle.turn_world.proofs.NewParts.{kept_next}
use Rattle.turn_world.proofs.OfferedParts.{got}
use Rattle.turn_world.proofs.finishing.kept_replies_at.Goals as goal

same_reply : (a b : Reply) → Some a ≡ Some b → a ≡ b
same_reply a b both = cc

pub loop-resolver-preserved : goal.loop-resolver-preserved
loop-resolver-preserved c =
    let i = c.loop-resolver.resolver-index in
    let at = got c.args.resolvers.now i c.resolver-item.result (omega arith) c.resolver-item.is in
    let k = c.requires.kept i c.resolver-item.result at in
    let own = c.in_ok-copy.ensures ∙ same_reply c.in-Some.reply.now k.0 (sym c.in-Some.ensures ∙ k.1) in
    let named : c.in_ok-copy.field-0.resolver ≡ i = ap (λ (reply : Reply). reply.resolver) own ∙ k.2 in
    kept_next c.args.resolvers.now c.args.proxy c.args.version i c.resolver-item.result c.in_ok-copy.field-0 c.loop-resolver.replies c.put.new.self (omega arith) at (c.in-Some.ensures ∙ ap Some (sym c.in_ok-copy.ensures)) c.loop-resolver.invariant
    (c.in-Ok.ensures.filled ∙ ap (λ (r : ℕ). slice_set c.loop-resolver.replies r (Some c.in_ok-copy.field-0)) named)

pub unreachable-requires : goal.unreachable-requires
unreachable-requires c =
    let i = c.loop-resolver.resolver-index in
    let at = got c.args.resolvers.now i c.resolver-item.result (omega arith) c.resolver-item.is in
    let k = c.requires.kept i c.resolver-item.result at in
    none-some k.0 (sym c.in_default.ensures ∙ k.1)

pub unreachable-requires-in_default-put : goal.unreachable-requires-in_default-put
unreachable-requires-in_default-put c =
    let i = c.loop-resolver.resolver-index in
    let at = got c.args.resolvers.now i c.resolver-item.result (omega arith) c.resolver-item.is in
    let k = c.requires.kept i c.resolver-item.result at in
    let own = c.in_ok-copy.ensures ∙ same_reply c.in-Some.reply.now k.0 (sym c.in-Some.ensures ∙ k.1) in
    let named : c.in_ok-copy.field-0.resolver ≡ i = ap (λ (reply : Reply). reply.resolver) own ∙ k.2 in
    let behind = sym (length-map (take i c.args.resolvers.now) (λ (v : ResolverView). kept_reply v c.args.proxy c.args.version) ∙ length-take-le i c.args.resolvers.now (omega arith)) in
    let none = no_next_fault c.loop-resolver.replies (kept_replies_at (take i c.args.resolvers.now) c.args.proxy c.args.version) (length c.args.resolvers.now - i) i c.in_ok-copy.field-0 c.loop-resolver.invariant named behind (omega arith) in
    none-some c.in_default-put.field-0.0 (sym none ∙ c.in_default-put.ensures.refused)
