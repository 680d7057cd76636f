-- One reply more is in its place.
use Rattle.std.proofs.Common.{◌≡◌, ◌∙◌, sym, ap, List, [], ◌∷◌, ◌++◌, length, slice_set, Option, Some, None, arith}
use Rattle.agreed_ledger.specs.Cells.{ColumnView}
use Rattle.model.specs.Agreed.{Column}
use Rattle.model.specs.declared.reply.Reply.{Reply}
use Rattle.proxy_state.specs.Refusals.{put_fault}
use Rattle.proxy_state.specs.declared.refusal.Refusal.{Refusal}
use Rattle.locked_resolvers.proofs.Lists.{got, take_all}
use Rattle.locked_cluster.proofs.ProxyRows.{agree_from_zero}
use Rattle.locked_cluster.proofs.CommitReplies.{AllSayOf, all_placed, columns_count, columns_in, columns_next, is_ready, place_next, say_more, says_of}
use Rattle.locked_cluster.proofs.ProxyRefusals.{no_put_fault}
use Rattle.locked_cluster.proofs.commits.collected_replies.collect_replies.Goals as goal

fault_is : {fault : Option Refusal} {refusal : Refusal} → fault ≡ None → fault ≡ Some refusal → ⊥
fault_is none some = cc

pub push-requires-clause-resolver : goal.push-requires-clause-resolver
push-requires-clause-resolver g c =
    let replies = c.args.replies.now in
    let k = c.loop-reply.reply-index in
    let item = c.reply-item.result in
    let at = got replies k item (omega arith) c.reply-item.is in
    ap (λ (column : ColumnView). column.resolver) (c.in_ok-copy.ensures ∙ c.column.ensures) ∙ (c.requires.replied.each k item at).0 ∙ sym (ap (λ (cs : List Column). length cs) c.loop-reply.invariant.columns ∙ columns_count replies k (omega arith))

pub unreachable-requires : goal.unreachable-requires
unreachable-requires g c =
    let config = g.N.Naming.cells.config in
    let replies = c.args.replies.now in
    let k = c.loop-reply.reply-index in
    let item = c.reply-item.result in
    let at = got replies k item (omega arith) c.reply-item.is in
    let reply : Reply = c.in_ok-copy-2.field-0 in
    let resolver : reply.resolver ≡ k = ap (λ (r : Reply). r.resolver) (c.in_ok-copy-2.ensures ∙ c.value.ensures.value) ∙ (c.requires.replied.each k item at).0 in
    let none : put_fault c.loop-reply.kept reply ≡ None = no_put_fault replies config.resolvers k c.loop-reply.kept reply c.loop-reply.invariant.places resolver (omega arith) c.requires.replied.count in
    fault_is none c.in_default.ensures.refused

pub loop-reply-preserved : goal.loop-reply-preserved
loop-reply-preserved g c =
    let config = g.N.Naming.cells.config in
    let replies = c.args.replies.now in
    let k = c.loop-reply.reply-index in
    let item = c.reply-item.result in
    let at = got replies k item (omega arith) c.reply-item.is in
    let each = c.requires.replied.each k item at in
    let same : c.in_ok-copy-2.field-0 ≡ item.reply = c.in_ok-copy-2.ensures ∙ c.value.ensures.value in
    let resolver : c.in_ok-copy-2.field-0.resolver ≡ k = ap (λ (r : Reply). r.resolver) same ∙ each.0 in
    let places = c.loop-reply.invariant.places in
    let columns = c.loop-reply.invariant.columns in
    let column : c.in_ok-copy.field-0.rows.known ≡ item.column = ap (λ (n : ColumnView). n.rows.known) (c.in_ok-copy.ensures ∙ c.column.ensures) in
    record {
      places = c.in-Ok.ensures.filled ∙ (λ i. slice_set (places i) (resolver i) (Some (same i))) ∙ place_next replies config.resolvers k item at c.requires.replied.count;
      columns = c.in_ok-push.ensures ∙ (λ i. columns i ++ column i ∷ []) ∙ columns_next replies k item at;
      all = say_more config c.args.records.now.known replies k item c.loop-reply.invariant.all at
          (says_of config c.args.row c.args.records.now.known item c.requires.last each.1 c.value.ensures.kept (agree_from_zero c.args.records.now c.records.result.now item.records c.requires.first c.records.ensures c.agree.ensures));
    }

pub returns : goal.returns
returns g c =
    let config = g.N.Naming.cells.config in
    let replies = c.args.replies.now in
    let k = c.loop-reply.reply-index in
    let done = c.loop-reply-test.false in
    let say : AllSayOf config c.args.records.now.known replies (length replies) = λ j n below there. c.loop-reply.invariant.all j n (omega (arith, below, done)) there in
    is_ready config c.args.row c.args.records.now.known replies c.loop-reply.kept c.loop-reply.columns c.requires.history c.requires.last c.requires.replied say
    (c.loop-reply.invariant.places ∙ all_placed replies config.resolvers k c.requires.replied.count done)
    (c.loop-reply.invariant.columns ∙ ap columns_in (take_all replies k done))
