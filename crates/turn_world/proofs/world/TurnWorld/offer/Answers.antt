-- The request is refused, given its reply again, or judged.
use Rattle.std.proofs.Common.{◌≡◌, ◌<◌, refl, subst, length, arith, rules}
use Rattle.model.proofs.History.Chain.{element_at}
use Rattle.model.specs.World as world
use Rattle.model.specs.World.{Offer}
use Rattle.model.specs.Turns.{answer_to_event}
use Rattle.system_keys.specs.AsSpecified.{IsFaultOf}
use Rattle.turn_world.specs.Events.{fault_of}
use Rattle.turn_world.specs.Kept.{world_of, requests_of}
use Rattle.std.specs.Prelude.{Ok}
use Rattle.state_memory.specs.declared.answer.Answer.{Answer as OfferAnswer}
use Rattle.state_memory.specs.declared.answer.Answer.TheVariants as offered
use Rattle.turn_world.specs.KeptRequests.{kept_request}
use Rattle.turn_world.specs.Parts.{IsOfferedAt}
use Rattle.turn_world.proofs.AllKept.{judged_kept_all}
use Rattle.turn_world.proofs.FinishesLeft.{rows_are}
use Rattle.turn_world.proofs.OfferedParts.{got}
use Rattle.turn_world.proofs.OfferedRows.{no_row, record_at, no_resolver, known_offer, judged_told, again_told, in_chain, refused_told, event_answer, judged_kept, judged_after, again_after}
use Rattle.turn_world.proofs.world.TurnWorld.offer.Goals as goal

pub returns-then-len-row-clause-answer : goal.returns-then-len-row-clause-answer
returns-then-len-row-clause-answer c =
    let t = c.self.inside in
    let many : c.len.result ≡ length t.rows.items = search rules in
    no_row t.config t.rows.items (world_of t.rows.items t.moves t.judged_counts.items t.finished.items) c.args.self.now c.args.row c.args.resolver refl c.self.view_is (omega (arith, many, c.if-len-row.true))

pub returns-then-resolvers-resolver-clause-answer : goal.returns-then-resolvers-resolver-clause-answer
returns-then-resolvers-resolver-clause-answer c =
    let t = c.self.inside in
    let many : c.len.result ≡ length t.rows.items = search rules in
    let one = element_at t.rows.items c.args.row (omega (arith, many, c.if-len-row.false)) in
    no_resolver t.config (world_of t.rows.items t.moves t.judged_counts.items t.finished.items) c.args.self.now c.args.row c.args.resolver one.0.rec.known c.self.view_is (record_at t.rows.items c.args.row one.0 one.1) (omega (arith, c.resolvers.ensures.value, c.if-resolvers-resolver.true))

pub header_at-header-requires : goal.header_at-header-requires
header_at-header-requires c =
    let t = c.self.inside in
    let w = world_of t.rows.items t.moves t.judged_counts.items t.finished.items in
    let many : c.len.result ≡ length t.rows.items = search rules in
    omega (arith, many, c.if-len-row.false, rows_are t.config t.rows.items w c.args.self.now refl c.self.view_is)

pub invariant_of-self : goal.invariant_of-self
invariant_of-self c =
    let t = c.self.inside in
    let w = world_of t.rows.items t.moves t.judged_counts.items t.finished.items in
    let many : c.len.result ≡ length t.rows.items = search rules in
    let there : c.args.resolver < t.config.resolvers = omega (arith, c.resolvers.ensures.value, c.if-resolvers-resolver.false) in
    let at = got t.rows.items c.args.row c.index.result.now (omega (arith, many, c.if-len-row.false)) c.index.ensures in
    let q = kept_request c.as_slice-requests.result.now c.args.resolver c.header_at-header.result in
    let is : c.in-Ok-Judged.field-0 ≡ offered.Judged c.in-Ok-Judged.reply = search rules in
    let e = subst (λ (answer : OfferAnswer). IsOfferedAt t.resolvers.items c.args.resolver q (Ok answer) c.offer_kept.new.resolvers.items) is c.in-Ok-Judged.ensures in
    let k = known_offer t.config w t.rows.items c.args.self.now c.args.row c.args.resolver c.index.result.now c.as_slice-requests.result.now c.header_at-header.result e.v t.resolvers.items t.proxies.items t.last c.self.view_is refl c.self.invariant.0 c.self.invariant.1 there at c.header_at-header.ensures c.as_slice-requests.ensures.value e.at in
    let specified = e.answer _ k.stands in (
      judged_kept t.config w c.args.row c.args.resolver c.index.result.now.rec.known e.v q t.resolvers.items c.offer_kept.new.resolvers.items t.proxies.items (requests_of t.rows.items) t.last c.in-Ok-Judged.reply c.self.invariant.0 k.is_offered (k.judged c.in-Ok-Judged.reply specified).0 (judged_told _ _ c.in-Ok-Judged.reply k.told specified) e.after_is,
      judged_kept_all t.judged_counts.items t.rows.items c.args.resolver c.args.row (omega (arith, there, c.self.invariant.0.parts.sound.judged_counts)) (k.judged c.in-Ok-Judged.reply specified).1 c.self.invariant.1,
    )

pub returns-in-Ok-Judged-clause-answer : goal.returns-in-Ok-Judged-clause-answer
returns-in-Ok-Judged-clause-answer c =
    let t = c.self.inside in
    let w = world_of t.rows.items t.moves t.judged_counts.items t.finished.items in
    let many : c.len.result ≡ length t.rows.items = search rules in
    let there : c.args.resolver < t.config.resolvers = omega (arith, c.resolvers.ensures.value, c.if-resolvers-resolver.false) in
    let at = got t.rows.items c.args.row c.index.result.now (omega (arith, many, c.if-len-row.false)) c.index.ensures in
    let q = kept_request c.as_slice-requests.result.now c.args.resolver c.header_at-header.result in
    let is : c.in-Ok-Judged.field-0 ≡ offered.Judged c.in-Ok-Judged.reply = search rules in
    let e = subst (λ (answer : OfferAnswer). IsOfferedAt t.resolvers.items c.args.resolver q (Ok answer) c.offer_kept.new.resolvers.items) is c.in-Ok-Judged.ensures in
    let k = known_offer t.config w t.rows.items c.args.self.now c.args.row c.args.resolver c.index.result.now c.as_slice-requests.result.now c.header_at-header.result e.v t.resolvers.items t.proxies.items t.last c.self.view_is refl c.self.invariant.0 c.self.invariant.1 there at c.header_at-header.ensures c.as_slice-requests.ensures.value e.at in
    let specified = e.answer _ k.stands in
    event_answer t.config w c.args.self.now c.args.row c.args.resolver (world.Judged c.in-Ok-Judged.reply) c.self.view_is (judged_told _ _ c.in-Ok-Judged.reply k.told specified)

pub returns-in-Ok-Judged-clause-ok : goal.returns-in-Ok-Judged-clause-ok
returns-in-Ok-Judged-clause-ok c =
    let t = c.self.inside in
    let w = world_of t.rows.items t.moves t.judged_counts.items t.finished.items in
    let many : c.len.result ≡ length t.rows.items = search rules in
    let there : c.args.resolver < t.config.resolvers = omega (arith, c.resolvers.ensures.value, c.if-resolvers-resolver.false) in
    let at = got t.rows.items c.args.row c.index.result.now (omega (arith, many, c.if-len-row.false)) c.index.ensures in
    let q = kept_request c.as_slice-requests.result.now c.args.resolver c.header_at-header.result in
    let is : c.in-Ok-Judged.field-0 ≡ offered.Judged c.in-Ok-Judged.reply = search rules in
    let e = subst (λ (answer : OfferAnswer). IsOfferedAt t.resolvers.items c.args.resolver q (Ok answer) c.offer_kept.new.resolvers.items) is c.in-Ok-Judged.ensures in
    let k = known_offer t.config w t.rows.items c.args.self.now c.args.row c.args.resolver c.index.result.now c.as_slice-requests.result.now c.header_at-header.result e.v t.resolvers.items t.proxies.items t.last c.self.view_is refl c.self.invariant.0 c.self.invariant.1 there at c.header_at-header.ensures c.as_slice-requests.ensures.value e.at in
    let specified = e.answer _ k.stands in
    judged_after t.config w c.args.self.now c.args.row c.args.resolver c.index.result.now.rec.known e.v t.resolvers.items t.proxies.items (requests_of t.rows.items) c.in-Ok-Judged.reply c.self.view_is k.is_offered (judged_told _ _ c.in-Ok-Judged.reply k.told specified)

pub returns-in-Ok-Again-clause-answer : goal.returns-in-Ok-Again-clause-answer
returns-in-Ok-Again-clause-answer c =
    let t = c.self.inside in
    let w = world_of t.rows.items t.moves t.judged_counts.items t.finished.items in
    let many : c.len.result ≡ length t.rows.items = search rules in
    let there : c.args.resolver < t.config.resolvers = omega (arith, c.resolvers.ensures.value, c.if-resolvers-resolver.false) in
    let at = got t.rows.items c.args.row c.index.result.now (omega (arith, many, c.if-len-row.false)) c.index.ensures in
    let q = kept_request c.as_slice-requests.result.now c.args.resolver c.header_at-header.result in
    let is : c.in-Ok-Again.field-0 ≡ offered.Again c.in-Ok-Again.reply = search rules in
    let e = subst (λ (answer : OfferAnswer). IsOfferedAt t.resolvers.items c.args.resolver q (Ok answer) c.offer_kept.new.resolvers.items) is c.in-Ok-Again.ensures in
    let k = known_offer t.config w t.rows.items c.args.self.now c.args.row c.args.resolver c.index.result.now c.as_slice-requests.result.now c.header_at-header.result e.v t.resolvers.items t.proxies.items t.last c.self.view_is refl c.self.invariant.0 c.self.invariant.1 there at c.header_at-header.ensures c.as_slice-requests.ensures.value e.at in
    let specified = e.answer _ k.stands in
    event_answer t.config w c.args.self.now c.args.row c.args.resolver (world.Again c.in-Ok-Again.reply) c.self.view_is (again_told _ _ c.in-Ok-Again.reply k.told specified)

pub returns-in-Ok-Again-clause-ok : goal.returns-in-Ok-Again-clause-ok
returns-in-Ok-Again-clause-ok c =
    let t = c.self.inside in
    let w = world_of t.rows.items t.moves t.judged_counts.items t.finished.items in
    let many : c.len.result ≡ length t.rows.items = search rules in
    let there : c.args.resolver < t.config.resolvers = omega (arith, c.resolvers.ensures.value, c.if-resolvers-resolver.false) in
    let at = got t.rows.items c.args.row c.index.result.now (omega (arith, many, c.if-len-row.false)) c.index.ensures in
    let q = kept_request c.as_slice-requests.result.now c.args.resolver c.header_at-header.result in
    let is : c.in-Ok-Again.field-0 ≡ offered.Again c.in-Ok-Again.reply = search rules in
    let e = subst (λ (answer : OfferAnswer). IsOfferedAt t.resolvers.items c.args.resolver q (Ok answer) c.offer_kept.new.resolvers.items) is c.in-Ok-Again.ensures in
    let k = known_offer t.config w t.rows.items c.args.self.now c.args.row c.args.resolver c.index.result.now c.as_slice-requests.result.now c.header_at-header.result e.v t.resolvers.items t.proxies.items t.last c.self.view_is refl c.self.invariant.0 c.self.invariant.1 there at c.header_at-header.ensures c.as_slice-requests.ensures.value e.at in
    let specified = e.answer _ k.stands in
    again_after t.config w c.args.self.now c.args.row c.args.resolver c.in-Ok-Again.reply c.self.view_is (again_told _ _ c.in-Ok-Again.reply k.told specified)

pub cluster_refusal-requires : goal.cluster_refusal-requires
cluster_refusal-requires c =
    let t = c.self.inside in
    let w = world_of t.rows.items t.moves t.judged_counts.items t.finished.items in
    let many : c.len.result ≡ length t.rows.items = search rules in
    let there : c.args.resolver < t.config.resolvers = omega (arith, c.resolvers.ensures.value, c.if-resolvers-resolver.false) in
    let at = got t.rows.items c.args.row c.index.result.now (omega (arith, many, c.if-len-row.false)) c.index.ensures in
    let q = kept_request c.as_slice-requests.result.now c.args.resolver c.header_at-header.result in
    let e = c.in-Err.ensures in
    let k = known_offer t.config w t.rows.items c.args.self.now c.args.row c.args.resolver c.index.result.now c.as_slice-requests.result.now c.header_at-header.result e.v t.resolvers.items t.proxies.items t.last c.self.view_is refl c.self.invariant.0 c.self.invariant.1 there at c.header_at-header.ensures c.as_slice-requests.ensures.value e.at in
    let specified = e.answer _ k.stands in
    in_chain _ _ c.in-Err.refusal k.told specified

pub returns-in-Err-clause-answer : goal.returns-in-Err-clause-answer
returns-in-Err-clause-answer c =
    let t = c.self.inside in
    let w = world_of t.rows.items t.moves t.judged_counts.items t.finished.items in
    let many : c.len.result ≡ length t.rows.items = search rules in
    let there : c.args.resolver < t.config.resolvers = omega (arith, c.resolvers.ensures.value, c.if-resolvers-resolver.false) in
    let at = got t.rows.items c.args.row c.index.result.now (omega (arith, many, c.if-len-row.false)) c.index.ensures in
    let q = kept_request c.as_slice-requests.result.now c.args.resolver c.header_at-header.result in
    let e = c.in-Err.ensures in
    let k = known_offer t.config w t.rows.items c.args.self.now c.args.row c.args.resolver c.index.result.now c.as_slice-requests.result.now c.header_at-header.result e.v t.resolvers.items t.proxies.items t.last c.self.view_is refl c.self.invariant.0 c.self.invariant.1 there at c.header_at-header.ensures c.as_slice-requests.ensures.value e.at in
    let specified = e.answer _ k.stands in
    subst (λ now. IsFaultOf (fault_of c.cluster_refusal.result) (answer_to_event now (Offer c.args.row c.args.resolver))) c.self.view_is (refused_told _ _ c.in-Err.refusal c.cluster_refusal.result k.told specified c.cluster_refusal.ensures)
