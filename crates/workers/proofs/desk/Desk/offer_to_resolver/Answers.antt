-- What the guard showed before is what refused the request.
use Rattle.std.proofs.Common.{sym, ap, ◌∙◌, subst, inl}
use Rattle.std.specs.Prelude.{IsTrue}
use Rattle.facts.specs.Stretches.{Agree}
use Rattle.locked_resolvers.specs.Requests.{RequestView}
use Rattle.locked_resolvers.specs.Resolvers.{IsOfferRefusal, LockedResolverView}
use Rattle.workers.specs.Desks.{DeskView}
use Rattle.workers.specs.Refusing.{IsToldRefusal}
use Rattle.locked_resolvers.proofs.RefusedOffers.{agreed_before}
use Rattle.workers.proofs.DeskLemmas.{closed_both, closed_for, fails_keeps, keeps_trans, number_refused, refused_closed, same_number, stays_closed, told_refusal, with_closed, with_worker}
use Rattle.workers.proofs.GivenUpLemmas.{given_up_stays}
use Rattle.workers.proofs.desk.Desk.offer_to_resolver.Goals as goal

pub refuse_by_offer-requires-clause-was : goal.refuse_by_offer-requires-clause-was
refuse_by_offer-requires-clause-was g c =
    let asked = c.args.guard.now in
    let number = same_number c.offer.new.self c.close_resolver_if_closed.new.guard (with_worker c.note_refusal.new.self.closed c.offer.new.self c.close_resolver_if_closed.new.guard c.close_resolver_if_closed.ensures) ∙ ap (λ (v : LockedResolverView). v.memory.number) c.in-Err.ensures.left ∙ number_refused asked c.in-Err.refused.refusal in
    let given = c.in-Err.refused in
    let agree : Agree 0 asked.records 0 c.args.request.records = agreed_before asked c.offer.new.self c.args.request given.request given.refusal c.records.result.now c.records-in-Err.result.now c.in-Err.ensures.left c.in-Err.ensures.back c.records.ensures.value c.records-in-Err.ensures.value c.agree.ensures in (
      asked,
      c.number-number.ensures.kept,
      sym number,
      subst (λ (q : RequestView). Agree 0 asked.records 0 q.records) (sym c.in-Err.ensures.back) agree,
      subst (λ (q : RequestView). IsOfferRefusal asked q.plain c.in-Err.refused.refusal) (sym c.in-Err.ensures.back) c.in-Err.ensures.refused,
    )

pub refuse_by_offer-requires-clause-closed : goal.refuse_by_offer-requires-clause-closed
refuse_by_offer-requires-clause-closed g c =
    let asked = c.args.guard.now in
    let refusal = c.in-Err.refused.refusal in
    λ is. stays_closed c.offer.new.self c.close_resolver_if_closed.new.guard (with_worker c.note_refusal.new.self.closed c.offer.new.self c.close_resolver_if_closed.new.guard c.close_resolver_if_closed.ensures)
    (subst (λ (v : LockedResolverView). IsTrue v.closed) (sym c.in-Err.ensures.left) (refused_closed asked c.args.request.plain refusal c.in-Err.ensures.refused is))

pub returns-in-Ok-clause-closed : goal.returns-in-Ok-clause-closed
returns-in-Ok-clause-closed g c = λ closed. inl (sym c.catch_up_column.ensures.closed ∙ closed)

pub returns-in-Err-clause-keeps : goal.returns-in-Err-clause-keeps
returns-in-Err-clause-keeps g c = keeps_trans _ _ _ c.catch_up_column-in-Err.ensures.keeps (fails_keeps _ _ c.note_refusal.ensures.fails)

pub returns-in-Err-clause-own : goal.returns-in-Err-clause-own
returns-in-Err-clause-own g c =
    same_number c.close_resolver_if_closed.new.guard c.refuse_by_offer.new.guard c.refuse_by_offer.ensures.resolver ∙ same_number c.offer.new.self c.close_resolver_if_closed.new.guard (with_worker c.note_refusal.new.self.closed c.offer.new.self c.close_resolver_if_closed.new.guard c.close_resolver_if_closed.ensures)
    ∙ ap (λ (v : LockedResolverView). v.memory.number) c.in-Err.ensures.left ∙ number_refused c.args.guard.now c.in-Err.refused.refusal

pub returns-in-Err-clause-closed : goal.returns-in-Err-clause-closed
returns-in-Err-clause-closed g c =
    let asked = c.args.guard.now in
    let q = c.args.request.plain in
    let was = c.args.self.now.closed in
    λ closed. closed_both asked c.refuse_by_offer.new.guard q was (stays_closed c.close_resolver_if_closed.new.guard c.refuse_by_offer.new.guard c.refuse_by_offer.ensures.resolver (with_closed c.note_refusal.new.self.closed c.offer.new.self c.close_resolver_if_closed.new.guard c.close_resolver_if_closed.ensures closed))
    (closed_for asked q c.in-Err.refused.refusal was c.note_refusal.new.self.closed c.in-Err.ensures.refused
    (λ same. ap (λ (v : DeskView). v.closed) (c.note_refusal.ensures.memory same) ∙ c.catch_up_column-in-Err.ensures.closed)
    (λ acknowledged same. given_up_stays g.N.Naming.cells.config asked _ q c.in-Err.refused.refusal acknowledged _ c.catch_up_column-in-Err.new.self c.note_refusal.new.self _
    c.number-number.ensures.kept c.plain-plain.ensures.versions c.in-Err.ensures.refused same c.in-Err.ensures.left c.column-in-Err.ensures.value
    (c.row.ensures ∙ ap (λ (r : RequestView). r.plain.row) c.in-Err.ensures.back) c.catch_up_column-in-Err.ensures.reached c.note_refusal.ensures.fails.stays_closed (c.note_refusal.ensures.given_up acknowledged same) ∙ c.catch_up_column-in-Err.ensures.closed)
    closed)

pub returns-in-Err-clause-answer : goal.returns-in-Err-clause-answer
returns-in-Err-clause-answer g c =
    let asked = c.args.guard.now in
    let given = c.in-Err.refused in
    let told = c.refuse_by_offer.result in
    let refused = subst (λ (q : RequestView). IsOfferRefusal asked q.plain given.refusal) (sym c.in-Err.ensures.back) c.in-Err.ensures.refused in
    let number = same_number c.offer.new.self c.close_resolver_if_closed.new.guard (with_worker c.note_refusal.new.self.closed c.offer.new.self c.close_resolver_if_closed.new.guard c.close_resolver_if_closed.ensures) ∙ ap (λ (v : LockedResolverView). v.memory.number) c.in-Err.ensures.left ∙ number_refused asked given.refusal in (
      c.refuse_by_offer.ensures.request ∙ c.in-Err.ensures.back,
      subst (λ (q : RequestView). IsToldRefusal asked q.plain told.refusal) c.in-Err.ensures.back
          (told_refusal asked _ given.request.plain given.refusal told.refusal number refused c.refuse_by_offer.ensures.refusal c.refuse_by_offer.ensures.other c.refuse_by_offer.ensures.early),
      c.refuse_by_offer.ensures.closed,
    )
