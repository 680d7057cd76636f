-- The second offer is a repeat, and one that is refused leaves what was there.
use Rattle.std.proofs.Common.{◌≡◌, refl, subst, inl, inr, rules}
use Rattle.std.specs.Prelude.{Err}
use Rattle.locked_resolvers.specs.Requests.{RequestView}
use Rattle.locked_resolvers.specs.Resolvers.{IsOfferRefusal}
use Rattle.locked_resolvers.specs.declared.refusal.Refusal.TheVariants as refusals
use Rattle.uses.specs.Resolving.{RefusesOneOfTwo}
use Rattle.uses.proofs.CommitRefusals.{if_err}
use Rattle.uses.proofs.RepliesInCells.{twice_replies, twice_same}
use Rattle.uses.proofs.resolving.offer_twice.Goals as goal

pub returns-clause-replied : goal.returns-clause-replied
returns-clause-replied g c = twice_replies g.N.Naming.cells.config c.args.guard.now c.offer_or_drop.new.guard c.offer_or_drop-2.new.guard
    c.args.request c.in_ok-copy.copy c.in_ok-noted.noted c.in_ok-again.again c.in_ok-copy.ensures c.in_ok-noted.ensures.offered
    c.in_ok-again.ensures.offered c.in_ok-noted.ensures.kept

pub returns-clause-same : goal.returns-clause-same
returns-clause-same g c = twice_same g.N.Naming.cells.config c.args.guard.now c.offer_or_drop.new.guard c.offer_or_drop-2.new.guard c.args.request
    c.in_ok-copy.copy c.in_ok-noted.noted c.in_ok-again.again c.in_ok-copy.ensures c.in_ok-noted.ensures.offered c.in_ok-again.ensures.offered
    c.in_ok-noted.ensures.kept c.in_ok-again.ensures.kept

pub returns-in_err-copy-clause-refused : goal.returns-in_err-copy-clause-refused
returns-in_err-copy-clause-refused g c =
    let is : c.from_residual.result ≡ Err refusals.OutOfMemory = search rules in
    if_err (RefusesOneOfTwo c.args.guard.now c.args.request c.args.guard.now) c.from_residual.result refusals.OutOfMemory is (inl (refl, refl))

pub returns-in_err-noted-clause-refused : goal.returns-in_err-noted-clause-refused
returns-in_err-noted-clause-refused g c =
    let refusal = c.in_err-noted.field-0.0 in
    let is : c.from_residual-in_err-noted.result ≡ Err refusal = search rules in
    if_err (RefusesOneOfTwo c.args.guard.now c.args.request c.offer_or_drop.new.guard) c.from_residual-in_err-noted.result refusal is
    (inr (inl (c.in_err-noted.ensures.refused, c.in_err-noted.ensures.left)))

pub returns-in_err-again-clause-refused : goal.returns-in_err-again-clause-refused
returns-in_err-again-clause-refused g c =
    let refusal = c.in_err-again.field-0.0 in
    let is : c.from_residual-in_err-again.result ≡ Err refusal = search rules in
    let refused = subst (λ (q : RequestView). IsOfferRefusal c.offer_or_drop.new.guard q.plain refusal) c.in_ok-copy.ensures c.in_err-again.ensures.refused in
    if_err (RefusesOneOfTwo c.args.guard.now c.args.request c.offer_or_drop-2.new.guard) c.from_residual-in_err-again.result refusal is
    (inr (inr (c.offer_or_drop.new.guard, c.in_ok-noted.noted, c.in_ok-noted.ensures.offered, refused, c.in_err-again.ensures.left)))
