-- What a refused offer leaves, and that it was of the request's history.
use Rattle.std.proofs.Common.{◌≡◌, refl, ap, ◌∙◌, subst, List}
use Rattle.facts.specs.Stretches.{Agree, Stretch, StretchesAgree}
use Rattle.model.specs.Records.{Record}
use Rattle.locked_resolvers.specs.Requests.{RequestView}
use Rattle.locked_resolvers.specs.Resolvers.{LockedResolverView, after_refusal}
use Rattle.locked_resolvers.specs.declared.refusal.Refusal.{Refusal}
use Rattle.locked_resolvers.specs.declared.refusal.Refusal.TheVariants as refusals

-- a refused offer leaves the records
pub records_refused : (v : LockedResolverView) (refusal : Refusal) → (after_refusal v refusal).records ≡ v.records
records_refused v (refusals.Early version) = refl
records_refused v (refusals.GivenUp acknowledged) = refl
records_refused v refusals.NoSuchProxy = refl
records_refused v refusals.WrongResolver = refl
records_refused v (refusals.OutsideChain version) = refl
records_refused v refusals.NotMine = refl
records_refused v (refusals.OutOfOrder expected) = refl
records_refused v (refusals.OutOfTurn expected) = refl
records_refused v (refusals.NotReached version) = refl
records_refused v refusals.CellTaken = refl
records_refused v refusals.Closed = refl
records_refused v refusals.OutOfMemory = refl

-- where the records left agree with those of the request that came back, they did so before
pub agreed_before : (v left : LockedResolverView) (request back : RequestView) (refusal : Refusal) (mine theirs : Stretch Record) → left ≡ after_refusal v refusal → back ≡ request
    → mine ≡ record { first = 0; known = left.records } → theirs ≡ record { first = 0; known = back.records } → StretchesAgree mine theirs → Agree 0 v.records 0 request.records
agreed_before v left request back refusal mine theirs left_is same mine_is theirs_is agree =
    subst (λ (rs : List Record). Agree 0 rs 0 request.records) (ap (λ (u : LockedResolverView). u.records) left_is ∙ records_refused v refusal)
    (subst (λ (q : RequestView). Agree 0 left.records 0 q.records) same
    (subst (λ (s : Stretch Record). Agree 0 left.records s.first s.known) theirs_is
    (subst (λ (s : Stretch Record). Agree s.first s.known theirs.first theirs.known) mine_is agree)))
