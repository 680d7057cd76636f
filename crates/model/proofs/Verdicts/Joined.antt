-- What the resolvers say together: Conflict where one says so, Committed where all do.
use Rattle.std.proofs.Common.{◌≡◌, refl, sym, ◌∙◌, List, [], ◌∷◌}
use Rattle.std.specs.Prelude.{◌⊎◌, ◌↔◌, Contains}
use mathlib.Core.Logic.{inl, inr}
use Rattle.model.specs.declared.verdict.Verdict.{Verdict}
use Rattle.model.specs.declared.verdict.Verdict.TheVariants.{Conflict, TooOld, Committed}
use Rattle.model.specs.Verdicts.{least_of, joined}
use Rattle.model.proofs.Members.{Has, Has-from_Contains, Contains-from_Has}

-- the lesser of two is Committed only where both are
pub least_of_committed : (v w : Verdict) → least_of v w ≡ Committed → (v ≡ Committed) × (w ≡ Committed)
least_of_committed Conflict w e = absurd (cc)
least_of_committed TooOld Conflict e = absurd (cc)
least_of_committed TooOld TooOld e = absurd (cc)
least_of_committed TooOld Committed e = absurd (cc)
least_of_committed Committed w e = (refl, e)

-- the lesser of two is one of them
least_of_cases : (v w : Verdict) → (least_of v w ≡ v) ⊎ (least_of v w ≡ w)
least_of_cases Conflict w = inl refl
least_of_cases TooOld Conflict = inr refl
least_of_cases TooOld TooOld = inl refl
least_of_cases TooOld Committed = inl refl
least_of_cases Committed w = inr refl

least_of_conflict : (v : Verdict) → least_of v Conflict ≡ Conflict
least_of_conflict Conflict = refl
least_of_conflict TooOld = refl
least_of_conflict Committed = refl

-- the joined verdict is one of them, or Committed
joined_has : (vs : List Verdict) → Has vs (joined vs) ⊎ (joined vs ≡ Committed)
joined_has [] = inr refl
joined_has (v ∷ vs) = go (least_of_cases v (joined vs)) (joined_has vs)
  where
    go : (least_of v (joined vs) ≡ v) ⊎ (least_of v (joined vs) ≡ joined vs) → Has vs (joined vs) ⊎ (joined vs ≡ Committed) → Has (v ∷ vs) (least_of v (joined vs)) ⊎ (least_of v (joined vs) ≡ Committed)
    go (inl first) later = inl (inl (sym first))
    go (inr rest) (inl there) = inl (inr (rw rest there))
    go (inr rest) (inr none) = inr (rest ∙ none)

joined_conflict : (vs : List Verdict) → Has vs Conflict → joined vs ≡ Conflict
joined_conflict [] there = absurd there
joined_conflict (v ∷ vs) (inl first) = rw first refl
joined_conflict (v ∷ vs) (inr there) = rw (joined_conflict vs there) (least_of_conflict v)

pub joined_committed : (vs : List Verdict) (v : Verdict) → joined vs ≡ Committed → Has vs v → v ≡ Committed
joined_committed [] v e there = absurd there
joined_committed (w ∷ vs) v e (inl first) = sym first ∙ (least_of_committed w (joined vs) e).0
joined_committed (w ∷ vs) v e (inr there) = joined_committed vs v (least_of_committed w (joined vs) e).1 there

committed_joined : (vs : List Verdict) → ((v : Verdict) → Has vs v → v ≡ Committed) → joined vs ≡ Committed
committed_joined [] all = refl
committed_joined (v ∷ vs) all = rw (all v (inl refl)) (committed_joined vs (λ w there. all w (inr there)))

-- Conflict where some resolver says so
pub joined_conflict_iff : (vs : List Verdict) → (joined vs ≡ Conflict) ↔ Contains vs Conflict
joined_conflict_iff vs = (λ e. to e (joined_has vs), λ there. joined_conflict vs (Has-from_Contains vs Conflict there))
  where
    to : joined vs ≡ Conflict → Has vs (joined vs) ⊎ (joined vs ≡ Committed) → Contains vs Conflict
    to e (inl there) = Contains-from_Has vs Conflict (rw e at there)
    to e (inr none) = absurd (cc)

-- Committed where all say so
pub joined_committed_iff : (vs : List Verdict) → (joined vs ≡ Committed) ↔ ((v : Verdict) → Contains vs v → v ≡ Committed)
joined_committed_iff vs = (λ e v there. joined_committed vs v e (Has-from_Contains vs v there), λ all. committed_joined vs (λ v there. all v (Contains-from_Has vs v there)))
