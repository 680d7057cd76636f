-- Starts that give each key the same version tell the same.
use Rattle.std.proofs.Common.{◌≡◌, refl, sym, ap, ap₂, ◌∙◌, ℕ, ◌⊎◌, inl, inr, List, [], ◌∷◌, Bool, true, false, cond, nat_eq}
use Rattle.std.proofs.lemmas.Bool.{both_ways, eq-eqb, eqb-true}
use Rattle.system_keys.specs.Keys.{Key, is_key_below}
use Rattle.system_keys.proofs.KeyOrder.{not_below_itself, below_cases}
use Rattle.model.specs.WriteHistories.{unless_forgotten}
use Rattle.share_judge.specs.Steps.{Start, last_from, settled, AreRising, TellTheSame}
use Rattle.share_judge.proofs.Starts.{none_before, before_trans}
use Rattle.share_judge.proofs.Settled.{settled_last, settled_rising}

-- each start has another version than what stands before it
abbrev DoChange : (first : ℕ) (ss : List Start) → Type 0
DoChange first [] = Unit {0}
DoChange first (s ∷ ss) = (nat_eq s.1 first ≡ false) × DoChange s.1 ss

settled_change : (dropped first : ℕ) (ss : List Start) → DoChange (unless_forgotten dropped first) (settled dropped first ss)
settled_change dropped first [] = tt
settled_change dropped first (s ∷ ss) = by (nat_eq own (unless_forgotten dropped first)) refl (settled_change dropped s.1 ss)
  where
    own : ℕ
    own = unless_forgotten dropped s.1

    by : (t : Bool) → nat_eq own (unless_forgotten dropped first) ≡ t → DoChange own (settled dropped s.1 ss) → DoChange (unless_forgotten dropped first) (cond t (settled dropped s.1 ss) ((s.0, own) ∷ settled dropped s.1 ss))
    by true same rest = rw (← eqb-true own (unless_forgotten dropped first) same) rest
    by false differs rest = (differs, rest)

-- at its own key a start decides
pub own_at : (first : ℕ) (s : Start) (ss : List Start) → AreRising (s ∷ ss) → last_from first (s ∷ ss) s.0 ≡ s.1
own_at first s ss rising = ap (λ (b : Bool). cond b first (last_from s.1 ss s.0)) (not_below_itself s.0) ∙ none_before s.1 ss s.0 rising.0

-- below the first start nothing stands
first_below : (first : ℕ) (s : Start) (ss : List Start) (key : Key) → is_key_below key s.0 ≡ true → last_from first (s ∷ ss) key ≡ first
first_below first s ss key below = ap (λ (b : Bool). cond b first (last_from s.1 ss key)) below

changed_alike : (first : ℕ) (old new : List Start) → AreRising old → AreRising new → DoChange first old → DoChange first new → ((key : Key) → last_from first new key ≡ last_from first old key) → new ≡ old
changed_alike first [] [] rising rising_too change change_too same = refl
changed_alike first [] (n ∷ new) rising rising_too change change_too same =
    absurd (both_ways (nat_eq n.1 first) change_too.0 (eq-eqb n.1 first (sym (own_at first n new rising_too) ∙ same n.0)))
changed_alike first (o ∷ old) [] rising rising_too change change_too same =
    absurd (both_ways (nat_eq o.1 first) change.0 (eq-eqb o.1 first (sym (own_at first o old rising) ∙ sym (same o.0))))
changed_alike first (o ∷ old) (n ∷ new) rising rising_too change change_too same =
    by (below_cases n.0 o.0) (changed_alike n.1 old new rising.1 rising_too.1)
  where
    by : (is_key_below n.0 o.0 ≡ true) ⊎ ((n.0 ≡ o.0) ⊎ (is_key_below o.0 n.0 ≡ true))
        → (DoChange n.1 old → DoChange n.1 new → ((key : Key) → last_from n.1 new key ≡ last_from n.1 old key) → new ≡ old)
        → n ∷ new ≡ o ∷ old
    by (inl below) rest = absurd (both_ways (nat_eq n.1 first) change_too.0 (eq-eqb n.1 first (sym (own_at first n new rising_too) ∙ same n.0 ∙ first_below first o old n.0 below)))
    by (inr (inr above)) rest = absurd (both_ways (nat_eq o.1 first) change.0 (eq-eqb o.1 first (sym (own_at first o old rising) ∙ sym (same o.0) ∙ first_below first n new o.0 above)))
    by (inr (inl level)) rest =
        ap₂ (λ (s : Start) (ss : List Start). s ∷ ss) (λ i. (level i, versions i))
        (rest (rw versions change.1) change_too.1 later)
      where
        versions : n.1 ≡ o.1
        versions = sym (own_at first n new rising_too) ∙ same n.0 ∙ ap (λ (k : Key). last_from first (o ∷ old) k) level ∙ own_at first o old rising

        later : (key : Key) → last_from n.1 new key ≡ last_from n.1 old key
        later key = of (is_key_below key n.0) refl
          where
            of : (t : Bool) → is_key_below key n.0 ≡ t → last_from n.1 new key ≡ last_from n.1 old key
            of true below =
                none_before n.1 new key (before_trans key n.0 new below rising_too.0)
                ∙ sym (none_before n.1 old key (before_trans key o.0 old (ap (is_key_below key) (sym level) ∙ below) rising.0))
            of false above =
                sym (ap (λ (b : Bool). cond b first (last_from n.1 new key)) above)
                ∙ same key
                ∙ ap (λ (b : Bool). cond b first (last_from o.1 old key)) (ap (is_key_below key) (sym level) ∙ above)
                ∙ ap (λ (m : ℕ). last_from m old key) (sym versions)

-- where versions up to a bound count as none
pub told_unless : (dropped : ℕ) (old new : List Start) → AreRising old → AreRising new → ((key : Key) → unless_forgotten dropped (last_from 0 new key) ≡ unless_forgotten dropped (last_from 0 old key)) → settled dropped 0 new ≡ settled dropped 0 old
told_unless dropped old new rising rising_too same =
    changed_alike (unless_forgotten dropped 0) (settled dropped 0 old) (settled dropped 0 new) (settled_rising dropped 0 old rising) (settled_rising dropped 0 new rising_too) (settled_change dropped 0 old) (settled_change dropped 0 new)
    (λ key. settled_last dropped 0 new key rising_too ∙ same key ∙ sym (settled_last dropped 0 old key rising))

pub told_alike : (old new : List Start) → AreRising old → AreRising new → ((key : Key) → last_from 0 new key ≡ last_from 0 old key) → TellTheSame old new
told_alike old new rising rising_too same dropped = told_unless dropped old new rising rising_too (λ key. ap (unless_forgotten dropped) (same key))
