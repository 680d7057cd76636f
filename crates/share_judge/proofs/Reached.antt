-- A range reaches above a bound exactly if its begin does, or some start inside.
use Rattle.std.proofs.Common.{◌≡◌, ◌↔◌, refl, sym, ap, ◌∙◌, subst, ℕ, ◌<◌, ◌⊎◌, inl, inr, List, [], ◌∷◌, filter, Bool, true, false, cond, ◌||◌, nat_lt, IsTrue}
use Rattle.std.specs.List.{list_any}
use Rattle.std.proofs.lemmas.Bool.{ltb-true, lt-ltb, or_cases, or_left, or_right, and_parts, and_from}
use Rattle.system_keys.specs.Keys.{Key, Range, is_key_below, holds}
use Rattle.system_keys.proofs.KeyOrder.{not_below_itself, up_to_below, not_below_back}
use Rattle.system_keys.proofs.KeyLaws.{IsInside, inside_from_holds, holds_from_inside, holds_begin}
use Rattle.share_judge.specs.Steps.{Start, last_from, AreRising, HasStart, IsReached, has_start_above, is_written_above}
use Rattle.share_judge.proofs.Starts.{before_has, none_before, before_trans}

-- a start inside that is above the bound
record StartAbove (bound first : ℕ) (range : Range) (ss : List Start) : Type 0 where
  key : Key
  has : HasStart ss key
  inside : IsTrue (holds range key)
  above : bound < last_from first ss key

found : (bound first : ℕ) (range : Range) (ss : List Start) → AreRising ss → has_start_above bound ss range ≡ true → StartAbove bound first range ss
found bound first range [] rising h = absurd (cc)
found bound first range (s ∷ ss) rising h = by (holds range s.0) refl h (found bound s.1 range ss rising.1)
  where
    later : StartAbove bound s.1 range ss → StartAbove bound first range (s ∷ ss)
    later f = record {
      key = f.key;
      has = inr f.has;
      inside = f.inside;
      above = subst (λ (n : ℕ). bound < n) (sym (ap (λ (b : Bool). cond b first (last_from s.1 ss f.key)) (not_below_back s.0 f.key (before_has s.0 f.key ss rising.0 f.has)))) f.above;
    }

    own : holds range s.0 ≡ true → nat_lt bound s.1 ≡ true → StartAbove bound first range (s ∷ ss)
    own in_range is = record {
      key = s.0;
      has = inl refl;
      inside = in_range;
      above = subst (λ (n : ℕ). bound < n) (sym (ap (λ (b : Bool). cond b first (last_from s.1 ss s.0)) (not_below_itself s.0) ∙ none_before s.1 ss s.0 rising.0)) (ltb-true bound s.1 is);
    }

    by : (t : Bool) → holds range s.0 ≡ t → list_any (λ (s : Start). nat_lt bound s.1) (cond t (s ∷ filter (λ (s : Start). holds range s.0) ss) (filter (λ (s : Start). holds range s.0) ss)) ≡ true
        → (has_start_above bound ss range ≡ true → StartAbove bound s.1 range ss) → StartAbove bound first range (s ∷ ss)
    by true in_range any rest = either (or_cases (nat_lt bound s.1) (has_start_above bound ss range) any)
      where
        either : (nat_lt bound s.1 ≡ true) ⊎ (has_start_above bound ss range ≡ true) → StartAbove bound first range (s ∷ ss)
        either (inl is) = own in_range is
        either (inr is) = later (rest is)
    by false out any rest = later (rest any)

reach : (bound first : ℕ) (range : Range) (ss : List Start) (key : Key) → AreRising ss → IsInside range key → bound < last_from first ss key → (nat_lt bound (last_from first ss range.begin) || has_start_above bound ss range) ≡ true
reach bound first range [] key rising inside above = or_left (nat_lt bound first) false (lt-ltb bound first above)
reach bound first range (s ∷ ss) key rising inside above = by (is_key_below key s.0) refl above (reach bound s.1 range ss key rising.1 inside)
  where
    begin_below : is_key_below key s.0 ≡ true → is_key_below range.begin s.0 ≡ true
    begin_below e = up_to_below range.begin key s.0 inside.begun e

    more : (t : Bool) → has_start_above bound ss range ≡ true → list_any (λ (s : Start). nat_lt bound s.1) (cond t (s ∷ filter (λ (s : Start). holds range s.0) ss) (filter (λ (s : Start). holds range s.0) ss)) ≡ true
    more true h = or_right (nat_lt bound s.1) (has_start_above bound ss range) h
    more false h = h

    by : (t : Bool) → is_key_below key s.0 ≡ t → bound < cond t first (last_from s.1 ss key) → (bound < last_from s.1 ss key → (nat_lt bound (last_from s.1 ss range.begin) || has_start_above bound ss range) ≡ true)
        → (nat_lt bound (last_from first (s ∷ ss) range.begin) || has_start_above bound (s ∷ ss) range) ≡ true
    by true e high rest =
        rw (begin_below e) (or_left (nat_lt bound first) (has_start_above bound (s ∷ ss) range) (lt-ltb bound first high))
    by false e high rest = split (is_key_below range.begin s.0) refl (rest high)
      where
        split : (b : Bool) → is_key_below range.begin s.0 ≡ b → (nat_lt bound (last_from s.1 ss range.begin) || has_start_above bound ss range) ≡ true
            → (nat_lt bound (cond b first (last_from s.1 ss range.begin)) || has_start_above bound (s ∷ ss) range) ≡ true
        split true below h =
            let held : holds range s.0 ≡ true = holds_from_inside range s.0 (record { begun = not_below_back range.begin s.0 below; ended = up_to_below s.0 key range.end e inside.ended }) in
            let own : last_from s.1 ss range.begin ≡ s.1 = none_before s.1 ss range.begin (before_trans range.begin s.0 ss below rising.0) in
            or_right (nat_lt bound first) (has_start_above bound (s ∷ ss) range) (rw held (sym (ap (λ n. nat_lt bound n || has_start_above bound ss range) own) ∙ h))
        split false above h = either (or_cases (nat_lt bound (last_from s.1 ss range.begin)) (has_start_above bound ss range) h)
          where
            either : (nat_lt bound (last_from s.1 ss range.begin) ≡ true) ⊎ (has_start_above bound ss range ≡ true) → (nat_lt bound (last_from s.1 ss range.begin) || has_start_above bound (s ∷ ss) range) ≡ true
            either (inl is) = or_left (nat_lt bound (last_from s.1 ss range.begin)) (has_start_above bound (s ∷ ss) range) is
            either (inr is) = or_right (nat_lt bound (last_from s.1 ss range.begin)) (has_start_above bound (s ∷ ss) range) (more (holds range s.0) is)

pub reached_iff : (bound : ℕ) (range : Range) (ss : List Start) → AreRising ss → IsTrue (is_written_above bound ss range) ↔ IsReached bound (last_from 0 ss) range
reached_iff bound range ss rising = (to, from)
  where
    to : IsTrue (is_written_above bound ss range) → IsReached bound (last_from 0 ss) range
    to h = by (or_cases (nat_lt bound (last_from 0 ss range.begin)) (has_start_above bound ss range) both.1)
      where
        both : (is_key_below range.begin range.end ≡ true) × ((nat_lt bound (last_from 0 ss range.begin) || has_start_above bound ss range) ≡ true)
        both = and_parts (is_key_below range.begin range.end) (nat_lt bound (last_from 0 ss range.begin) || has_start_above bound ss range) h

        by : (nat_lt bound (last_from 0 ss range.begin) ≡ true) ⊎ (has_start_above bound ss range ≡ true) → IsReached bound (last_from 0 ss) range
        by (inl own) = record { key = range.begin; inside = holds_begin range both.0; above = ltb-true bound (last_from 0 ss range.begin) own }
        by (inr any) = let f = found bound 0 range ss rising any in record { key = f.key; inside = f.inside; above = f.above }

    from : IsReached bound (last_from 0 ss) range → IsTrue (is_written_above bound ss range)
    from r =
        let inside = inside_from_holds range r.key r.inside in
        and_from (is_key_below range.begin range.end) (nat_lt bound (last_from 0 ss range.begin) || has_start_above bound ss range) (up_to_below range.begin r.key range.end inside.begun inside.ended) (reach bound 0 range ss r.key rising inside r.above)
