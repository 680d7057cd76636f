-- A range has a version above a bound exactly if a key that was written alone does, or the steps do.
use Rattle.std.proofs.Common.{◌≡◌, refl, sym, ap, ◌∙◌, subst, ℕ, ◌<◌, ◌≤◌, ◌⊎◌, inl, inr, max, List, [], ◌∷◌, filter, Bool, true, false, cond, ◌||◌, nat_lt, arith}
use Rattle.std.specs.List.{list_any}
use Rattle.std.proofs.lemmas.Bool.{ltb-true, lt-ltb, or_cases, or_left, or_right, cases_lt, both_ways}
use Rattle.system_keys.specs.Keys.{Key, Range, holds, only}
use Rattle.system_keys.proofs.KeyLaws.{holds_begin}
use Rattle.model.proofs.Shares.LastVersions.{same_truth}
use Rattle.share_judge.specs.declared.step.Step.{Step}
use Rattle.share_judge.specs.Steps.{Start, last_from, AreRising, IsReached, has_start_above, is_written_above, is_same_key, starts_now}
use Rattle.share_judge.specs.Versions.{at_key, Versions, AreInOrder, all_now}
use Rattle.share_judge.proofs.Starts.{same_key, same_itself}
use Rattle.share_judge.proofs.Readings.{read_rising}
use Rattle.share_judge.proofs.Reached.{reached_iff}
use Rattle.share_judge.proofs.OneKey.{below_the_next, held_is}
use Rattle.share_judge.proofs.AtKeys.{none_at_key}
use Rattle.share_judge.proofs.WithKeys.{all_rising, all_last}

-- of one key its own version tells
pub only_above : (bound : ℕ) (key : Key) (ss : List Start) → AreRising ss → nat_lt bound (last_from 0 ss key) ≡ is_written_above bound ss (only key)
only_above bound key ss rising = same_truth (nat_lt bound (last_from 0 ss key)) (is_written_above bound ss (only key)) to from
  where
    to : nat_lt bound (last_from 0 ss key) ≡ true → is_written_above bound ss (only key) ≡ true
    to above = (reached_iff bound (only key) ss rising).1 (record { key = key; inside = holds_begin (only key) (below_the_next key); above = ltb-true bound (last_from 0 ss key) above })

    from : is_written_above bound ss (only key) ≡ true → nat_lt bound (last_from 0 ss key) ≡ true
    from written =
        let r : IsReached bound (last_from 0 ss) (only key) = (reached_iff bound (only key) ss rising).0 written in
        lt-ltb bound (last_from 0 ss key) (subst (λ (k : Key). bound < last_from 0 ss k) (same_key r.key key (sym (held_is key r.key) ∙ r.inside)) r.above)

-- ---- keys alone

record KeyAbove (bound : ℕ) (range : Range) (keys : List Start) : Type 0 where
  key : Key
  inside : holds range key ≡ true
  above : bound < at_key 0 keys key

key_found : (bound : ℕ) (range : Range) (keys : List Start) → AreRising keys → has_start_above bound keys range ≡ true → KeyAbove bound range keys
key_found bound range [] rising h = absurd (cc)
key_found bound range (k ∷ keys) rising h = by (holds range k.0) refl h (key_found bound range keys rising.1)
  where
    later : KeyAbove bound range keys → KeyAbove bound range (k ∷ keys)
    later f = of (is_same_key f.key k.0) refl
      where
        of : (t : Bool) → is_same_key f.key k.0 ≡ t → KeyAbove bound range (k ∷ keys)
        of true same = absurd (let none : at_key 0 keys f.key ≡ 0 = ap (at_key 0 keys) (same_key f.key k.0 same) ∙ none_at_key 0 keys k.0 rising.0 in let above = f.above in omega (arith, none, above))
        of false differs = record {
          key = f.key;
          inside = f.inside;
          above = subst (λ (n : ℕ). bound < n) (sym (ap (λ (b : Bool). cond b k.1 (at_key 0 keys f.key)) differs)) f.above;
        }

    own : holds range k.0 ≡ true → nat_lt bound k.1 ≡ true → KeyAbove bound range (k ∷ keys)
    own in_range is = record {
      key = k.0;
      inside = in_range;
      above = subst (λ (n : ℕ). bound < n) (sym (ap (λ (b : Bool). cond b k.1 (at_key 0 keys k.0)) (same_itself k.0))) (ltb-true bound k.1 is);
    }

    by : (t : Bool) → holds range k.0 ≡ t → list_any (λ (s : Start). nat_lt bound s.1) (cond t (k ∷ filter (λ (s : Start). holds range s.0) keys) (filter (λ (s : Start). holds range s.0) keys)) ≡ true
        → (has_start_above bound keys range ≡ true → KeyAbove bound range keys) → KeyAbove bound range (k ∷ keys)
    by true in_range any rest = either (or_cases (nat_lt bound k.1) (has_start_above bound keys range) any)
      where
        either : (nat_lt bound k.1 ≡ true) ⊎ (has_start_above bound keys range ≡ true) → KeyAbove bound range (k ∷ keys)
        either (inl is) = own in_range is
        either (inr is) = later (rest is)
    by false out any rest = later (rest any)

key_reach : (bound : ℕ) (range : Range) (keys : List Start) (key : Key) → holds range key ≡ true → bound < at_key 0 keys key → has_start_above bound keys range ≡ true
key_reach bound range [] key inside above = absurd (omega (arith, above))
key_reach bound range (k ∷ keys) key inside above = by (is_same_key key k.0) refl above (key_reach bound range keys key inside)
  where
    more : (t : Bool) → has_start_above bound keys range ≡ true → list_any (λ (s : Start). nat_lt bound s.1) (cond t (k ∷ filter (λ (s : Start). holds range s.0) keys) (filter (λ (s : Start). holds range s.0) keys)) ≡ true
    more true h = or_right (nat_lt bound k.1) (has_start_above bound keys range) h
    more false h = h

    by : (t : Bool) → is_same_key key k.0 ≡ t → bound < cond t k.1 (at_key 0 keys key) → (bound < at_key 0 keys key → has_start_above bound keys range ≡ true) → has_start_above bound (k ∷ keys) range ≡ true
    by true same high rest =
        let held : holds range k.0 ≡ true = subst (λ (a : Key). holds range a ≡ true) (same_key key k.0 same) inside in
        rw held (or_left (nat_lt bound k.1) (has_start_above bound keys range) (lt-ltb bound k.1 high))
    by false differs high rest = more (holds range k.0) (rest high)

-- ---- both

pub both_above : (bound : ℕ) (range : Range) (v : Versions) → AreInOrder v → (has_start_above bound (starts_now v.keys) range || is_written_above bound (starts_now v.steps) range) ≡ is_written_above bound (all_now v) range
both_above bound range v order = same_truth (has_start_above bound (starts_now v.keys) range || is_written_above bound (starts_now v.steps) range) (is_written_above bound (all_now v) range) to from
  where
    read : Step → ℕ
    read step = step.version

    last_is : (key : Key) → last_from 0 (all_now v) key ≡ max (at_key 0 (starts_now v.keys) key) (last_from 0 (starts_now v.steps) key)
    last_is key = all_last read v key order

    written : (key : Key) → holds range key ≡ true → bound < last_from 0 (all_now v) key → is_written_above bound (all_now v) range ≡ true
    written key inside above = (reached_iff bound range (all_now v) (all_rising read v order)).1 (record { key = key; inside = inside; above = above })

    to : (has_start_above bound (starts_now v.keys) range || is_written_above bound (starts_now v.steps) range) ≡ true → is_written_above bound (all_now v) range ≡ true
    to h = by (or_cases (has_start_above bound (starts_now v.keys) range) (is_written_above bound (starts_now v.steps) range) h)
      where
        by : (has_start_above bound (starts_now v.keys) range ≡ true) ⊎ (is_written_above bound (starts_now v.steps) range ≡ true) → is_written_above bound (all_now v) range ≡ true
        by (inl keys) =
            let f = key_found bound range (starts_now v.keys) (read_rising read v.keys order.keys) keys in
            let is = last_is f.key in
            let above = f.above in
            written f.key f.inside (omega (arith, is, above))
        by (inr steps) =
            let r = (reached_iff bound range (starts_now v.steps) (read_rising read v.steps order.steps)).0 steps in
            let is = last_is r.key in
            let above = r.above in
            written r.key r.inside (omega (arith, is, above))

    from : is_written_above bound (all_now v) range ≡ true → (has_start_above bound (starts_now v.keys) range || is_written_above bound (starts_now v.steps) range) ≡ true
    from h = by (cases_lt bound (at_key 0 (starts_now v.keys) r.key))
      where
        r : IsReached bound (last_from 0 (all_now v)) range
        r = (reached_iff bound range (all_now v) (all_rising read v order)).0 h

        by : (bound < at_key 0 (starts_now v.keys) r.key) ⊎ (at_key 0 (starts_now v.keys) r.key ≤ bound) → (has_start_above bound (starts_now v.keys) range || is_written_above bound (starts_now v.steps) range) ≡ true
        by (inl high) = or_left (has_start_above bound (starts_now v.keys) range) (is_written_above bound (starts_now v.steps) range) (key_reach bound range (starts_now v.keys) r.key r.inside high)
        by (inr low) =
            let is = last_is r.key in
            let above = r.above in
            or_right (has_start_above bound (starts_now v.keys) range) (is_written_above bound (starts_now v.steps) range)
            ((reached_iff bound range (starts_now v.steps) (read_rising read v.steps order.steps)).1 (record { key = r.key; inside = r.inside; above = omega (arith, is, above, low) }))

-- the keys alone decide, or else the steps
pub alone_decides : (alone keys steps written : Bool) → alone ≡ keys → alone ≡ true → (keys || steps) ≡ written → alone ≡ written
alone_decides alone true steps written is found all = is ∙ all
alone_decides alone false steps written is found all = absurd (both_ways alone is found)

pub steps_decide : (alone keys found steps written : Bool) → alone ≡ keys → alone ≡ false → found ≡ steps → (keys || steps) ≡ written → found ≡ written
steps_decide alone true found steps written is none same all = absurd (both_ways alone none is)
steps_decide alone false found steps written is none same all = same ∙ all
