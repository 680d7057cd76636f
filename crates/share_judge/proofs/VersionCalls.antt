-- What each call of the two maps gives, in terms of the starts of both.
use Rattle.std.proofs.Common.{◌≡◌, refl, sym, ap, ap₂, ◌∙◌, subst, ℕ, ◌<◌, ◌≤◌, max, List, [], ◌∷◌, filter, Bool, true, false, cond, nat_le, nat_lt, Result, Ok, Err, OnOk, arith}
use Rattle.std.proofs.lemmas.Bool.{leb-true, leb-false}
use Rattle.system_keys.specs.Keys.{Key, Range, holds, only}
use Rattle.model.specs.WriteHistories.{unless_forgotten}
use Rattle.share_judge.specs.declared.step.Step.{Step}
use Rattle.share_judge.specs.Steps.{Start, StepStart, last_from, last_of_all, settled, AreRising, AreOver, TellTheSame, is_same_key, version_before, starts_by, starts_now, starts_before}
use Rattle.share_judge.specs.Versions.{at_key, with_keys, Versions, AreInOrder, all_by, all_now, all_before}
use Rattle.share_judge.proofs.Starts.{same_key, same_itself}
use Rattle.share_judge.proofs.Readings.{read_rising, not_yet, share_begins}
use Rattle.share_judge.proofs.Settled.{same_last, settled_last, settled_past, none_twice}
use Rattle.share_judge.proofs.KeptWrites.{none_is}
use Rattle.share_judge.proofs.OneKey.{held_is}
use Rattle.share_judge.proofs.AtKeys.{none_at_key, swept_keys}
use Rattle.share_judge.proofs.Told.{told_unless}
use Rattle.share_judge.proofs.WithKeys.{all_last, all_alike, keys_past}

pub on_ok : {A E : Type 0} {P Q : Type 0} (result : Result A E) → (P → Q) → OnOk result P → OnOk result Q
on_ok (Ok value) to p = to p
on_ok (Err error) to p = tt

abbrev pub both : (steps keys : List StepStart) → Versions
both steps keys = record { steps = steps; keys = keys }

pub all_past : (read : Step → ℕ) (v : Versions) → AreRising v.steps → last_of_all 0 (all_by read v) ≡ last_of_all 0 (starts_by read v.steps)
all_past read v rising = keys_past (starts_by read v.keys) (starts_by read v.steps) (read_rising read v.steps rising)

-- ---- a range written

one_key_over : (steps keys new : List StepStart) (key : Key) (share : ℕ) → AreRising steps → AreRising keys → AreRising new → ((other : Key) → at_key 0 (starts_now new) other ≡ cond (is_same_key other key) share (at_key 0 (starts_now keys) other)) → ((other : Key) → last_from 0 (all_now (both steps keys)) other ≤ share)
    → AreOver (holds (only key)) share (all_now (both steps keys)) (all_now (both steps new))
one_key_over steps keys new key share rising rising_keys rising_new now up_to =
    record {
      at = λ other.
          all_last (λ (s : Step). s.version) (both steps new) other (record { steps = rising; keys = rising_new })
          ∙ ap (λ (n : ℕ). max n (last_from 0 (starts_now steps) other)) (now other)
          ∙ by other (is_same_key other key)
          ∙ ap (λ (b : Bool). cond b share (last_from 0 (all_now (both steps keys)) other)) (sym (held_is key other));
      past = λ none. all_past (λ (s : Step). s.version) (both steps new) rising ∙ sym (all_past (λ (s : Step). s.version) (both steps keys) rising) ∙ none;
    }
  where
    by : (other : Key) (t : Bool) → max (cond t share (at_key 0 (starts_now keys) other)) (last_from 0 (starts_now steps) other) ≡ cond t share (last_from 0 (all_now (both steps keys)) other)
    by other true =
        let is = all_last (λ (s : Step). s.version) (both steps keys) other (record { steps = rising; keys = rising_keys }) in
        let low = up_to other in
        omega (arith, is, low)
    by other false = sym (all_last (λ (s : Step). s.version) (both steps keys) other (record { steps = rising; keys = rising_keys }))

pub key_over : (self : Versions) (range : Range) (steps keys new : List StepStart) (key : Key) (share : ℕ) → both steps keys ≡ self → range ≡ only range.begin → key ≡ range.begin → AreRising steps → AreRising keys → AreRising new → ((other : Key) → at_key 0 (starts_now new) other ≡ cond (is_same_key other key) share (at_key 0 (starts_now keys) other)) → ((other : Key) → last_from 0 (all_now self) other ≤ share)
    → AreOver (holds range) share (all_now self) (all_now (both steps new))
key_over self range steps keys new key share view one at rising rising_keys rising_new now up_to =
    subst (λ (v : Versions). AreOver (holds range) share (all_now v) (all_now (both steps new))) view
    (subst (λ (r : Range). AreOver (holds r) share (all_now (both steps keys)) (all_now (both steps new))) (ap only at ∙ sym one)
    (one_key_over steps keys new key share rising rising_keys rising_new now (subst (λ (v : Versions). (other : Key) → last_from 0 (all_now v) other ≤ share) (sym view) up_to)))

pub key_before : (self : Versions) (steps keys new : List StepStart) (share : ℕ) → both steps keys ≡ self → AreRising steps → AreRising keys → AreRising new → ((other : Key) → at_key 0 (starts_before share new) other ≡ at_key 0 (starts_before share keys) other) → TellTheSame (all_before share self) (all_before share (both steps new))
key_before self steps keys new share view rising rising_keys rising_new before =
    subst (λ (v : Versions). TellTheSame (all_before share v) (all_before share (both steps new))) view
    (all_alike (version_before share) (both steps keys) (both steps new) (record { steps = rising; keys = rising_keys }) (record { steps = rising; keys = rising_new }) before (λ key. refl))

range_over : (steps keys new : List StepStart) (test : Key → Bool) (share : ℕ) → AreRising steps → AreRising keys → AreRising new → AreOver test share (starts_now steps) (starts_now new) → ((other : Key) → last_from 0 (all_now (both steps keys)) other ≤ share) → AreOver test share (all_now (both steps keys)) (all_now (both new keys))
range_over steps keys new test share rising rising_keys rising_new over up_to =
    record {
      at = λ other.
          all_last (λ (s : Step). s.version) (both new keys) other (record { steps = rising_new; keys = rising_keys })
          ∙ ap (max (at_key 0 (starts_now keys) other)) (over.at other)
          ∙ by other (test other);
      past = λ none. all_past (λ (s : Step). s.version) (both new keys) rising_new ∙ over.past (sym (all_past (λ (s : Step). s.version) (both steps keys) rising) ∙ none);
    }
  where
    by : (other : Key) (t : Bool) → max (at_key 0 (starts_now keys) other) (cond t share (last_from 0 (starts_now steps) other)) ≡ cond t share (last_from 0 (all_now (both steps keys)) other)
    by other true =
        let is = all_last (λ (s : Step). s.version) (both steps keys) other (record { steps = rising; keys = rising_keys }) in
        let low = up_to other in
        omega (arith, is, low)
    by other false = sym (all_last (λ (s : Step). s.version) (both steps keys) other (record { steps = rising; keys = rising_keys }))

pub steps_over : (self : Versions) (steps keys new : List StepStart) (test : Key → Bool) (share : ℕ) → both steps keys ≡ self → AreRising steps → AreRising keys → AreRising new → AreOver test share (starts_now steps) (starts_now new) → ((other : Key) → last_from 0 (all_now self) other ≤ share) → AreOver test share (all_now self) (all_now (both new keys))
steps_over self steps keys new test share view rising rising_keys rising_new over up_to =
    subst (λ (v : Versions). AreOver test share (all_now v) (all_now (both new keys))) view
    (range_over steps keys new test share rising rising_keys rising_new over (subst (λ (v : Versions). (other : Key) → last_from 0 (all_now v) other ≤ share) (sym view) up_to))

-- what tells the same for the steps does so for both
pub steps_same : (read : Step → ℕ) (self : Versions) (steps keys new : List StepStart) → both steps keys ≡ self → AreRising steps → AreRising keys → AreRising new → TellTheSame (starts_by read steps) (starts_by read new) → TellTheSame (all_by read self) (all_by read (both new keys))
steps_same read self steps keys new view rising rising_keys rising_new same =
    subst (λ (v : Versions). TellTheSame (all_by read v) (all_by read (both new keys))) view
    (all_alike read (both steps keys) (both new keys) (record { steps = rising; keys = rising_keys }) (record { steps = rising_new; keys = rising_keys }) (λ key. refl)
    (same_last (starts_by read steps) (starts_by read new) (read_rising read steps rising) (read_rising read new rising_new) same))

-- ---- a sweep

read_above : (bound : ℕ) (keys : List StepStart) → starts_now (filter (λ (k : StepStart). nat_lt bound k.1.version) keys) ≡ filter (λ (k : Start). nat_lt bound k.1) (starts_now keys)
read_above bound [] = refl
read_above bound (k ∷ keys) = by (nat_lt bound k.1.version) (read_above bound keys)
  where
    by : (t : Bool) → starts_now (filter (λ (k : StepStart). nat_lt bound k.1.version) keys) ≡ filter (λ (k : Start). nat_lt bound k.1) (starts_now keys)
        → starts_now (cond t (k ∷ filter (λ (k : StepStart). nat_lt bound k.1.version) keys) (filter (λ (k : StepStart). nat_lt bound k.1.version) keys))
        ≡ cond t ((k.0, k.1.version) ∷ filter (λ (k : Start). nat_lt bound k.1) (starts_now keys)) (filter (λ (k : Start). nat_lt bound k.1) (starts_now keys))
    by true rest = ap (λ (ss : List Start). (k.0, k.1.version) ∷ ss) rest
    by false rest = rest

later_left : (bound a b : ℕ) → max (unless_forgotten bound a) (unless_forgotten bound b) ≡ unless_forgotten bound (max a b)
later_left bound a b = by (nat_le a bound) refl (nat_le b bound) refl (nat_le (max a b) bound) refl
  where
    by : (t : Bool) → nat_le a bound ≡ t → (u : Bool) → nat_le b bound ≡ u → (v : Bool) → nat_le (max a b) bound ≡ v → max (cond t 0 a) (cond u 0 b) ≡ cond v 0 (max a b)
    by true e true f true g = refl
    by true e true f false g = absurd (let x = leb-true a bound e in let y = leb-true b bound f in let z = leb-false (max a b) bound g in omega (arith, x, y, z))
    by true e false f true g = absurd (let y = leb-false b bound f in let z = leb-true (max a b) bound g in omega (arith, y, z))
    by true e false f false g = let x = leb-true a bound e in let y = leb-false b bound f in omega (arith, x, y)
    by false e true f true g = absurd (let x = leb-false a bound e in let z = leb-true (max a b) bound g in omega (arith, x, z))
    by false e true f false g = let x = leb-false a bound e in let y = leb-true b bound f in omega (arith, x, y)
    by false e false f true g = absurd (let x = leb-false a bound e in let z = leb-true (max a b) bound g in omega (arith, x, z))
    by false e false f false g = refl

pub swept_last : (bound : ℕ) (old new : Versions) → AreInOrder old → AreInOrder new → starts_now new.steps ≡ settled bound 0 (starts_now old.steps) → new.keys ≡ filter (λ (k : StepStart). nat_lt bound k.1.version) old.keys → (key : Key) → last_from 0 (all_now new) key ≡ unless_forgotten bound (last_from 0 (all_now old) key)
swept_last bound old new order order_too steps keys key =
    all_last (λ (s : Step). s.version) new key order_too
    ∙ ap₂ max alone stepped
    ∙ later_left bound (at_key 0 (starts_now old.keys) key) (last_from 0 (starts_now old.steps) key)
    ∙ ap (unless_forgotten bound) (sym (all_last (λ (s : Step). s.version) old key order))
  where
    alone : at_key 0 (starts_now new.keys) key ≡ unless_forgotten bound (at_key 0 (starts_now old.keys) key)
    alone =
        ap (λ (ks : List Start). at_key 0 ks key) (ap starts_now keys ∙ read_above bound old.keys)
        ∙ swept_keys bound (starts_now old.keys) key (read_rising (λ (s : Step). s.version) old.keys order.keys)

    stepped : last_from 0 (starts_now new.steps) key ≡ unless_forgotten bound (last_from 0 (starts_now old.steps) key)
    stepped =
        ap (λ (ss : List Start). last_from 0 ss key) steps
        ∙ sym (ap (λ (n : ℕ). last_from n (settled bound 0 (starts_now old.steps)) key) (none_is bound))
        ∙ settled_last bound 0 (starts_now old.steps) key (read_rising (λ (s : Step). s.version) old.steps order.steps)

pub swept_past : (bound : ℕ) (old new : Versions) → AreInOrder old → AreInOrder new → starts_now new.steps ≡ settled bound 0 (starts_now old.steps) → last_of_all 0 (all_now old) ≡ 0 → last_of_all 0 (all_now new) ≡ 0
swept_past bound old new order order_too steps none =
    all_past (λ (s : Step). s.version) new order_too.steps
    ∙ ap (last_of_all 0) steps
    ∙ sym (ap (λ (n : ℕ). last_of_all n (settled bound 0 (starts_now old.steps))) (none_is bound))
    ∙ settled_past bound 0 (starts_now old.steps)
    ∙ ap (unless_forgotten bound) (sym (all_past (λ (s : Step). s.version) old order.steps) ∙ none)
    ∙ none_is bound

pub swept_settled : (bound : ℕ) (old new : List Start) → AreRising old → AreRising new → ((key : Key) → last_from 0 new key ≡ unless_forgotten bound (last_from 0 old key)) → settled bound 0 new ≡ settled bound 0 old
swept_settled bound old new rising rising_new is = told_unless bound old new rising rising_new (λ key. ap (unless_forgotten bound) (is key) ∙ none_twice bound (last_from 0 old key))

-- ---- the begin of a share

keys_begin : (share : ℕ) (keys : List StepStart) → AreRising keys → ((key : Key) → at_key 0 (starts_now keys) key < share) → starts_before share keys ≡ starts_now keys
keys_begin share [] rising below = refl
keys_begin share (k ∷ keys) rising below =
    ap₂ (λ (n : ℕ) (ss : List Start). (k.0, n) ∷ ss) (not_yet share k.1.version k.1.before own) (keys_begin share keys rising.1 later)
  where
    own : k.1.version < share
    own =
        let is : at_key 0 (starts_now (k ∷ keys)) k.0 ≡ k.1.version = ap (λ (b : Bool). cond b k.1.version (at_key 0 (starts_now keys) k.0)) (same_itself k.0) in
        let low = below k.0 in
        omega (arith, is, low)

    later : (key : Key) → at_key 0 (starts_now keys) key < share
    later key = by (is_same_key key k.0) refl (below key)
      where
        by : (t : Bool) → is_same_key key k.0 ≡ t → cond t k.1.version (at_key 0 (starts_now keys) key) < share → at_key 0 (starts_now keys) key < share
        by true same low =
            let none : at_key 0 (starts_now keys) key ≡ 0 = ap (at_key 0 (starts_now keys)) (same_key key k.0 same) ∙ none_at_key 0 (starts_now keys) k.0 (read_rising (λ (s : Step). s.version) (k ∷ keys) rising).0 in
            omega (arith, none, low)
        by false differs low = low

-- while no version is that of the share, what was before it stands
pub all_begin : (share : ℕ) (v : Versions) → AreInOrder v → ((key : Key) → last_from 0 (all_now v) key < share) → all_before share v ≡ all_now v
all_begin share v order below =
    ap₂ with_keys
    (keys_begin share v.keys order.keys (λ key. let is = all_last (λ (s : Step). s.version) v key order in let low = below key in omega (arith, is, low)))
    (share_begins share v.steps order.steps (λ key. let is = all_last (λ (s : Step). s.version) v key order in let low = below key in omega (arith, is, low)))

-- ---- a range written over

pub over_up_to : (test : Key → Bool) (version : ℕ) (old new : List Start) → AreOver test version old new → ((key : Key) → last_from 0 old key ≤ version) → (key : Key) → last_from 0 new key ≤ version
over_up_to test version old new over up_to key = by (test key) (over.at key)
  where
    by : (t : Bool) → last_from 0 new key ≡ cond t version (last_from 0 old key) → last_from 0 new key ≤ version
    by true is = omega (arith, is)
    by false is = let low = up_to key in omega (arith, is, low)
