-- A test that some value in a range passes: at its begin, or at a start inside.
use Rattle.std.proofs.Common.{◌≡◌, inl, inr, ⊎_elim, refl, sym, ap, ap₂, ◌∙◌, Bool, true, false, ◌&&◌, ◌||◌, cond, List, [], ◌∷◌, filter, subst}
use Rattle.std.proofs.lemmas.Bool.{or_cases, or_left, or_right}
use Rattle.std.specs.List.{list_any}
use Rattle.system_keys.specs.Keys.{Key, Range, holds, is_key_below}
use Rattle.system_keys.proofs.KeyOrder.{not_below_back, up_to_below}
use Rattle.system_keys.proofs.KeyLaws.{IsInside, holds_from_inside, holds_begin}
use Rattle.dated_owners.specs.Starts.{value_from, AreRising, IsStart, is_inside, some_start}
use Rattle.dated_owners.proofs.KeyStarts.{start_above, value_up_to, value_at_first}

-- the starts inside
abbrev pub inside : {X : Type 0} → Range → List (Key × X) → List (Key × X)
inside {X} range ss = filter (λ (s : Key × X). is_inside range s.0) ss

abbrev pub any_inside : {X : Type 0} → Range → (X → Bool) → List (Key × X) → Bool
any_inside {X} range test ss = list_any (λ (s : Key × X). test s.1) (inside range ss)

-- a key of the range whose value passes
pub record PassesAt {X : Type 0} (range : Range) (value : Key → X) (test : X → Bool) : Type 0 where
  pub key : Key
  pub held : holds range key ≡ true
  pub passes : test (value key) ≡ true

-- ---- from a key to a start

pub some_start_from : {X : Type 0} (test : X → Bool) (d : X) (ss : List (Key × X)) (range : Range) (q : Key) → AreRising ss → IsInside range q → test (value_from d ss q) ≡ true → some_start d ss test range ≡ true
some_start_from test d [] range q r within passes = or_left (test d) false passes
some_start_from {X} test d (s ∷ ss) range q r within passes = by (is_key_below q s.0) refl passes (λ p. some_start_from test s.1 ss range q r.1 within p)
  where
    -- the goal, if s is inside or not, and the begin comes before s or not
    Goal : Bool → Bool → Type 0
    Goal here early = (test (cond early d (value_from s.1 ss range.begin)) || list_any (λ (x : Key × X). test x.1) (cond here (s ∷ inside range ss) (inside range ss))) ≡ true

    at : (early here : Bool) → is_key_below range.begin s.0 ≡ early → is_inside range s.0 ≡ here → Goal here early → Goal (is_inside range s.0) (is_key_below range.begin s.0)
    at early here h k goal = subst (λ (t : Bool). Goal t (is_key_below range.begin s.0)) (sym k) (subst (λ (t : Bool). Goal here t) (sym h) goal)

    late : (early : Bool) → is_key_below range.begin s.0 ≡ early → is_key_below s.0 range.end ≡ true → some_start s.1 ss test range ≡ true → Goal (is_inside range s.0) (is_key_below range.begin s.0)
    late true h k rec =
        let first : (test s.1 || any_inside range test ss) ≡ true = sym (ap (λ (x : X). test x || any_inside range test ss) (value_up_to s.1 ss s.0 range.begin r.0 (not_below_back range.begin s.0 h))) ∙ rec in
        at true true h (ap₂ (λ a b. a && b) h k) (or_right (test d) (test s.1 || any_inside range test ss) first)
    late false h k rec = at false false h (ap (λ t. t && is_key_below s.0 range.end) h) rec

    by : (t : Bool) → is_key_below q s.0 ≡ t → test (cond t d (value_from s.1 ss q)) ≡ true → (test (value_from s.1 ss q) ≡ true → some_start s.1 ss test range ≡ true) → Goal (is_inside range s.0) (is_key_below range.begin s.0)
    by true k p rec =
        let early : is_key_below range.begin s.0 ≡ true = up_to_below range.begin q s.0 within.begun k in
        subst (λ (t : Bool). Goal (is_inside range s.0) t) (sym early) (or_left (test d) (list_any (λ (x : Key × X). test x.1) (inside range (s ∷ ss))) p)
    by false k p rec = late (is_key_below range.begin s.0) refl (up_to_below s.0 q range.end k within.ended) (rec p)

-- ---- from a start to a key

-- a start inside whose value passes
record StartPasses {X : Type 0} (range : Range) (test : X → Bool) (d : X) (ss : List (Key × X)) : Type 0 where
  pub key : Key
  pub there : IsStart key ss
  pub begun : is_key_below range.begin key ≡ true
  pub ended : is_key_below key range.end ≡ true
  pub passes : test (value_from d ss key) ≡ true

start_inside : {X : Type 0} (test : X → Bool) (d : X) (ss : List (Key × X)) (range : Range) → AreRising ss → any_inside range test ss ≡ true → StartPasses range test d ss
start_inside test d [] range r h = absurd (cc)
start_inside {X} test d (s ∷ ss) range r h = by (is_key_below range.begin s.0) (is_key_below s.0 range.end) refl refl h (λ k. start_inside test s.1 ss range r.1 k)
  where
    later : StartPasses range test s.1 ss → StartPasses range test d (s ∷ ss)
    later p =
        let behind : is_key_below p.key s.0 ≡ false = not_below_back s.0 p.key (start_above s.0 p.key ss r.0 p.there) in
        record {
          key = p.key;
          there = inr p.there;
          begun = p.begun;
          ended = p.ended;
          passes = ap (λ (t : Bool). test (cond t d (value_from s.1 ss p.key))) behind ∙ p.passes;
        }

    by : (a b : Bool) → is_key_below range.begin s.0 ≡ a → is_key_below s.0 range.end ≡ b
        → list_any (λ (x : Key × X). test x.1) (cond (a && b) (s ∷ inside range ss) (inside range ss)) ≡ true
        → (any_inside range test ss ≡ true → StartPasses range test s.1 ss) → StartPasses range test d (s ∷ ss)
    by true true e f k rec =
        ⊎_elim (λ (p : test s.1 ≡ true). record { key = s.0; there = inl refl; begun = e; ended = f; passes = ap test (value_at_first d s ss r.0) ∙ p })
        (λ more. later (rec more)) (or_cases (test s.1) (any_inside range test ss) k)
    by true false e f k rec = later (rec k)
    by false b e f k rec = later (rec k)

pub some_start_to : {X : Type 0} (test : X → Bool) (d : X) (ss : List (Key × X)) (range : Range) → is_key_below range.begin range.end ≡ true → AreRising ss → some_start d ss test range ≡ true → PassesAt range (value_from d ss) test
some_start_to {X} test d ss range forward r h =
    ⊎_elim (λ (p : test (value_from d ss range.begin) ≡ true). record { key = range.begin; held = holds_begin range forward; passes = p })
    (λ k. from (start_inside test d ss range r k)) (or_cases (test (value_from d ss range.begin)) (any_inside range test ss) h)
  where
    from : StartPasses range test d ss → PassesAt range (value_from d ss) test
    from p =
        record {
          key = p.key;
          held = holds_from_inside range p.key (record { begun = not_below_back range.begin p.key p.begun; ended = p.ended });
          passes = p.passes;
        }
