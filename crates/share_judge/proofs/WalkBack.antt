-- A range is looked at from the last start below its end back, up to the one that decides its begin.
use Rattle.std.proofs.Common.{◌≡◌, refl, sym, ap, ap₂, subst, ◌∙◌, ℕ, ◌<◌, ◌≤◌, List, [], ◌∷◌, ◌++◌, filter, Bool, true, false, cond, not, ◌&&◌, ◌||◌, nat_lt, arith}
use Rattle.std.specs.List.{list_any}
use Rattle.std.proofs.lemmas.Bool.{ltb-true, lt-ltb}
use Rattle.system_keys.specs.Keys.{Key, Range, is_key_below, is_key_up_to, holds}
use Rattle.system_keys.proofs.KeyOrder.{up_to_trans, below_up_to, not_below_back, up_to_is}
use Rattle.share_judge.specs.Steps.{Start, last_from, IsBefore, AreRising, has_start_above, is_written_above}
use Rattle.share_judge.proofs.Starts.{none_before, before_trans, starts_below}

-- ---- the starts below the end of the range

before_below : (key end : Key) (ss : List Start) → IsBefore key ss → IsBefore key (starts_below end ss)
before_below key end [] all = tt
before_below key end (s ∷ ss) all = by (is_key_below s.0 end) (before_below key end ss all.1)
  where
    by : (t : Bool) → IsBefore key (starts_below end ss) → IsBefore key (cond t (s ∷ starts_below end ss) (starts_below end ss))
    by true rest = (all.0, rest)
    by false rest = rest

rising_below : (end : Key) (ss : List Start) → AreRising ss → AreRising (starts_below end ss)
rising_below end [] rising = tt
rising_below end (s ∷ ss) rising = by (is_key_below s.0 end) (rising_below end ss rising.1)
  where
    by : (t : Bool) → AreRising (starts_below end ss) → AreRising (cond t (s ∷ starts_below end ss) (starts_below end ss))
    by true rest = (before_below s.0 end ss rising.0, rest)
    by false rest = rest

-- each start is below the key
abbrev pub AreBelow : Key → List Start → Type 0
AreBelow end [] = Unit {0}
AreBelow end (s ∷ ss) = (is_key_below s.0 end ≡ true) × AreBelow end ss

are_below : (end : Key) (ss : List Start) → AreBelow end (starts_below end ss)
are_below end [] = tt
are_below end (s ∷ ss) = by (is_key_below s.0 end) refl (are_below end ss)
  where
    by : (t : Bool) → is_key_below s.0 end ≡ t → AreBelow end (starts_below end ss) → AreBelow end (cond t (s ∷ starts_below end ss) (starts_below end ss))
    by true below rest = (below, rest)
    by false up_to rest = rest

-- they decide at the begin of the range
begin_below : (first : ℕ) (range : Range) (ss : List Start) → is_key_below range.begin range.end ≡ true → AreRising ss → last_from first (starts_below range.end ss) range.begin ≡ last_from first ss range.begin
begin_below first range [] forward rising = refl
begin_below first range (s ∷ ss) forward rising = by (is_key_below s.0 range.end) refl (begin_below s.1 range ss forward rising.1)
  where
    by : (t : Bool) → is_key_below s.0 range.end ≡ t → last_from s.1 (starts_below range.end ss) range.begin ≡ last_from s.1 ss range.begin
        → last_from first (cond t (s ∷ starts_below range.end ss) (starts_below range.end ss)) range.begin ≡ cond (is_key_below range.begin s.0) first (last_from s.1 ss range.begin)
    by true below rest = ap (λ n. cond (is_key_below range.begin s.0) first n) rest
    by false up_to rest =
        let early : is_key_below range.begin s.0 ≡ true = below_up_to range.begin range.end s.0 forward up_to in
        none_before first (starts_below range.end ss) range.begin (before_below range.begin range.end ss (before_trans range.begin s.0 ss early rising.0))
        ∙ sym (ap (λ (b : Bool). cond b first (last_from s.1 ss range.begin)) early)

-- and the others are not inside
inside_below : (bound : ℕ) (range : Range) (ss : List Start) → has_start_above bound (starts_below range.end ss) range ≡ has_start_above bound ss range
inside_below bound range [] = refl
inside_below bound range (s ∷ ss) = by (is_key_below s.0 range.begin) refl (is_key_below s.0 range.end) refl (inside_below bound range ss)
  where
    any : List Start → Bool
    any xs = list_any (λ (x : Start). nat_lt bound x.1) xs

    in_range : List Start → List Start
    in_range xs = filter (λ (x : Start). holds range x.0) xs

    none : (a : Bool) (xs ys : List Start) → cond (a && false) xs ys ≡ ys
    none true xs ys = refl
    none false xs ys = refl

    by : (a : Bool) → is_key_below s.0 range.begin ≡ a → (b : Bool) → is_key_below s.0 range.end ≡ b → any (in_range (starts_below range.end ss)) ≡ any (in_range ss)
        → any (in_range (cond b (s ∷ starts_below range.end ss) (starts_below range.end ss))) ≡ any (cond (not a && b) (s ∷ in_range ss) (in_range ss))
    by a is false up_to rest = rest ∙ sym (ap any (none (not a) (s ∷ in_range ss) (in_range ss)))
    by true is true below rest = ap₂ (λ (x y : Bool). any (cond (not x && y) (s ∷ in_range (starts_below range.end ss)) (in_range (starts_below range.end ss)))) is below ∙ rest
    by false is true below rest = ap₂ (λ (x y : Bool). any (cond (not x && y) (s ∷ in_range (starts_below range.end ss)) (in_range (starts_below range.end ss)))) is below ∙ ap (λ (b : Bool). nat_lt bound s.1 || b) rest

-- ---- the last start that is left

pub last_above : {X : Type 0} → (key : Key) (front : List (Key × X)) (s : Key × X) → IsBefore key (front ++ s ∷ []) → is_key_below key s.0 ≡ true
last_above key [] s all = all.0
last_above key (t ∷ front) s all = last_above key front s all.1

front_before : {X : Type 0} → (key : Key) (front : List (Key × X)) (s : Key × X) → IsBefore key (front ++ s ∷ []) → IsBefore key front
front_before key [] s all = tt
front_before key (t ∷ front) s all = (all.0, front_before key front s all.1)

pub front_rising : {X : Type 0} → (front : List (Key × X)) (s : Key × X) → AreRising (front ++ s ∷ []) → AreRising front
front_rising [] s rising = tt
front_rising (t ∷ front) s rising = (front_before t.0 front s rising.0, front_rising front s rising.1)

front_below : (end : Key) (front : List Start) (s : Start) → AreBelow end (front ++ s ∷ []) → AreBelow end front
front_below end [] s all = tt
front_below end (t ∷ front) s all = (all.0, front_below end front s all.1)

last_below : (end : Key) (front : List Start) (s : Start) → AreBelow end (front ++ s ∷ []) → is_key_below s.0 end ≡ true
last_below end [] s all = all.0
last_below end (t ∷ front) s all = last_below end front s all.1

-- above a key it does not count there
pub last_after : {X : Type 0} → (first : X) (front : List (Key × X)) (s : Key × X) (key : Key) → is_key_below key s.0 ≡ true → last_from first (front ++ s ∷ []) key ≡ last_from first front key
last_after first [] s key after = ap (λ (b : Bool). cond b first s.1) after
last_after first (t ∷ front) s key after = ap (λ n. cond (is_key_below key t.0) first n) (last_after t.1 front s key after)

front_up_to : {X : Type 0} → (front : List (Key × X)) (t s : Key × X) (key : Key) → IsBefore t.0 (front ++ s ∷ []) → is_key_below key s.0 ≡ false → is_key_below key t.0 ≡ false
front_up_to front t s key all up_to = up_to_trans t.0 s.0 key (not_below_back t.0 s.0 (last_above t.0 front s all)) up_to

-- up to the key it decides there
pub last_decides : {X : Type 0} → (first : X) (front : List (Key × X)) (s : Key × X) (key : Key) → AreRising (front ++ s ∷ []) → is_key_below key s.0 ≡ false → last_from first (front ++ s ∷ []) key ≡ s.1
last_decides first [] s key rising up_to = ap (λ (b : Bool). cond b first s.1) up_to
last_decides first (t ∷ front) s key rising up_to =
    ap (λ (b : Bool). cond b first (last_from t.1 (front ++ s ∷ []) key)) (front_up_to front t s key rising.0 up_to)
    ∙ last_decides t.1 front s key rising.1 up_to

or_false : (b : Bool) → (b || false) ≡ b
or_false true = refl
or_false false = refl

or_assoc : (p q r : Bool) → (p || (q || r)) ≡ ((p || q) || r)
or_assoc true q r = refl
or_assoc false q r = refl

-- inside it counts
inside_last : (bound : ℕ) (range : Range) (front : List Start) (s : Start) → holds range s.0 ≡ true → has_start_above bound (front ++ s ∷ []) range ≡ (has_start_above bound front range || nat_lt bound s.1)
inside_last bound range [] s inside = ap (λ (b : Bool). list_any (λ (x : Start). nat_lt bound x.1) (cond b (s ∷ []) [])) inside ∙ or_false (nat_lt bound s.1)
inside_last bound range (t ∷ front) s inside = by (holds range t.0) (inside_last bound range front s inside)
  where
    any : List Start → Bool
    any xs = list_any (λ (x : Start). nat_lt bound x.1) xs

    in_range : List Start → List Start
    in_range xs = filter (λ (x : Start). holds range x.0) xs

    by : (b : Bool) → any (in_range (front ++ s ∷ [])) ≡ (any (in_range front) || nat_lt bound s.1)
        → any (cond b (t ∷ in_range (front ++ s ∷ [])) (in_range (front ++ s ∷ []))) ≡ (any (cond b (t ∷ in_range front) (in_range front)) || nat_lt bound s.1)
    by true rest = ap (λ (b : Bool). nat_lt bound t.1 || b) rest ∙ or_assoc (nat_lt bound t.1) (any (in_range front)) (nat_lt bound s.1)
    by false rest = rest

-- and if it is up to the begin of the range and not above the bound, no start inside is
none_inside : (bound : ℕ) (range : Range) (front : List Start) (s : Start) → AreRising (front ++ s ∷ []) → is_key_below range.begin s.0 ≡ false → nat_lt bound s.1 ≡ false → has_start_above bound (front ++ s ∷ []) range ≡ false
none_inside bound range [] s rising up_to low = by (holds range s.0)
  where
    by : (b : Bool) → list_any (λ (x : Start). nat_lt bound x.1) (cond b (s ∷ []) []) ≡ false
    by true = rw low refl
    by false = refl
none_inside bound range (t ∷ front) s rising up_to low =
    let early : is_key_below t.0 range.begin ≡ true = below_up_to t.0 s.0 range.begin (last_above t.0 front s rising.0) up_to in
    rw early (none_inside bound range front s rising.1 up_to low)

-- ---- the walk

-- the starts that are left reach above the bound exactly if all do
pub record AreLeft (bound : ℕ) (range : Range) (ss left : List Start) : Type 0 where
  pub rising : AreRising left
  pub below : AreBelow range.end left
  pub same : is_written_above bound left range ≡ is_written_above bound ss range

pub first_left : (bound : ℕ) (range : Range) (ss left : List Start) → is_key_below range.begin range.end ≡ true → AreRising ss → left ≡ starts_below range.end ss → AreLeft bound range ss left
first_left bound range ss left forward rising is =
    subst (AreLeft bound range ss) (sym is) (record {
      rising = rising_below range.end ss rising;
      below = are_below range.end ss;
      same = ap₂ (λ (n : ℕ) (b : Bool). is_key_below range.begin range.end && (nat_lt bound n || b)) (begin_below 0 range ss forward rising) (inside_below bound range ss);
    })

low_is : (bound version : ℕ) → version ≤ bound → nat_lt bound version ≡ false
low_is bound version up_to = by (nat_lt bound version) refl
  where
    by : (t : Bool) → nat_lt bound version ≡ t → t ≡ false
    by true above = absurd (let more = ltb-true bound version above in omega (arith, more, up_to))
    by false low = refl

-- what the test of the begin says
pub test_false : (key begin : Key) (is : Bool) → is ≡ is_key_up_to key begin → is ≡ true → is_key_below begin key ≡ false
test_false key begin is test passed = by (is_key_below begin key) (sym (up_to_is key begin) ∙ sym test ∙ passed)
  where
    by : (t : Bool) → not t ≡ true → t ≡ false
    by true e = absurd (cc)
    by false e = refl

pub test_true : (key begin : Key) (is : Bool) → is ≡ is_key_up_to key begin → is ≡ false → is_key_below begin key ≡ true
test_true key begin is test failed = by (is_key_below begin key) (sym (up_to_is key begin) ∙ sym test ∙ failed)
  where
    by : (t : Bool) → not t ≡ false → t ≡ true
    by true e = refl
    by false e = absurd (cc)

or_true : (b : Bool) → (b || true) ≡ true
or_true true = refl
or_true false = refl

-- a start above the bound is inside, or the one that decides the begin
pub found_above : (bound : ℕ) (range : Range) (ss left front : List Start) (s : Start) → is_key_below range.begin range.end ≡ true → left ≡ front ++ s ∷ [] → bound < s.1 → AreLeft bound range ss left → true ≡ is_written_above bound ss range
found_above bound range ss left front s forward is more left_is = sym reached ∙ ap (λ (xs : List Start). is_written_above bound xs range) (sym is) ∙ left_is.same
  where
    rising : AreRising (front ++ s ∷ [])
    rising = subst AreRising is left_is.rising

    above : nat_lt bound s.1 ≡ true
    above = lt-ltb bound s.1 more

    below : is_key_below s.0 range.end ≡ true
    below = last_below range.end front s (subst (AreBelow range.end) is left_is.below)

    reached : is_written_above bound (front ++ s ∷ []) range ≡ true
    reached = rw forward (by (is_key_below range.begin s.0) refl)
      where
        by : (b : Bool) → is_key_below range.begin s.0 ≡ b → (nat_lt bound (last_from 0 (front ++ s ∷ []) range.begin) || has_start_above bound (front ++ s ∷ []) range) ≡ true
        by true after =
            let inside : holds range s.0 ≡ true = ap₂ (λ (a b : Bool). not a && b) (not_below_back range.begin s.0 after) below in
            ap (λ (b : Bool). nat_lt bound (last_from 0 (front ++ s ∷ []) range.begin) || b) (inside_last bound range front s inside ∙ ap (λ (b : Bool). has_start_above bound front range || b) above ∙ or_true (has_start_above bound front range))
            ∙ or_true (nat_lt bound (last_from 0 (front ++ s ∷ []) range.begin))
        by false up_to = ap (λ n. nat_lt bound n || has_start_above bound (front ++ s ∷ []) range) (last_decides 0 front s range.begin rising up_to) ∙ ap (λ (b : Bool). b || has_start_above bound (front ++ s ∷ []) range) above

-- one up to the begin that is not above the bound ends the walk
pub none_above : (bound : ℕ) (range : Range) (ss left front : List Start) (s : Start) → is_key_below range.begin range.end ≡ true → left ≡ front ++ s ∷ [] → s.1 ≤ bound → is_key_below range.begin s.0 ≡ false → AreLeft bound range ss left → false ≡ is_written_above bound ss range
none_above bound range ss left front s forward is no_more up_to left_is = sym reached ∙ ap (λ (xs : List Start). is_written_above bound xs range) (sym is) ∙ left_is.same
  where
    rising : AreRising (front ++ s ∷ [])
    rising = subst AreRising is left_is.rising

    low : nat_lt bound s.1 ≡ false
    low = low_is bound s.1 no_more

    reached : is_written_above bound (front ++ s ∷ []) range ≡ false
    reached = rw forward (ap₂ (λ (n : ℕ) (b : Bool). nat_lt bound n || b) (last_decides 0 front s range.begin rising up_to) (none_inside bound range front s rising up_to low) ∙ ap (λ (b : Bool). b || false) low)

-- and one above the begin that is not above the bound is passed by
pub one_less : (bound : ℕ) (range : Range) (ss left front : List Start) (s : Start) → left ≡ front ++ s ∷ [] → s.1 ≤ bound → is_key_below range.begin s.0 ≡ true → AreLeft bound range ss left → AreLeft bound range ss front
one_less bound range ss left front s is no_more after left_is =
    record {
      rising = front_rising front s (subst AreRising is left_is.rising);
      below = front_below range.end front s all_below;
      same =
          sym (ap₂ (λ (n : ℕ) (b : Bool). is_key_below range.begin range.end && (nat_lt bound n || b)) (last_after 0 front s range.begin after) (inside_last bound range front s inside ∙ ap (λ (b : Bool). has_start_above bound front range || b) low ∙ or_false (has_start_above bound front range)))
          ∙ ap (λ (xs : List Start). is_written_above bound xs range) (sym is)
          ∙ left_is.same;
    }
  where
    low : nat_lt bound s.1 ≡ false
    low = low_is bound s.1 no_more

    all_below : AreBelow range.end (front ++ s ∷ [])
    all_below = subst (AreBelow range.end) is left_is.below

    inside : holds range s.0 ≡ true
    inside = ap₂ (λ (a b : Bool). not a && b) (not_below_back range.begin s.0 after) (last_below range.end front s all_below)

-- without a start nothing is above the bound
pub none_left : (bound : ℕ) (range : Range) (ss left : List Start) → left ≡ [] → AreLeft bound range ss left → false ≡ is_written_above bound ss range
none_left bound range ss left is left_is = sym (none (is_key_below range.begin range.end)) ∙ ap (λ (xs : List Start). is_written_above bound xs range) (sym is) ∙ left_is.same
  where
    none : (b : Bool) → (b && (nat_lt bound 0 || false)) ≡ false
    none true = by (nat_lt bound 0) refl
      where
        by : (t : Bool) → nat_lt bound 0 ≡ t → (t || false) ≡ false
        by true above = absurd (let more = ltb-true bound 0 above in omega (arith, more))
        by false low = refl
    none false = refl
