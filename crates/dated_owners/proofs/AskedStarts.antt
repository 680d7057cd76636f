-- The owners at the begin of a range, and at each start inside, say who is asked.
use Rattle.std.proofs.Common.{◌≡◌, ℕ, ◌<◌, ◌≤◌, refl, sym, ap, ap₂, subst, ◌∙◌, Bool, true, false, not, cond, ◌&&◌, ◌||◌, List, [], ◌∷◌, ◌++◌, length, filter, arith}
use Rattle.std.specs.List.{list_any}
use Rattle.std.specs.declared.ops.Bound.TheVariants.{Included, Excluded, Unbounded}
use Rattle.std.specs.BTreeMap.Range.{entries_between}
use Rattle.system_keys.specs.Keys.{Key, Range, holds, is_key_below, is_key_up_to}
use Rattle.system_keys.proofs.KeyOrder.{not_below_back, below_up_to, up_to_trans, up_to_is}
use Rattle.system_keys.proofs.KeyLaws.{inside_from_holds}
use Rattle.model.specs.Owners.{some_key}
use Rattle.model.specs.Shares.{each_below}
use Rattle.model.proofs.Owners.FiniteTests.{passed_from_some_key, some_key_from_passed}
use Rattle.dated_owners.specs.declared.later_owners.LaterOwner.{LaterOwner}
use Rattle.dated_owners.specs.declared.walks.Walk.{Walk}
use Rattle.dated_owners.specs.LaterOwners.{with_first}
use Rattle.dated_owners.specs.Walks.{takes, takes_later, asked_resolvers}
use Rattle.dated_owners.specs.Flags.{is_flagged, Flags, AreAll}
use Rattle.dated_owners.specs.Starts.{value_from, AreAbove, AreRising, AreKept, moves_of, is_inside, some_start, changed_in, with_values}
use Rattle.dated_owners.proofs.FlagLaws.{filter_below}
use Rattle.dated_owners.proofs.KeyStarts.{key_cmp, value_up_to}
use Rattle.dated_owners.proofs.SomeStarts.{inside, some_start_from, some_start_to}
use Rattle.dated_owners.proofs.JoinedStarts.{Starts, owners_kept}

-- ---- by the moves

same_truth : (p q : Bool) → (p ≡ true → q ≡ true) → (q ≡ true → p ≡ true) → p ≡ q
same_truth true q to from = sym (to refl)
same_truth false true to from = from refl
same_truth false false to from = refl

-- the moves that the starts stand for ask the same
some_key_is : (ss : Starts) (walk : Walk) (r : ℕ) (range : Range) → AreKept ss → is_key_below range.begin range.end ≡ true → some_start [] ss (takes_later walk r) range ≡ some_key (moves_of ss) (takes walk r) range
some_key_is ss walk r range kept forward = same_truth (some_start [] ss (takes_later walk r) range) (some_key (moves_of ss) (takes walk r) range) to from
  where
    to : some_start [] ss (takes_later walk r) range ≡ true → some_key (moves_of ss) (takes walk r) range ≡ true
    to h =
        let p = some_start_to (takes_later walk r) [] ss range forward kept.rising h in
        some_key_from_passed (moves_of ss) (takes walk r) range (record { key = p.key; inside = p.held; passes = ap (takes walk r) (owners_kept ss p.key kept) ∙ p.passes })

    from : some_key (moves_of ss) (takes walk r) range ≡ true → some_start [] ss (takes_later walk r) range ≡ true
    from h =
        let p = passed_from_some_key (moves_of ss) (takes walk r) range h in
        some_start_from (takes_later walk r) [] ss range p.key kept.rising (inside_from_holds range p.key p.inside) (sym (ap (takes walk r) (owners_kept ss p.key kept)) ∙ p.passes)

pub asked_resolvers_are : (resolvers : ℕ) (ss : Starts) (walk : Walk) (range : Range) → AreKept ss → is_key_below range.begin range.end ≡ true
    → filter (λ r. some_start [] ss (takes_later walk r) range) (each_below resolvers) ≡ asked_resolvers resolvers (moves_of ss) walk range
asked_resolvers_are resolvers ss walk range kept forward =
    filter_below (λ r. some_start [] ss (takes_later walk r) range) (λ r. some_key (moves_of ss) (takes walk r) range) resolvers (λ r less. some_key_is ss walk r range kept forward)

-- ---- the starts tried so far, from the last one back

-- the starts below the end of the range
abbrev pub before_end : {X : Type 0} → Range → List (Key × X) → List (Key × X)
before_end {X} range ss = filter (λ (s : Key × X). is_key_below s.0 range.end) ss

above_before_end : {X : Type 0} (range : Range) (b : Key) (ss : List (Key × X)) → AreAbove b ss → AreAbove b (before_end range ss)
above_before_end range b [] above = tt
above_before_end range b (s ∷ ss) above = by (is_key_below s.0 range.end) (above_before_end range b ss above.1)
  where
    by : (t : Bool) → AreAbove b (before_end range ss) → AreAbove b (cond t (s ∷ before_end range ss) (before_end range ss))
    by true rec = (above.0, rec)
    by false rec = rec

rising_before_end : {X : Type 0} (range : Range) (ss : List (Key × X)) → AreRising ss → AreRising (before_end range ss)
rising_before_end range [] r = tt
rising_before_end range (s ∷ ss) r = by (is_key_below s.0 range.end) (rising_before_end range ss r.1)
  where
    by : (t : Bool) → AreRising (before_end range ss) → AreRising (cond t (s ∷ before_end range ss) (before_end range ss))
    by true rec = (above_before_end range s.0 ss r.0, rec)
    by false rec = rec

-- each start is below the end of the range
abbrev pub AreBelowEnd : {X : Type 0} → Range → List (Key × X) → Type 0
AreBelowEnd range [] = Unit {0}
AreBelowEnd range (s ∷ ss) = (is_key_below s.0 range.end ≡ true) × AreBelowEnd range ss

below_before_end : {X : Type 0} (range : Range) (ss : List (Key × X)) → AreBelowEnd range (before_end range ss)
below_before_end range [] = tt
below_before_end range (s ∷ ss) = by (is_key_below s.0 range.end) refl (below_before_end range ss)
  where
    by : (t : Bool) → is_key_below s.0 range.end ≡ t → AreBelowEnd range (before_end range ss) → AreBelowEnd range (cond t (s ∷ before_end range ss) (before_end range ss))
    by true h rec = (h, rec)
    by false h rec = rec

-- the starts past the end do not count at the begin of the range
value_before_end : {X : Type 0} (range : Range) (d : X) (ss : List (Key × X)) → is_key_below range.begin range.end ≡ true → AreRising ss → value_from d (before_end range ss) range.begin ≡ value_from d ss range.begin
value_before_end range d [] forward r = refl
value_before_end {X} range d (s ∷ ss) forward r = by (is_key_below s.0 range.end) refl (λ x. value_before_end range x ss forward r.1)
  where
    by : (t : Bool) → is_key_below s.0 range.end ≡ t → ((x : X) → value_from x (before_end range ss) range.begin ≡ value_from x ss range.begin)
        → value_from d (cond t (s ∷ before_end range ss) (before_end range ss)) range.begin ≡ value_from d (s ∷ ss) range.begin
    by true h rec = ap (λ (x : X). cond (is_key_below range.begin s.0) d x) (rec s.1)
    by false h rec =
        let early : is_key_below range.begin s.0 ≡ true = below_up_to range.begin range.end s.0 forward h in
        value_up_to d (before_end range ss) s.0 range.begin (above_before_end range s.0 ss r.0) (not_below_back range.begin s.0 early)
        ∙ sym (ap (λ (t : Bool). cond t d (value_from s.1 ss range.begin)) early)

-- and none of them is inside
inside_before_end : {X : Type 0} (range : Range) (ss : List (Key × X)) → inside range (before_end range ss) ≡ inside range ss
inside_before_end range [] = refl
inside_before_end {X} range (s ∷ ss) = by (is_key_below range.begin s.0) (is_key_below s.0 range.end) refl refl (inside_before_end range ss)
  where
    by : (a b : Bool) → is_key_below range.begin s.0 ≡ a → is_key_below s.0 range.end ≡ b → inside range (before_end range ss) ≡ inside range ss
        → inside range (cond b (s ∷ before_end range ss) (before_end range ss)) ≡ cond (a && b) (s ∷ inside range ss) (inside range ss)
    by a false h k rec = rec ∙ sym (none a (s ∷ inside range ss) (inside range ss))
      where
        none : (t : Bool) (xs ys : List (Key × X)) → cond (t && false) xs ys ≡ ys
        none true xs ys = refl
        none false xs ys = refl
    by true true h k rec = ap₂ (λ (x y : Bool). cond (x && y) (s ∷ inside range (before_end range ss)) (inside range (before_end range ss))) h k ∙ ap (λ (xs : List (Key × X)). s ∷ xs) rec
    by false true h k rec = ap₂ (λ (x y : Bool). cond (x && y) (s ∷ inside range (before_end range ss)) (inside range (before_end range ss))) h k ∙ rec

-- The starts that are left, all below the end of the range, and the flags so far say for each resolver
-- whether it was flagged before or is asked.
pub record IsTried (ss : Starts) (walk : Walk) (range : Range) (before : List Bool) (left : Starts) (flags : List Bool) : Type 0 where
  pub rising : AreRising left
  pub ended : AreBelowEnd range left
  pub as_many : length flags ≡ length before
  pub each : (r : ℕ) → r < length before → (is_flagged flags r || some_start [] left (takes_later walk r) range) ≡ (is_flagged before r || some_start [] ss (takes_later walk r) range)

pub tried_none : (ss : Starts) (walk : Walk) (range : Range) (flags : List Bool) (left : Starts) → is_key_below range.begin range.end ≡ true → AreRising ss → left ≡ before_end range ss → IsTried ss walk range flags left flags
tried_none ss walk range flags left forward r is =
    record {
      rising = subst AreRising (sym is) (rising_before_end range ss r);
      ended = subst (AreBelowEnd range) (sym is) (below_before_end range ss);
      as_many = refl;
      each = λ n there.
          ap (λ (xs : Starts). is_flagged flags n || some_start [] xs (takes_later walk n) range) is
          ∙ ap₂ (λ (x : List LaterOwner) (xs : Starts). is_flagged flags n || (takes_later walk n x || list_any (λ (s : Key × List LaterOwner). takes_later walk n s.1) xs)) (value_before_end range [] ss forward r) (inside_before_end range ss);
    }

-- ---- the last start that is left

or_assoc : (p q r : Bool) → ((p || q) || r) ≡ (p || (q || r))
or_assoc true q r = refl
or_assoc false q r = refl

or_none : (p : Bool) → p ≡ (p || false)
or_none true = refl
or_none false = refl

or_turned : (f t v i : Bool) → ((f || t) || (v || i)) ≡ (f || (v || (i || t)))
or_turned true t v i = refl
or_turned false true true i = refl
or_turned false true false true = refl
or_turned false true false false = refl
or_turned false false true i = refl
or_turned false false false true = refl
or_turned false false false false = refl

above_last : {X : Type 0} (b key : Key) (front : List (Key × X)) (x : X) → AreAbove b (front ++ (key, x) ∷ []) → is_key_below b key ≡ true
above_last b key [] x above = above.0
above_last b key (s ∷ front) x above = above_last b key front x above.1

above_front : {X : Type 0} (b : Key) (front back : List (Key × X)) → AreAbove b (front ++ back) → AreAbove b front
above_front b [] back above = tt
above_front b (s ∷ front) back above = (above.0, above_front b front back above.1)

rising_front : {X : Type 0} (front back : List (Key × X)) → AreRising (front ++ back) → AreRising front
rising_front [] back r = tt
rising_front (s ∷ front) back r = (above_front s.0 front back r.0, rising_front front back r.1)

ended_front : {X : Type 0} (range : Range) (front back : List (Key × X)) → AreBelowEnd range (front ++ back) → AreBelowEnd range front
ended_front range [] back ended = tt
ended_front range (s ∷ front) back ended = (ended.0, ended_front range front back ended.1)

ended_last : {X : Type 0} (range : Range) (key : Key) (front : List (Key × X)) (x : X) → AreBelowEnd range (front ++ (key, x) ∷ []) → is_key_below key range.end ≡ true
ended_last range key [] x ended = ended.0
ended_last range key (s ∷ front) x ended = ended_last range key front x ended.1

-- a last start above a key does not count there
value_below_last : {X : Type 0} (d : X) (front : List (Key × X)) (key : Key) (x : X) (q : Key) → is_key_below q key ≡ true → value_from d (front ++ (key, x) ∷ []) q ≡ value_from d front q
value_below_last d [] key x q h = ap (λ t. cond t d x) h
value_below_last {X} d (s ∷ front) key x q h = ap (λ (y : X). cond (is_key_below q s.0) d y) (value_below_last s.1 front key x q h)

-- and one up to it has the value there
value_from_last : {X : Type 0} (d : X) (front : List (Key × X)) (key : Key) (x : X) (q : Key) → AreRising (front ++ (key, x) ∷ []) → is_key_below q key ≡ false → value_from d (front ++ (key, x) ∷ []) q ≡ x
value_from_last d [] key x q r h = ap (λ t. cond t d x) h
value_from_last {X} d (s ∷ front) key x q r h =
    let low : is_key_below q s.0 ≡ false = up_to_trans s.0 key q (not_below_back s.0 key (above_last s.0 key front x r.0)) h in
    ap (λ t. cond t d (value_from s.1 (front ++ (key, x) ∷ []) q)) low ∙ value_from_last s.1 front key x q r.1 h

any_with_last : {X : Type 0} (range : Range) (test : X → Bool) (front : List (Key × X)) (key : Key) (x : X) → is_inside range key ≡ true → list_any (λ (s : Key × X). test s.1) (inside range (front ++ (key, x) ∷ [])) ≡ (list_any (λ (s : Key × X). test s.1) (inside range front) || test x)
any_with_last {X} range test [] key x within = ap (λ (t : Bool). list_any (λ (s : Key × X). test s.1) (cond t ((key, x) ∷ []) [])) within ∙ sym (or_none (test x))
any_with_last {X} range test (s ∷ front) key x within = by (is_inside range s.0) (any_with_last range test front key x within)
  where
    any : List (Key × X) → Bool
    any ss = list_any (λ (e : Key × X). test e.1) ss

    by : (t : Bool) → any (inside range (front ++ (key, x) ∷ [])) ≡ (any (inside range front) || test x)
        → any (cond t (s ∷ inside range (front ++ (key, x) ∷ [])) (inside range (front ++ (key, x) ∷ []))) ≡ (any (cond t (s ∷ inside range front) (inside range front)) || test x)
    by true rec = ap (λ (m : Bool). test s.1 || m) rec ∙ sym (or_assoc (test s.1) (any (inside range front)) (test x))
    by false rec = rec

-- if the last start is up to the begin of the range, none is inside
none_inside : {X : Type 0} (range : Range) (front : List (Key × X)) (key : Key) (x : X) → AreRising (front ++ (key, x) ∷ []) → is_key_below range.begin key ≡ false → inside range (front ++ (key, x) ∷ []) ≡ []
none_inside {X} range [] key x r h = ap (λ (t : Bool). cond (t && is_key_below key range.end) ((key, x) ∷ []) []) h
none_inside {X} range (s ∷ front) key x r h =
    let low : is_key_below range.begin s.0 ≡ false = up_to_trans s.0 key range.begin (not_below_back s.0 key (above_last s.0 key front x r.0)) h in
    ap (λ (t : Bool). cond (t && is_key_below s.0 range.end) (s ∷ inside range (front ++ (key, x) ∷ [])) (inside range (front ++ (key, x) ∷ []))) low
    ∙ none_inside range front key x r.1 h

-- the last start that is left is inside: the next one is tried
pub tried_next : (ss : Starts) (walk : Walk) (range : Range) (before : List Bool) (key : Key) (later : List LaterOwner) (left front : Starts) (flags after : List Bool)
    → left ≡ front ++ (key, later) ∷ [] → is_key_below range.begin key ≡ true → IsTried ss walk range before left flags → Flags flags (λ r. takes walk r (with_first later)) after → IsTried ss walk range before front after
tried_next ss walk range before key later left front flags after is above tried flagged =
    let rising : AreRising (front ++ (key, later) ∷ []) = subst AreRising is tried.rising in
    let ended : AreBelowEnd range (front ++ (key, later) ∷ []) = subst (AreBelowEnd range) is tried.ended in
    let within : is_inside range key ≡ true = ap₂ (λ (s t : Bool). s && t) above (ended_last range key front later ended) in
    record {
      rising = rising_front front ((key, later) ∷ []) rising;
      ended = ended_front range front ((key, later) ∷ []) ended;
      as_many = flagged.as_many ∙ tried.as_many;
      each = λ r there.
          ap (λ (m : Bool). m || some_start [] front (takes_later walk r) range) (flagged.each r (omega (arith, there, tried.as_many)))
          ∙ or_turned (is_flagged flags r) (takes_later walk r later) (takes_later walk r (value_from [] front range.begin)) (list_any (λ (s : Key × List LaterOwner). takes_later walk r s.1) (inside range front))
          ∙ sym (ap₂ (λ (x : List LaterOwner) (m : Bool). is_flagged flags r || (takes_later walk r x || m)) (value_below_last [] front key later range.begin above) (any_with_last range (takes_later walk r) front key later within))
          ∙ sym (ap (λ (xs : Starts). is_flagged flags r || some_start [] xs (takes_later walk r) range) is)
          ∙ tried.each r there;
    }

-- the last start that is left is up to the begin of the range: all are tried
pub tried_begin : (ss : Starts) (walk : Walk) (range : Range) (before : List Bool) (key : Key) (later : List LaterOwner) (left front : Starts) (flags after : List Bool)
    → left ≡ front ++ (key, later) ∷ [] → is_key_below range.begin key ≡ false → IsTried ss walk range before left flags → Flags flags (λ r. takes walk r (with_first later)) after → Flags before (λ r. some_start [] ss (takes_later walk r) range) after
tried_begin ss walk range before key later left front flags after is up_to tried flagged =
    let rising : AreRising (front ++ (key, later) ∷ []) = subst AreRising is tried.rising in
    record {
      as_many = flagged.as_many ∙ tried.as_many;
      each = λ r there.
          flagged.each r (omega (arith, there, tried.as_many))
          ∙ ap (λ (m : Bool). is_flagged flags r || m) (or_none (takes_later walk r later))
          ∙ sym (ap₂ (λ (x : List LaterOwner) (xs : Starts). is_flagged flags r || (takes_later walk r x || list_any (λ (s : Key × List LaterOwner). takes_later walk r s.1) xs)) (value_from_last [] front key later range.begin rising up_to) (none_inside range front key later rising up_to))
          ∙ sym (ap (λ (xs : Starts). is_flagged flags r || some_start [] xs (takes_later walk r) range) is)
          ∙ tried.each r there;
    }

-- no start is left: the first owner alone has the begin of the range
pub tried_all : (ss : Starts) (walk : Walk) (range : Range) (before : List Bool) (left : Starts) (flags after : List Bool) → left ≡ [] → IsTried ss walk range before left flags → Flags flags (λ r. takes walk r (with_first [])) after → Flags before (λ r. some_start [] ss (takes_later walk r) range) after
tried_all ss walk range before left flags after is tried flagged =
    record {
      as_many = flagged.as_many ∙ tried.as_many;
      each = λ r there.
          flagged.each r (omega (arith, there, tried.as_many))
          ∙ ap (λ (m : Bool). is_flagged flags r || m) (or_none (takes_later walk r []))
          ∙ sym (ap (λ (xs : Starts). is_flagged flags r || some_start [] xs (takes_later walk r) range) is)
          ∙ tried.each r there;
    }

-- ---- from no flags

-- the first n of them that are flagged in the end are those that pass the test
pub first_flagged : (test : ℕ → Bool) (n : ℕ) (before flags : List Bool) → n ≤ 64 → AreAll false before → Flags before test flags → filter (is_flagged flags) (each_below n) ≡ filter test (each_below n)
first_flagged test n before flags few none flagged =
    filter_below (is_flagged flags) test n
    (λ r there. flagged.each r (omega (arith, there, few, none.as_many)) ∙ ap (λ b. b || test r) (none.each r (omega (arith, there, few))))

-- ---- the entries of a part of the map

not_up_to : (a b : Key) → not (is_key_up_to a b) ≡ is_key_below b a
not_up_to a b = ap not (up_to_is a b) ∙ twice (is_key_below b a)
  where
    twice : (t : Bool) → not (not t) ≡ t
    twice true = refl
    twice false = refl

-- up to the end of the range
pub until_end : {X : Type 0} (es : List (Key × X)) (range : Range) → entries_between key_cmp Unbounded (Excluded range.end) es ≡ before_end range es
until_end {X} es range =
    let same : (s : Key × X) → not (is_key_up_to range.end s.0) ≡ is_key_below s.0 range.end = λ s. not_up_to range.end s.0 in
    ap (λ (p : Key × X → Bool). filter p es) (λ i s. same s i)

-- from the begin of the range on, each changed
pub between_changed : {X : Type 0} (f : X → X) (es : List (Key × X)) (range : Range) → with_values f (entries_between key_cmp (Included range.begin) (Excluded range.end) es) ≡ changed_in range f es
between_changed f [] range = refl
between_changed {X} f (e ∷ es) range =
    ap (λ (t : Bool). with_values f (cond t (e ∷ rest) rest)) test ∙ by (holds range e.0) (between_changed f es range)
  where
    rest : List (Key × X)
    rest = entries_between key_cmp (Included range.begin) (Excluded range.end) es

    test : (is_key_up_to range.begin e.0 && not (is_key_up_to range.end e.0)) ≡ holds range e.0
    test = ap₂ (λ (s t : Bool). s && t) (up_to_is range.begin e.0) (not_up_to range.end e.0)

    by : (t : Bool) → with_values f rest ≡ changed_in range f es → with_values f (cond t (e ∷ rest) rest) ≡ cond t ((e.0, f e.1) ∷ changed_in range f es) (changed_in range f es)
    by true is = ap (λ (xs : List (Key × X)). (e.0, f e.1) ∷ xs) is
    by false is = is
