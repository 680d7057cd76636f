-- Owners after the first one: equal lists, and those that no walk needs.
use Rattle.std.proofs.Common.{◌≡◌, ℕ, refl, sym, ap, ap₂, ◌∙◌, Bool, true, false, ◌&&◌, ◌||◌, cond, nat_eq, nat_lt, List, [], ◌∷◌, ◌++◌, map, drop, take, length, zero, suc, ◌+◌, ◌≤◌, arith}
use Rattle.std.proofs.lemmas.Bool.{and_parts, and_from, eq-eqb, eqb-true, both_ways}
use Rattle.model.specs.Owners.{Owner, trimmed}
use Rattle.dated_owners.specs.declared.later_owners.LaterOwner.{LaterOwner}
use Rattle.dated_owners.specs.LaterOwners.{owner_from, with_first, is_initial_owner, is_first_needless, needed, is_same_owner, are_same_owners}

abbrev pub first_owner : Owner
first_owner = record { date = 0; resolver = 0 }

-- ---- equal lists

one_same : (o p : LaterOwner) → is_same_owner o p ≡ true → o ≡ p
one_same o p h =
    let both = and_parts (nat_eq o.date p.date) (nat_eq o.resolver p.resolver) h in
    let date : o.date ≡ p.date = eqb-true o.date p.date both.0 in
    let resolver : o.resolver ≡ p.resolver = eqb-true o.resolver p.resolver both.1 in
    λ i. record { date = date i; resolver = resolver i }

pub same_equal : (later other : List LaterOwner) → are_same_owners later other ≡ true → later ≡ other
same_equal [] [] h = refl
same_equal [] (p ∷ other) h = absurd (cc)
same_equal (o ∷ later) [] h = absurd (cc)
same_equal (o ∷ later) (p ∷ other) h =
    let both = and_parts (is_same_owner o p) (are_same_owners later other) h in
    ap₂ (λ (x : LaterOwner) (xs : List LaterOwner). x ∷ xs) (one_same o p both.0) (same_equal later other both.1)

pub same_itself : (later : List LaterOwner) → are_same_owners later later ≡ true
same_itself [] = refl
same_itself (o ∷ later) =
    and_from (is_same_owner o o) (are_same_owners later later)
    (and_from (nat_eq o.date o.date) (nat_eq o.resolver o.resolver) (eq-eqb o.date o.date refl) (eq-eqb o.resolver o.resolver refl)) (same_itself later)

pub equal_same : (later other : List LaterOwner) → later ≡ other → are_same_owners later other ≡ true
equal_same later other e = ap (are_same_owners later) (sym e) ∙ same_itself later

pub unequal : (later other : List LaterOwner) → (length later ≡ length other → ⊥) → false ≡ are_same_owners later other
unequal later other apart = by (are_same_owners later other) refl
  where
    by : (t : Bool) → are_same_owners later other ≡ t → false ≡ t
    by true h = absurd (apart (ap length (same_equal later other h)))
    by false h = refl

-- ---- without the needless ones

needless_dated : (oldest : ℕ) (o : LaterOwner) (later : List LaterOwner) → is_first_needless oldest (o ∷ later) ≡ true → nat_lt o.date oldest ≡ true
needless_dated oldest o [] h = (and_parts (nat_lt o.date oldest) (is_initial_owner o) h).0
needless_dated oldest o (p ∷ later) h = (and_parts (nat_lt o.date oldest) (is_initial_owner o || nat_lt p.date oldest) h).0

is_first_owner : (o : LaterOwner) → is_initial_owner o ≡ true → owner_from o ≡ first_owner
is_first_owner o h =
    let both = and_parts (nat_eq o.date 0) (nat_eq o.resolver 0) h in
    let date : o.date ≡ 0 = eqb-true o.date 0 both.0 in
    let resolver : o.resolver ≡ 0 = eqb-true o.resolver 0 both.1 in
    λ i. record { date = date i; resolver = resolver i }

-- the first owner is dropped before one that is dated below `oldest`
first_dropped : (oldest : ℕ) (o : LaterOwner) (later : List LaterOwner) → nat_lt o.date oldest ≡ true → trimmed oldest (with_first (o ∷ later)) ≡ trimmed oldest (map owner_from (o ∷ later))
first_dropped oldest o later h = ap (λ t. cond t (trimmed oldest (map owner_from (o ∷ later))) (with_first (o ∷ later))) h

first_kept : (oldest : ℕ) (o : LaterOwner) (later : List LaterOwner) → nat_lt o.date oldest ≡ false → trimmed oldest (with_first (o ∷ later)) ≡ with_first (o ∷ later)
first_kept oldest o later h = ap (λ t. cond t (trimmed oldest (map owner_from (o ∷ later))) (with_first (o ∷ later))) h

needless_dropped : (oldest : ℕ) (o : LaterOwner) (later : List LaterOwner) → is_first_needless oldest (o ∷ later) ≡ true → trimmed oldest (with_first (o ∷ later)) ≡ trimmed oldest (with_first later)
needless_dropped oldest o [] h =
    first_dropped oldest o [] (needless_dated oldest o [] h)
    ∙ ap (λ (x : Owner). x ∷ []) (is_first_owner o (and_parts (nat_lt o.date oldest) (is_initial_owner o) h).1)
needless_dropped oldest o (p ∷ later) h = first_dropped oldest o (p ∷ later) (needless_dated oldest o (p ∷ later) h) ∙ by (is_initial_owner o) refl (and_parts (nat_lt o.date oldest) (is_initial_owner o || nat_lt p.date oldest) h).1
  where
    by : (t : Bool) → is_initial_owner o ≡ t → (t || nat_lt p.date oldest) ≡ true → trimmed oldest (map owner_from (o ∷ p ∷ later)) ≡ trimmed oldest (with_first (p ∷ later))
    by true e k = ap (λ (x : Owner). trimmed oldest (x ∷ map owner_from (p ∷ later))) (is_first_owner o e)
    by false e k =
        ap (λ t. cond t (trimmed oldest (map owner_from (p ∷ later))) (map owner_from (o ∷ p ∷ later))) k
        ∙ sym (first_dropped oldest p later k)

-- the owners that are left are those of the whole list
pub needed_left : (oldest : ℕ) (later : List LaterOwner) → trimmed oldest (with_first (needed oldest later)) ≡ trimmed oldest (with_first later)
needed_left oldest [] = refl
needed_left oldest (o ∷ later) = by (is_first_needless oldest (o ∷ later)) refl (needed_left oldest later)
  where
    by : (t : Bool) → is_first_needless oldest (o ∷ later) ≡ t → trimmed oldest (with_first (needed oldest later)) ≡ trimmed oldest (with_first later)
        → trimmed oldest (with_first (cond t (needed oldest later) (o ∷ later))) ≡ trimmed oldest (with_first (o ∷ later))
    by true e rec = rec ∙ sym (needless_dropped oldest o later e)
    by false e rec = refl

-- no owner of the list is needless
pub needed_all : (oldest : ℕ) (later : List LaterOwner) → is_first_needless oldest (needed oldest later) ≡ false
needed_all oldest [] = refl
needed_all oldest (o ∷ later) = by (is_first_needless oldest (o ∷ later)) refl (needed_all oldest later)
  where
    by : (t : Bool) → is_first_needless oldest (o ∷ later) ≡ t → is_first_needless oldest (needed oldest later) ≡ false → is_first_needless oldest (cond t (needed oldest later) (o ∷ later)) ≡ false
    by true e rec = rec
    by false e rec = e

needed_rest : (oldest : ℕ) (later : List LaterOwner) (i : ℕ) → is_first_needless oldest (drop i later) ≡ true → needed oldest (drop (suc i) later) ≡ needed oldest (drop i later)
needed_rest oldest [] zero h = refl
needed_rest oldest [] (suc i) h = refl
needed_rest oldest (o ∷ later) zero h = sym (ap (λ t. cond t (needed oldest later) (o ∷ later)) h)
needed_rest oldest (o ∷ later) (suc i) h = needed_rest oldest later i h

taken : (n : ℕ) (later : List LaterOwner) → length later ≤ n → take n later ≡ later
taken zero [] h = refl
taken zero (o ∷ later) h = absurd (omega arith)
taken (suc n) [] h = refl
taken (suc n) (o ∷ later) h = ap (λ (xs : List LaterOwner). o ∷ xs) (taken n later (omega arith))

-- the whole list from place i on
pub all_taken : (later : List LaterOwner) (i n : ℕ) → length later ≤ n + i → take n (drop i later) ≡ drop i later
all_taken later zero n h = taken n later (omega arith)
all_taken [] (suc i) n h = taken n [] (omega arith)
all_taken (o ∷ later) (suc i) n h = all_taken later i n (omega arith)

-- one needless owner more
pub needed_next : (oldest : ℕ) (later : List LaterOwner) (i j : ℕ) → j ≡ suc i → is_first_needless oldest (drop i later) ≡ true → needed oldest (drop i later) ≡ needed oldest later → needed oldest (drop j later) ≡ needed oldest later
needed_next oldest later i j next h at = ap (λ k. needed oldest (drop k later)) next ∙ needed_rest oldest later i h ∙ at

-- the first needed owner
pub needed_here : (oldest : ℕ) (later rest : List LaterOwner) → is_first_needless oldest rest ≡ false → needed oldest rest ≡ needed oldest later → rest ≡ needed oldest later
needed_here oldest later [] h at = at
needed_here oldest later (o ∷ rest) h at = sym (ap (λ t. cond t (needed oldest rest) (o ∷ rest)) h) ∙ at

-- ---- lists without needless owners are equal if the owners left are

abbrev is_old : (oldest : ℕ) → List LaterOwner → Bool
is_old oldest [] = false
is_old oldest (o ∷ later) = nat_lt o.date oldest

or_false_parts : (a b : Bool) → (a || b) ≡ false → (a ≡ false) × (b ≡ false)
or_false_parts false false h = (refl, refl)
or_false_parts false true h = absurd (cc)
or_false_parts true b h = absurd (cc)

and_true : (a b : Bool) → a ≡ true → (a && b) ≡ false → b ≡ false
and_true true b e h = h
and_true false b e h = absurd (cc)

not_first : (oldest : ℕ) (o : LaterOwner) (later : List LaterOwner) → nat_lt o.date oldest ≡ true → is_first_needless oldest (o ∷ later) ≡ false → is_initial_owner o ≡ false
not_first oldest o [] old h = and_true (nat_lt o.date oldest) (is_initial_owner o) old h
not_first oldest o (p ∷ later) old h = (or_false_parts (is_initial_owner o) (nat_lt p.date oldest) (and_true (nat_lt o.date oldest) (is_initial_owner o || nat_lt p.date oldest) old h)).0

left_old : (oldest : ℕ) (o : LaterOwner) (later : List LaterOwner) → nat_lt o.date oldest ≡ true → is_first_needless oldest (o ∷ later) ≡ false → trimmed oldest (with_first (o ∷ later)) ≡ map owner_from (o ∷ later)
left_old oldest o [] old h = first_dropped oldest o [] old
left_old oldest o (p ∷ later) old h =
    let young = (or_false_parts (is_initial_owner o) (nat_lt p.date oldest) (and_true (nat_lt o.date oldest) (is_initial_owner o || nat_lt p.date oldest) old h)).1 in
    first_dropped oldest o (p ∷ later) old ∙ ap (λ t. cond t (trimmed oldest (map owner_from (p ∷ later))) (map owner_from (o ∷ p ∷ later))) young

-- the owners that are left of a list without needless owners
left_is : (oldest : ℕ) (later : List LaterOwner) → is_first_needless oldest later ≡ false → trimmed oldest (with_first later) ≡ cond (is_old oldest later) (map owner_from later) (with_first later)
left_is oldest [] h = refl
left_is oldest (o ∷ later) h = by (nat_lt o.date oldest) refl
  where
    by : (t : Bool) → nat_lt o.date oldest ≡ t → trimmed oldest (with_first (o ∷ later)) ≡ cond t (map owner_from (o ∷ later)) (with_first (o ∷ later))
    by true e = left_old oldest o later e h
    by false e = first_kept oldest o later e

abbrev later_from : Owner → LaterOwner
later_from o = record { date = o.date; resolver = o.resolver }

there_and_back : (later : List LaterOwner) → map later_from (map owner_from later) ≡ later
there_and_back [] = refl
there_and_back (o ∷ later) = ap (λ (xs : List LaterOwner). o ∷ xs) (there_and_back later)

equal_lists : (later other : List LaterOwner) → map owner_from later ≡ map owner_from other → later ≡ other
equal_lists later other e = sym (there_and_back later) ∙ ap (map later_from) e ∙ there_and_back other

abbrev rest_of : List Owner → List Owner
rest_of [] = []
rest_of (o ∷ rest) = rest

abbrev head_of : List Owner → Owner
head_of [] = record { date = 1; resolver = 0 }
head_of (o ∷ rest) = o

-- an old list is not one with the first owner before it
not_both : (oldest : ℕ) (later other : List LaterOwner) → is_first_needless oldest later ≡ false → is_old oldest later ≡ true → map owner_from later ≡ with_first other → ⊥
not_both oldest [] other h old e = both_ways false refl old
not_both oldest (o ∷ later) other h old e =
    let date : o.date ≡ 0 = ap (λ (xs : List Owner). (head_of xs).date) e in
    let resolver : o.resolver ≡ 0 = ap (λ (xs : List Owner). (head_of xs).resolver) e in
    both_ways (is_initial_owner o) (not_first oldest o later old h) (and_from (nat_eq o.date 0) (nat_eq o.resolver 0) (eq-eqb o.date 0 date) (eq-eqb o.resolver 0 resolver))

pub left_injective : (oldest : ℕ) (later other : List LaterOwner) → is_first_needless oldest later ≡ false → is_first_needless oldest other ≡ false
    → trimmed oldest (with_first later) ≡ trimmed oldest (with_first other) → later ≡ other
left_injective oldest later other h k e = by (is_old oldest later) (is_old oldest other) refl refl (sym (left_is oldest later h) ∙ e ∙ left_is oldest other k)
  where
    by : (s t : Bool) → is_old oldest later ≡ s → is_old oldest other ≡ t
        → cond s (map owner_from later) (with_first later) ≡ cond t (map owner_from other) (with_first other) → later ≡ other
    by true true a b e = equal_lists later other e
    by true false a b e = absurd (not_both oldest later other h a e)
    by false true a b e = absurd (not_both oldest other later k b (sym e))
    by false false a b e = equal_lists later other (ap rest_of e)

-- ---- one owner more

pub with_first_more : (later : List LaterOwner) (o : LaterOwner) → with_first (later ++ o ∷ []) ≡ with_first later ++ owner_from o ∷ []
with_first_more later o = ap (λ (xs : List Owner). first_owner ∷ xs) (more later)
  where
    more : (xs : List LaterOwner) → map owner_from (xs ++ o ∷ []) ≡ map owner_from xs ++ owner_from o ∷ []
    more [] = refl
    more (x ∷ xs) = ap (λ (ys : List Owner). owner_from x ∷ ys) (more xs)
