-- Owners that make no difference to any walk, and those of one date in another order.
use Rattle.std.proofs.Common.{◌≡◌, ℕ, zero, suc, ◌+◌, ◌-◌, ◌<◌, ◌≤◌, refl, sym, subst, ap, ap₂, ◌∙◌, Bool, true, false, not, ◌&&◌, ◌||◌, nat_eq, nat_lt, List, [], ◌∷◌, ◌++◌, map, length, take, drop, get_or, IsTrue, append-nil, add-one, arith}
use Rattle.std.proofs.lemmas.Bool.{eqb-true, eq-eqb}
use Rattle.std.proofs.lemmas.List.{append_assoc, take-append-drop, drop_all}
use Rattle.std.proofs.Math.Seq.{drop-cons}
use Rattle.std.specs.List.{list_any}
use Rattle.model.specs.Owners.{Owner, is_last, none_dated_below, walk_visits}
use Rattle.dated_owners.specs.declared.later_owners.LaterOwner.{LaterOwner}
use Rattle.dated_owners.specs.LaterOwners.{owner_from, is_same_owner}
use Rattle.dated_owners.specs.MergedOwners.{WalkAlike, IsMerged, AreDated, begins_dated}
use Rattle.dated_owners.proofs.LaterOwnerLaws.{first_owner, all_taken}

-- behind any owners, both lists give the same walks
record GoOnAlike (xs ys : List LaterOwner) : Type 0 where
  none : (bound : ℕ) → none_dated_below bound (map owner_from xs) ≡ none_dated_below bound (map owner_from ys)
  visits : (bound r : ℕ) → walk_visits bound r (map owner_from xs) ≡ walk_visits bound r (map owner_from ys)
  last : (r : ℕ) (o : Owner) → is_last r (o ∷ map owner_from xs) ≡ is_last r (o ∷ map owner_from ys)

same_on : (xs : List LaterOwner) → GoOnAlike xs xs
same_on xs = record { none = λ bound. refl; visits = λ bound r. refl; last = λ r o. refl }

then_on : (xs ys zs : List LaterOwner) → GoOnAlike xs ys → GoOnAlike ys zs → GoOnAlike xs zs
then_on xs ys zs first next =
    record {
      none = λ bound. first.none bound ∙ next.none bound;
      visits = λ bound r. first.visits bound r ∙ next.visits bound r;
      last = λ r o. first.last r o ∙ next.last r o;
    }

one_before : (o : LaterOwner) (xs ys : List LaterOwner) → GoOnAlike xs ys → GoOnAlike (o ∷ xs) (o ∷ ys)
one_before o xs ys alike =
    record {
      none = λ bound. ap (λ n. not (nat_lt o.date bound) && n) (alike.none bound);
      visits = λ bound r. ap₂ (λ n w. (nat_eq o.resolver r && n) || w) (alike.none bound) (alike.visits bound r);
      last = λ r p. alike.last r (owner_from o);
    }

behind : (front xs ys : List LaterOwner) → GoOnAlike xs ys → GoOnAlike (front ++ xs) (front ++ ys)
behind [] xs ys alike = alike
behind (o ∷ front) xs ys alike = one_before o (front ++ xs) (front ++ ys) (behind front xs ys alike)

alike_from : (xs ys : List LaterOwner) → GoOnAlike xs ys → WalkAlike xs ys
alike_from xs ys alike =
    record {
      visits = λ bound r. ap₂ (λ n w. (nat_eq first_owner.resolver r && n) || w) (alike.none bound) (alike.visits bound r);
      last = λ r. alike.last r first_owner;
    }

pub walk_same : (later other : List LaterOwner) → later ≡ other → WalkAlike later other
walk_same later other e = subst (WalkAlike later) e (record { visits = λ bound r. refl; last = λ r. refl })

pub walk_then : (later other more : List LaterOwner) → WalkAlike later other → WalkAlike other more → WalkAlike later more
walk_then later other more first next =
    record { visits = λ bound r. first.visits bound r ∙ next.visits bound r; last = λ r. first.last r ∙ next.last r }

-- ---- an owner that comes again

none_again : (bound : ℕ) (o : LaterOwner) (later : List LaterOwner) → list_any (is_same_owner o) later ≡ true → none_dated_below bound (map owner_from (o ∷ later)) ≡ none_dated_below bound (map owner_from later)
none_again bound o [] there = absurd (cc there)
none_again bound o (p ∷ later) there = by (nat_eq o.date p.date) (nat_eq o.resolver p.resolver) refl there (none_again bound o later)
  where
    twice : (t s n : Bool) → s ≡ t → (not t && (not s && n)) ≡ (not s && n)
    twice true true n e = refl
    twice true false n e = absurd (cc e)
    twice false s n e = refl

    on : (t s n : Bool) → (t && n) ≡ n → (t && (s && n)) ≡ (s && n)
    on true s n e = refl
    on false true n e = e
    on false false n e = refl

    by : (d s : Bool) → nat_eq o.date p.date ≡ d → ((d && s) || list_any (is_same_owner o) later) ≡ true
        → (list_any (is_same_owner o) later ≡ true → none_dated_below bound (map owner_from (o ∷ later)) ≡ none_dated_below bound (map owner_from later))
        → none_dated_below bound (map owner_from (o ∷ p ∷ later)) ≡ none_dated_below bound (map owner_from (p ∷ later))
    by true s e h rec =
        let same : o.date ≡ p.date = eqb-true o.date p.date e in
        twice (nat_lt o.date bound) (nat_lt p.date bound) (none_dated_below bound (map owner_from later)) (ap (λ d. nat_lt d bound) (sym same))
    by false s e h rec = on (not (nat_lt o.date bound)) (not (nat_lt p.date bound)) (none_dated_below bound (map owner_from later)) (rec h)

visits_again : (bound r : ℕ) (o : LaterOwner) (later : List LaterOwner) → list_any (is_same_owner o) later ≡ true → walk_visits bound r (map owner_from (o ∷ later)) ≡ walk_visits bound r (map owner_from later)
visits_again bound r o [] there = absurd (cc there)
visits_again bound r o (p ∷ later) there = by (nat_eq o.date p.date) (nat_eq o.resolver p.resolver) refl there (visits_again bound r o later)
  where
    e : Bool
    e = nat_eq o.resolver r

    s : Bool
    s = not (nat_lt p.date bound)

    n : Bool
    n = none_dated_below bound (map owner_from later)

    w : Bool
    w = walk_visits bound r (map owner_from later)

    twice : (e f s n w : Bool) → f ≡ e → ((e && (s && n)) || ((f && n) || w)) ≡ ((f && n) || w)
    twice true true true true w h = refl
    twice true true true false w h = refl
    twice true true false true w h = refl
    twice true true false false w h = refl
    twice true false s n w h = absurd (cc h)
    twice false f s n w h = refl

    on : (e f s n w : Bool) → ((e && n) || w) ≡ w → ((e && (s && n)) || ((f && n) || w)) ≡ ((f && n) || w)
    on true true true true w h = refl
    on true false true true w h = h
    on true f true false w h = refl
    on true f false n w h = refl
    on false f s n w h = refl

    by : (d t : Bool) → nat_eq o.resolver p.resolver ≡ t → ((d && t) || list_any (is_same_owner o) later) ≡ true
        → (list_any (is_same_owner o) later ≡ true → walk_visits bound r (map owner_from (o ∷ later)) ≡ walk_visits bound r (map owner_from later))
        → walk_visits bound r (map owner_from (o ∷ p ∷ later)) ≡ walk_visits bound r (map owner_from (p ∷ later))
    by true true same h rec =
        let one : o.resolver ≡ p.resolver = eqb-true o.resolver p.resolver same in
        twice e (nat_eq p.resolver r) s n w (ap (λ q. nat_eq q r) (sym one))
    by true false same h rec = on e (nat_eq p.resolver r) s n w (rec h)
    by false t same h rec = on e (nat_eq p.resolver r) s n w (rec h)

last_again : (r : ℕ) (q : Owner) (o : LaterOwner) (later : List LaterOwner) → list_any (is_same_owner o) later ≡ true → is_last r (q ∷ map owner_from (o ∷ later)) ≡ is_last r (q ∷ map owner_from later)
last_again r q o [] there = absurd (cc there)
last_again r q o (p ∷ later) there = refl

again_on : (o : LaterOwner) (later : List LaterOwner) → list_any (is_same_owner o) later ≡ true → GoOnAlike (o ∷ later) later
again_on o later there =
    record {
      none = λ bound. none_again bound o later there;
      visits = λ bound r. visits_again bound r o later there;
      last = λ r q. last_again r q o later there;
    }

-- the owner can be left out
pub left_out : (front : List LaterOwner) (o : LaterOwner) (later : List LaterOwner) → IsTrue (list_any (is_same_owner o) later) → WalkAlike (front ++ o ∷ later) (front ++ later)
left_out front o later there = alike_from (front ++ o ∷ later) (front ++ later) (behind front (o ∷ later) later (again_on o later there))

-- ---- two owners of the date of the one behind them are exchanged

exchanged_on : (o p : LaterOwner) (later : List LaterOwner) → o.date ≡ p.date → begins_dated p.date later ≡ true → GoOnAlike (o ∷ p ∷ later) (p ∷ o ∷ later)
exchanged_on o p [] same begins = absurd (cc begins)
exchanged_on o p (q ∷ later) same begins =
    record {
      none = λ bound. both (not (nat_lt o.date bound)) (not (nat_lt p.date bound)) (none_dated_below bound (map owner_from (q ∷ later)));
      visits = λ bound r.
          either (nat_eq o.resolver r) (nat_eq p.resolver r) (not (nat_lt o.date bound)) (not (nat_lt p.date bound)) (not (nat_lt q.date bound)) (none_dated_below bound (map owner_from later)) (walk_visits bound r (map owner_from (q ∷ later)))
          (ap (λ d. not (nat_lt d bound)) same) (ap (λ d. not (nat_lt d bound)) (sym (eqb-true q.date p.date begins)));
      last = λ r first. refl;
    }
  where
    both : (s t n : Bool) → (s && (t && n)) ≡ (t && (s && n))
    both true true n = refl
    both true false n = refl
    both false true n = refl
    both false false n = refl

    either : (e f s t u n w : Bool) → s ≡ t → t ≡ u → ((e && (t && (u && n))) || ((f && (u && n)) || w)) ≡ ((f && (s && (u && n))) || ((e && (u && n)) || w))
    either e f true false u n w h k = absurd (cc h)
    either e f false true u n w h k = absurd (cc h)
    either e f true true false n w h k = absurd (cc k)
    either e f false false true n w h k = absurd (cc k)
    either true true true true true true w h k = refl
    either true false true true true true w h k = refl
    either false true true true true true w h k = refl
    either false false true true true true w h k = refl
    either true true true true true false w h k = refl
    either true false true true true false w h k = refl
    either false true true true true false w h k = refl
    either false false true true true false w h k = refl
    either true true false false false n w h k = refl
    either true false false false false n w h k = refl
    either false true false false false n w h k = refl
    either false false false false false n w h k = refl

dated_begins : (date : ℕ) (xs later : List LaterOwner) → AreDated date xs → begins_dated date later ≡ true → begins_dated date (xs ++ later) ≡ true
dated_begins date [] later dated begins = begins
dated_begins date (x ∷ xs) later dated begins = eq-eqb x.date date dated.0

-- an owner behind others of its date goes before them, if one more is behind it
moved_on : (o : LaterOwner) (xs later : List LaterOwner) → AreDated o.date xs → begins_dated o.date later ≡ true → GoOnAlike (xs ++ o ∷ later) (o ∷ xs ++ later)
moved_on o [] later dated begins = same_on (o ∷ later)
moved_on o (x ∷ xs) later dated begins =
    then_on (x ∷ xs ++ o ∷ later) (x ∷ o ∷ xs ++ later) (o ∷ x ∷ xs ++ later)
    (one_before x (xs ++ o ∷ later) (o ∷ xs ++ later) (moved_on o xs later dated.1 begins))
    (exchanged_on x o (xs ++ later) dated.0 (dated_begins o.date xs later dated.1 begins))

-- the owner is put at a place from which on all have its date
pub put_in : (front : List LaterOwner) (o : LaterOwner) (later : List LaterOwner) (place : ℕ) → place ≤ length front → AreDated o.date (drop place front)
    → (place < length front → IsTrue (begins_dated o.date later)) → WalkAlike (front ++ o ∷ later) ((take place front ++ o ∷ drop place front) ++ later)
put_in front o later place within dated inside =
    alike_from (front ++ o ∷ later) ((take place front ++ o ∷ drop place front) ++ later)
    (subst (λ (xs : List LaterOwner). GoOnAlike xs ((take place front ++ o ∷ drop place front) ++ later)) whole
    (subst (GoOnAlike (take place front ++ (drop place front ++ o ∷ later))) (sym (append_assoc (take place front) (o ∷ drop place front) later))
    (behind (take place front) (drop place front ++ o ∷ later) (o ∷ drop place front ++ later) (by (drop place front) refl))))
  where
    whole : take place front ++ (drop place front ++ o ∷ later) ≡ front ++ o ∷ later
    whole = sym (append_assoc (take place front) (drop place front) (o ∷ later)) ∙ ap (λ (xs : List LaterOwner). xs ++ o ∷ later) (take-append-drop place front)

    some_left : (xs : List LaterOwner) (n : ℕ) (x : LaterOwner) (rest : List LaterOwner) → drop n xs ≡ x ∷ rest → n < length xs
    some_left [] zero x rest is = absurd (nothing is)
      where
        nothing : [] ≡ x ∷ rest → ⊥
        nothing e = cc e
    some_left [] (suc n) x rest is = absurd (cc is)
    some_left (y ∷ ys) zero x rest is = omega arith
    some_left (y ∷ ys) (suc n) x rest is = let less = some_left ys n x rest is in omega (arith, less)

    by : (xs : List LaterOwner) → drop place front ≡ xs → GoOnAlike (drop place front ++ o ∷ later) (o ∷ drop place front ++ later)
    by [] is = subst (λ (xs : List LaterOwner). GoOnAlike (xs ++ o ∷ later) (o ∷ xs ++ later)) (sym is) (same_on (o ∷ later))
    by (x ∷ xs) is = moved_on o (drop place front) later dated (inside (some_left front place x xs is))

-- ---- loops

split_at : (xs : List LaterOwner) (i : ℕ) (d : LaterOwner) → i < length xs → drop i xs ≡ get_or xs i d ∷ drop (i + 1) xs
split_at xs i d within = rw (add-one, drop-cons xs i d within) refl

-- one more that has the date
pub dated_more : (date : ℕ) (xs : List LaterOwner) (i j : ℕ) (x : LaterOwner) → i < length xs → j ≡ i + 1 → x ≡ get_or xs i x → x.date ≡ date → AreDated date (drop j xs) → AreDated date (drop i xs)
dated_more date xs i j x within next is same dated =
    subst (AreDated date) (sym (split_at xs i x within ∙ ap (λ (y : LaterOwner). y ∷ drop (i + 1) xs) (sym is)))
    (same, subst (λ k. AreDated date (drop k xs)) next dated)

pub dated_none : (date : ℕ) (xs : List LaterOwner) (i : ℕ) → length xs ≤ i → AreDated date (drop i xs)
dated_none date xs i past = subst (AreDated date) (sym (drop_all i xs past)) tt

-- the first of the owners, and the others
abbrev pub first_of : List LaterOwner → LaterOwner
first_of owners = get_or owners 0 (record { date = 0; resolver = 0 })

abbrev pub others_of : List LaterOwner → List LaterOwner
others_of owners = take (length owners - 1) (drop 1 owners)

both_parts : (owners : List LaterOwner) → 1 ≤ length owners → owners ≡ first_of owners ∷ others_of owners
both_parts [] some = absurd (omega arith)
both_parts (o ∷ later) some = ap (λ (xs : List LaterOwner). o ∷ xs) (sym (all_taken (o ∷ later) 1 (length (o ∷ later) - 1) (omega arith)))

-- the first of the owners is left out, or put among those before
pub first_left_out : (front owners : List LaterOwner) → 1 ≤ length owners → IsTrue (list_any (is_same_owner (first_of owners)) (others_of owners)) → WalkAlike (front ++ owners) (front ++ drop 1 owners)
first_left_out front owners some there =
    subst (λ (xs : List LaterOwner). WalkAlike (front ++ xs) (front ++ drop 1 xs)) (sym (both_parts owners some)) (left_out front (first_of owners) (others_of owners) there)

pub first_put_in : (front owners new : List LaterOwner) (place : ℕ) → 1 ≤ length owners → new ≡ take place front ++ first_of owners ∷ drop place front → place ≤ length front → AreDated (first_of owners).date (drop place front)
    → (place < length front → IsTrue (begins_dated (first_of owners).date (others_of owners))) → WalkAlike (front ++ owners) (new ++ drop 1 owners)
first_put_in front owners new place some put within dated inside =
    subst (λ (xs : List LaterOwner). WalkAlike (front ++ xs) (new ++ drop 1 xs)) (sym (both_parts owners some))
    (subst (λ (xs : List LaterOwner). WalkAlike (front ++ first_of owners ∷ others_of owners) (xs ++ others_of owners)) (sym put) (put_in front (first_of owners) (others_of owners) place within dated inside))

drop_one_more : (xs : List LaterOwner) (i : ℕ) → drop 1 (drop i xs) ≡ drop (suc i) xs
drop_one_more [] zero = refl
drop_one_more [] (suc i) = refl
drop_one_more (x ∷ xs) zero = refl
drop_one_more (x ∷ xs) (suc i) = drop_one_more xs i

pub next_merged : (owners merged new slice : List LaterOwner) (i j : ℕ) → i < length owners → j ≡ i + 1 → slice ≡ take (length owners - i) (drop i owners)
    → WalkAlike owners (merged ++ drop i owners) → WalkAlike (merged ++ slice) (new ++ drop 1 slice) → WalkAlike owners (new ++ drop j owners)
next_merged owners merged new slice i j within next is so_far more =
    let all : slice ≡ drop i owners = is ∙ all_taken owners i (length owners - i) (omega arith) in
    let step : suc i ≡ j = omega (arith, next) in
    walk_then owners (merged ++ drop i owners) (new ++ drop j owners) so_far
    (subst (λ (xs : List LaterOwner). WalkAlike (merged ++ drop i owners) (new ++ xs)) (drop_one_more owners i ∙ ap (λ k. drop k owners) step)
    (subst (λ (xs : List LaterOwner). WalkAlike (merged ++ xs) (new ++ drop 1 xs)) all more))

-- all are merged
pub all_merged : (owners merged : List LaterOwner) (i : ℕ) → length owners ≤ i → WalkAlike owners (merged ++ drop i owners) → WalkAlike owners merged
all_merged owners merged i past so_far =
    subst (WalkAlike owners) (ap (λ (xs : List LaterOwner). merged ++ xs) (drop_all i owners past) ∙ append-nil merged) so_far

pub merged_some : (old was new : List LaterOwner) → was ≡ old → 2 ≤ length old → WalkAlike was new → IsMerged old new
merged_some old was new is some walks = record { walks = subst (λ (xs : List LaterOwner). WalkAlike xs new) is walks; none = λ none. absurd (apart none) }
  where
    apart : old ≡ [] → ⊥
    apart none = let same : length old ≡ 0 = ap (λ (xs : List LaterOwner). length xs) none in omega (arith, same, some)

pub merged_same : (old new : List LaterOwner) → new ≡ old → IsMerged old new
merged_same old new same = record { walks = walk_same old new (sym same); none = λ none. same ∙ none }
