-- The walk over the owners of a key, from the newest back.
use Rattle.std.proofs.Common.{◌≡◌, ℕ, zero, suc, ◌-◌, ◌<◌, ◌≤◌, refl, sym, subst, ap, ap₂, ◌∙◌, Bool, true, false, not, ◌&&◌, ◌||◌, nat_eq, nat_lt, List, [], ◌∷◌, ◌++◌, map, length, take, drop, get_or, arith}
use Rattle.std.proofs.lemmas.Bool.{lt-ltb, le-ltb}
use Rattle.std.proofs.lemmas.List.{take-append-drop}
use Rattle.std.proofs.Math.Seq.{drop-cons}
use Rattle.model.specs.Owners.{Owner, is_last, none_dated_below, walk_visits}
use Rattle.dated_owners.specs.declared.later_owners.LaterOwner.{LaterOwner}
use Rattle.dated_owners.specs.LaterOwners.{owner_from, with_first}
use Rattle.dated_owners.specs.Flags.{Flags}
use Rattle.dated_owners.proofs.FlagLaws.{flags_then, flags_alike, flags_none}
use Rattle.dated_owners.proofs.LaterOwnerLaws.{first_owner}

-- the owners from place i on
abbrev pub from_place : ℕ → List LaterOwner → List Owner
from_place i later = map owner_from (drop i later)

next_place : (later : List LaterOwner) (i : ℕ) (o : LaterOwner) → i < length later → o ≡ get_or later i o → from_place i later ≡ owner_from o ∷ from_place (suc i) later
next_place later i o there is = ap (map owner_from) (drop-cons later i o there ∙ ap (λ (x : LaterOwner). x ∷ drop (suc i) later) (sym is))

-- the owner at a place, whatever stands for none
pub any_place : (later : List LaterOwner) (i : ℕ) (a b : LaterOwner) → i < length later → get_or later i a ≡ get_or later i b
any_place [] i a b there = absurd (omega arith)
any_place (o ∷ later) zero a b there = refl
any_place (o ∷ later) (suc i) a b there = any_place later i a b (omega arith)

none_left : (later : List LaterOwner) (i : ℕ) → length later ≤ i → from_place i later ≡ []
none_left [] zero past = refl
none_left [] (suc i) past = refl
none_left (o ∷ later) zero past = absurd (omega arith)
none_left (o ∷ later) (suc i) past = none_left later i (omega arith)

mapped : (xs ys : List LaterOwner) → map owner_from (xs ++ ys) ≡ map owner_from xs ++ map owner_from ys
mapped [] ys = refl
mapped (x ∷ xs) ys = ap (λ (zs : List Owner). owner_from x ∷ zs) (mapped xs ys)

-- all owners are those before place i, and these
split : (later : List LaterOwner) (i : ℕ) → with_first later ≡ with_first (take i later) ++ from_place i later
split later i = ap (λ (xs : List Owner). first_owner ∷ xs) (ap (map owner_from) (sym (take-append-drop i later)) ∙ mapped (take i later) (drop i later))

-- ---- the last owner

pub last_at : (later : List LaterOwner) (other : LaterOwner) (r : ℕ) → 1 ≤ length later → is_last r (with_first later) ≡ nat_eq (get_or later (length later - 1) other).resolver r
last_at [] other r some = absurd (omega arith)
last_at (o ∷ []) other r some = refl
last_at (o ∷ p ∷ later) other r some =
    let place : length (o ∷ p ∷ later) - 1 ≡ suc (length (p ∷ later) - 1) = omega arith in
    last_at (p ∷ later) other r (omega arith) ∙ sym (ap (λ k. nat_eq (get_or (o ∷ p ∷ later) k other).resolver r) place)

-- ---- the walk

-- the walk has visited the owners from place i on, and none of them stopped it
pub record IsWalked (later : List LaterOwner) (bound : ℕ) (before : List Bool) (i : ℕ) (flags : List Bool) : Type 0 where
  pub not_stopped : none_dated_below bound (from_place i later) ≡ true
  pub flagged : Flags before (λ r. walk_visits bound r (from_place i later)) flags

pub walk_start : (later : List LaterOwner) (bound : ℕ) (flags : List Bool) (i : ℕ) → length later ≤ i → IsWalked later bound flags i flags
walk_start later bound flags i past =
    let none = none_left later i past in
    record {
      not_stopped = ap (none_dated_below bound) none;
      flagged = flags_none flags (λ r. walk_visits bound r (from_place i later)) (λ r. ap (walk_visits bound r) none);
    }

turned : (visited here free : Bool) → free ≡ true → (visited || here) ≡ ((here && free) || visited)
turned true true true e = refl
turned true false true e = refl
turned false true true e = refl
turned false false true e = refl
turned visited here false e = absurd (cc)

-- one owner more is visited
with_owner : (bound : ℕ) (o : Owner) (later : List Owner) (before flags after : List Bool) → none_dated_below bound later ≡ true → Flags before (λ r. walk_visits bound r later) flags → Flags flags (λ r. nat_eq o.resolver r) after → Flags before (λ r. walk_visits bound r (o ∷ later)) after
with_owner bound o later before flags after free flagged one =
    flags_then before flags after (λ r. walk_visits bound r later) (λ r. nat_eq o.resolver r) (λ r. walk_visits bound r (o ∷ later)) flagged one
    (λ r. turned (walk_visits bound r later) (nat_eq o.resolver r) (none_dated_below bound later) free)

pub walk_visited : (later : List LaterOwner) (bound : ℕ) (before : List Bool) (i j : ℕ) (flags after : List Bool) (o : LaterOwner) → j ≡ suc i → i < length later → o ≡ get_or later i o → bound ≤ o.date → IsWalked later bound before j flags → Flags flags (λ r. nat_eq o.resolver r) after → IsWalked later bound before i after
walk_visited later bound before i j flags after o next there is young at one =
    let walked = subst (λ (k : ℕ). IsWalked later bound before k flags) next at in
    let same = next_place later i o there is in
    let rest = from_place (suc i) later in
    record {
      not_stopped = ap (none_dated_below bound) same ∙ ap₂ (λ s t. not s && t) (le-ltb o.date bound young) walked.not_stopped;
      flagged = flags_alike before after (λ r. walk_visits bound r (owner_from o ∷ rest)) (λ r. walk_visits bound r (from_place i later))
          (with_owner bound (owner_from o) rest before flags after walked.not_stopped walked.flagged one) (λ r. ap (walk_visits bound r) (sym same));
    }

not_free : (bound : ℕ) (front : List Owner) (o : Owner) (later : List Owner) → nat_lt o.date bound ≡ true → none_dated_below bound (front ++ o ∷ later) ≡ false
not_free bound [] o later old = ap (λ t. not t && none_dated_below bound later) old
not_free bound (p ∷ front) o later old = ap (λ t. not (nat_lt p.date bound) && t) (not_free bound front o later old) ∙ none (not (nat_lt p.date bound))
  where
    none : (t : Bool) → (t && false) ≡ false
    none true = refl
    none false = refl

-- an owner dated below the bound hides those before it
hidden : (bound r : ℕ) (front : List Owner) (o : Owner) (later : List Owner) → nat_lt o.date bound ≡ true → walk_visits bound r (front ++ o ∷ later) ≡ walk_visits bound r (o ∷ later)
hidden bound r [] o later old = refl
hidden bound r (p ∷ front) o later old =
    ap₂ (λ s t. (nat_eq p.resolver r && s) || t) (not_free bound front o later old) (hidden bound r front o later old) ∙ none (nat_eq p.resolver r) (walk_visits bound r (o ∷ later))
  where
    none : (s t : Bool) → ((s && false) || t) ≡ t
    none true t = refl
    none false t = refl

pub walk_stopped : (later : List LaterOwner) (bound : ℕ) (before : List Bool) (i j : ℕ) (flags after : List Bool) (o : LaterOwner) → j ≡ suc i → i < length later → o ≡ get_or later i o → o.date < bound → IsWalked later bound before j flags → Flags flags (λ r. nat_eq o.resolver r) after → Flags before (λ r. walk_visits bound r (with_first later)) after
walk_stopped later bound before i j flags after o next there is old at one =
    let walked = subst (λ (k : ℕ). IsWalked later bound before k flags) next at in
    let rest = from_place (suc i) later in
    flags_alike before after (λ r. walk_visits bound r (owner_from o ∷ rest)) (λ r. walk_visits bound r (with_first later))
    (with_owner bound (owner_from o) rest before flags after walked.not_stopped walked.flagged one)
    (λ r.
    sym (ap (walk_visits bound r) (split later i ∙ ap (λ (xs : List Owner). with_first (take i later) ++ xs) (next_place later i o there is))
    ∙ hidden bound r (with_first (take i later)) (owner_from o) rest (lt-ltb o.date bound old)))

pub walk_ended : (later : List LaterOwner) (bound : ℕ) (before flags after : List Bool) → IsWalked later bound before 0 flags → Flags flags (λ r. nat_eq 0 r) after → Flags before (λ r. walk_visits bound r (with_first later)) after
walk_ended later bound before flags after walked one = with_owner bound first_owner (map owner_from later) before flags after walked.not_stopped walked.flagged one
