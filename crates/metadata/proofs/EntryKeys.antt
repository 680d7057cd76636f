-- How keys of two classes compare, and that the front of a key is of its class.
use Rattle.std.proofs.Common.{◌≡◌, refl, sym, ap, ap₂, ◌∙◌, ℕ, zero, suc, ◌≤◌, length, take, drop, [], ◌∷◌, ◌++◌, Bool, true, false, if◌then◌else◌, ◌&&◌, Ordering, Less, Equal, Greater, is_lt, nat_cmp, nat_eq, arith}
use Rattle.std.specs.List.{starts_with}
use Rattle.std.specs.Ordering.{ordering_reverse, ordering_then}
use Rattle.std.specs.Cmp.{nat_cmp_total}
use Rattle.std.proofs.lemmas.Bool.{eq-eqb}
use Rattle.std.proofs.lemmas.Cmp.{tied_itself, nat_list_cmp_total}
use Rattle.std.proofs.lemmas.Map.Lookups.{exact_unsigned}
use Rattle.system_keys.specs.Keys.{Key, is_key_below}
use Rattle.system_keys.specs.Families.{key_servers_family, is_in}
use Rattle.system_keys.proofs.KeyOrder.{below_up_to}
use Rattle.metadata.specs.declared.entry_key.KeyClass.{KeyClass}
use Rattle.metadata.specs.declared.entry_key.KeyClass.TheVariants as classes
use Rattle.metadata.specs.EntryKeys.{class_of, whole_key}
use Rattle.metadata.proofs.KeyValues.{key_cmp}
use Rattle.metadata.proofs.HiddenRuns.{begun}

abbrev prefix : Key
prefix = key_servers_family.prefix

-- ---- what the class of a key says

-- the class, by whether the key is of the family and whether it is below the prefix
abbrev class_by : (own below : Bool) → KeyClass
class_by own below = if own then classes.KeyServers else if below then classes.Before else classes.After

before_by : (own below : Bool) → class_by own below ≡ classes.Before → below ≡ true
before_by true below h = absurd (cc)
before_by false true h = refl
before_by false false h = absurd (cc)

own_by : (own below : Bool) → class_by own below ≡ classes.KeyServers → own ≡ true
own_by true below h = refl
own_by false true h = absurd (cc)
own_by false false h = absurd (cc)

after_by : (own below : Bool) → class_by own below ≡ classes.After → (own ≡ false) × (below ≡ false)
after_by true below h = absurd (cc)
after_by false true h = absurd (cc)
after_by false false h = (refl, refl)

-- no key is below the empty one
none_below : (a : Key) → is_key_below a [] ≡ false
none_below [] = refl
none_below (x ∷ a) = refl

-- a keyServers key is not below the prefix
own_above : (a : Key) → class_of a ≡ classes.KeyServers → is_key_below a prefix ≡ false
own_above a h =
    let own : is_in key_servers_family a ≡ true = own_by (is_in key_servers_family a) (is_key_below a prefix) h in
    ap (λ (k : Key). is_key_below k prefix) (begun prefix a own) ∙ none_below (drop (length prefix) a)

-- ---- keys of two classes

less : (r : Ordering) → is_lt r ≡ true → r ≡ Less
less Less h = refl
less Equal h = absurd (cc)
less Greater h = absurd (cc)

-- a key that does not begin with the prefix and is not below it is above all keys that begin with it
above_front : (p r a : Key) → is_key_below a p ≡ false → starts_with nat_eq a p ≡ false → key_cmp (p ++ r) a ≡ Less
above_front [] r [] h k = absurd (cc)
above_front [] r (y ∷ a) h k = absurd (cc)
above_front (x ∷ p) r [] h k = absurd (cc)
above_front (x ∷ p) r (y ∷ a) h k = by (nat_cmp x y) refl (above_front p r a)
  where
    by : (o : Ordering) → nat_cmp x y ≡ o → (is_key_below a p ≡ false → starts_with nat_eq a p ≡ false → key_cmp (p ++ r) a ≡ Less) → ordering_then o (key_cmp (p ++ r) a) ≡ Less
    by Less e later = refl
    by Equal e later =
        let same : x ≡ y = exact_unsigned x y e in
        let tied : nat_cmp y x ≡ Equal = ap (nat_cmp y) same ∙ tied_itself nat_cmp_total y in
        let begins : nat_eq x y ≡ true = eq-eqb x y same in
        later (ap (λ (o : Ordering). is_lt (ordering_then o (key_cmp a p))) (sym tied) ∙ h) (ap (λ (t : Bool). t && starts_with nat_eq a p) (sym begins) ∙ k)
    by Greater e later =
        let below : nat_cmp y x ≡ Less = nat_cmp_total.antisymm y x ∙ ap ordering_reverse e in
        let two : true ≡ false = ap (λ (o : Ordering). is_lt (ordering_then o (key_cmp a p))) (sym below) ∙ h in absurd (cc)

pub before_own : (a b : Key) → class_of a ≡ classes.Before → class_of b ≡ classes.KeyServers → key_cmp a b ≡ Less
before_own a b h k = less (key_cmp a b) (below_up_to a prefix b (before_by (is_in key_servers_family a) (is_key_below a prefix) h) (own_above b k))

pub before_after : (a b : Key) → class_of a ≡ classes.Before → class_of b ≡ classes.After → key_cmp a b ≡ Less
before_after a b h k = less (key_cmp a b) (below_up_to a prefix b (before_by (is_in key_servers_family a) (is_key_below a prefix) h) (after_by (is_in key_servers_family b) (is_key_below b prefix) k).1)

pub own_after : (a b : Key) → class_of a ≡ classes.KeyServers → class_of b ≡ classes.After → key_cmp a b ≡ Less
own_after a b h k =
    let out = after_by (is_in key_servers_family b) (is_key_below b prefix) k in
    ap (λ (key : Key). key_cmp key b) (begun prefix a (own_by (is_in key_servers_family a) (is_key_below a prefix) h))
    ∙ above_front prefix (drop (length prefix) a) b out.1 out.0

pub turned : (a b : Key) → key_cmp b a ≡ Less → key_cmp a b ≡ Greater
turned a b h = nat_list_cmp_total.antisymm a b ∙ ap ordering_reverse h

-- keys of one class compare as what is behind the prefix does
alike : (class : KeyClass) (r s : Key) → key_cmp r s ≡ key_cmp (whole_key class r) (whole_key class s)
alike classes.Before r s = refl
alike classes.KeyServers r s = refl
alike classes.After r s = refl

pub same_class : (class other : KeyClass) (r s : Key) → class ≡ other → key_cmp r s ≡ key_cmp (whole_key class r) (whole_key other s)
same_class class other r s same = alike class r s ∙ ap (λ (c : KeyClass). key_cmp (whole_key class r) (whole_key c s)) same

-- ---- the front of a key

begins_take : (p r : Key) (n : ℕ) → length p ≤ n → starts_with nat_eq (take n r) p ≡ starts_with nat_eq r p
begins_take [] r n h = refl
begins_take (x ∷ p) r zero h = absurd (omega arith)
begins_take (x ∷ p) [] (suc n) h = refl
begins_take (x ∷ p) (y ∷ r) (suc n) h = ap (λ (t : Bool). nat_eq x y && t) (begins_take p r n (omega arith))

below_take : (p r : Key) (n : ℕ) → length p ≤ n → is_key_below (take n r) p ≡ is_key_below r p
below_take [] r n h = none_below (take n r) ∙ sym (none_below r)
below_take (x ∷ p) r zero h = absurd (omega arith)
below_take (x ∷ p) [] (suc n) h = refl
below_take (x ∷ p) (y ∷ r) (suc n) h = by (nat_cmp y x) (below_take p r n (omega arith))
  where
    by : (o : Ordering) → is_key_below (take n r) p ≡ is_key_below r p → is_lt (ordering_then o (key_cmp (take n r) p)) ≡ is_lt (ordering_then o (key_cmp r p))
    by Less later = refl
    by Equal later = later
    by Greater later = refl

same_front : (r : Key) → class_of (take 15 r) ≡ class_of r
same_front r = ap₂ class_by (begins_take prefix r 15 (omega arith)) (below_take prefix r 15 (omega arith))

pub front_class : (class : KeyClass) (r : Key) → class_of (whole_key class r) ≡ class → class_of (whole_key class (take 15 r)) ≡ class
front_class classes.Before r h = same_front r ∙ h
front_class classes.KeyServers r h = refl
front_class classes.After r h = same_front r ∙ h

up_to_take : (n : ℕ) (r : Key) → is_key_below r (take n r) ≡ false
up_to_take zero [] = refl
up_to_take zero (x ∷ r) = refl
up_to_take (suc n) [] = refl
up_to_take (suc n) (x ∷ r) = ap (λ (o : Ordering). is_lt (ordering_then o (key_cmp r (take n r)))) (tied_itself nat_cmp_total x) ∙ up_to_take n r

-- the front of a key is not above it
pub front_up_to : (class : KeyClass) (r : Key) → is_key_below (whole_key class r) (whole_key class (take 15 r)) ≡ false
front_up_to classes.Before r = up_to_take 15 r
front_up_to classes.KeyServers r = up_to_take 15 r
front_up_to classes.After r = up_to_take 15 r
