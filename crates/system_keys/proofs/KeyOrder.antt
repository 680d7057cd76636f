-- The order of keys is strict and total: what follows from the comparison of lists.
use Rattle.std.proofs.Common.{◌≡◌, ◌⊎◌, inl, inr, refl, sym, ap, ◌∙◌, Bool, true, false, not, Ordering, Less, Equal, Greater, is_lt, is_gt, is_le, nat_cmp}
use Rattle.std.proofs.lemmas.Bool.{both_ways, true_from_ne_false}
use Rattle.std.proofs.lemmas.Cmp.{nat_list_cmp_total, tied_itself, upto}
use Rattle.std.proofs.lemmas.Map.Lookups.{exact_bytes}
use Rattle.std.specs.Cmp.Lexicographic.{slice_cmp}
use Rattle.std.specs.Ordering.{ordering_reverse}
use Rattle.system_keys.specs.Keys.{Key, is_key_below, is_key_up_to}

less : (r : Ordering) → is_lt r ≡ true → r ≡ Less
less Less h = refl
less Equal h = absurd (cc)
less Greater h = absurd (cc)

turned : (r : Ordering) → is_gt (ordering_reverse r) ≡ is_lt r
turned Less = refl
turned Equal = refl
turned Greater = refl

turned_up_to : (r : Ordering) → is_le (ordering_reverse r) ≡ not (is_lt r)
turned_up_to Less = refl
turned_up_to Equal = refl
turned_up_to Greater = refl

tie : (r : Ordering) → is_lt r ≡ false → is_gt r ≡ false → r ≡ Equal
tie Less h k = absurd (cc)
tie Equal h k = refl
tie Greater h k = absurd (cc)

above : (a b : Key) → is_gt (slice_cmp nat_cmp a b) ≡ is_key_below b a
above a b = ap is_gt (nat_list_cmp_total.antisymm a b) ∙ turned (slice_cmp nat_cmp b a)

-- no key is below itself
pub not_below_itself : (a : Key) → is_key_below a a ≡ false
not_below_itself a = ap is_lt (tied_itself nat_list_cmp_total a)

pub below_trans : (a b c : Key) → is_key_below a b ≡ true → is_key_below b c ≡ true → is_key_below a c ≡ true
below_trans a b c h k = ap is_lt (nat_list_cmp_total.trans a b c (less (slice_cmp nat_cmp a b) h) (less (slice_cmp nat_cmp b c) k))

-- a is at or below b, and b at or below c
pub up_to_trans : (a b c : Key) → is_key_below b a ≡ false → is_key_below c b ≡ false → is_key_below c a ≡ false
up_to_trans a b c h k = sym (above a c) ∙ upto nat_list_cmp_total a b c (above a b ∙ h) (above b c ∙ k)

-- a is below b, and b at or below c
pub below_up_to : (a b c : Key) → is_key_below a b ≡ true → is_key_below c b ≡ false → is_key_below a c ≡ true
below_up_to a b c h k = true_from_ne_false (is_key_below a c) (λ e. both_ways (is_key_below a b) (up_to_trans b c a k e) h)

-- a is at or below b, and b below c
pub up_to_below : (a b c : Key) → is_key_below b a ≡ false → is_key_below b c ≡ true → is_key_below a c ≡ true
up_to_below a b c h k = true_from_ne_false (is_key_below a c) (λ e. both_ways (is_key_below b c) (up_to_trans c a b e h) k)

-- of two keys at most one is below the other
pub not_below_back : (a b : Key) → is_key_below a b ≡ true → is_key_below b a ≡ false
not_below_back a b h = back (is_key_below b a) refl
  where
    back : (t : Bool) → is_key_below b a ≡ t → t ≡ false
    back true e = absurd (both_ways (is_key_below a a) (not_below_itself a) (below_trans a b a h e))
    back false e = refl

-- two keys of which none is below the other are equal
pub equal_unless_below : (a b : Key) → is_key_below a b ≡ false → is_key_below b a ≡ false → a ≡ b
equal_unless_below a b h k = exact_bytes a b (tie (slice_cmp nat_cmp a b) h (above a b ∙ k))

-- one of two keys is below the other, or they are equal
pub below_cases : (a b : Key) → (is_key_below a b ≡ true) ⊎ ((a ≡ b) ⊎ (is_key_below b a ≡ true))
below_cases a b = by (is_key_below a b) (is_key_below b a) refl refl
  where
    by : (s t : Bool) → is_key_below a b ≡ s → is_key_below b a ≡ t → (is_key_below a b ≡ true) ⊎ ((a ≡ b) ⊎ (is_key_below b a ≡ true))
    by true t h k = inl h
    by false true h k = inr (inr k)
    by false false h k = inr (inl (equal_unless_below a b h k))

-- at or below is not above
pub up_to_is : (a b : Key) → is_key_up_to a b ≡ not (is_key_below b a)
up_to_is a b = ap is_le (nat_list_cmp_total.antisymm a b) ∙ turned_up_to (slice_cmp nat_cmp b a)
