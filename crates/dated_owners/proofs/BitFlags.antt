-- Flags that are the bits of a number.
use Rattle.std.proofs.Common.{◌≡◌, ℕ, zero, suc, ◌+◌, ◌-◌, ◌*◌, ◌%◌, ◌^◌, ◌<◌, ◌≤◌, min, max, refl, sym, ap, ap₂, ◌∙◌, w64, Bool, true, false, ◌||◌, ◌&&◌, nat_eq, nat_lt, bit_and, bit_or, List, [], ◌∷◌, length, filter, arith}
use Rattle.std.specs.Int.{bit_at}
use Rattle.std.specs.List.{list_any}
use Rattle.std.proofs.lemmas.Bool.{eqb-true, eqb-false, lt-ltb, le-ltb, ltb-true, ltb-false}
use Rattle.std.proofs.lemmas.Nat.Bits.{bit_at-zero, bit_at-lt, bit_at_and, bit_at_or, bit_at_ones, bit_at_ones_above, bit_at_set_same, bit_at_set_other}
use Rattle.model.specs.Shares.{each_below}
use Rattle.dated_owners.specs.Flags.{is_flagged, flags_from, flags_of, Flags, AreAll, KeepsFirst, NonePast}
use Rattle.dated_owners.proofs.FlagLaws.{in_filter, none_above, filter_below}

-- ---- one flag for each bit

as_many_from : (n i bits : ℕ) → length (flags_from n i bits) ≡ n
unfolding flags_from
as_many_from zero i bits = refl
as_many_from (suc n) i bits = ap suc (as_many_from n (suc i) bits)

flag_from : (n i bits r : ℕ) → r < n → is_flagged (flags_from n i bits) r ≡ nat_eq (bit_at bits (i + r)) 1
unfolding flags_from
flag_from zero i bits r below = absurd (omega arith)
flag_from (suc n) i bits zero below =
    let same : i ≡ i + 0 = omega arith in
    ap (λ k. nat_eq (bit_at bits k) 1) same
flag_from (suc n) i bits (suc r) below =
    let same : suc i + r ≡ i + suc r = omega arith in
    flag_from n (suc i) bits r (omega arith) ∙ ap (λ k. nat_eq (bit_at bits k) 1) same

as_many : (bits : ℕ) → length (flags_of bits) ≡ 64
unfolding flags_of
as_many bits = as_many_from 64 0 bits

pub flag_is : (bits r : ℕ) → r < 64 → is_flagged (flags_of bits) r ≡ nat_eq (bit_at bits r) 1
unfolding flags_of
flag_is bits r below =
    let same : 0 + r ≡ r = omega arith in
    flag_from 64 0 bits r below ∙ ap (λ k. nat_eq (bit_at bits k) 1) same

no_flag : (flags : List Bool) (r : ℕ) → length flags ≤ r → is_flagged flags r ≡ false
no_flag [] r past = refl
no_flag (flag ∷ flags) zero past = absurd (omega arith)
no_flag (flag ∷ flags) (suc r) past = no_flag flags r (omega arith)

pub none_past : (bits r : ℕ) → 64 ≤ r → is_flagged (flags_of bits) r ≡ false
none_past bits r past = no_flag (flags_of bits) r (omega (arith, as_many bits))

-- ---- what the bits become

or_true : (p : Bool) → true ≡ (p || true)
or_true true = refl
or_true false = refl

or_false : (p : Bool) → p ≡ (p || false)
or_false true = refl
or_false false = refl

and_true : (p : Bool) → (p && true) ≡ p
and_true true = refl
and_true false = refl

and_false : (p : Bool) → (p && false) ≡ false
and_false true = refl
and_false false = refl

either_bit : (x y : ℕ) → x < 2 → y < 2 → nat_eq (max x y) 1 ≡ (nat_eq x 1 || nat_eq y 1)
either_bit zero zero a b = refl
either_bit zero (suc zero) a b = refl
either_bit zero (suc (suc y)) a b = absurd (omega arith)
either_bit (suc zero) zero a b = refl
either_bit (suc zero) (suc zero) a b = refl
either_bit (suc zero) (suc (suc y)) a b = absurd (omega arith)
either_bit (suc (suc x)) y a b = absurd (omega arith)

both_bits : (x y : ℕ) → x < 2 → y < 2 → nat_eq (min x y) 1 ≡ (nat_eq x 1 && nat_eq y 1)
both_bits zero zero a b = refl
both_bits zero (suc zero) a b = refl
both_bits zero (suc (suc y)) a b = absurd (omega arith)
both_bits (suc zero) zero a b = refl
both_bits (suc zero) (suc zero) a b = refl
both_bits (suc zero) (suc (suc y)) a b = absurd (omega arith)
both_bits (suc (suc x)) y a b = absurd (omega arith)

-- no bit is 1
pub none_flagged : AreAll false (flags_of 0)
none_flagged = record { as_many = as_many 0; each = λ r below. flag_is 0 r below ∙ ap (λ n. nat_eq n 1) (bit_at-zero r) }

-- each bit is 1
pub all_flagged : AreAll true (flags_of (2 ^ 64 - 1))
all_flagged = record { as_many = as_many (2 ^ 64 - 1); each = λ r below. flag_is (2 ^ 64 - 1) r below ∙ ap (λ n. nat_eq n 1) (bit_at_ones 64 r below) }

-- one bit more is 1
pub one_flagged : (bits k : ℕ) → k < 64 → Flags (flags_of bits) (λ r. nat_eq k r) (flags_of (bit_or bits (1 * 2 ^ k % 2 ^ 64)))
one_flagged bits k within = record { as_many = as_many (bit_or bits (1 * 2 ^ k % 2 ^ 64)) ∙ sym (as_many bits); each = λ r there. by r (omega (arith, there, as_many bits)) (nat_eq k r) refl }
  where
    next : ℕ
    next = bit_or bits (1 * 2 ^ k % 2 ^ 64)

    by : (r : ℕ) → r < 64 → (t : Bool) → nat_eq k r ≡ t → is_flagged (flags_of next) r ≡ (is_flagged (flags_of bits) r || t)
    by r below true e =
        flag_is next r below
        ∙ ap (λ (n : ℕ). nat_eq (bit_at next n) 1) (sym (eqb-true k r e))
        ∙ ap (λ n. nat_eq n 1) (bit_at_set_same w64 bits k within)
        ∙ or_true (is_flagged (flags_of bits) r)
    by r below false e =
        flag_is next r below
        ∙ ap (λ n. nat_eq n 1) (bit_at_set_other w64 bits k within r (λ same. eqb-false k r e (sym same)))
        ∙ sym (flag_is bits r below)
        ∙ or_false (is_flagged (flags_of bits) r)

-- a resolver that has no bit
pub past_flagged : (bits k : ℕ) → 64 ≤ k → Flags (flags_of bits) (λ r. nat_eq k r) (flags_of bits)
past_flagged bits k past = record { as_many = refl; each = λ r there. by r (omega (arith, there, as_many bits)) (nat_eq k r) refl }
  where
    by : (r : ℕ) → r < 64 → (t : Bool) → nat_eq k r ≡ t → is_flagged (flags_of bits) r ≡ (is_flagged (flags_of bits) r || t)
    by r below true e = let same : k ≡ r = eqb-true k r e in absurd (omega arith)
    by r below false e = or_false (is_flagged (flags_of bits) r)

-- the bits of two numbers
pub both_flagged : (bits others : ℕ) → Flags (flags_of bits) (is_flagged (flags_of others)) (flags_of (bit_or bits others))
both_flagged bits others = record {
  as_many = as_many (bit_or bits others) ∙ sym (as_many bits);
  each = λ r there.
      let below : r < 64 = omega (arith, there, as_many bits) in
      flag_is (bit_or bits others) r below
      ∙ ap (λ n. nat_eq n 1) (bit_at_or bits others r)
      ∙ either_bit (bit_at bits r) (bit_at others r) (bit_at-lt bits r) (bit_at-lt others r)
      ∙ ap₂ (λ x y. x || y) (sym (flag_is bits r below)) (sym (flag_is others r below));
}

-- the first n bits
pub first_kept : (bits n mask : ℕ) → n < 64 → mask ≡ 2 ^ n - 1 → KeepsFirst n (flags_of bits) (flags_of (bit_and bits mask))
first_kept bits n mask within is r = by (nat_lt r 64) refl
  where
    inside : r < 64 → (t : Bool) → nat_lt r n ≡ t → (nat_eq (bit_at bits r) 1 && nat_eq (bit_at mask r) 1) ≡ (t && is_flagged (flags_of bits) r)
    inside below true e =
        ap (λ (m : ℕ). nat_eq (bit_at bits r) 1 && nat_eq m 1) (ap (λ (k : ℕ). bit_at k r) is ∙ bit_at_ones n r (ltb-true r n e))
        ∙ and_true (nat_eq (bit_at bits r) 1)
        ∙ sym (flag_is bits r below)
    inside below false e =
        ap (λ (m : ℕ). nat_eq (bit_at bits r) 1 && nat_eq m 1) (ap (λ (k : ℕ). bit_at k r) is ∙ bit_at_ones_above n r (ltb-false r n e))
        ∙ and_false (nat_eq (bit_at bits r) 1)

    by : (t : Bool) → nat_lt r 64 ≡ t → is_flagged (flags_of (bit_and bits mask)) r ≡ (nat_lt r n && is_flagged (flags_of bits) r)
    by true e =
        let below : r < 64 = ltb-true r 64 e in
        flag_is (bit_and bits mask) r below
        ∙ ap (λ m. nat_eq m 1) (bit_at_and bits mask r)
        ∙ both_bits (bit_at bits r) (bit_at mask r) (bit_at-lt bits r) (bit_at-lt mask r)
        ∙ inside below (nat_lt r n) refl
    by false e =
        let past : 64 ≤ r = ltb-false r 64 e in
        none_past (bit_and bits mask) r past
        ∙ sym (and_false (nat_lt r n))
        ∙ ap (λ (b : Bool). nat_lt r n && b) (sym (none_past bits r past))

-- all bits
pub all_kept : (bits n : ℕ) → 64 ≤ n → KeepsFirst n (flags_of bits) (flags_of bits)
all_kept bits n many r = by (nat_lt r n) refl
  where
    by : (t : Bool) → nat_lt r n ≡ t → is_flagged (flags_of bits) r ≡ (t && is_flagged (flags_of bits) r)
    by true e = refl
    by false e = let past : n ≤ r = ltb-false r n e in none_past bits r (omega arith)

-- ---- a set of the first n resolvers

pub set_past : (n : ℕ) (before after : List Bool) → KeepsFirst n before after → NonePast n after
set_past n before after keeps r past = keeps r ∙ ap (λ (b : Bool). b && is_flagged before r) (le-ltb r n past)

pub set_same : (n : ℕ) (before after : List Bool) → KeepsFirst n before after → filter (is_flagged after) (each_below n) ≡ filter (is_flagged before) (each_below n)
set_same n before after keeps =
    filter_below (is_flagged after) (is_flagged before) n (λ r below. keeps r ∙ ap (λ (b : Bool). b && is_flagged before r) (lt-ltb r n below))

-- a resolver is in the set exactly if it is flagged
pub in_set : (n : ℕ) (flags : List Bool) (r : ℕ) → NonePast n flags → list_any (λ a. nat_eq a r) (filter (is_flagged flags) (each_below n)) ≡ is_flagged flags r
in_set n flags r none = by (nat_lt r n) refl
  where
    by : (t : Bool) → nat_lt r n ≡ t → list_any (λ a. nat_eq a r) (filter (is_flagged flags) (each_below n)) ≡ is_flagged flags r
    by true e = in_filter (is_flagged flags) r n (ltb-true r n e)
    by false e = let past : n ≤ r = ltb-false r n e in none_above (is_flagged flags) r n past ∙ sym (none r past)
