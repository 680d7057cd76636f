-- What the order of keys says of ranges: the keys that a range holds, and when two ranges overlap.
use Rattle.std.proofs.Common.{◌≡◌, ◌↔◌, ⊎_elim, refl, sym, Bool, true, false, cond, not, ◌&&◌, ◌||◌, IsTrue, Some, None, length}
use Rattle.std.specs.Prelude.{nat_lt}
use Rattle.std.proofs.lemmas.Bool.{and_parts, and_from, or_cases, or_right, or_left, not-true, not_from_false}
use Rattle.system_keys.specs.declared.refusal.Refusal.TheVariants.{KeyTooLong, KeyOutside, EmptyRange}
use Rattle.system_keys.specs.Limits.{range_fault, key_limit, end_limit, key_space_end}
use Rattle.system_keys.specs.Keys.{Key, Range, is_key_below, is_key_up_to, holds, is_shared, Overlap, overlaps}
use Rattle.system_keys.proofs.KeyOrder.{up_to_below, not_below_itself, not_below_back}

-- a key lies in a range: it is not below the begin, and it is below the end
pub record IsInside (range : Range) (key : Key) : Type 0 where
  pub begun : is_key_below key range.begin ≡ false
  pub ended : is_key_below key range.end ≡ true

pub inside_from_holds : (range : Range) (key : Key) → IsTrue (holds range key) → IsInside range key
inside_from_holds range key h =
    let parts = and_parts (not (is_key_below key range.begin)) (is_key_below key range.end) h in
    record { begun = not-true (is_key_below key range.begin) parts.0; ended = parts.1 }

pub holds_from_inside : (range : Range) (key : Key) → IsInside range key → IsTrue (holds range key)
holds_from_inside range key h = and_from (not (is_key_below key range.begin)) (is_key_below key range.end) (not_from_false (is_key_below key range.begin) h.begun) h.ended

-- a range that is not empty holds its begin
pub holds_begin : (range : Range) → is_key_below range.begin range.end ≡ true → IsTrue (holds range range.begin)
holds_begin range h = holds_from_inside range range.begin (record { begun = not_below_itself range.begin; ended = h })

-- a key between the begin of a range and a key of it is in the range
pub inside_below : (range : Range) (low key : Key) → is_key_below low range.begin ≡ false → is_key_below key low ≡ false → IsInside range key → IsInside range low
inside_below range low key h k inside = record { begun = h; ended = up_to_below low key range.end k inside.ended }

shared_from : (p q : Range) (key : Key) → IsInside p key → IsInside q key → IsTrue (is_shared p q key)
shared_from p q key a b = and_from (holds p key) (holds q key) (holds_from_inside p key a) (holds_from_inside q key b)

-- the ranges overlap, and so the greater of the two begins is in both
pub overlaps_from_overlap : (p q : Range) → Overlap p q → IsTrue (overlaps p q)
overlaps_from_overlap p q o = by (is_key_below p.begin q.begin) refl
  where
    in_both : (IsTrue (holds p o.key)) × (IsTrue (holds q o.key))
    in_both = and_parts (holds p o.key) (holds q o.key) o.shared

    in_p : IsInside p o.key
    in_p = inside_from_holds p o.key in_both.0

    in_q : IsInside q o.key
    in_q = inside_from_holds q o.key in_both.1

    by : (t : Bool) → is_key_below p.begin q.begin ≡ t → IsTrue (overlaps p q)
    by true e = or_right (is_shared p q p.begin) (is_shared p q q.begin) (shared_from p q q.begin (inside_below p q.begin o.key (not_below_back p.begin q.begin e) in_q.begun in_p) (inside_below q q.begin o.key (not_below_itself q.begin) in_q.begun in_q))
    by false e = or_left (is_shared p q p.begin) (is_shared p q q.begin) (shared_from p q p.begin (inside_below p p.begin o.key (not_below_itself p.begin) in_p.begun in_p) (inside_below q p.begin o.key e in_p.begun in_q))

pub overlap_from_overlaps : (p q : Range) → IsTrue (overlaps p q) → Overlap p q
overlap_from_overlaps p q h =
    ⊎_elim (λ a. record { key = p.begin; shared = a }) (λ b. record { key = q.begin; shared = b }) (or_cases (is_shared p q p.begin) (is_shared p q q.begin) h)

-- the test of overlap is right, for empty ranges too
pub overlap_iff : (p q : Range) → IsTrue (overlaps p q) ↔ Overlap p q
overlap_iff p q = (overlap_from_overlaps p q, overlaps_from_overlap p q)

-- two ranges overlap, so each begins below the end of the other
pub ends_from_overlap : (p q : Range) → Overlap p q → (is_key_below p.begin q.end ≡ true) × (is_key_below q.begin p.end ≡ true)
ends_from_overlap p q o =
    let in_both = and_parts (holds p o.key) (holds q o.key) o.shared in
    let in_p = inside_from_holds p o.key in_both.0 in
    let in_q = inside_from_holds q o.key in_both.1 in
    (up_to_below p.begin o.key q.end in_p.begun in_q.ended, up_to_below q.begin o.key p.end in_q.begun in_p.ended)

-- two ranges that are not empty overlap where each begins below the end of the other
pub overlap_from_ends : (p q : Range) → is_key_below p.begin p.end ≡ true → is_key_below q.begin q.end ≡ true → is_key_below p.begin q.end ≡ true → is_key_below q.begin p.end ≡ true → Overlap p q
overlap_from_ends p q hp hq a b = by (is_key_below p.begin q.begin) refl
  where
    by : (t : Bool) → is_key_below p.begin q.begin ≡ t → Overlap p q
    by true e = record { key = q.begin; shared = shared_from p q q.begin (record { begun = not_below_back p.begin q.begin e; ended = b }) (record { begun = not_below_itself q.begin; ended = hq }) }
    by false e = record { key = p.begin; shared = shared_from p q p.begin (record { begun = not_below_itself p.begin; ended = hp }) (record { begun = e; ended = a }) }

-- two comparisons of ends decide whether two ranges that are not empty overlap
pub overlap_of_ends : (p q : Range) → is_key_below p.begin p.end ≡ true → is_key_below q.begin q.end ≡ true → Overlap p q ↔ ((is_key_below p.begin q.end ≡ true) × (is_key_below q.begin p.end ≡ true))
overlap_of_ends p q hp hq = (ends_from_overlap p q, λ ends. overlap_from_ends p q hp hq ends.0 ends.1)

same_tests : (s t : Bool) → (s ≡ true → t ≡ true) → (t ≡ true → s ≡ true) → s ≡ t
same_tests true t f g = sym (f refl)
same_tests false true f g = g refl
same_tests false false f g = refl

-- the same as an equation of tests
pub overlaps_of_ends : (p q : Range) → is_key_below p.begin p.end ≡ true → is_key_below q.begin q.end ≡ true → overlaps p q ≡ (is_key_below p.begin q.end && is_key_below q.begin p.end)
overlaps_of_ends p q hp hq =
    same_tests (overlaps p q) (is_key_below p.begin q.end && is_key_below q.begin p.end) to from
  where
    to : overlaps p q ≡ true → (is_key_below p.begin q.end && is_key_below q.begin p.end) ≡ true
    to h =
        let ends = ends_from_overlap p q (overlap_from_overlaps p q h) in
        and_from (is_key_below p.begin q.end) (is_key_below q.begin p.end) ends.0 ends.1

    from : (is_key_below p.begin q.end && is_key_below q.begin p.end) ≡ true → overlaps p q ≡ true
    from h =
        let ends = and_parts (is_key_below p.begin q.end) (is_key_below q.begin p.end) h in
        overlaps_from_overlap p q (overlap_from_ends p q hp hq ends.0 ends.1)

-- a range without a fault begins below its end
begins_by : (a b c : Bool) → cond a (Some KeyTooLong) (cond b (Some KeyOutside) (cond (not c) (Some EmptyRange) None)) ≡ None → c ≡ true
begins_by true b c e = absurd (cc)
begins_by false true c e = absurd (cc)
begins_by false false true e = refl
begins_by false false false e = absurd (cc)

pub begins_below : (begin end : Key) → range_fault begin end ≡ None → is_key_below begin end ≡ true
begins_below begin end e = begins_by (nat_lt key_limit (length begin) || nat_lt end_limit (length end)) (not (is_key_up_to end key_space_end) || not (is_key_below begin key_space_end)) (is_key_below begin end) e

-- of two ranges without a fault, the two comparisons of ends are the test, and hold exactly where a key is in both
pub ends_test : (p q : Range) → range_fault p.begin p.end ≡ None → range_fault q.begin q.end ≡ None → overlaps p q ≡ (is_key_below p.begin q.end && is_key_below q.begin p.end)
ends_test p q hp hq = overlaps_of_ends p q (begins_below p.begin p.end hp) (begins_below q.begin q.end hq)
