-- Where a part stands among parts whose numbers rise.
use Rattle.std.proofs.Common.{◌≡◌, refl, ◌⊎◌, nat_eq, is_some, MatchOption, Option, ℕ, zero, suc, ◌<◌, ◌≤◌, sym, ap, ◌∙◌, Bool, true, false, nat_lt, List, [], ◌∷◌, length, get_or, Contains, slice_get, option_map, Some, None, inl, inr, arith}
use Rattle.std.specs.List.{AllWithin, list_any}
use Rattle.std.specs.List.Sorted.{IsNonDecreasingBy, IsPartitionPoint}
use Rattle.std.proofs.lemmas.Bool.{ltb-true, ltb-false}
use Rattle.std.proofs.lemmas.List.{length-map}
use Rattle.std.proofs.lemmas.Option.{slice_get-map, slice_get_cases, slice_get_within, get_or_from_slice_get}
use Rattle.model.specs.declared.part.Part.{Part}
use Rattle.model.specs.RequestRules.{NumbersRise, part_numbers}
use Rattle.request_builder.proofs.RequestTests.{named_from, named_test}

-- the number of a part
abbrev pub number_of : Part → ℕ
number_of part = part.number

at_least : (least : ℕ) (parts : List Part) (i : ℕ) (d : Part) → NumbersRise least parts → i < length parts → least ≤ number_of (get_or parts i d)
at_least least [] i d rise there = absurd (omega arith)
at_least least (part ∷ parts) zero d rise there = rise.0
at_least least (part ∷ parts) (suc i) d rise there =
    let first : least ≤ part.number = rise.0 in
    let later = at_least (suc part.number) parts i d rise.1 (omega arith) in
    omega (arith, first, later)

pub never_fall : (least : ℕ) (parts : List Part) → NumbersRise least parts → IsNonDecreasingBy number_of parts
never_fall least [] rise i j d up there = absurd (omega arith)
never_fall least (part ∷ parts) rise zero zero d up there = omega arith
never_fall least (part ∷ parts) rise zero (suc j) d up there =
    let later = at_least (suc part.number) parts j d rise.1 (omega arith) in
    omega (arith, later)
never_fall least (part ∷ parts) rise (suc i) zero d up there = absurd (omega arith)
never_fall least (part ∷ parts) rise (suc i) (suc j) d up there = never_fall (suc part.number) parts rise.1 i j d (omega arith) (omega arith)

-- the part at the place has the number
pub found_at : (parts : List Part) (place n : ℕ) (part : Part) → slice_get parts place ≡ Some part → part.number ≡ n → slice_get (part_numbers parts) place ≡ Some n
found_at parts place n part there is = slice_get-map number_of parts place ∙ ap (option_map number_of) there ∙ ap Some is

-- the number of the part at a place
number_there : (parts : List Part) (k n : ℕ) (part : Part) → slice_get parts k ≡ Some part → get_or (part_numbers parts) k n ≡ n → part.number ≡ n
number_there parts k n part there is = sym (get_or_from_slice_get (part_numbers parts) k part.number n (found_at parts k part.number part there refl)) ∙ is

-- what stands at the end of the parts below the number
abbrev AtPlace : List Part → ℕ → Type 0
AtPlace parts place = ((part : Part) × (place < length parts) × (slice_get parts place ≡ Some part) × (get_or parts place part ≡ part)) ⊎ ((length parts ≤ place) × (slice_get parts place ≡ None))

-- the parts below a number end at a place, and no part from there on has the number
none_from : (parts : List Part) (place n k : ℕ) (part : Part) → NumbersRise 0 parts → AllWithin (λ (one : Part). nat_lt one.number n ≡ false) parts place (length parts) → ((one : Part) → slice_get parts place ≡ Some one → one.number ≡ n → ⊥) → place ≤ k → k < length parts → slice_get parts k ≡ Some part → part.number ≡ n → AtPlace parts place → ⊥
none_from parts place n k part rise from other up there at is (inr past) = let end = past.0 in omega (arith, end)
none_from parts place n k part rise from other up there at is (inl found) =
    let one : Part = found.0 in
    let one_is : get_or parts place one ≡ one = found.3 in
    let part_is : get_or parts k one ≡ part = get_or_from_slice_get parts k part one at in
    let not_below : nat_lt one.number n ≡ false = ap (λ (x : Part). nat_lt x.number n) (sym one_is) ∙ from place one (omega arith) found.1 in
    let rises : number_of (get_or parts place one) ≤ number_of (get_or parts k one) = never_fall 0 parts rise place k one up there in
    let low : number_of (get_or parts place one) ≡ one.number = ap number_of one_is in
    let high : number_of (get_or parts k one) ≡ part.number = ap number_of part_is in
    let above : n ≤ one.number = ltb-false one.number n not_below in
    other one found.2 (omega (arith, rises, low, high, above, is))

-- where the parts below the number end there is no part with the number, so there is none
pub none_there : (parts : List Part) (place n : ℕ) → NumbersRise 0 parts → IsPartitionPoint (λ (part : Part). nat_lt part.number n ≡ true) (λ (part : Part). nat_lt part.number n ≡ false) parts place → ((part : Part) → slice_get parts place ≡ Some part → part.number ≡ n → ⊥) → Contains (part_numbers parts) n → ⊥
none_there parts place n rise point other at =
    by (slice_get_cases parts at.0).1 (nat_lt at.0 place) refl
  where
    k : ℕ
    k = at.0

    within : k < length parts
    within = let there = at.1 in let same = length-map parts number_of in omega (arith, there, same)

    by : AtPlace parts k → (t : Bool) → nat_lt k place ≡ t → ⊥
    by (inr past) t is = let end = past.0 in omega (arith, end, within)
    by (inl found) true is =
        let part : Part = found.0 in
        let number : part.number ≡ n = number_there parts k n part found.2 at.2 in
        let part_is : get_or parts k part ≡ part = found.3 in
        let below : nat_lt part.number n ≡ true = ap (λ (x : Part). nat_lt x.number n) (sym part_is) ∙ point.0 k part (omega arith) (ltb-true k place is) in
        let less : part.number < n = ltb-true part.number n below in
        omega (arith, less, number)
    by (inl found) false is =
        let part : Part = found.0 in
        let number : part.number ≡ n = number_there parts k n part found.2 at.2 in
        none_from parts place n k part rise point.1 other (ltb-false k place is) within found.2 number (slice_get_cases parts place).1

-- a place is found exactly if some part has the number
pub place_named : (parts : List Part) (n : ℕ) (place : Option ℕ) → MatchOption place (Contains (part_numbers parts) n → ⊥) (λ i. slice_get (part_numbers parts) i ≡ Some n) → is_some place ≡ list_any (λ (part : Part). nat_eq part.number n) parts
place_named parts n (Some i) there = sym (named_test parts n (i, slice_get_within (part_numbers parts) i n there, get_or_from_slice_get (part_numbers parts) i n n there))
place_named parts n None absent = by (list_any (λ (part : Part). nat_eq part.number n) parts) refl
  where
    by : (t : Bool) → list_any (λ (part : Part). nat_eq part.number n) parts ≡ t → false ≡ t
    by true is = absurd (absent (named_from parts n is))
    by false is = refl
