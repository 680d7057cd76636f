-- All places of a list of ranges.
use Rattle.std.proofs.Common.{◌≡◌, ℕ, zero, suc, ◌<◌, ◌≤◌, refl, sym, ap, subst, ◌∙◌, List, [], ◌∷◌, ◌++◌, length, take, get_or, add-one, arith}
use Rattle.std.proofs.lemmas.List.{map-append, take_more, take_all}
use Rattle.std.proofs.lemmas.List.Elements.{All-nil, All-push}
use Rattle.system_keys.specs.Keys.{Range}
use Rattle.model.specs.Parts.{ArePlacesIn, at_places}
use Rattle.model.specs.Shares.{each_below}

abbrev none : Range
none = record { begin = []; end = [] }

each_in : (ranges : List Range) (n : ℕ) → n ≤ length ranges → ArePlacesIn ranges (each_below n)
each_in ranges zero within = All-nil (λ (place : ℕ). place < length ranges)
each_in ranges (suc n) within = All-push (λ (place : ℕ). place < length ranges) (each_below n) n (each_in ranges n (omega arith)) (omega arith)

first_ones : (ranges : List Range) (n : ℕ) → n ≤ length ranges → at_places ranges (each_below n) ≡ take n ranges
first_ones ranges zero within = refl
first_ones ranges (suc n) within =
    map-append (λ (place : ℕ). get_or ranges place none) (each_below n) (n ∷ [])
    ∙ ap (λ (rs : List Range). rs ++ get_or ranges n none ∷ []) (first_ones ranges n (omega arith))
    ∙ sym (take_more ranges n none (omega arith))
    ∙ ap (λ (k : ℕ). take k ranges) (add-one n)

-- all places give all ranges
all_ranges : (ranges : List Range) → at_places ranges (each_below (length ranges)) ≡ ranges
all_ranges ranges = first_ones ranges (length ranges) (omega arith) ∙ take_all (length ranges) ranges (omega arith)

-- ---- a part of all ranges

pub every_place : (ranges slice given : List Range) (places : List ℕ) → ranges ≡ given → slice ≡ given → places ≡ each_below (length slice) → ArePlacesIn ranges places
every_place ranges slice given places is slice_is below =
    subst (λ (ps : List ℕ). ArePlacesIn ranges ps) (sym below) (each_in ranges (length slice) (omega (arith, ap length (is ∙ sym slice_is))))

pub every_range : (ranges slice given : List Range) (places : List ℕ) → ranges ≡ given → slice ≡ given → places ≡ each_below (length slice) → at_places ranges places ≡ given
every_range ranges slice given places is slice_is below =
    ap (at_places ranges) (below ∙ ap (λ (rs : List Range). each_below (length rs)) (slice_is ∙ sym is)) ∙ all_ranges ranges ∙ is
