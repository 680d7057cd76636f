-- The places of the ranges that a resolver is asked about.
use Rattle.std.proofs.Common.{◌≡◌, ℕ, suc, ◌+◌, ◌<◌, refl, sym, ap, subst, ◌∙◌, Bool, true, false, cond, List, [], ◌∷◌, ◌++◌, length, drop, get_or, append-nil, add-one, arith}
use Rattle.std.proofs.lemmas.List.{map-append, get_or_default}
use Rattle.std.proofs.lemmas.List.Elements.{All-push}
use Rattle.system_keys.specs.Keys.{Range}
use Rattle.model.specs.Parts.{ArePlacesIn, at_places}
use Rattle.model.specs.Journal.{list_at}
use Rattle.request_builder.specs.AskedResolvers.{is_in, ranges_for}
use Rattle.request_builder.proofs.Steps.{ranges_at, grown}

abbrev none : Range
none = record { begin = []; end = [] }

-- the places after a step, by whether the place was added
pub still_within : (ranges : List Range) (places after : List ℕ) (i : ℕ) (b : Bool) → i < length ranges → ArePlacesIn ranges places → after ≡ places ++ cond b (i ∷ []) [] → ArePlacesIn ranges after
still_within ranges places after i b there within is = subst (λ (ps : List ℕ). ArePlacesIn ranges ps) (sym is) (by b)
  where
    by : (t : Bool) → ArePlacesIn ranges (places ++ cond t (i ∷ []) [])
    by true = All-push (λ (place : ℕ). place < length ranges) places i within there
    by false = subst (λ (ps : List ℕ). ArePlacesIn ranges ps) (sym (append-nil places)) within

chosen_more : (ranges : List Range) (places : List ℕ) (i : ℕ) (b : Bool) → at_places ranges (places ++ cond b (i ∷ []) []) ≡ at_places ranges places ++ cond b (get_or ranges i none ∷ []) []
chosen_more ranges places i true = map-append (λ (place : ℕ). get_or ranges place none) places (i ∷ [])
chosen_more ranges places i false = map-append (λ (place : ℕ). get_or ranges place none) places []

pub stepped : (r i : ℕ) (ranges : List Range) (lists : List (List ℕ)) (places after : List ℕ) (b : Bool) → i < length ranges → at_places ranges places ++ ranges_for r (drop i ranges) (drop i lists) ≡ ranges_for r ranges lists → b ≡ is_in r (list_at lists i) → after ≡ places ++ cond b (i ∷ []) [] → at_places ranges after ++ ranges_for r (drop (i + 1) ranges) (drop (i + 1) lists) ≡ ranges_for r ranges lists
stepped r i ranges lists places after b there so_far is_b after_is =
    let range : Range = get_or ranges i none in
    let rest = ranges_for r (drop (suc i) ranges) (drop (suc i) lists) in
    let is : range ≡ get_or ranges i range = get_or_default ranges i none range there in
    ap (λ k. at_places ranges after ++ ranges_for r (drop k ranges) (drop k lists)) (add-one i)
    ∙ ap (λ (ps : List ℕ). at_places ranges ps ++ rest) (after_is ∙ ap (λ (t : Bool). places ++ cond t (i ∷ []) []) is_b)
    ∙ ap (λ (rs : List Range). rs ++ rest) (chosen_more ranges places i (is_in r (list_at lists i)))
    ∙ grown (at_places ranges places) (cond (is_in r (list_at lists i)) (range ∷ []) []) rest (ranges_for r (drop i ranges) (drop i lists)) (ranges_for r ranges lists) so_far (ranges_at r i range ranges lists there is)

-- the lock row, for which there is one set or none
pub lock_row : (r : ℕ) (range : Range) (lists : List (List ℕ)) (b : Bool) → b ≡ is_in r (list_at lists 0) → cond b (range ∷ []) [] ≡ ranges_for r (range ∷ []) lists
lock_row r range [] b is = ap (λ (t : Bool). cond t (range ∷ []) []) is
lock_row r range (list ∷ lists) b is = ap (λ (t : Bool). cond t (range ∷ []) []) is ∙ sym (append-nil (cond (is_in r list) (range ∷ []) []))
