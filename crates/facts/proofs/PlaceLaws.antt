-- Facts at the places of lists.
use Rattle.std.proofs.Common.{◌≡◌, refl, sym, subst, ap, ◌∙◌, ℕ, zero, suc, ◌+◌, ◌-◌, ◌<◌, ◌≤◌, List, ◌++◌, length, map, take, drop, arith}
use Rattle.std.proofs.lemmas.List.{length-map}
use Rattle.std.proofs.lemmas.Option.{slice_get-map, slice_get_within}
use Rattle.std.proofs.lemmas.Slice.{between_is}
use Rattle.std.specs.Prelude.{◌⊎◌, option_map}
use Rattle.std.specs.List.{slice_get, between}
use Rattle.std.specs.declared.option.Option.TheVariants.{Some}
use mathlib.Core.Logic.{inl, inr}
use Rattle.facts.specs.declared.fact.Fact.{Fact}
use Rattle.facts.specs.Stretches.{Stretch, StretchesAgree, Agree, cells, cells_of, values}

-- ---- lists

pub appended_all : {X : Type 0} (to xs from : List X) (start place end : ℕ) → place ≡ end
    → to ≡ xs ++ drop start (take place from) → to ≡ xs ++ between start end from
appended_all to xs from start place end same is =
    is ∙ ap (λ (n : ℕ). xs ++ drop start (take n from)) same ∙ ap (λ ys. xs ++ ys) (sym (between_is from start end))

slice_get_mapped : {X Y : Type 0} (f : X → Y) (xs : List X) (i : ℕ) (x : X) → slice_get xs i ≡ Some x → slice_get (map f xs) i ≡ Some (f x)
slice_get_mapped f xs i x at = slice_get-map f xs i ∙ ap (option_map f) at

last_or_before : (j n : ℕ) → j < n + 1 → (j < n) ⊎ (j ≡ n)
last_or_before zero zero below = inr refl
last_or_before zero (suc n) below = inl (omega arith)
last_or_before (suc j) zero below = absurd (omega arith)
last_or_before (suc j) (suc n) below = go (last_or_before j n (omega arith))
  where
    go : (j < n) ⊎ (j ≡ n) → (suc j < suc n) ⊎ (suc j ≡ suc n)
    go (inl before) = inl (omega arith)
    go (inr same) = inr (ap suc same)

-- ---- agreeing facts

-- the first list from place `start` on agrees with the first n of the second
abbrev pub AgreeUpTo : {X : Type 0} → (n start : ℕ) (xs ys : List X) → Type 0
AgreeUpTo n start xs ys =
    (j : ℕ) (x y : _) → j < n → slice_get xs (start + j) ≡ Some x → slice_get ys j ≡ Some y → x ≡ y

pub same_cell : {T : Type 0} (xs ys : List (Fact T)) (start j : ℕ) (x y : Fact T) → Agree 0 (cells xs) start (cells ys)
    → slice_get xs (start + j) ≡ Some x → slice_get ys j ≡ Some y → x.cell ≡ y.cell
same_cell xs ys start j x y agree at_x at_y =
    agree (start + j) j x.cell y.cell (omega arith) (slice_get_mapped (λ f. f.cell) xs (start + j) x at_x) (slice_get_mapped (λ f. f.cell) ys j y at_y)

pub agree_one_more : {T : Type 0} (xs ys : List (Fact T)) (start n : ℕ) (x y : Fact T) → AgreeUpTo n start (values xs) (values ys)
    → slice_get xs (start + n) ≡ Some x → slice_get ys n ≡ Some y → x.value ≡ y.value → AgreeUpTo (n + 1) start (values xs) (values ys)
agree_one_more {T} xs ys start n x y before at_x at_y same j u v below at_u at_v = go (last_or_before j n below)
  where
    first_is : slice_get (values xs) (start + n) ≡ Some x.value
    first_is = slice_get_mapped (λ (f : Fact T). f.value) xs (start + n) x at_x

    second_is : slice_get (values ys) n ≡ Some y.value
    second_is = slice_get_mapped (λ (f : Fact T). f.value) ys n y at_y

    go : (j < n) ⊎ (j ≡ n) → u ≡ v
    go (inl earlier) = before j u v earlier at_u at_v
    go (inr last) =
        let here : slice_get (values xs) (start + n) ≡ Some u = ap (λ (k : ℕ). slice_get (values xs) (start + k)) (sym last) ∙ at_u in
        let first : slice_get (values xs) (start + n) ≡ Some x.value = first_is in
        let second : slice_get (values ys) n ≡ Some y.value = second_is in
        let there : slice_get (values ys) n ≡ Some v = ap (slice_get (values ys)) (sym last) ∙ at_v in cc

pub agree_everywhere : {T : Type 0} (xs ys : List (Fact T)) (start n : ℕ) → AgreeUpTo n start (values xs) (values ys)
    → ((j : ℕ) → start + j < length xs → j < length ys → j < n) → Agree 0 (values xs) start (values ys)
agree_everywhere {T} xs ys start n upto within i j x y same at_x at_y =
    let place : i ≡ start + j = omega (arith, same) in
    let here : slice_get (values xs) (start + j) ≡ Some x = ap (slice_get (values xs)) (sym place) ∙ at_x in
    let in_first : start + j < length xs = omega (arith, slice_get_within (values xs) (start + j) x here, length-map xs (λ (f : Fact T). f.value)) in
    let in_second : j < length ys = omega (arith, slice_get_within (values ys) j y at_y, length-map ys (λ (f : Fact T). f.value)) in
    upto j x y (within j in_first in_second) here at_y

-- from the first row of the second list on
pub agree_shifted : {X : Type 0} (a b : ℕ) (xs ys : List X) → a ≤ b → Agree a xs b ys → Agree 0 xs (b - a) ys
agree_shifted a b xs ys before agree i j x y same at_x at_y = agree i j x y (omega (arith, same)) at_x at_y

pub agree_flipped : {X : Type 0} (a b : ℕ) (xs ys : List X) → Agree a xs b ys → Agree b ys a xs
agree_flipped a b xs ys agree i j x y same at_x at_y = sym (agree j i y x (sym same) at_y at_x)

pub cells_agree_at : {T : Type 0} (s other v w : Stretch (Fact T)) → v ≡ s → w ≡ other → StretchesAgree (cells_of s) (cells_of other) → StretchesAgree (cells_of v) (cells_of w)
cells_agree_at {T} s other v w is other_is agree =
    subst (λ (t : Stretch (Fact T)). StretchesAgree (cells_of v) (cells_of t)) (sym other_is)
    (subst (λ (t : Stretch (Fact T)). StretchesAgree (cells_of t) (cells_of other)) (sym is) agree)
