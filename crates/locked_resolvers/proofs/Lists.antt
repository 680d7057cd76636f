-- Lists: one that begins the other, and what stands at a place.
use Rattle.std.proofs.Common.{◌≡◌, refl, sym, ap, ◌∙◌, ℕ, zero, suc, ◌*◌, ◌+◌, ◌<◌, ◌≤◌, List, [], ◌∷◌, ◌++◌, length, take, slice_get, get_or, Some, arith}
use Rattle.std.proofs.Math.Nat.{mul-lt-mul_of_pos_right}
use Rattle.facts.specs.Stretches.{Agree, Stretch, StretchesAgree}

-- the elements after the first ones agree too
pub agree_rest : {X : Type 0} (x y : X) (xs ys : List X) → Agree 0 (x ∷ xs) 0 (y ∷ ys) → Agree 0 xs 0 ys
agree_rest x y xs ys agree i j a b same at_a at_b = agree (suc i) (suc j) a b (omega (arith, same)) at_a at_b

-- a list that agrees with one that is shorter by an element is that one and the element
pub one_more : {X : Type 0} (xs ys : List X) (y : X) → Agree 0 xs 0 ys → length ys ≡ suc (length xs) → slice_get ys (length xs) ≡ Some y → ys ≡ xs ++ y ∷ []
one_more [] [] y agree count at = absurd (omega (arith, count))
one_more [] (z ∷ []) y agree count at = let same : z ≡ y = cc in ap (λ w. w ∷ []) same
one_more [] (z ∷ w ∷ ys) y agree count at = absurd (omega (arith, count))
one_more (x ∷ xs) [] y agree count at = absurd (omega (arith, count))
one_more (x ∷ xs) (z ∷ ys) y agree count at =
    let first : x ≡ z = agree 0 0 x z refl refl refl in
    let rest : ys ≡ xs ++ y ∷ [] = one_more xs ys y (agree_rest x z xs ys agree) (omega (arith, count)) at in
    λ i. sym first i ∷ rest i

-- the first elements of two lists that agree are the same
pub first_same : {X : Type 0} (n : ℕ) (xs ys : List X) → Agree 0 xs 0 ys → n ≤ length xs → n ≤ length ys → take n xs ≡ take n ys
first_same zero xs ys agree in_xs in_ys = refl
first_same (suc n) [] ys agree in_xs in_ys = absurd (omega (arith, in_xs))
first_same (suc n) (x ∷ xs) [] agree in_xs in_ys = absurd (omega (arith, in_ys))
first_same (suc n) (x ∷ xs) (y ∷ ys) agree in_xs in_ys =
    let first : x ≡ y = agree 0 0 x y refl refl refl in
    let rest : take n xs ≡ take n ys = first_same n xs ys (agree_rest x y xs ys agree) (omega (arith, in_xs)) (omega (arith, in_ys)) in
    λ i. first i ∷ rest i

pub take_all : {X : Type 0} (xs : List X) (n : ℕ) → length xs ≤ n → take n xs ≡ xs
take_all [] zero within = refl
take_all [] (suc n) within = refl
take_all (x ∷ xs) zero within = absurd (omega (arith, within))
take_all (x ∷ xs) (suc n) within = ap (λ ys. x ∷ ys) (take_all xs n (omega (arith, within)))

-- the beginning of a list with one element more
pub take_before : {X : Type 0} (xs : List X) (x : X) (n : ℕ) → n ≡ length xs → take n (xs ++ x ∷ []) ≡ xs
take_before [] x n is = ap (λ k. take k (x ∷ [])) is
take_before (y ∷ xs) x zero is = absurd (omega (arith, is))
take_before (y ∷ xs) x (suc n) is = ap (λ ys. y ∷ ys) (take_before xs x n (omega (arith, is)))

-- a list is its first elements and those after them
pub beginning_of : {X : Type 0} (xs : List X) (n : ℕ) → (rest : List X) × (xs ≡ take n xs ++ rest)
beginning_of xs zero = (xs, refl)
beginning_of [] (suc n) = ([], refl)
beginning_of (x ∷ xs) (suc n) = let (rest, is) = beginning_of xs n in (rest, ap (λ ys. x ∷ ys) is)

-- as many steps are as many rows
pub same_rows : (a b step : ℕ) → 1 ≤ step → a * step ≡ b * step → a ≡ b
same_rows a b step stepping same = by (grind (arith, mul-lt-mul_of_pos_right {m = a} {n = b} {k = step})) (grind (arith, mul-lt-mul_of_pos_right {m = b} {n = a} {k = step}))
  where
    by : (a < b → ⊥) → (b < a → ⊥) → a ≡ b
    by below above = omega (arith, below, above)

-- two stretches that agree, both from row 0
pub agree_from_zero : {X : Type 0} (s o : Stretch X) (xs : List X) → StretchesAgree s o → s.first ≡ 0 → o ≡ record { first = 0; known = xs } → Agree 0 s.known 0 xs
agree_from_zero s o xs agree first is i j x y same at_x at_y =
    let from : o.first ≡ 0 = ap (λ (t : Stretch _). t.first) is in
    let at : slice_get o.known j ≡ Some y = ap (λ (t : Stretch _). slice_get t.known j) is ∙ at_y in
    agree i j x y (omega (arith, first, from, same)) at_x at

-- what a loop reads at a place stands there
pub got : {X : Type 0} (xs : List X) (i : ℕ) (x : X) → i < length xs → x ≡ get_or xs i x → slice_get xs i ≡ Some x
got [] i x within is = absurd (omega (arith, within))
got (y ∷ ys) zero x within is = ap Some (sym is)
got (y ∷ ys) (suc i) x within is = got ys i x (omega (arith, within)) is

pub take_next : {X : Type 0} (xs : List X) (k : ℕ) (x : X) → slice_get xs k ≡ Some x → take (k + 1) xs ≡ take k xs ++ x ∷ []
take_next [] k x at = absurd (cc)
take_next (y ∷ ys) zero x at = let same : y ≡ x = cc in ap (λ z. z ∷ []) same
take_next (y ∷ ys) (suc k) x at =
    let more : suc k + 1 ≡ suc (k + 1) = omega arith in
    ap (λ n. take n (y ∷ ys)) more ∙ ap (λ zs. y ∷ zs) (take_next ys k x at)
