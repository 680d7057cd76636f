-- The last element of a list.
use Rattle.std.proofs.Common.{◌≡◌, ◌-◌, ◌∷◌, [], List, length, refl, arith}
use Rattle.std.specs.Prelude.{Some, None, slice_get}
use Rattle.std.specs.List.{last_or}

-- the last element, by its place
last_behind : {X : Type 0} (x : X) (xs : List X) → slice_get (x ∷ xs) (length xs) ≡ last_or (Some x) xs
last_behind x [] = refl
last_behind x (y ∷ ys) = last_behind y ys

pub last_at : {X : Type 0} (xs : List X) → slice_get xs (length xs - 1) ≡ last_or None xs
last_at [] = refl
last_at (x ∷ xs) =
    let before : length (x ∷ xs) - 1 ≡ length xs = omega arith in
    rw before (last_behind x xs)
