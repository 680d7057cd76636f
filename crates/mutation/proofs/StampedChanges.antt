-- The loop that gives each mutation of a transaction its stamp: one more change.
use Rattle.std.proofs.Common.{◌≡◌, ◌∙◌, ℕ, suc, ◌+◌, ◌<◌, List, [], ◌∷◌, ◌++◌, length, map, drop, sym, ap, ap₂, arith, append_assoc, get_or}
use Rattle.std.proofs.Math.Seq.{drop-cons}

pub made_next : {X Y Z : Type 0} (given : X → Y) (make : Y → Z) (xs : List X) (i : ℕ) (x : X) (kept now : List Z) (made : Z) → i < length xs → x ≡ get_or xs i x → made ≡ make (given x) → now ≡ kept ++ made ∷ [] → kept ++ map make (map given (drop i xs)) ≡ map make (map given xs) → now ++ map make (map given (drop (i + 1) xs)) ≡ map make (map given xs)
made_next given make xs i x kept now made within is made_is now_is told =
    let next : suc i ≡ i + 1 = omega arith in
    let front : drop i xs ≡ x ∷ drop (i + 1) xs = drop-cons xs i x within ∙ ap₂ (λ (y : _) (left : List _). y ∷ left) (sym is) (ap (λ (n : ℕ). drop n xs) next) in
    rw (now_is, made_is) (append_assoc kept (make (given x) ∷ []) _ ∙ ap (λ (left : List _). kept ++ map make (map given left)) (sym front) ∙ told)

-- the same where the mutations that are left are a list of their own
pub made_one : {X Y Z : Type 0} (given : X → Y) (make : Y → Z) (left rest : List X) (x : X) (kept now : List Z) (made : Z) (all : List Z) → left ≡ x ∷ rest → made ≡ make (given x) → now ≡ kept ++ made ∷ [] → kept ++ map make (map given left) ≡ all → now ++ map make (map given rest) ≡ all
made_one given make left rest x kept now made all is made_is now_is told =
    rw (now_is, made_is) (append_assoc kept (make (given x) ∷ []) _ ∙ ap (λ (xs : List _). kept ++ map make (map given xs)) (sym is) ∙ told)
