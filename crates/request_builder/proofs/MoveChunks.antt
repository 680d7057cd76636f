-- Moves in chunks: a place, one chunk after another, a move more, and a copy.
use Rattle.std.proofs.Common.{◌≡◌, refl, sym, ap, ap₂, ◌∙◌, ℕ, zero, suc, ◌+◌, ◌-◌, ◌<◌, ◌≤◌, List, [], ◌∷◌, ◌++◌, length, take, drop, get_or, append_assoc, append-nil, take-append-drop, length-drop, arith}
use Rattle.std.specs.Prelude.{slice_get}
use Rattle.std.specs.List.{AllZip}
use Rattle.std.specs.Arc.{arc_value}
use Rattle.std.specs.declared.sync.Arc.{Arc}
use Rattle.model.specs.declared.moves.Move.{Move}
use Rattle.request_builder.specs.Moves.{moves_in}

-- ---- a place in a list and one after it

pub get_front : {X : Type 0} (xs ys : List X) (n : ℕ) → n < length xs → slice_get (xs ++ ys) n ≡ slice_get xs n
get_front [] ys n within = absurd (omega (arith, within))
get_front (x ∷ xs) ys zero within = refl
get_front (x ∷ xs) ys (suc n) within = get_front xs ys n (omega (arith, within))

pub get_behind : {X : Type 0} (xs ys : List X) (n left : ℕ) → left + length xs ≡ n → slice_get (xs ++ ys) n ≡ slice_get ys left
get_behind [] ys n left is = ap (slice_get ys) (omega (arith, is))
get_behind (x ∷ xs) ys zero left is = absurd (omega (arith, is))
get_behind (x ∷ xs) ys (suc n) left is = get_behind xs ys n left (omega (arith, is))

-- ---- chunks

drop_suc : {X : Type 0} (xs : List X) (i : ℕ) (x : X) → i < length xs → x ≡ get_or xs i x → drop i xs ≡ x ∷ drop (suc i) xs
drop_suc [] i x within is = absurd (omega (arith, within))
drop_suc (y ∷ xs) zero x within is = λ j. sym is j ∷ xs
drop_suc (y ∷ xs) (suc i) x within is = drop_suc xs i x (omega (arith, within)) is

-- the moves of a chunk, and then of those after it
pub chunk_first : {Z : Type 0} (chunks : List (Arc (List Move) Z)) (i k : ℕ) (chunk : Arc (List Move) Z) (moves : List Move) → k ≡ suc i → i < length chunks → chunk ≡ get_or chunks i chunk → moves ≡ arc_value chunk → moves_in (drop i chunks) ≡ moves ++ moves_in (drop k chunks)
chunk_first chunks i k chunk moves next within is same =
    ap moves_in (drop_suc chunks i chunk within is)
    ∙ ap₂ (λ (n : ℕ) (ms : List Move). ms ++ moves_in (drop n chunks)) (sym next) (sym same)

moves_in-append : {Z : Type 0} (chunks more : List (Arc (List Move) Z)) → moves_in (chunks ++ more) ≡ moves_in chunks ++ moves_in more
moves_in-append [] more = refl
moves_in-append (chunk ∷ chunks) more =
    ap (λ (ms : List Move). arc_value chunk ++ ms) (moves_in-append chunks more) ∙ sym (append_assoc (arc_value chunk) (moves_in chunks) (moves_in more))

-- the last chunks and a move make a chunk of their own
pub pushed : {Z : Type 0} (chunks : List (Arc (List Move) Z)) (kept : ℕ) (chunk : Arc (List Move) Z) (one : Move) → arc_value chunk ≡ moves_in (drop kept chunks) ++ one ∷ [] → moves_in (take kept chunks ++ chunk ∷ []) ≡ moves_in chunks ++ one ∷ []
pushed chunks kept chunk one is =
    let front : List Move = moves_in (take kept chunks) in
    moves_in-append (take kept chunks) (chunk ∷ [])
    ∙ ap (λ (ms : List Move). front ++ ms) (append-nil (arc_value chunk) ∙ is)
    ∙ sym (append_assoc front (moves_in (drop kept chunks)) (one ∷ []))
    ∙ ap (λ (ms : List Move). ms ++ one ∷ []) (sym (moves_in-append (take kept chunks) (drop kept chunks)) ∙ ap moves_in (take-append-drop kept chunks))

take_whole : {X : Type 0} (xs : List X) (n : ℕ) → length xs ≤ n → take n xs ≡ xs
take_whole [] zero within = refl
take_whole [] (suc n) within = refl
take_whole (x ∷ xs) zero within = absurd (omega (arith, within))
take_whole (x ∷ xs) (suc n) within = ap (λ ys. x ∷ ys) (take_whole xs n (omega (arith, within)))

-- the last chunks as a slice
pub last_ones : {X : Type 0} (xs : List X) (n : ℕ) → take (length xs - n) (drop n xs) ≡ drop n xs
last_ones xs n = let size = length-drop n xs in take_whole (drop n xs) (length xs - n) (omega (arith, size))

-- ---- copies

pub shared : {Z : Type 0} (chunks copies : List (Arc (List Move) Z)) → AllZip (λ c d. arc_value d ≡ arc_value c) chunks copies → moves_in copies ≡ moves_in chunks
shared [] [] same = refl
shared [] (copy ∷ copies) same = absurd same
shared (chunk ∷ chunks) [] same = absurd same
shared (chunk ∷ chunks) (copy ∷ copies) same =
    ap₂ (λ (xs ys : List Move). xs ++ ys) same.0 (shared chunks copies same.1)
