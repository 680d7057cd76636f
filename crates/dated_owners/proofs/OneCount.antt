-- Two ways to cut the keys into the greatest ranges with one value are the same.
use Rattle.std.proofs.Common.{◌≡◌, ◌⊎◌, inl, inr, refl, sym, ap, ap₂, ◌∙◌, suc, true, List, [], ◌∷◌, length, subst, IsTrue, codes}
use Rattle.system_keys.specs.Keys.{Key, is_key_below, holds}
use Rattle.system_keys.specs.Limits.{key_space_end}
use Rattle.system_keys.proofs.KeyOrder.{not_below_back, below_cases}
use Rattle.system_keys.proofs.KeyLaws.{holds_from_inside}
use Rattle.dated_owners.specs.declared.later_owners.LaterOwner.{LaterOwner}
use Rattle.dated_owners.specs.Pieces.{AreCuts, CountsPieces, PiecesHaveOneCount, map_with, b_to_d, AMoveMakesThreePieces}
use Rattle.dated_owners.proofs.JoinedStarts.{Starts}
use Rattle.dated_owners.proofs.CountedPieces.{counts_pieces}

-- a key above the begin of a range and below its end is in it
between : (begin key end : Key) → is_key_below begin key ≡ true → is_key_below key end ≡ true → IsTrue (holds (record { begin = begin; end = end }) key)
between begin key end above below =
    holds_from_inside (record { begin = begin; end = end }) key (record { begun = not_below_back begin key above; ended = below })

same_cuts : {X : Type 0} → (value : Key → X) (begin : Key) (cuts others : List Key) → AreCuts value begin cuts → AreCuts value begin others → cuts ≡ others
same_cuts value begin [] [] d e = refl
same_cuts value begin [] (other ∷ others) d e = absurd (e.3 (sym (d other (between begin other key_space_end e.0 e.1))))
same_cuts value begin (cut ∷ cuts) [] d e = absurd (d.3 (sym (e cut (between begin cut key_space_end d.0 d.1))))
same_cuts {X} value begin (cut ∷ cuts) (other ∷ others) d e =
    by (below_cases cut other) (λ same. same_cuts value cut cuts others d.4 (subst (λ (key : Key). AreCuts value key others) (sym same) e.4))
  where
    by : (is_key_below cut other ≡ true) ⊎ ((cut ≡ other) ⊎ (is_key_below other cut ≡ true)) → (cut ≡ other → cuts ≡ others) → cut ∷ cuts ≡ other ∷ others
    by (inl below) rest = absurd (d.3 (sym (e.2 cut (between begin cut other d.0 below))))
    by (inr (inl same)) rest = ap₂ ◌∷◌ same (rest same)
    by (inr (inr above)) rest = absurd (e.3 (sym (d.2 other (between begin other cut e.0 above))))

pub pieces_have_one_count : PiecesHaveOneCount
pieces_have_one_count map m n counts again =
    counts.counted ∙ ap (λ (cuts : List Key). suc (length cuts)) (same_cuts _ [] counts.cuts again.cuts counts.divide again.divide) ∙ sym again.counted

-- ---- the scenario

-- the starts of a map after the move of `b` to `d`
starts_of_one : Starts
starts_of_one =
    let owner : LaterOwner = record { date = 10; resolver = 1 } in
    (codes "b", owner ∷ []) ∷ (codes "d", []) ∷ []

three_pieces : CountsPieces (map_with (b_to_d ∷ [])) 3
unfolding starts_of_one
three_pieces =
    counts_pieces (map_with (b_to_d ∷ [])) starts_of_one 3 refl (record { rising = ((refl, tt), (tt, tt)); none_past = refl }) refl

pub a_move_makes_three_pieces : AMoveMakesThreePieces
a_move_makes_three_pieces =
    record {
      none = counts_pieces (map_with []) [] 1 refl (record { rising = tt; none_past = refl }) refl;
      three = three_pieces;
      no_other = λ n counts. pieces_have_one_count (map_with (b_to_d ∷ [])) n 3 counts three_pieces;
    }
