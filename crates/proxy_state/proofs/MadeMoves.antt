-- Moves that are made in a map of owners one after another.
use Rattle.std.proofs.Common.{◌≡◌, refl, sym, ap, ◌∙◌, subst, ℕ, zero, suc, length, take, drop, ◌≤◌, List, [], ◌∷◌, ◌++◌, append_assoc, append-nil, slice_get, Some, None, false, nat_le, nat_lt, arith}
use Rattle.std.proofs.lemmas.Bool.{lt-leb, le-ltb}
use Rattle.std.proofs.lemmas.Option.{none-some, same_Some}
use Rattle.model.specs.declared.moves.Move.{Move}
use Rattle.model.specs.OwnerMaps.{OwnerMapView, StandsForMoves}
use Rattle.model.specs.Finishing.{MayBeMade}
use Rattle.model.proofs.Owners.Maps.{last_date_more}
use Rattle.dated_owners.specs.Refusals.{move_fault}
use Rattle.proxy_state.specs.Beginning.{MayGain, HasGained}

-- a move that may be made has no fault
pub may_move : (map : OwnerMapView) (m : Move) (moves : List Move) → MayGain map (m ∷ moves) → move_fault map m.date m.dest ≡ None
may_move map m moves gain =
    let there : nat_le map.resolvers m.dest ≡ false = lt-leb map.resolvers m.dest gain.may.1 in
    let dated : nat_lt m.date map.last_date ≡ false = le-ltb m.date map.last_date gain.may.0 in
    rw (there, dated) refl

pub gained_none : (map : OwnerMapView) → HasGained map [] map
gained_none map = record { stands = λ held stands. subst (StandsForMoves map) (sym (append-nil held)) stands; resolvers = refl; oldest = refl }

pub gained_first : (before between after : OwnerMapView) (m : Move) (moves : List Move) → HasGained before (m ∷ []) between → HasGained between moves after → HasGained before (m ∷ moves) after
gained_first before between after m moves first others =
    record {
      stands = λ held stands. subst (StandsForMoves after) (append_assoc held (m ∷ []) moves) (others.stands (held ++ m ∷ []) (first.stands held stands));
      resolvers = others.resolvers ∙ first.resolvers;
      oldest = others.oldest ∙ first.oldest;
    }

pub gained_more : (before between after : OwnerMapView) (moves : List Move) (m : Move) → HasGained before moves between → HasGained between (m ∷ []) after → HasGained before (moves ++ m ∷ []) after
gained_more before between after moves m all one =
    record {
      stands = λ held stands. subst (StandsForMoves after) (append_assoc held moves (m ∷ [])) (one.stands (held ++ moves) (all.stands held stands));
      resolvers = one.resolvers ∙ all.resolvers;
      oldest = one.oldest ∙ all.oldest;
    }

pub may_next : (map after : OwnerMapView) (m : Move) (moves : List Move) → MayGain map (m ∷ moves) → HasGained map (m ∷ []) after → MayGain after moves
may_next map after m moves gain gained =
    let stands = gained.stands gain.held gain.stands in
    let date : after.last_date ≡ m.date = stands.last ∙ last_date_more 0 gain.held m in
    record {
      held = gain.held ++ m ∷ [];
      stands = stands;
      may = subst (λ (r : ℕ). MayBeMade r after.last_date moves) (sym gained.resolvers) (subst (λ (d : ℕ). MayBeMade map.resolvers d moves) (sym date) gain.may.2);
    }

-- ---- the next move, and the others

drop_next : (moves : List Move) (i : ℕ) (m : Move) → slice_get moves i ≡ Some m → drop i moves ≡ m ∷ drop (suc i) moves
drop_next [] i m found = absurd (none-some m found)
drop_next (x ∷ moves) zero m found = λ j. same_Some x m found j ∷ moves
drop_next (x ∷ moves) (suc i) m found = drop_next moves i m found

pub drop_found : (moves : List Move) (i k : ℕ) (m : Move) → k ≡ suc i → slice_get moves i ≡ Some m → drop i moves ≡ m ∷ drop k moves
drop_found moves i k m next found = drop_next moves i m found ∙ ap (λ (n : ℕ). m ∷ drop n moves) (sym next)

pub drop_past : (moves : List Move) (n : ℕ) → length moves ≤ n → drop n moves ≡ []
drop_past [] zero past = refl
drop_past [] (suc n) past = refl
drop_past (m ∷ moves) zero past = absurd (omega (arith, past))
drop_past (m ∷ moves) (suc n) past = drop_past moves n (omega (arith, past))

-- ---- the moves so far, and the next one

take_next : (moves : List Move) (i : ℕ) (m : Move) → slice_get moves i ≡ Some m → take (suc i) moves ≡ take i moves ++ m ∷ []
take_next [] i m found = absurd (none-some m found)
take_next (x ∷ moves) zero m found = λ j. same_Some x m found j ∷ []
take_next (x ∷ moves) (suc i) m found = ap (λ (ms : List Move). x ∷ ms) (take_next moves i m found)

pub take_found : (moves : List Move) (i k : ℕ) (m : Move) → k ≡ suc i → slice_get moves i ≡ Some m → take k moves ≡ take i moves ++ m ∷ []
take_found moves i k m next found = ap (λ (n : ℕ). take n moves) next ∙ take_next moves i m found

pub take_past : (moves : List Move) (n : ℕ) → length moves ≤ n → take n moves ≡ moves
take_past [] zero past = refl
take_past [] (suc n) past = refl
take_past (m ∷ moves) zero past = absurd (omega (arith, past))
take_past (m ∷ moves) (suc n) past = ap (λ (ms : List Move). m ∷ ms) (take_past moves n (omega (arith, past)))
