-- Maps of owners by the starts that they keep: one more move, and a greater oldest version.
use Rattle.std.proofs.Common.{◌≡◌, ℕ, ◌≤◌, refl, sym, ap, ap₂, ◌∙◌, Bool, true, false, cond, List, [], ◌∷◌, ◌++◌, arith}
use Rattle.system_keys.specs.Keys.{Key, holds}
use Rattle.model.specs.declared.moves.Move.{Move}
use Rattle.model.specs.Owners.{Owner, owners, trimmed, is_last, walk_visits}
use Rattle.model.specs.OwnerMaps.{OwnerMapView, owners_left, StandsForMoves, AsksAs, owner_of}
use Rattle.model.proofs.Owners.Walks.{without_front_again}
use Rattle.model.proofs.Owners.Maps.{move_adds_one, forgetting_keeps, trimmed_twice}
use Rattle.model.proofs.Owners.Asking.{asks_one_more, forgetting_asks}
use Rattle.dated_owners.specs.declared.later_owners.LaterOwner.{LaterOwner}
use Rattle.dated_owners.specs.LaterOwners.{owner_from, with_first, needed}
use Rattle.dated_owners.specs.Starts.{value_from, AreKept, with_values, joined, moves_from, moves_of}
use Rattle.dated_owners.specs.MergedOwners.{WalkAlike}
use Rattle.dated_owners.specs.Answers.{AddsOwner, GainsMove, AsksOneMore, KeepsAsking, WalksAlike}
use Rattle.dated_owners.proofs.KeyStarts.{value_changed_all}
use Rattle.dated_owners.proofs.LaterOwnerLaws.{needed_left, with_first_more}
use Rattle.dated_owners.proofs.JoinedStarts.{Starts, owners_kept, kept_changed_all}

-- the owners of each key, by the starts
pub owners_of_map : (map : OwnerMapView) (ss : Starts) (key : Key) → map.moves ≡ moves_of ss → AreKept ss → owners map.moves key ≡ with_first (value_from [] ss key)
owners_of_map map ss key moves kept = ap (λ (ms : List Move). owners ms key) moves ∙ owners_kept ss key kept

pub left_of_map : (map : OwnerMapView) (ss : Starts) (key : Key) → map.moves ≡ moves_of ss → AreKept ss → owners_left map key ≡ trimmed map.oldest (with_first (value_from [] ss key))
left_of_map map ss key moves kept = ap (trimmed map.oldest) (owners_of_map map ss key moves kept)

-- ---- one more move

pub adds_owner : (map next : OwnerMapView) (old new : Starts) (m : Move) (o : LaterOwner) → owner_from o ≡ owner_of m → next.oldest ≡ map.oldest → map.moves ≡ moves_of old → next.moves ≡ moves_of new → AreKept old → AreKept new
    → ((key : Key) → value_from [] new key ≡ cond (holds m.range key) (value_from [] old key ++ o ∷ []) (value_from [] old key))
    → AddsOwner map m next
adds_owner map next old new m o is oldest moves more kept kept_too adds key =
    left_of_map next new key more kept_too
    ∙ ap₂ (λ (b : ℕ) (later : List LaterOwner). trimmed b (with_first later)) oldest (adds key)
    ∙ by (holds m.range key)
  where
    here : List LaterOwner
    here = value_from [] old key

    left : owners_left map key ≡ trimmed map.oldest (with_first here)
    left = left_of_map map old key moves kept

    by : (t : Bool) → trimmed map.oldest (with_first (cond t (here ++ o ∷ []) here)) ≡ cond t (trimmed map.oldest (owners_left map key ++ owner_of m ∷ [])) (owners_left map key)
    by true =
        ap (trimmed map.oldest) (with_first_more here o ∙ ap (λ (x : Owner). with_first here ++ x ∷ []) is)
        ∙ sym (without_front_again map.oldest map.oldest (with_first here) (owner_of m ∷ []) (omega arith))
        ∙ ap (λ (list : List Owner). trimmed map.oldest (list ++ owner_of m ∷ [])) (sym left)
    by false = sym left

pub gains_move : (map next : OwnerMapView) (m : Move) → map.last_date ≤ m.date → next.oldest ≡ map.oldest → next.last_date ≡ m.date → AddsOwner map m next → GainsMove map m next
gains_move map next m later oldest date adds moves stands = move_adds_one map next moves m stands later oldest date adds

pub asks_more : (map next : OwnerMapView) (m : Move) → map.last_date ≤ m.date → next.oldest ≡ map.oldest → next.last_date ≡ m.date → AddsOwner map m next → AsksOneMore map m next
asks_more map next m later oldest date adds moves asks = asks_one_more map next moves m asks later oldest date adds

-- ---- more is forgotten

left_forgotten : (map next : OwnerMapView) (key : Key) → map.oldest ≤ next.oldest → next.moves ≡ map.moves → owners_left next key ≡ trimmed next.oldest (owners_left map key)
left_forgotten map next key more same =
    ap (λ (ms : List Move). trimmed next.oldest (owners ms key)) same ∙ sym (trimmed_twice map.oldest next.oldest (owners map.moves key) more)

pub forget_stands : (map next : OwnerMapView) (moves : List Move) → StandsForMoves map moves → map.oldest ≤ next.oldest → next.last_date ≡ map.last_date → next.moves ≡ map.moves → StandsForMoves next moves
forget_stands map next moves stands more date same = forgetting_keeps map next moves stands more date (λ key. left_forgotten map next key more same)

pub forget_asks : (map next : OwnerMapView) (moves : List Move) → AsksAs map moves → map.oldest ≤ next.oldest → next.last_date ≡ map.last_date → next.moves ≡ map.moves → AsksAs next moves
forget_asks map next moves asks more date same = forgetting_asks map next moves asks more date (λ key. left_forgotten map next key more same)

-- and what no walk needs is swept
left_swept : (map next : OwnerMapView) (old new : Starts) (key : Key) → map.oldest ≤ next.oldest → map.moves ≡ moves_of old → next.moves ≡ moves_of new → AreKept old
    → joined [] new ≡ joined [] (with_values (needed next.oldest) old) → owners_left next key ≡ trimmed next.oldest (owners_left map key)
left_swept map next old new key more is then kept swept =
    left_of_map next others key (then ∙ ap (λ (ss : Starts). moves_from [] [] ss) swept) (kept_changed_all (needed next.oldest) old refl kept)
    ∙ ap (λ (later : List LaterOwner). trimmed next.oldest (with_first later)) (value_changed_all (needed next.oldest) [] old key)
    ∙ needed_left next.oldest (value_from [] old key)
    ∙ ap (trimmed next.oldest) (sym (owners_of_map map old key is kept))
    ∙ sym (trimmed_twice map.oldest next.oldest (owners map.moves key) more)
  where
    others : Starts
    others = with_values (needed next.oldest) old

pub sweep_stands : (map next : OwnerMapView) (old new : Starts) (moves : List Move) → StandsForMoves map moves → map.oldest ≤ next.oldest → next.last_date ≡ map.last_date → map.moves ≡ moves_of old → next.moves ≡ moves_of new → AreKept old
    → joined [] new ≡ joined [] (with_values (needed next.oldest) old) → StandsForMoves next moves
sweep_stands map next old new moves stands more date is then kept swept = forgetting_keeps map next moves stands more date (λ key. left_swept map next old new key more is then kept swept)

pub sweep_asks : (map next : OwnerMapView) (old new : Starts) (moves : List Move) → AsksAs map moves → map.oldest ≤ next.oldest → next.last_date ≡ map.last_date → map.moves ≡ moves_of old → next.moves ≡ moves_of new → AreKept old
    → joined [] new ≡ joined [] (with_values (needed next.oldest) old) → AsksAs next moves
sweep_asks map next old new moves asks more date is then kept swept = forgetting_asks map next moves asks more date (λ key. left_swept map next old new key more is then kept swept)

-- ---- owners are merged

pub merge_walks : (map next : OwnerMapView) (old new : Starts) → map.moves ≡ moves_of old → next.moves ≡ moves_of new → AreKept old → AreKept new
    → ((key : Key) → WalkAlike (value_from [] old key) (value_from [] new key)) → WalksAlike map next
merge_walks map next old new is then kept kept_too walks =
    record {
      visits = λ key bound r.
          ap (walk_visits bound r) (owners_of_map next new key then kept_too)
          ∙ sym ((walks key).visits bound r)
          ∙ sym (ap (walk_visits bound r) (owners_of_map map old key is kept));
      last_owner = λ key r.
          ap (is_last r) (owners_of_map next new key then kept_too)
          ∙ sym ((walks key).last r)
          ∙ sym (ap (is_last r) (owners_of_map map old key is kept));
    }

pub merge_asks : (map next : OwnerMapView) → next.oldest ≡ map.oldest → next.last_date ≡ map.last_date → WalksAlike map next → KeepsAsking map next
merge_asks map next oldest date walks moves asks =
    record {
      in_order = asks.in_order;
      last = date ∙ asks.last;
      visits = λ bound r key above. walks.visits key bound r ∙ asks.visits bound r key (omega (arith, oldest, above));
      last_owner = λ r key. walks.last_owner key r ∙ asks.last_owner r key;
    }
