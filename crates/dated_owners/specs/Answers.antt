-- What a map of owners promises, whichever moves it stands for, or asks as.
use Rattle.std.specs.Prelude.{◌≡◌, ℕ, List, [], ◌∷◌, ◌++◌, max, None}
use Rattle.system_keys.specs.Keys.{Key, Range}
use Rattle.model.specs.declared.moves.Move.{Move}
use Rattle.model.specs.OwnerMaps.{OwnerMapView, StandsForMoves, AsksAs, readers, writers}
use Rattle.model.specs.OwnerMaps.{owners_left, left_after_move}
use Rattle.model.specs.Owners.{owners, is_last, walk_visits}
use Rattle.dated_owners.specs.Refusals.{move_fault}

-- the map stands for one more move than before
abbrev pub GainsMove : (before : OwnerMapView) (m : Move) (after : OwnerMapView) → Type 0
GainsMove before m after =
    (moves : List Move) → StandsForMoves before moves → StandsForMoves after (moves ++ m ∷ [])

-- the map stands for the same moves as before
abbrev pub KeepsMoves : (before after : OwnerMapView) → Type 0
KeepsMoves before after =
    (moves : List Move) → StandsForMoves before moves → StandsForMoves after moves

-- the map asks as one more move does
abbrev pub AsksOneMore : (before : OwnerMapView) (m : Move) (after : OwnerMapView) → Type 0
AsksOneMore before m after =
    (moves : List Move) → AsksAs before moves → AsksAs after (moves ++ m ∷ [])

-- the move has no fault and was made
pub record IsMoved (before : OwnerMapView) (m : Move) (after : OwnerMapView) : Type 0 where
  pub allowed : move_fault before m.date m.dest ≡ None
  pub resolvers : after.resolvers ≡ before.resolvers
  pub oldest : after.oldest ≡ before.oldest
  pub last_date : after.last_date ≡ m.date
  pub stands : GainsMove before m after
  pub asks : AsksOneMore before m after

-- the map asks as before
abbrev pub KeepsAsking : (before after : OwnerMapView) → Type 0
KeepsAsking before after = (moves : List Move) → AsksAs before moves → AsksAs after moves

-- At each key the walk back to any bound visits the same resolvers as before, and the last owner is
-- the same. Which other owners of one date the key has, and in which order, is free.
pub record WalksAlike (before after : OwnerMapView) : Type 0 where
  pub visits : (key : Key) (bound r : ℕ)
      → walk_visits bound r (owners after.moves key) ≡ walk_visits bound r (owners before.moves key)
  pub last_owner : (key : Key) (r : ℕ)
      → is_last r (owners after.moves key) ≡ is_last r (owners before.moves key)

-- these are the resolvers that a read of the range at the snapshot asks, in rising order: back to
-- the greater of the snapshot and the map's oldest version
abbrev pub AreReaders : (map : OwnerMapView) (range : Range) (snapshot : ℕ) (list : List ℕ) → Type 0
AreReaders map range snapshot list =
    (moves : List Move) → AsksAs map moves
    → list ≡ readers map.resolvers moves (max snapshot map.oldest) range

-- these are the resolvers that a write of the range asks, in rising order
abbrev pub AreWriters : (map : OwnerMapView) (range : Range) (list : List ℕ) → Type 0
AreWriters map range list =
    (moves : List Move) → AsksAs map moves → list ≡ writers map.resolvers moves range

-- at each key the owners that are left are those before and the owner of the move
abbrev pub AddsOwner : (before : OwnerMapView) (m : Move) (after : OwnerMapView) → Type 0
AddsOwner before m after = (key : Key) → owners_left after key ≡ left_after_move before m key
