-- What a map of owners stands for: which lists of moves, however the map is kept.
use Rattle.std.specs.Prelude.{◌≡◌, ℕ, ◌≤◌, max, List, [], ◌∷◌, ◌++◌, filter, if◌then◌else◌}
use Rattle.system_keys.specs.Keys.{Key, Range, holds}
use Rattle.model.specs.declared.moves.Move.{Move}
use Rattle.model.specs.Owners.{Owner, owners, trimmed, is_last, walk_visits, asks_read, asks_write}
use Rattle.model.specs.Shares.{each_below}
use Rattle.model.specs.VersionOrder.{NeverDecrease, last_version_or}

-- a map of owners: some moves that give each key its owners, the date of the last move that was
-- made, and the version below which the fronts of the lists of owners are forgotten
pub record OwnerMapView : Type 0 where
  pub resolvers : ℕ
  pub last_date : ℕ
  pub oldest : ℕ
  pub moves : List Move

-- the owners of a key that the map still has
abbrev pub owners_left : (map : OwnerMapView) (key : Key) → List Owner
owners_left map key = trimmed map.oldest (owners map.moves key)

-- the dates of the moves never decrease, from `date` on
abbrev pub DatesInOrder : (date : ℕ) (moves : List Move) → Type 0
DatesInOrder date moves = NeverDecrease (λ (m : Move). m.date) date moves

-- the date of the last move, or `date` if there is no move
abbrev pub last_date : (date : ℕ) (moves : List Move) → ℕ
last_date date moves = last_version_or (λ (m : Move). m.date) date moves

-- the map stands for these moves: each key has the owners that the moves give it, without the
-- oldest ones as far as the map drops them
pub record StandsForMoves (map : OwnerMapView) (moves : List Move) : Type 0 where
  pub in_order : DatesInOrder 0 moves
  pub last : map.last_date ≡ last_date 0 moves
  pub same : (key : Key) → owners_left map key ≡ trimmed map.oldest (owners moves key)

-- the map asks as these moves do, also if it has other owners: at each key the walks back to a bound
-- that is not below its oldest version visit the same resolvers, and the last owner is the same
pub record AsksAs (map : OwnerMapView) (moves : List Move) : Type 0 where
  pub in_order : DatesInOrder 0 moves
  pub last : map.last_date ≡ last_date 0 moves
  pub visits : (bound r : ℕ) (key : Key) → map.oldest ≤ bound
      → walk_visits bound r (owners map.moves key) ≡ walk_visits bound r (owners moves key)
  pub last_owner : (r : ℕ) (key : Key)
      → is_last r (owners map.moves key) ≡ is_last r (owners moves key)

-- ---- who is asked

-- the resolvers that are asked to read a range, back to a bound, in rising order
abbrev pub readers : (resolvers : ℕ) (moves : List Move) (bound : ℕ) (range : Range) → List ℕ
readers resolvers moves bound range =
    filter (λ r. asks_read moves bound r range) (each_below resolvers)

-- the resolvers that are asked to write a range, in rising order
abbrev pub writers : (resolvers : ℕ) (moves : List Move) (range : Range) → List ℕ
writers resolvers moves range = filter (λ r. asks_write moves r range) (each_below resolvers)

-- ---- the statements of the law

-- the owner that a move adds
abbrev pub owner_of : (m : Move) → Owner
owner_of m = record { date = m.date; resolver = m.dest }

-- the owners that are left at a key once a move is made
abbrev pub left_after_move : (map : OwnerMapView) (m : Move) (key : Key) → List Owner
left_after_move map m key =
    if holds m.range key
    then trimmed map.oldest (owners_left map key ++ owner_of m ∷ [])
    else owners_left map key

-- a map in which each key has its first owner alone stands for no moves
abbrev pub NewStandsForNoMoves : Type 0
NewStandsForNoMoves =
    (map : OwnerMapView)
    → ((key : Key) → owners map.moves key ≡ owners [] key) → map.last_date ≡ 0
    → StandsForMoves map []

-- a map that at each key has gained the owner of one more move stands for one more move
abbrev pub MoveAddsOneMove : Type 0
MoveAddsOneMove =
    (map next : OwnerMapView) (moves : List Move) (m : Move)
    → StandsForMoves map moves → map.last_date ≤ m.date
    → next.oldest ≡ map.oldest → next.last_date ≡ m.date
    → ((key : Key) → owners_left next key ≡ left_after_move map m key)
    → StandsForMoves next (moves ++ m ∷ [])

-- a map that at each key has forgotten more of the front stands for the same moves, with the
-- greater bound
abbrev pub ForgettingKeepsTheMoves : Type 0
ForgettingKeepsTheMoves =
    (map next : OwnerMapView) (moves : List Move)
    → StandsForMoves map moves → map.oldest ≤ next.oldest → next.last_date ≡ map.last_date
    → ((key : Key) → owners_left next key ≡ trimmed next.oldest (owners_left map key))
    → StandsForMoves next moves

-- two maps that stand for the same moves, with the same bound, have the same owners left
abbrev pub SameMovesLeaveTheSame : Type 0
SameMovesLeaveTheSame =
    (map other : OwnerMapView) (moves : List Move) (key : Key)
    → StandsForMoves map moves → StandsForMoves other moves → map.oldest ≡ other.oldest
    → owners_left map key ≡ owners_left other key

-- the walk over the owners that are left visits whom the walk over all owners visits, back to the
-- greater of the bound and the map's
abbrev pub LeftOwnersAreEnough : Type 0
LeftOwnersAreEnough =
    (map : OwnerMapView) (moves : List Move) (bound r : ℕ) (key : Key)
    → StandsForMoves map moves
    → walk_visits bound r (owners_left map key)
    ≡ walk_visits (max bound map.oldest) r (owners moves key)

-- whatever moves a map stands for, the same resolvers are asked to read a range: those that its own
-- moves say
abbrev pub ReadersAreThoseOfTheMap : Type 0
ReadersAreThoseOfTheMap =
    (map : OwnerMapView) (moves : List Move) (bound : ℕ) (range : Range)
    → StandsForMoves map moves
    → readers map.resolvers map.moves (max bound map.oldest) range
    ≡ readers map.resolvers moves (max bound map.oldest) range

-- and the same resolvers are asked to write it
abbrev pub WritersAreThoseOfTheMap : Type 0
WritersAreThoseOfTheMap =
    (map : OwnerMapView) (moves : List Move) (range : Range)
    → StandsForMoves map moves
    → writers map.resolvers map.moves range ≡ writers map.resolvers moves range

-- the same resolvers are asked by both maps
pub record AnswerAlike (map other : OwnerMapView) : Type 0 where
  pub reads : (bound : ℕ) (range : Range)
      → readers map.resolvers map.moves (max bound map.oldest) range
      ≡ readers other.resolvers other.moves (max bound other.oldest) range
  pub writes : (range : Range)
      → writers map.resolvers map.moves range ≡ writers other.resolvers other.moves range

-- so two maps that stand for the same moves, with as many resolvers and one bound, answer alike
abbrev pub SameMovesAnswerAlike : Type 0
SameMovesAnswerAlike =
    (map other : OwnerMapView) (moves : List Move)
    → StandsForMoves map moves → StandsForMoves other moves
    → map.resolvers ≡ other.resolvers → map.oldest ≡ other.oldest
    → AnswerAlike map other

-- ---- the same of a map that asks as some moves do

-- a map that stands for moves asks as they do
abbrev pub StandingMapsAskAlike : Type 0
StandingMapsAskAlike =
    (map : OwnerMapView) (moves : List Move) → StandsForMoves map moves → AsksAs map moves

-- a map that at each key has gained the owner of one more move asks as one more move does
abbrev pub MoveAddsOneToAsk : Type 0
MoveAddsOneToAsk =
    (map next : OwnerMapView) (moves : List Move) (m : Move)
    → AsksAs map moves → map.last_date ≤ m.date
    → next.oldest ≡ map.oldest → next.last_date ≡ m.date
    → ((key : Key) → owners_left next key ≡ left_after_move map m key)
    → AsksAs next (moves ++ m ∷ [])

-- a map that at each key has forgotten more of the front asks as before, with the greater bound
abbrev pub ForgettingAsksAlike : Type 0
ForgettingAsksAlike =
    (map next : OwnerMapView) (moves : List Move)
    → AsksAs map moves → map.oldest ≤ next.oldest → next.last_date ≡ map.last_date
    → ((key : Key) → owners_left next key ≡ trimmed next.oldest (owners_left map key))
    → AsksAs next moves

-- the resolvers that the map's own moves ask to read a range are those of the moves as which it asks
abbrev pub ReadersAreThoseAsked : Type 0
ReadersAreThoseAsked =
    (map : OwnerMapView) (moves : List Move) (bound : ℕ) (range : Range)
    → AsksAs map moves
    → readers map.resolvers map.moves (max bound map.oldest) range
    ≡ readers map.resolvers moves (max bound map.oldest) range

-- and so are those that they ask to write it
abbrev pub WritersAreThoseAsked : Type 0
WritersAreThoseAsked =
    (map : OwnerMapView) (moves : List Move) (range : Range)
    → AsksAs map moves
    → writers map.resolvers map.moves range ≡ writers map.resolvers moves range
