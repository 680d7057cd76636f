-- The map of owners of a proxy, and the moves for which it stands; and one that proxies share, which
-- asks as moves do.
use Rattle.std.specs.Prelude.{◌≡◌, ℕ, ◌≤◌, List, [], ◌∷◌, ◌++◌, Option, IfSome}
use Rattle.model.specs.declared.moves.Move.{Move}
use Rattle.model.specs.OwnerMaps.{OwnerMapView, StandsForMoves, AsksAs, DatesInOrder, last_date}
use Rattle.dated_owners.specs.Answers.{KeepsMoves}

-- the map of these moves
abbrev pub held_map : (resolvers oldest : ℕ) (moves : List Move) → OwnerMapView
held_map resolvers oldest moves =
    record {
      resolvers = resolvers;
      last_date = last_date 0 moves;
      oldest = oldest;
      moves = moves;
    }

-- the other map stands for every list of moves for which the map stands, and has as many resolvers,
-- the same oldest version and the same last date
pub record IsAlike (map other : OwnerMapView) : Type 0 where
  pub stands : KeepsMoves map other
  pub resolvers : other.resolvers ≡ map.resolvers
  pub oldest : other.oldest ≡ map.oldest
  pub last_date : other.last_date ≡ map.last_date

-- There are 1 to 64 resolvers, the dates of the moves never decrease, and the map that is kept, if it
-- is not used up, is like the map of these moves.
pub record IsHeld (resolvers oldest : ℕ) (moves : List Move) (kept : Option OwnerMapView) :
    Type 0 where
  pub some : 1 ≤ resolvers
  pub few : resolvers ≤ 64
  pub in_order : DatesInOrder 0 moves
  pub alike : IfSome kept (IsAlike (held_map resolvers oldest moves))

-- the map stands for the moves, has this number of resolvers, and remembers owners at least back to `oldest`
pub record IsMapOf (moves : List Move) (count oldest : ℕ) (map : OwnerMapView) : Type 0 where
  pub stands : StandsForMoves map moves
  pub resolvers : map.resolvers ≡ count
  pub remembered : map.oldest ≤ oldest

-- the moves and their map, if there is one, may take the place of those before
pub record IsFilled
    (before : OwnerMapView) (kept : Option OwnerMapView) (moves : List Move) (oldest : ℕ) : Type 0 where
  pub in_order : DatesInOrder 0 moves
  pub map_of : IfSome kept (IsMapOf moves before.resolvers oldest)

-- the map, if there is one, has forgotten back to `oldest`
abbrev pub IsForgetful : (before : Option OwnerMapView) (oldest : ℕ) (after : Option OwnerMapView) → Type 0
IsForgetful before oldest after =
    (moves : List Move) (resolvers : ℕ) → IfSome before (IsMapOf moves resolvers oldest)
    → IfSome after (IsAlike (held_map resolvers oldest moves))

-- ---- a map that proxies share

-- the map asks as the moves do, has this number of resolvers, and remembers owners at least back to `oldest`
pub record AsksBackTo (moves : List Move) (count oldest : ℕ) (map : OwnerMapView) : Type 0 where
  pub asks : AsksAs map moves
  pub resolvers : map.resolvers ≡ count
  pub remembered : map.oldest ≤ oldest

-- the map, if there is one, asks as one move more does than before
abbrev pub AsksAfterMove : (before : Option OwnerMapView) (one : Move) (after : Option OwnerMapView) → Type 0
AsksAfterMove before one after =
    (moves : List Move) → IfSome before (λ (map : OwnerMapView). AsksAs map moves)
    → IfSome after (λ (map : OwnerMapView). AsksAs map (moves ++ one ∷ []))
