-- Statements of moves, of the owners that they leave, and of maps that stand for them.
use Rattle.std.specs.Prelude.{◌≡◌, ◌↔◌, ◌<◌, ◌≤◌, ℕ, max, List, ◌++◌, length, take, drop, All, Some}
use Rattle.std.specs.Prelude.{slice_get, reverse, Contains, IsTrue, ◌+◌, [], ◌∷◌, if◌then◌else◌}
use Rattle.system_keys.specs.Keys.{Key, Range, Overlap, overlaps, holds}
use Rattle.model.specs.Configs.{Config, IsConfig}
use Rattle.model.specs.declared.moves.Move.{Move}
use Rattle.model.specs.Owners.{Owner, owners, is_last, walk_visits, AsksWrite, AsksRead, asks_write}
use Rattle.model.specs.Owners.{asks_read, walk, trimmed, DatesNeverDecrease}
use Rattle.model.specs.Records.{Record, IsHistory, oldest}

-- two ranges have a key in common exactly if one of their begins is in both
abbrev pub OverlapIsTested : Type 0
OverlapIsTested = (range other : Range) → IsTrue (overlaps range other) ↔ Overlap range other

-- the finite test `asks_write` holds exactly if the last owner of some key of the range is the
-- resolver
abbrev pub AsksWriteIsTested : Type 0
AsksWriteIsTested =
    (moves : List Move) (resolver : ℕ) (range : Range)
    → IsTrue (asks_write moves resolver range) ↔ AsksWrite moves resolver range

-- the finite test `asks_read` holds exactly if the walk over the owners of some key of the range
-- visits the resolver
abbrev pub AsksReadIsTested : Type 0
AsksReadIsTested =
    (moves : List Move) (bound resolver : ℕ) (range : Range)
    → IsTrue (asks_read moves bound resolver range) ↔ AsksRead moves bound resolver range

-- the walk from the back of a list takes exactly the resolvers for which `walk_visits` holds
abbrev pub WalkTakesTheVisited : Type 0
WalkTakesTheVisited =
    (bound resolver : ℕ) (list : List Owner)
    → Contains (walk bound (reverse list)) resolver ↔ IsTrue (walk_visits bound resolver list)

-- if dates never decrease, the walk over a trimmed list is that of the greater of the bound and
-- `oldest`
abbrev pub TrimmingRaisesTheBound : Type 0
TrimmingRaisesTheBound =
    (bound oldest resolver : ℕ) (list : List Owner) → DatesNeverDecrease 0 list
    → walk_visits bound resolver (trimmed oldest list)
    ≡ walk_visits (max bound oldest) resolver list

-- a list that was trimmed earlier, before newer owners came, is trimmed to the same list later
abbrev pub TrimmingTwiceIsTrimmingOnce : Type 0
TrimmingTwiceIsTrimmingOnce =
    (earlier later : ℕ) (list newer : List Owner) → earlier ≤ later
    → trimmed later (trimmed earlier list ++ newer) ≡ trimmed later (list ++ newer)

-- each record begins with the moves of every earlier record, and the further ones are dated after
-- the earlier record's version
abbrev pub LaterRecordsHaveEarlierMoves : Type 0
LaterRecordsHaveEarlierMoves =
    (config : Config) (history : List Record) (row later_row : ℕ) (earlier later : Record)
    → IsHistory config history → row < later_row
    → slice_get history row ≡ Some earlier → slice_get history later_row ≡ Some later
    → (take (length earlier.moves) later.moves ≡ earlier.moves)
    × All (λ (move : Move). earlier.version < move.date) (drop (length earlier.moves) later.moves)

-- the dates of the owners of a key never decrease
abbrev pub DatesOfOwnersNeverDecrease : Type 0
DatesOfOwnersNeverDecrease =
    (config : Config) (history : List Record) (row : ℕ) (rec : Record) (key : Key)
    → IsHistory config history → slice_get history row ≡ Some rec
    → DatesNeverDecrease 0 (owners rec.moves key)

-- so the walk over a key's trimmed owners is that of the greater of the snapshot and the record's
-- oldest version
abbrev pub TrimmedOwnersAreWalkedToTheOldest : Type 0
TrimmedOwnersAreWalkedToTheOldest =
    (config : Config) (history : List Record) (row : ℕ) (rec : Record) (key : Key)
    (snapshot resolver : ℕ)
    → IsHistory config history → slice_get history row ≡ Some rec
    → walk_visits snapshot resolver (trimmed (oldest config rec) (owners rec.moves key))
    ≡ walk_visits (max snapshot (oldest config rec)) resolver (owners rec.moves key)

-- a resolver of the cluster is the last owner of each key
abbrev pub EachKeyHasALastOwner : Type 0
EachKeyHasALastOwner =
    (config : Config) (history : List Record) (row : ℕ) (rec : Record) (key : Key)
    → IsConfig config → IsHistory config history → slice_get history row ≡ Some rec
    → (resolver : ℕ) × (resolver < config.resolvers)
    × IsTrue (is_last resolver (owners rec.moves key))

-- in a history all moves of a record go to resolvers of the cluster, and none is dated more than
-- one after the version before
abbrev pub MovesAreWithinTheCluster : Type 0
MovesAreWithinTheCluster =
    (config : Config) (history : List Record) (row : ℕ) (rec : Record)
    → IsHistory config history → slice_get history row ≡ Some rec
    → All (λ (move : Move). (move.dest < config.resolvers) × (move.date ≤ rec.previous + 1))
    rec.moves

-- their dates never decrease
abbrev pub DatesOfMovesNeverDecrease : Type 0
DatesOfMovesNeverDecrease =
    (config : Config) (history : List Record) (row : ℕ) (rec : Record) (place later_place : ℕ)
    (earlier later : Move)
    → IsHistory config history → slice_get history row ≡ Some rec → place < later_place
    → slice_get rec.moves place ≡ Some earlier → slice_get rec.moves later_place ≡ Some later
    → earlier.date ≤ later.date

-- with at least one resolver, each that a walk over the owners of a key visits is of the cluster
abbrev pub VisitedResolversAreOfTheCluster : Type 0
VisitedResolversAreOfTheCluster =
    (config : Config) (history : List Record) (row : ℕ) (rec : Record) (key : Key)
    (bound resolver : ℕ)
    → 0 < config.resolvers → IsHistory config history → slice_get history row ≡ Some rec
    → IsTrue (walk_visits bound resolver (owners rec.moves key)) → resolver < config.resolvers

-- and so is the last owner
abbrev pub LastOwnersAreOfTheCluster : Type 0
LastOwnersAreOfTheCluster =
    (config : Config) (history : List Record) (row : ℕ) (rec : Record) (key : Key) (resolver : ℕ)
    → 0 < config.resolvers → IsHistory config history → slice_get history row ≡ Some rec
    → IsTrue (is_last resolver (owners rec.moves key)) → resolver < config.resolvers

-- a further move appends its destination to the owners of the keys in its range, and leaves those
-- of other keys unchanged
abbrev pub AMoveAppendsAnOwner : Type 0
AMoveAppendsAnOwner =
    (moves : List Move) (move : Move) (key : Key)
    → owners (moves ++ move ∷ []) key
    ≡ (if holds move.range key
    then owners moves key ++ (record { date = move.date; resolver = move.dest }) ∷ []
    else owners moves key)

-- the walk back to a bound at or above `oldest` visits the same resolvers in a trimmed list, with
-- any newer owners, as in the whole list, whatever the dates
abbrev pub TrimmingKeepsTheWalk : Type 0
TrimmingKeepsTheWalk =
    (bound oldest resolver : ℕ) (list newer : List Owner) → oldest ≤ bound
    → walk_visits bound resolver (trimmed oldest list ++ newer)
    ≡ walk_visits bound resolver (list ++ newer)

-- dates that never decrease still do not once the list is trimmed
abbrev pub TrimmingKeepsTheOrderOfDates : Type 0
TrimmingKeepsTheOrderOfDates =
    (oldest : ℕ) (list : List Owner) → DatesNeverDecrease 0 list
    → DatesNeverDecrease 0 (trimmed oldest list)
