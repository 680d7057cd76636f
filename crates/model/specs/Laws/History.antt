-- Statements of histories: how they grow, their chain of versions, and their rows.
use Rattle.std.specs.Prelude.{◌≡◌, ◌≤◌, ◌++◌, ℕ, List, [], ◌∷◌, take, slice_get, Some, ◌<◌, ◌+◌}
use Rattle.std.specs.Prelude.{◌*◌, ◌^◌, suc, length, filter}
use Rattle.model.specs.Configs.{Config, version_limit}
use Rattle.model.specs.declared.moves.Move.{Move}
use Rattle.model.specs.Records.{Record, IsHistory, Follows, IsMadeAfter, MovesFollow, last_version}
use Rattle.model.specs.Records.{records_of_proxy, oldest}
use Rattle.model.specs.World.{up_to_version, rows_up_to}
use Rattle.model.specs.Transactions.{StampedTransaction}
use Rattle.model.specs.Journal.{is_after}

-- the empty list of records is a history
abbrev pub NoRecordsAreAHistory : Type 0
NoRecordsAreAHistory = (config : Config) → IsHistory config []

-- a history and a record that follows it are a history
abbrev pub HistoriesGrow : Type 0
HistoriesGrow =
    (config : Config) (history : List Record) (rec : Record)
    → IsHistory config history → Follows config history rec → IsHistory config (history ++ rec ∷ [])

-- the last record of a history follows those before it
abbrev pub LastRecordFollows : Type 0
LastRecordFollows =
    (config : Config) (history : List Record) (rec : Record)
    → IsHistory config (history ++ rec ∷ []) → Follows config history rec

-- the first records of a history are a history
abbrev pub FirstRecordsAreAHistory : Type 0
FirstRecordsAreAHistory =
    (config : Config) (history : List Record) (count : ℕ)
    → IsHistory config history → IsHistory config (take count history)

-- each record has the number of the row in which it stands
abbrev pub RecordsHaveTheirRows : Type 0
RecordsHaveTheirRows =
    (config : Config) (history : List Record) (row : ℕ) (rec : Record)
    → IsHistory config history → slice_get history row ≡ Some rec → rec.row ≡ row

-- the last version is the greatest
abbrev pub NoVersionIsAboveTheLast : Type 0
NoVersionIsAboveTheLast =
    (config : Config) (history : List Record) (row : ℕ) (rec : Record)
    → IsHistory config history → slice_get history row ≡ Some rec
    → rec.version ≤ last_version history

-- the records up to a version are the first ones
abbrev pub RecordsUpToAVersionAreFirst : Type 0
RecordsUpToAVersionAreFirst =
    (config : Config) (history : List Record) (version : ℕ) → IsHistory config history
    → take (rows_up_to version history) history ≡ up_to_version version history

-- no moves follow no records
abbrev pub NoMovesFollowNoRecords : Type 0
NoMovesFollowNoRecords = (config : Config) → MovesFollow config [] []

-- moves still follow after a further record that has all of them
abbrev pub MovesFollowARecord : Type 0
MovesFollowARecord =
    (config : Config) (history : List Record) (rec : Record) (moves : List Move)
    → MovesFollow config history moves → Follows config history rec → rec.moves ≡ moves
    → MovesFollow config (history ++ rec ∷ []) moves

-- moves and a further one, made after the last version to a resolver of the cluster, still follow
abbrev pub MovesFollowAMove : Type 0
MovesFollowAMove =
    (config : Config) (history : List Record) (moves : List Move) (move : Move)
    → MovesFollow config history moves → IsMadeAfter config (last_version history) move
    → MovesFollow config history (moves ++ move ∷ [])

-- the version before row n is n times the step
abbrev pub VersionsAreMultiplesOfTheStep : Type 0
VersionsAreMultiplesOfTheStep =
    (config : Config) (history : List Record) (row : ℕ)
    → IsHistory config history → row ≤ length history
    → last_version (take row history) ≡ row * config.step

-- a record's version before is its row times the step, and its version is one step more, below
-- 2^63; and the cluster has its proxy
abbrev pub RowsGiveTheNumbers : Type 0
RowsGiveTheNumbers =
    (config : Config) (history : List Record) (row : ℕ) (rec : Record)
    → IsHistory config history → slice_get history row ≡ Some rec
    → (rec.previous ≡ row * config.step) × (rec.version ≡ suc row * config.step)
    × (rec.version < 2 ^ 63) × (rec.proxy < config.proxies)

-- a later record's version before is at or above an earlier record's version
abbrev pub VersionsIncrease : Type 0
VersionsIncrease =
    (config : Config) (history : List Record) (row later_row : ℕ) (earlier later : Record)
    → IsHistory config history → row < later_row
    → slice_get history row ≡ Some earlier → slice_get history later_row ≡ Some later
    → earlier.version ≤ later.previous

-- a later record's oldest version is no lower than an earlier one's
abbrev pub OldestVersionsNeverDecrease : Type 0
OldestVersionsNeverDecrease =
    (config : Config) (history : List Record) (row later_row : ℕ) (earlier later : Record)
    → IsHistory config history → row < later_row
    → slice_get history row ≡ Some earlier → slice_get history later_row ≡ Some later
    → oldest config earlier ≤ oldest config later

-- the version of the record before by the same proxy is at most the version before
abbrev pub OwnVersionsAreNoLater : Type 0
OwnVersionsAreNoLater =
    (config : Config) (history : List Record) (row : ℕ) (rec : Record)
    → IsHistory config history → slice_get history row ≡ Some rec
    → rec.own_previous ≤ rec.previous

-- with all moves so far, a proxy of the cluster and a version below the limit, the record with the
-- next numbers follows those before it
abbrev pub NextNumbersFollow : Type 0
NextNumbersFollow =
    (config : Config) (history : List Record) (moves : List Move) (proxy : ℕ)
    (batch : List StampedTransaction)
    → MovesFollow config history moves → proxy < config.proxies
    → last_version history + config.step < version_limit
    → Follows config history (record {
      row = length history;
      previous = last_version history;
      version = last_version history + config.step;
      own_previous = last_version (records_of_proxy proxy history);
      proxy = proxy;
      moves = moves;
      batch = batch;
    })

-- the records up to the version before row n are the first n
abbrev pub FirstRowsByVersion : Type 0
FirstRowsByVersion =
    (config : Config) (history : List Record) (row : ℕ)
    → 1 ≤ config.step → IsHistory config history → row ≤ length history
    → up_to_version (last_version (take row history)) history ≡ take row history

-- n rows are up to the version before row n
abbrev pub CountOfRowsByVersion : Type 0
CountOfRowsByVersion =
    (config : Config) (history : List Record) (row : ℕ)
    → 1 ≤ config.step → IsHistory config history → row ≤ length history
    → rows_up_to (last_version (take row history)) history ≡ row

-- the rows up to a record's version are its own row and those before it
abbrev pub CountOfRowsByRecord : Type 0
CountOfRowsByRecord =
    (config : Config) (history : List Record) (row : ℕ) (rec : Record)
    → 1 ≤ config.step → IsHistory config history → slice_get history row ≡ Some rec
    → rows_up_to rec.version history ≡ suc row

-- no row is up to version 0
abbrev pub NoRowIsUpToZero : Type 0
NoRowIsUpToZero =
    (config : Config) (history : List Record)
    → 1 ≤ config.step → IsHistory config history → rows_up_to 0 history ≡ 0

-- a record at or below the version before row n is in a row below n
abbrev pub LowerVersionsAreInEarlierRows : Type 0
LowerVersionsAreInEarlierRows =
    (config : Config) (history : List Record) (bound row : ℕ) (rec : Record)
    → 1 ≤ config.step → IsHistory config history → bound ≤ length history
    → slice_get history row ≡ Some rec → rec.version ≤ last_version (take bound history)
    → row < bound

-- two records with one version are in one row
abbrev pub VersionsAreUnique : Type 0
VersionsAreUnique =
    (config : Config) (history : List Record) (row other_row : ℕ) (rec other : Record)
    → 1 ≤ config.step → IsHistory config history
    → slice_get history row ≡ Some rec → slice_get history other_row ≡ Some other
    → rec.version ≡ other.version → row ≡ other_row

-- the first n rows of a history, and then the records after version n times the step, are all of
-- its records in order
abbrev pub HistoriesSplitAtARow : Type 0
HistoriesSplitAtARow =
    (config : Config) (history : List Record) (row version : ℕ)
    → 1 ≤ config.step → IsHistory config history → row ≤ length history
    → version ≡ row * config.step
    → take row history ++ filter (is_after version) history ≡ history

-- the records of a history up to a version, and then those after it, are all of them in order
abbrev pub SeenAndUnseenAreAll : Type 0
SeenAndUnseenAreAll =
    (config : Config) (history : List Record) (version : ℕ) → IsHistory config history
    → up_to_version version history ++ filter (is_after version) history ≡ history
