-- The history: the records that the sequencer gave to batches, and what each must be after those
-- before it. Release 7.1, `masterserver.actor.cpp`, getVersion; what differs is marked *profile*.
-- `last_version` and `records_of_proxy` are the definitions over records. Those over requests,
-- `last_request_version` and `requests_of_proxy` of Requests.antt, have the same form.
use Rattle.std.specs.Prelude.{◌≡◌, ℕ, ◌+◌, ◌-◌, ◌<◌, List, [], ◌∷◌, length, take, drop, nat_eq}
use Rattle.std.specs.Prelude.{filter, slice_get, Some, All}
use Rattle.model.specs.Numbers.{Version, ProxyNumber, RowNumber}
use Rattle.model.specs.Configs.{Config, version_limit}
use Rattle.model.specs.declared.moves.Move.{Move}
use Rattle.model.specs.Transactions.{StampedTransaction}

-- What the sequencer gives to a batch. `row` is its place in the order of all batches. `previous`
-- is the version before, and `own_previous` that of this proxy's record before (0 if it has none).
-- `moves` are all moves so far, and the transactions of `batch` have their versionstamps.
pub record Record : Type 0 where
  pub row : RowNumber
  pub previous : Version
  pub version : Version
  pub own_previous : Version
  pub proxy : ProxyNumber
  pub moves : List Move
  pub batch : List StampedTransaction

-- the version of the last element of a list, or 0 if the list is empty
abbrev pub last_version_by : {X : Type 0} → (version_of : X → Version) → List X → Version
last_version_by version_of [] = 0
last_version_by version_of (x ∷ []) = version_of x
last_version_by version_of (x ∷ next ∷ rest) = last_version_by version_of (next ∷ rest)

-- the version of the last record, or 0 if there is none
abbrev pub last_version : List Record → Version
last_version records = last_version_by (λ (rec : Record). rec.version) records

-- the moves of the last record, or none
abbrev pub last_moves : List Record → List Move
last_moves [] = []
last_moves (rec ∷ []) = rec.moves
last_moves (rec ∷ next ∷ rest) = last_moves (next ∷ rest)

-- the records of one proxy, in order
abbrev pub records_of_proxy : (p : ProxyNumber) (records : List Record) → List Record
records_of_proxy p records = filter (λ (rec : Record). nat_eq rec.proxy p) records

-- The sequencer made the move after it gave out version `previous` and before it gave out the next
-- one. Its destination is a resolver of the cluster.
pub record IsMadeAfter (config : Config) (previous : Version) (m : Move) : Type 0 where
  pub date : m.date ≡ previous + 1
  pub dest : m.dest < config.resolvers

-- The record may come next after those before it.
-- *Profile*: versions lie one step apart, and each is below 2^63.
pub record Follows (config : Config) (before : List Record) (rec : Record) : Type 0 where
  pub row : rec.row ≡ length before
  pub previous : rec.previous ≡ last_version before
  pub version : rec.version ≡ rec.previous + config.step
  pub representable : rec.version < version_limit
  pub own_previous : rec.own_previous ≡ last_version (records_of_proxy rec.proxy before)
  pub proxy : rec.proxy < config.proxies
  pub kept_moves : take (length (last_moves before)) rec.moves ≡ last_moves before
  pub further_moves :
      All (IsMadeAfter config rec.previous) (drop (length (last_moves before)) rec.moves)

-- the records are a history: each follows those before it
abbrev pub IsHistory : Config → List Record → Type 0
IsHistory config h =
    (i : ℕ) (rec : Record) → slice_get h i ≡ Some rec → Follows config (take i h) rec

-- What the sequencer keeps: its records are a history, and its moves are those of the last record
-- and then the moves made since.
pub record MovesFollow (config : Config) (h : List Record) (moves : List Move) : Type 0 where
  pub history : IsHistory config h
  pub kept_moves : take (length (last_moves h)) moves ≡ last_moves h
  pub further_moves :
      All (IsMadeAfter config (last_version h)) (drop (length (last_moves h)) moves)

-- The oldest version back to which the cluster remembers owners for a record: its previous version
-- less the window, and at least 0 (*profile*).
abbrev pub oldest : Config → Record → Version
oldest config rec = rec.previous - config.window
