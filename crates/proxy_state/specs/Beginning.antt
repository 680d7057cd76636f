-- Which records a proxy refuses to begin, and what becomes of its map of owners.
use Rattle.std.specs.Prelude.{◌≡◌, ℕ, List, ◌∷◌, ◌++◌, Option, Some, None, not, nat_eq, nat_le}
use Rattle.std.specs.Prelude.{if◌then◌else◌, filter, map, ◌≤◌, Bool, IfSome}
use Rattle.std.specs.List.{list_any}
use Rattle.model.specs.Configs.{Config}
use Rattle.model.specs.declared.moves.Move.{Move}
use Rattle.model.specs.declared.journal.JournalRow.{JournalRow}
use Rattle.model.specs.Records.{Record, oldest}
use Rattle.model.specs.Shares.{each_below}
use Rattle.model.specs.Requests.{Request, request}
use Rattle.model.specs.OwnerMaps.{OwnerMapView, StandsForMoves, AsksAs, DatesInOrder}
use Rattle.model.specs.Finishing.{ProxyView, MayBeMade}
use Rattle.proxy_state.specs.declared.refusal.Refusal.{Refusal}
use Rattle.proxy_state.specs.declared.refusal.Refusal.TheVariants.{NotMine, OutOfOrder, OutOfMemory}

-- the fault that a refusal names; `OutOfMemory` names none
abbrev pub refusal_fault : Refusal → Option Refusal
refusal_fault OutOfMemory = None
refusal_fault refusal = Some refusal

-- the first fault of a record that is to begin
abbrev pub begin_fault : ProxyView → Record → Option Refusal
begin_fault v rec =
    if not (nat_eq rec.proxy v.number) then Some NotMine
    else if not (nat_eq rec.own_previous v.last_begun) then Some (OutOfOrder v.last_begun)
    else None

-- the requests for a record, one to each resolver
abbrev pub requests_for : ProxyView → Record → List Request
requests_for v rec = map (request v.config rec v.version) (each_below v.config.resolvers)

-- the rows of a journal up to a version
abbrev pub rows_up_to : ℕ → List JournalRow → List JournalRow
rows_up_to version journal =
    filter (λ (row : JournalRow). nat_le row.version version) journal

-- the journal has a row up to a version
abbrev pub has_row_up_to : ℕ → List JournalRow → Bool
has_row_up_to version journal =
    list_any (λ (row : JournalRow). nat_le row.version version) journal

-- the record is the first of these
abbrev pub IsFirst : List Record → Record → Type 0
IsFirst records rec = (rest : List Record) × (records ≡ rec ∷ rest)

-- ---- the map of owners

-- these moves may be made in the map, which stands for some moves
pub record MayGain (map : OwnerMapView) (moves : List Move) : Type 0 where
  pub held : List Move
  pub stands : StandsForMoves map held
  pub may : MayBeMade map.resolvers map.last_date moves

-- the map has gained these moves, and has as many resolvers and the same oldest version as before
pub record HasGained (before : OwnerMapView) (moves : List Move) (after : OwnerMapView) : Type 0 where
  pub stands :
      (held : List Move) → StandsForMoves before held → StandsForMoves after (held ++ moves)
  pub resolvers : after.resolvers ≡ before.resolvers
  pub oldest : after.oldest ≡ before.oldest

-- the map stands for the moves of the record, and remembers owners at least as far back as the record
-- asks
pub record HasMapFor (config : Config) (rec : Record) (map : OwnerMapView) : Type 0 where
  pub stands : StandsForMoves map rec.moves
  pub resolvers : map.resolvers ≡ config.resolvers
  pub remembered : map.oldest ≤ oldest config rec

-- the map asks as the moves of the record do, has as many resolvers as the cluster, and remembers
-- owners at least as far back as the record asks
pub record AsksFor (config : Config) (rec : Record) (map : OwnerMapView) : Type 0 where
  pub asks : AsksAs map rec.moves
  pub resolvers : map.resolvers ≡ config.resolvers
  pub remembered : map.oldest ≤ oldest config rec

-- the map stands for the moves of the record, and remembers owners as far back as the record asks and
-- no further
pub record IsMapFor (config : Config) (rec : Record) (map : OwnerMapView) : Type 0 where
  pub stands : StandsForMoves map rec.moves
  pub resolvers : map.resolvers ≡ config.resolvers
  pub oldest : map.oldest ≡ oldest config rec

-- These are the moves of the record, whose dates never decrease, and the map, if there is one, is one
-- for the record. The proxy has the map `owned`.
pub record IsKeptFor
    (config : Config) (rec : Record) (owned : OwnerMapView) (kept : Option OwnerMapView)
    (moves : List Move) : Type 0 where
  pub map_for : IfSome kept (HasMapFor config rec)
  pub moves_are : moves ≡ rec.moves
  pub in_order : DatesInOrder 0 rec.moves
  pub resolvers : owned.resolvers ≡ config.resolvers
