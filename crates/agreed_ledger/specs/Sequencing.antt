-- What the sequencer keeps, and what its calls do. *Profile*, but for what a record is.
use Rattle.std.specs.Prelude.{◌≡◌, ◌+◌, ◌<◌, List, [], ◌∷◌, ◌++◌, length, slice_get, Some, None}
use Rattle.std.specs.Prelude.{Option, nat_le, if◌then◌else◌}
use Rattle.system_keys.specs.Keys.{Range}
use Rattle.model.specs.Numbers.{ProxyNumber, ResolverNumber, RowNumber, Version}
use Rattle.model.specs.Configs.{Config, IsConfig, version_limit}
use Rattle.model.specs.declared.moves.Move.{Move}
use Rattle.model.specs.Records.{Record, IsHistory, last_version, records_of_proxy}
use Rattle.model.specs.Stamps.{AdmittedTransaction}
use Rattle.model.specs.World.{record_after}
use Rattle.agreed_ledger.specs.Cells.{Cells}
use Rattle.agreed_ledger.specs.declared.refusal.Refusal.{Refusal}
use Rattle.agreed_ledger.specs.declared.refusal.Refusal.TheVariants.{NoSuchResolver, NoSuchProxy}
use Rattle.agreed_ledger.specs.declared.refusal.Refusal.TheVariants.{LedgerFull, VersionsEnd}

-- the records given out so far, and all moves so far
pub record SequencedView : Type 0 where
  pub records : List Record
  pub moves : List Move

-- a batch's row, and the records up to it
pub record TicketView : Type 0 where
  pub row : RowNumber
  pub records : List Record

-- the last version, and the version of each proxy's last record
pub record KeepsVersions
    (config : Config) (records : List Record) (version : Version) (own_versions : List Version) :
    Type 0 where
  pub config_is : IsConfig config
  pub version_is : version ≡ last_version records
  pub representable : version < version_limit
  pub count : length own_versions ≡ config.proxies
  pub own :
      (p : ProxyNumber) (own : Version) → slice_get own_versions p ≡ Some own
      → own ≡ last_version (records_of_proxy p records)

-- the ticket's records are a history, and the last one is its row's
pub record IsTicket (config : Config) (t : TicketView) : Type 0 where
  pub history : IsHistory config t.records
  pub last : length t.records ≡ t.row + 1

-- the first fault of a batch of the proxy; a cell that is taken is none
abbrev pub sequence_fault : Cells → SequencedView → ProxyNumber → Option Refusal
sequence_fault cells s p =
    if nat_le cells.config.proxies p then Some NoSuchProxy
    else if nat_le (length cells.records) (length s.records)
    then Some (LedgerFull (length cells.records))
    else if nat_le version_limit (last_version s.records + cells.config.step)
    then Some VersionsEnd
    else None

-- the first fault of a move to the resolver
abbrev pub move_fault : Config → ResolverNumber → Option Refusal
move_fault config dest =
    if nat_le config.resolvers dest then Some NoSuchResolver else None

-- Exactly one record is appended, with the batch's stamps in and all moves so far. The ticket has
-- its row, and all records up to it.
pub record HasSequenced
    (config : Config) (before : SequencedView) (p : ProxyNumber) (batch : List AdmittedTransaction)
    (after : SequencedView) (ticket : TicketView) : Type 0 where
  pub records :
      after.records
      ≡ before.records ++ record_after config before.records before.moves p batch ∷ []
  pub moves : after.moves ≡ before.moves
  pub row : ticket.row ≡ length before.records
  pub told : ticket.records ≡ after.records

-- exactly one move is appended, dated one above the last version
pub record HasMoved
    (before : SequencedView) (range : Range) (dest : ResolverNumber)
    (after : SequencedView) (date : Version) : Type 0 where
  pub date_is : date ≡ last_version before.records + 1
  pub records : after.records ≡ before.records
  pub moves :
      after.moves
      ≡ before.moves ++ (record { range = range; date = date; dest = dest }) ∷ []

-- ---- the statements of the law

-- The second ticket is the first one with one more record, which has the moves that stood before the
-- first one.
pub record Continues
    (config : Config) (moves : List Move) (t : TicketView) (p : ProxyNumber)
    (batch : List AdmittedTransaction)
    (u : TicketView) : Type 0 where
  pub row : u.row ≡ t.row + 1
  pub records : u.records ≡ t.records ++ record_after config t.records moves p batch ∷ []

-- of two batches that are sequenced one after the other, the second ticket continues the first one
abbrev pub TicketsContinue : Type 0
TicketsContinue =
    (config : Config) (before between after : SequencedView) (p q : ProxyNumber)
    (batch next : List AdmittedTransaction) (t u : TicketView)
    → HasSequenced config before p batch between t → HasSequenced config between q next after u
    → Continues config before.moves t q next u

-- a batch that is sequenced after a move has the moves before it and that one
abbrev pub BatchesHaveTheMoveBefore : Type 0
BatchesHaveTheMoveBefore =
    (config : Config) (before between after : SequencedView) (range : Range)
    (dest : ResolverNumber) (date : Version) (p : ProxyNumber) (batch : List AdmittedTransaction)
    (t : TicketView)
    → HasMoved before range dest between date → HasSequenced config between p batch after t
    → let moves =
    before.moves ++ (record { range = range; date = date; dest = dest }) ∷ [] in
    t.records ≡ before.records ++ record_after config before.records moves p batch ∷ []
