-- The tickets of batches that are sequenced one after another, and of a move between two of them.
use Rattle.std.specs.Prelude.{◌≡◌, ◌⊎◌, ◌+◌, ◌<◌, ◌≤◌, List, [], ◌∷◌, ◌++◌, length, slice_get, Some}
use Rattle.system_keys.specs.Keys.{Range}
use Rattle.model.specs.Numbers.{ProxyNumber, ResolverNumber, Version}
use Rattle.model.specs.Configs.{Config}
use Rattle.model.specs.declared.moves.Move.{Move}
use Rattle.model.specs.Records.{Record, last_version}
use Rattle.model.specs.Stamps.{AdmittedTransaction, stamped_from}
use Rattle.agreed_ledger.specs.Cells.{Cells}
use Rattle.agreed_ledger.specs.Refusals.{refusal_fault}
use Rattle.agreed_ledger.specs.Sequencing.{SequencedView, TicketView, HasMoved, HasSequenced}
use Rattle.agreed_ledger.specs.Sequencing.{sequence_fault}
use Rattle.agreed_ledger.specs.declared.refusal.Refusal.{Refusal}
use Rattle.agreed_ledger.specs.declared.refusal.Refusal.TheVariants as refusals

-- the record of the ticket's row is of this proxy, has these moves, and holds the batch with the
-- stamps of its own version
pub record IsTicketFor (p : ProxyNumber) (batch : List AdmittedTransaction) (moves : List Move)
    (t : TicketView) :
    Type 0 where
  pub rec : Record
  pub there : slice_get t.records t.row ≡ Some rec
  pub proxy : rec.proxy ≡ p
  pub moves_are : rec.moves ≡ moves
  pub batch_is : rec.batch ≡ stamped_from rec.version 0 batch

-- the ticket is of the row after these records, and has one record more
pub record ComesAfter (before : List Record) (t : TicketView) : Type 0 where
  pub rec : Record
  pub row : t.row ≡ length before
  pub records : t.records ≡ before ++ rec ∷ []

-- the second ticket is of the next row, and its records are those of the first and one more
pub record ComesNext (first second : TicketView) : Type 0 where
  pub rec : Record
  pub row : second.row ≡ first.row + 1
  pub records : second.records ≡ first.records ++ rec ∷ []

-- the move that is made after the ticket: dated one above the version of the ticket's last record
abbrev pub move_after : TicketView → Range → (dest : ResolverNumber) → Move
move_after t range dest =
    record { range = range; date = last_version t.records + 1; dest = dest }

-- ---- refusals

-- The sequencer is unchanged, and refused a batch of this proxy: with its first fault, or, where there
-- is none, with `OutOfMemory` or `CellTaken`.
abbrev pub RefusesBatch :
    Cells → (before : SequencedView) → ProxyNumber → (after : SequencedView) → Refusal → Type 0
RefusesBatch cells before p after refusal =
    (after ≡ before) × (refusal_fault refusal ≡ sequence_fault cells before p)

-- the sequencer is unchanged, and refused a move: there is no such resolver, or an allocation failed
abbrev pub RefusesMove :
    Config → (before : SequencedView) → (dest : ResolverNumber) → (after : SequencedView)
    → Refusal → Type 0
RefusesMove config before dest after refusal =
    (after ≡ before)
    × (config.resolvers ≤ dest → refusal ≡ refusals.NoSuchResolver)
    × (dest < config.resolvers → refusal ≡ refusals.OutOfMemory)

-- one of two batches was refused: the first, or else the second, after the first got its record
abbrev pub RefusesOneOfTwo :
    Cells → (before : SequencedView) → (p : ProxyNumber) (batch : List AdmittedTransaction)
    → (next_proxy : ProxyNumber) → (after : SequencedView) → Refusal → Type 0
RefusesOneOfTwo cells before p batch next_proxy after refusal =
    RefusesBatch cells before p after refusal
    ⊎ ((between : SequencedView) × (t : TicketView)
    × HasSequenced cells.config before p batch between t
    × RefusesBatch cells between next_proxy after refusal)

-- one of three calls was refused, after those before it were done: the first batch, the move, or the
-- second batch
abbrev pub RefusesAroundMove :
    Cells → (before : SequencedView) → (p : ProxyNumber) (batch : List AdmittedTransaction)
    → Range → (dest : ResolverNumber) → (after : SequencedView) → Refusal → Type 0
RefusesAroundMove cells before p batch range dest after refusal =
    RefusesBatch cells before p after refusal
    ⊎ ((between : SequencedView) × (t : TicketView)
    × HasSequenced cells.config before p batch between t
    × (RefusesMove cells.config between dest after refusal
    ⊎ ((moved : SequencedView) × (date : Version)
    × HasMoved between range dest moved date × RefusesBatch cells moved p after refusal)))
