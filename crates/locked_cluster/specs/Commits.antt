-- What a commit does. *Profile*: all of it.
use Rattle.std.specs.Prelude.{◌≡◌, List, slice_get, Option, None, Some, IsFalse}
use Rattle.model.specs.Numbers.{ProxyNumber, RowNumber}
use Rattle.model.specs.Configs.{Config}
use Rattle.model.specs.Records.{Record, MovesFollow}
use Rattle.model.specs.Stamps.{AdmittedTransaction, stamped_from}
use Rattle.agreed_ledger.specs.Cells.{Cells}
use Rattle.agreed_ledger.specs.Refusals.{refusal_fault}
use Rattle.agreed_ledger.specs.Sequencing.{SequencedView, TicketView, sequence_fault}
use Rattle.agreed_ledger.specs.declared.refusal.Refusal.{Refusal as LedgerRefusal}
use Rattle.locked_resolvers.specs.Asking.{IsAskAllRefusal}
use Rattle.locked_cluster.specs.Answers.{NotedFinishedView}
use Rattle.locked_cluster.specs.Begun.{BegunView}
use Rattle.locked_cluster.specs.Ready.{ReadyView}
use Rattle.locked_cluster.specs.Proxies.{LockedProxyView, IsLockedProxy, ShowsFinished}
use Rattle.locked_cluster.specs.Proxies.{IsBeginRefusal, IsFinishRefusal, awaits_row_before}
use Rattle.locked_resolvers.specs.declared.refusal.Refusal.{Refusal}
use Rattle.locked_cluster.specs.declared.commits.commit_fault.CommitFault.{CommitFault}
use Rattle.locked_cluster.specs.declared.commits.commit_fault.CommitFault.TheVariants as faults

-- the record of the row is of this proxy, and holds the batch with the stamps of its version
pub record HoldsBatch
    (p : ProxyNumber) (row : RowNumber) (records : List Record) (batch : List AdmittedTransaction) :
    Type 0 where
  pub rec : Record
  pub there : slice_get records row ≡ Some rec
  pub own : rec.proxy ≡ p
  pub batch_is : rec.batch ≡ stamped_from rec.version 0 batch

-- the way to ask takes the requests of this proxy
abbrev pub TakesProxy : (whose : Option ProxyNumber) → ProxyNumber → Type 0
TakesProxy None p = Unit {0}
TakesProxy (Some only) p = p ≡ only

-- the way to ask takes the requests of the proxy whose record was begun
abbrev pub TakesRecord : (whose : Option ProxyNumber) → BegunView → Type 0
TakesRecord whose begun =
    (rec : Record) → slice_get begun.records begun.row ≡ Some rec → TakesProxy whose rec.proxy

-- the finished record is of this proxy and holds the batch, and this proxy is shown and has just
-- finished it
pub record IsCommitted
    (p : ProxyNumber) (batch : List AdmittedTransaction) (noted : NotedFinishedView)
    (v : LockedProxyView) :
    Type 0 where
  pub holds : HoldsBatch p noted.finished.row noted.records batch
  pub number : v.proxy.number ≡ p
  pub shown : ShowsFinished noted v

-- The sequencer, in some state that its lock may keep, refuses a batch of this proxy so: with its
-- first fault, or, where there is none, `OutOfMemory` or a taken cell.
abbrev pub WasSequenceRefused : Cells → ProxyNumber → LedgerRefusal → Type 0
WasSequenceRefused cells p refusal =
    (s : SequencedView) × MovesFollow cells.config s.records s.moves
    × (refusal_fault refusal ≡ sequence_fault cells s p)

-- the proxy of this number, in some state that its lock may keep, refuses to begin the ticket so
abbrev pub WasBeginRefused : Config → ProxyNumber → TicketView → Refusal → Type 0
WasBeginRefused config p ticket refusal =
    (v : LockedProxyView) × IsLockedProxy config v
    × (v.proxy.number ≡ p) × IsBeginRefusal v ticket refusal

-- the proxy of this number, in some state that its lock may keep, awaits no earlier record and refuses
-- to finish this one so
abbrev pub WasFinishRefused : Config → ProxyNumber → ReadyView → Refusal → Type 0
WasFinishRefused config p ready refusal =
    (v : LockedProxyView) × IsLockedProxy config v × (v.proxy.number ≡ p)
    × IsFalse (awaits_row_before v.proxy.begun ready.row) × IsFinishRefusal v ready refusal

-- Each fault of a commit of a proxy returns what its phase was given, the batch or what holds it, and
-- its refusal is one of that phase. (`whose`: whose requests the way to ask takes.)
abbrev pub HandsBack :
    {N : Type 0} → Cells → (whose : Option ProxyNumber) → ProxyNumber → List AdmittedTransaction
    → CommitFault N → Type 0
HandsBack cells whose p batch (faults.Sequencing refusal returned) =
    (returned ≡ batch) × WasSequenceRefused cells p refusal
HandsBack cells whose p batch (faults.Beginning refusal ticket) =
    HoldsBatch p ticket.row ticket.records batch
    × WasBeginRefused cells.config p ticket refusal
HandsBack cells whose p batch (faults.Resolving refusal begun) =
    HoldsBatch p begun.row begun.records batch
    × IsAskAllRefusal cells.config whose begun.requests refusal
HandsBack cells whose p batch (faults.Finishing refusal ready) =
    HoldsBatch p ready.row ready.records batch
    × WasFinishRefused cells.config p ready refusal
