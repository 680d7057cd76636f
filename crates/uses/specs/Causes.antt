-- Why a batch was not committed, whichever the phase.
use Rattle.std.specs.Prelude.{◌≡◌, ◌⊎◌, ⊤, List, Option, None, Some}
use Rattle.model.specs.Numbers.{ProxyNumber, RowNumber}
use Rattle.model.specs.Configs.{Config}
use Rattle.model.specs.Stamps.{AdmittedTransaction}
use Rattle.agreed_ledger.specs.Cells.{Cells}
use Rattle.agreed_ledger.specs.Sequencing.{IsTicket, TicketView}
use Rattle.locked_resolvers.specs.Asking.{IsAskAllRefusal}
use Rattle.locked_resolvers.specs.declared.refusal.Refusal.{Refusal}
use Rattle.locked_cluster.specs.Begun.{BegunView, IsBegun}
use Rattle.locked_cluster.specs.Ready.{IsReady, ReadyView}
use Rattle.locked_cluster.specs.Commits.{HoldsBatch, WasBeginRefused, WasSequenceRefused}
use Rattle.locked_cluster.specs.Proxies.{LockedProxyView, IsFinishRefusal, IsLockedProxy}
use Rattle.locked_cluster.specs.declared.commits.commit_fault.CommitFault.{CommitFault}
use Rattle.locked_cluster.specs.declared.commits.commit_fault.CommitFault.TheVariants as faults
use Rattle.uses.specs.declared.refused.Refused.{Refused}
use Rattle.uses.specs.declared.refused.Refused.TheVariants.{ByCluster, ByLedger}

-- the refusal of the phase
abbrev pub cause_of : {N : Type 0} → CommitFault N → Refused
cause_of (faults.Sequencing refusal batch) = ByLedger refusal
cause_of (faults.Beginning refusal ticket) = ByCluster refusal
cause_of (faults.Resolving refusal begun) = ByCluster refusal
cause_of (faults.Finishing refusal ready) = ByCluster refusal

-- There is some record of p with the batch, and p, in some state that its type allows, refuses to
-- begin it so.
abbrev pub CouldNotBegin : Cells → ProxyNumber → (batch : List AdmittedTransaction) → Refusal
    → Type 0
CouldNotBegin cells p batch refusal =
    (ticket : TicketView) × IsTicket cells.config ticket
    × HoldsBatch p ticket.row ticket.records batch
    × WasBeginRefused cells.config p ticket refusal

-- There are requests as p sends them for some record of p with the batch, and a way to ask: it takes
-- those of another proxy alone, or a resolver that one of them names, in some state that its type
-- allows, refuses this one so, or an allocation failed.
abbrev pub CouldNotResolve : Cells → ProxyNumber → (batch : List AdmittedTransaction) → Refusal
    → Type 0
CouldNotResolve cells p batch refusal =
    (begun : BegunView) × (whose : Option ProxyNumber) × IsBegun cells.config begun
    × HoldsBatch p begun.row begun.records batch
    × IsAskAllRefusal cells.config whose begun.requests refusal

-- There are replies as all resolvers give them to some record of p with the batch, and p, in some state
-- that its type allows, refuses to finish this record so.
abbrev pub CouldNotFinish : Cells → ProxyNumber → (batch : List AdmittedTransaction) → Refusal
    → Type 0
CouldNotFinish cells p batch refusal =
    (ready : ReadyView) × IsReady cells.config ready
    × HoldsBatch p ready.row ready.records batch
    × ((v : LockedProxyView) × IsLockedProxy cells.config v
    × (v.proxy.number ≡ p) × IsFinishRefusal v ready refusal)

-- Why a batch of proxy p was not committed. Either the sequencer, with some history, refuses a batch of
-- p so. Or there is some record of p with the batch, and p refuses so to begin or to finish it, or a
-- resolver refuses so to judge it, each in some state that its type allows; or an allocation failed.
abbrev pub WasNotCommitted : Cells → ProxyNumber → (batch : List AdmittedTransaction) → Refused
    → Type 0
WasNotCommitted cells p batch (ByLedger refusal) = WasSequenceRefused cells p refusal
WasNotCommitted cells p batch (ByCluster refusal) =
    CouldNotBegin cells p batch refusal
    ⊎ (CouldNotResolve cells p batch refusal ⊎ CouldNotFinish cells p batch refusal)

-- what the type of the ticket, the requests or the replies in a fault says of them; of a batch, nothing
abbrev pub KeepsReturned : {N : Type 0} → Config → CommitFault N → Type 0
KeepsReturned config (faults.Sequencing refusal batch) = ⊤
KeepsReturned config (faults.Beginning refusal ticket) = IsTicket config ticket
KeepsReturned config (faults.Resolving refusal begun) = IsBegun config begun
KeepsReturned config (faults.Finishing refusal ready) = IsReady config ready

-- the row of the record in a fault, if the batch got one
abbrev pub row_in : {N : Type 0} → CommitFault N → Option RowNumber
row_in (faults.Sequencing refusal batch) = None
row_in (faults.Beginning refusal ticket) = Some ticket.row
row_in (faults.Resolving refusal begun) = Some begun.row
row_in (faults.Finishing refusal ready) = Some ready.row

-- one of two batches of proxy p was not committed, for this reason
abbrev pub OneWasNotCommitted :
    Cells → ProxyNumber → (batch next_batch : List AdmittedTransaction) → Refused → Type 0
OneWasNotCommitted cells p batch next_batch refused =
    WasNotCommitted cells p batch refused ⊎ WasNotCommitted cells p next_batch refused
