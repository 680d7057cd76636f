-- Why a batch was not committed, from what its phases say.
use Rattle.std.proofs.Common.{◌≡◌, sym, ap, ◌∙◌, subst, ℕ, List, inl, inr}
use Rattle.std.specs.Prelude.{Option, Result, Err, IfErr}
use Rattle.model.specs.Stamps.{AdmittedTransaction}
use Rattle.model.specs.Finishing.{ProxyView}
use Rattle.agreed_ledger.specs.Cells.{Cells}
use Rattle.locked_cluster.specs.Ready.{IsReady, ReadyView}
use Rattle.locked_cluster.specs.Commits.{HandsBack, HoldsBatch}
use Rattle.locked_cluster.specs.Proxies.{LockedProxyView, IsLockedProxy}
use Rattle.locked_cluster.specs.declared.commits.commit_fault.CommitFault.{CommitFault}
use Rattle.locked_cluster.specs.declared.commits.commit_fault.CommitFault.TheVariants as faults
use Rattle.uses.specs.Causes.{KeepsReturned, OneWasNotCommitted, WasNotCommitted, cause_of}
use Rattle.uses.specs.Finishing.{RefusesFinish, RefusesOneFinish}
use Rattle.uses.specs.declared.refused.Refused.{Refused}
use Rattle.uses.specs.declared.refused.Refused.TheVariants.{ByCluster, ByLedger}

-- what holds of an error holds of the result that is this error
pub if_err : {T E : Type 0} (P : E → Type 0) (result : Result T E) (e : E) → result ≡ Err e → P e → IfErr result P
if_err {T} {E} P result e is holds = subst (λ (r : Result T E). IfErr r P) (sym is) holds

-- the fault of a commit is why its batch was not committed
pub not_committed : {N : Type 0} (cells : Cells) (whose : Option ℕ) (p : ℕ) (batch : List AdmittedTransaction) (fault : CommitFault N)
    → KeepsReturned cells.config fault → HandsBack cells whose p batch fault → WasNotCommitted cells p batch (cause_of fault)
not_committed cells whose p batch (faults.Sequencing refusal returned) kept is = is.1
not_committed cells whose p batch (faults.Beginning refusal ticket) kept is = inl (ticket, kept, is.0, is.1)
not_committed cells whose p batch (faults.Resolving refusal begun) kept is = inr (inl (begun, whose, kept, is.0, is.1))
not_committed cells whose p batch (faults.Finishing refusal ready) kept is =
    let was = is.1 in inr (inr (ready, kept, is.0, (was.0, was.1, was.2, was.4)))

-- so is the refusal of a finish
pub finish_refused : (cells : Cells) (p : ℕ) (batch : List AdmittedTransaction) (before : LockedProxyView) (ready : ReadyView)
    (after : LockedProxyView) (refused : Refused)
    → IsLockedProxy cells.config before → before.proxy.number ≡ p → IsReady cells.config ready → HoldsBatch p ready.row ready.records batch
    → RefusesFinish before ready after refused → WasNotCommitted cells p batch refused
finish_refused cells p batch before ready after (ByLedger refusal) keeps number kept holds refuses = absurd refuses
finish_refused cells p batch before ready after (ByCluster refusal) keeps number kept holds refuses = inr (inr (ready, kept, holds, (before, keeps, number, refuses.1)))

-- and that of one of two finishes
pub one_finish_refused : (cells : Cells) (p : ℕ) (batch next_batch : List AdmittedTransaction) (before : LockedProxyView) (first second : ReadyView)
    (after : LockedProxyView) (refused : Refused)
    → IsLockedProxy cells.config before → before.proxy.number ≡ p → IsReady cells.config first → IsReady cells.config second
    → HoldsBatch p first.row first.records batch → HoldsBatch p second.row second.records next_batch
    → RefusesOneFinish cells.config before first second after refused → OneWasNotCommitted cells p batch next_batch refused
one_finish_refused cells p batch next_batch before first second after refused keeps number kept next_kept holds next_holds (inl one) = inl (finish_refused cells p batch before first after refused keeps number kept holds one)
one_finish_refused cells p batch next_batch before first second after refused keeps number kept next_kept holds next_holds (inr two) =
    let same : two.0.proxy.number ≡ before.proxy.number = ap (λ (v : ProxyView). v.number) two.2.finishes.after in
    inr (finish_refused cells p next_batch two.0 second after refused two.3 (same ∙ number) next_kept next_holds two.4)
