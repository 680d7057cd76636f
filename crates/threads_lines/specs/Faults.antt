-- How a run fails by the faults of its commits, and which refusals are printed (this project's
-- profile).
use Rattle.std.specs.Prelude.{◌≡◌, ⊤, ℕ, List, [], ◌∷◌, ◌++◌, Bool, true, false}
use Rattle.std.specs.Prelude.{Option, Some, None, Result, Ok, Err}
use Rattle.agreed_ledger.specs.declared.refusal.Refusal.{Refusal as LedgerRefusal}
use Rattle.agreed_ledger.specs.declared.refusal.Refusal.TheVariants as ledger
use Rattle.scripts.specs.declared.status.RunStatus.{RunStatus}
use Rattle.scripts.specs.declared.status.RunStatus.TheVariants as statuses
use Rattle.locked_cluster.specs.declared.commits.commit_fault.CommitFault.{CommitFault}
use Rattle.locked_cluster.specs.declared.commits.commit_fault.CommitFault.TheVariants as phases
use Rattle.locked_resolvers.specs.declared.refusal.Refusal.{Refusal}
use Rattle.locked_resolvers.specs.declared.refusal.Refusal.TheVariants as refusals
use Rattle.threads_lines.specs.declared.faults.RunFault.{RunFault}
use Rattle.threads_lines.specs.declared.faults.RunFault.TheVariants as faults

-- `OutOfMemory`, if either fault is that
abbrev pub graver : RunFault → RunFault → RunFault
graver faults.OutOfMemory other = faults.OutOfMemory
graver faults.Refused other = other

-- the fault of a run: its proxies' fault, but `OutOfMemory` if a worker was refused memory
abbrev pub fault_with_workers : RunFault → (refused_memory : Bool) → RunFault
fault_with_workers fault true = faults.OutOfMemory
fault_with_workers fault false = fault

-- `Ok` if both are, and otherwise the graver fault
abbrev pub join_results : Result ⊤ RunFault → Result ⊤ RunFault → Result ⊤ RunFault
join_results (Ok _) other = other
join_results (Err fault) (Ok _) = Err fault
join_results (Err fault) (Err second) = Err (graver fault second)

-- a result, by the bytes of its text
abbrev pub text_of : {X : Type 0} → (bytes : X → List ℕ) → Result X RunFault
    → Result (List ℕ) RunFault
text_of bytes (Ok text) = Ok (bytes text)
text_of bytes (Err fault) = Err fault

-- both texts, one after the other, if both are texts, and otherwise the graver fault
abbrev pub join_texts :
    Result (List ℕ) RunFault → Result (List ℕ) RunFault → Result (List ℕ) RunFault
join_texts (Ok text) (Ok other) = Ok (text ++ other)
join_texts (Ok text) (Err fault) = Err fault
join_texts (Err fault) (Ok other) = Err fault
join_texts (Err fault) (Err second) = Err (graver fault second)

-- all texts, one after the other, if all are texts, and otherwise the gravest fault
abbrev pub texts_of : {X : Type 0} → (bytes : X → List ℕ) → List (Result X RunFault)
    → Result (List ℕ) RunFault
texts_of bytes [] = Ok []
texts_of bytes (one ∷ rest) = join_texts (text_of bytes one) (texts_of bytes rest)

-- the fault, but for `OutOfMemory`, which may come in place of any result
abbrev pub run_fault : RunFault → Option RunFault
run_fault faults.OutOfMemory = None
run_fault faults.Refused = Some faults.Refused

-- how a run fails that the sequencer refused so
abbrev pub ledger_fault : LedgerRefusal → RunFault
ledger_fault ledger.OutOfMemory = faults.OutOfMemory
ledger_fault refusal = faults.Refused

-- how a run fails that a proxy or a resolver refused so
abbrev pub cluster_fault : Refusal → RunFault
cluster_fault refusals.OutOfMemory = faults.OutOfMemory
cluster_fault refusal = faults.Refused

-- how a run fails in which a commit has this fault: with `OutOfMemory` in whatever phase an allocation
-- failed
abbrev pub commit_fault : {N : Type 0} → CommitFault N → RunFault
commit_fault (phases.Sequencing refusal batch) = ledger_fault refusal
commit_fault (phases.Beginning refusal ticket) = cluster_fault refusal
commit_fault (phases.Resolving refusal begun) = cluster_fault refusal
commit_fault (phases.Finishing refusal ready) = cluster_fault refusal

-- how a run ends that fails so
abbrev pub fault_status : RunFault → RunStatus
fault_status faults.OutOfMemory = statuses.OutOfMemory
fault_status faults.Refused = statuses.ClusterRefused

-- how a run ends in which a commit has this fault
abbrev pub status_of : {N : Type 0} → CommitFault N → RunStatus
status_of fault = fault_status (commit_fault fault)

-- the refusal of a batch that gets no record is printed where the ledger or the versions end; any
-- other ends the run
abbrev pub printed_of_ledger : LedgerRefusal → Result LedgerRefusal RunFault
printed_of_ledger (ledger.LedgerFull rows) = Ok (ledger.LedgerFull rows)
printed_of_ledger ledger.VersionsEnd = Ok ledger.VersionsEnd
printed_of_ledger refusal = Err (ledger_fault refusal)

-- the refusal that is printed of a commit that has this fault, or how the run fails
abbrev pub printed_refusal : {N : Type 0} → CommitFault N → Result LedgerRefusal RunFault
printed_refusal (phases.Sequencing refusal batch) = printed_of_ledger refusal
printed_refusal (phases.Beginning refusal ticket) = Err (cluster_fault refusal)
printed_refusal (phases.Resolving refusal begun) = Err (cluster_fault refusal)
printed_refusal (phases.Finishing refusal ready) = Err (cluster_fault refusal)

-- a run fails so by a check that this holds: with `Refused`, and it does not hold
abbrev pub FailsCheckOf : Type 0 → RunFault → Type 0
FailsCheckOf Holds fault = (fault ≡ faults.Refused) × ¬ Holds
