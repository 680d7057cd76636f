-- What the end of a ledger, the line of an audit and the fault of a run say: the contracts of laws.rt.
use Rattle.std.specs.Prelude.{◌≡◌, ◌-◌, ◌^◌, ◌≤◌, ⊤, ℕ, List, [], ◌∷◌, slice_get}
use Rattle.std.specs.Prelude.{true, false, Some, Ok, Result}
use Rattle.model.specs.Configs.{Config}
use Rattle.model.specs.Numbers.{ProxyNumber, Version}
use Rattle.model.specs.Records.{Record, Follows}
use Rattle.agreed_ledger.specs.declared.refusal.Refusal.{Refusal}
use Rattle.agreed_ledger.specs.declared.refusal.Refusal.TheVariants as refusals
use Rattle.locked_cluster.specs.Proxies.{LockedProxyView}
use Rattle.locked_cluster.specs.declared.audits.behind_by.BehindBy.{BehindBy}
use Rattle.locked_cluster.specs.declared.commits.commit_fault.CommitFault.{CommitFault}
use Rattle.locked_cluster.specs.declared.commits.commit_fault.CommitFault.TheVariants as phases
use Rattle.locked_resolvers.specs.Resolvers.{LockedResolverView}
use Rattle.locked_resolvers.specs.declared.refusal.Refusal.TheVariants as locked
use Rattle.threads_lines.specs.Answers.{IsEndAfter}
use Rattle.threads_lines.specs.Faults.{fault_with_workers, graver}
use Rattle.threads_lines.specs.Meetings.{IsAuditLine, audit_line}
use Rattle.threads_lines.specs.declared.faults.RunFault.TheVariants as faults

-- ---- the end of a ledger

-- a record that follows has no row in the ledger
abbrev pub NoRecordFollowsAnEnd : Type 0
NoRecordFollowsAnEnd =
    (config : Config) (rows : ℕ) (records : List Record) (refusal : Refusal)
    → IsEndAfter config rows records refusal
    → (rec : Record) → Follows config records rec → rows ≤ rec.row

-- one record, of this version
abbrev pub one_of : Version → List Record
one_of version = record {
  row = 0;
  previous = 0;
  version = version;
  own_previous = 0;
  proxy = 0;
  moves = [];
  batch = [];
} ∷ []

-- a cluster in which this number of versions lies between two records
abbrev pub steps_of : Version → Config
steps_of step = record { proxies = 2; resolvers = 2; window = 100; step = step }

-- a ledger is full if each of its rows has a record, and the refusal names as many rows
pub record ALedgerIsFull : Type 0 where
  pub full : IsEndAfter (steps_of 10) 1 (one_of 10) (refusals.LedgerFull 1)
  pub a_row_left : IsEndAfter (steps_of 10) 2 (one_of 10) (refusals.LedgerFull 2) → ⊥
  pub another_number : IsEndAfter (steps_of 10) 1 (one_of 10) (refusals.LedgerFull 2) → ⊥
  pub want_of_memory : IsEndAfter (steps_of 10) 1 (one_of 10) refusals.OutOfMemory → ⊥

-- the versions have ended if the next one would be 2^63 and a row is left
pub record VersionsHaveEnded : Type 0 where
  pub ended : IsEndAfter (steps_of (2 ^ 62)) 2 (one_of (2 ^ 62)) refusals.VersionsEnd
  pub one_left :
      IsEndAfter (steps_of (2 ^ 62 - 1)) 2 (one_of (2 ^ 62)) refusals.VersionsEnd → ⊥
  pub no_row_left : IsEndAfter (steps_of (2 ^ 62)) 1 (one_of (2 ^ 62)) refusals.VersionsEnd → ⊥

-- ---- the line of an audit

-- each of the resolvers has reached the proxy's version or further
abbrev pub HaveVersionOf : LockedProxyView → List LockedResolverView → Type 0
HaveVersionOf v resolvers =
    (place : ℕ) (w : LockedResolverView) → slice_get resolvers place ≡ Some w
    → v.proxy.version ≤ w.memory.version

-- an audit that finds each resolver as far as the proxy
abbrev pub reached_by_all : Result ⊤ BehindBy
reached_by_all = Ok tt

-- the line of a proxy says `ok` if each resolver has reached its version
abbrev pub AnAuditIsOkIfAllHaveReached : Type 0
AnAuditIsOkIfAllHaveReached =
    (config : Config) (proxies : List LockedProxyView) (resolvers : List LockedResolverView)
    (p : ProxyNumber) (text : List ℕ) (v : LockedProxyView)
    → slice_get proxies p ≡ Some v → IsAuditLine config proxies resolvers p text
    → HaveVersionOf v resolvers → text ≡ audit_line p reached_by_all

-- and only if each has
abbrev pub AllHaveReachedIfAnAuditIsOk : Type 0
AllHaveReachedIfAnAuditIsOk =
    (config : Config) (proxies : List LockedProxyView) (resolvers : List LockedResolverView)
    (p : ProxyNumber) (v : LockedProxyView)
    → slice_get proxies p ≡ Some v
    → IsAuditLine config proxies resolvers p (audit_line p reached_by_all)
    → HaveVersionOf v resolvers

-- ---- how a run ends that fails

-- a commit was refused memory, in whatever phase
abbrev pub IsMemoryFault : {N : Type 0} → CommitFault N → Type 0
IsMemoryFault (phases.Sequencing refusal batch) = refusal ≡ refusals.OutOfMemory
IsMemoryFault (phases.Beginning refusal ticket) = refusal ≡ locked.OutOfMemory
IsMemoryFault (phases.Resolving refusal begun) = refusal ≡ locked.OutOfMemory
IsMemoryFault (phases.Finishing refusal ready) = refusal ≡ locked.OutOfMemory

-- two faults are one of memory if either is
pub record GraverIsOutOfMemory : Type 0 where
  pub first : graver faults.OutOfMemory faults.Refused ≡ faults.OutOfMemory
  pub second : graver faults.Refused faults.OutOfMemory ≡ faults.OutOfMemory
  pub neither : graver faults.Refused faults.Refused ≡ faults.Refused

-- the fault of a run is one of memory if a worker was refused memory or a proxy failed so
pub record WorkersWithoutMemory : Type 0 where
  pub a_worker : fault_with_workers faults.Refused true ≡ faults.OutOfMemory
  pub a_proxy : fault_with_workers faults.OutOfMemory false ≡ faults.OutOfMemory
  pub neither : fault_with_workers faults.Refused false ≡ faults.Refused
