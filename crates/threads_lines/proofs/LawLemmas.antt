-- What the end of a ledger, the line of an audit and the fault of a run say.
use Rattle.std.proofs.Common.{◌≡◌, ◌∙◌, ◌++◌, ℕ, List, [], ◌∷◌, codes, ap, refl, subst, sym, append_assoc, arith}
use Rattle.std.specs.Prelude.{⊤, Result, Ok, Err, MatchResult}
use Rattle.std.specs.Fmt.{decimal}
use Rattle.std.proofs.lemmas.List.{append_cancel_left}
use Rattle.std.proofs.lemmas.Option.{same_Some}
use Rattle.model.specs.Configs.{Config}
use Rattle.agreed_ledger.specs.declared.refusal.Refusal.{Refusal as LedgerRefusal}
use Rattle.agreed_ledger.specs.declared.refusal.Refusal.TheVariants as refusals
use Rattle.locked_cluster.specs.Audits.{HaveReached, IsFirstBehind}
use Rattle.locked_cluster.specs.Proxies.{LockedProxyView}
use Rattle.locked_cluster.specs.declared.audits.behind_by.BehindBy.{BehindBy}
use Rattle.locked_cluster.specs.declared.commits.commit_fault.CommitFault.{CommitFault}
use Rattle.locked_cluster.specs.declared.commits.commit_fault.CommitFault.TheVariants as phases
use Rattle.locked_resolvers.specs.Resolvers.{LockedResolverView}
use Rattle.locked_resolvers.specs.declared.refusal.Refusal.{Refusal}
use Rattle.locked_resolvers.specs.declared.refusal.Refusal.TheVariants as locked
use Rattle.scripts.specs.Lines.{spaced}
use Rattle.scripts.specs.declared.status.RunStatus.TheVariants as statuses
use Rattle.threads_lines.specs.Faults.{cluster_fault, fault_status, ledger_fault, status_of}
use Rattle.threads_lines.specs.Laws.{AllHaveReachedIfAnAuditIsOk, AnAuditIsOkIfAllHaveReached, HaveVersionOf, IsMemoryFault, NoRecordFollowsAnEnd, reached_by_all}
use Rattle.threads_lines.specs.Meetings.{audit_line, audit_text}
use Rattle.threads_lines.specs.declared.faults.RunFault.TheVariants as faults

pub no_record_follows_an_end : NoRecordFollowsAnEnd
no_record_follows_an_end config rows records (refusals.LedgerFull named) is rec follows = omega (arith, is.1, follows.row)
no_record_follows_an_end config rows records refusals.VersionsEnd is rec follows =
    absurd (omega (arith, is.1, follows.previous, follows.version, follows.representable))
no_record_follows_an_end config rows records refusals.BadConfig is rec follows = absurd is
no_record_follows_an_end config rows records refusals.NoSuchResolver is rec follows = absurd is
no_record_follows_an_end config rows records refusals.NoSuchProxy is rec follows = absurd is
no_record_follows_an_end config rows records refusals.CellTaken is rec follows = absurd is
no_record_follows_an_end config rows records refusals.OutOfMemory is rec follows = absurd is

-- what an audit found of a proxy
abbrev Found : Config → LockedProxyView → List LockedResolverView → Result ⊤ BehindBy → Type 0
Found config v resolvers audited = MatchResult audited (λ _. HaveReached config v resolvers) (IsFirstBehind config v resolvers)

-- none is behind, so the audit finds none
ok_if_reached : (config : Config) (v : LockedProxyView) (resolvers : List LockedResolverView) (audited : Result ⊤ BehindBy)
    → Found config v resolvers audited → HaveVersionOf v resolvers → audited ≡ reached_by_all
ok_if_reached config v resolvers (Ok all) found reached = ap (λ (u : ⊤). Ok u) (unit_same all)
  where
    unit_same : (u : ⊤) → u ≡ tt
    unit_same u = λ i. u
ok_if_reached config v resolvers (Err behind) found reached =
    absurd (omega (arith, reached found.place found.resolver found.there, found.below))

-- what follows the number of the proxy in its line
line_rest : (p : ℕ) (audited : Result ⊤ BehindBy) → audit_line p audited ≡ (codes "audit " ++ decimal p) ++ (spaced (audit_text audited) ++ 10 ∷ [])
line_rest p audited = append_assoc (codes "audit " ++ decimal p) (spaced (audit_text audited)) (10 ∷ [])

-- a line that says `ok` is of an audit that found none behind
found_none : (config : Config) (v : LockedProxyView) (resolvers : List LockedResolverView) (p : ℕ) (audited : Result ⊤ BehindBy)
    → Found config v resolvers audited → audit_line p reached_by_all ≡ audit_line p audited → HaveReached config v resolvers
found_none config v resolvers p (Ok all) found same = found
found_none config v resolvers p (Err behind) found same =
    let rest = append_cancel_left (codes "audit " ++ decimal p) (spaced (audit_text reached_by_all) ++ 10 ∷ []) (spaced (audit_text (Err behind)) ++ 10 ∷ [])
    (sym (line_rest p reached_by_all) ∙ same ∙ line_rest p (Err behind)) in
    let apart : ◌≡◌ {A = ℕ} 111 98 = cc in
    absurd (omega (arith, apart))

pub an_audit_is_ok_if_all_have_reached : AnAuditIsOkIfAllHaveReached
an_audit_is_ok_if_all_have_reached config proxies resolvers p text v at (audited, w, there, is, found, text_is) reached =
    let same : w ≡ v = same_Some w v (sym there ∙ at) in
    text_is ∙ ap (audit_line p) (ok_if_reached config w resolvers audited found (subst (λ (u : LockedProxyView). HaveVersionOf u resolvers) (sym same) reached))

pub all_have_reached_if_an_audit_is_ok : AllHaveReachedIfAnAuditIsOk
all_have_reached_if_an_audit_is_ok config proxies resolvers p v at (audited, w, there, is, found, text_is) =
    let same : w ≡ v = same_Some w v (sym there ∙ at) in
    let reached = found_none config w resolvers p audited found text_is in
    subst (λ (u : LockedProxyView). HaveVersionOf u resolvers) same (λ place one at_it. (reached place one at_it).reached)

-- a refusal for another reason than memory
refused_by_ledger : (refusal : LedgerRefusal) → (refusal ≡ refusals.OutOfMemory → ⊥) → ledger_fault refusal ≡ faults.Refused
refused_by_ledger refusals.BadConfig another = refl
refused_by_ledger refusals.NoSuchResolver another = refl
refused_by_ledger refusals.NoSuchProxy another = refl
refused_by_ledger (refusals.LedgerFull rows) another = refl
refused_by_ledger refusals.VersionsEnd another = refl
refused_by_ledger refusals.CellTaken another = refl
refused_by_ledger refusals.OutOfMemory another = absurd (another refl)

refused_by_cluster : (refusal : Refusal) → (refusal ≡ locked.OutOfMemory → ⊥) → cluster_fault refusal ≡ faults.Refused
refused_by_cluster (locked.Early version) another = refl
refused_by_cluster (locked.GivenUp acknowledged) another = refl
refused_by_cluster locked.NoSuchProxy another = refl
refused_by_cluster locked.WrongResolver another = refl
refused_by_cluster (locked.OutsideChain version) another = refl
refused_by_cluster locked.NotMine another = refl
refused_by_cluster (locked.OutOfOrder expected) another = refl
refused_by_cluster (locked.OutOfTurn expected) another = refl
refused_by_cluster (locked.NotReached version) another = refl
refused_by_cluster locked.CellTaken another = refl
refused_by_cluster locked.Closed another = refl
refused_by_cluster locked.OutOfMemory another = absurd (another refl)

pub memory_ends_so : {N : Type 0} (fault : CommitFault N) → IsMemoryFault fault → status_of fault ≡ statuses.OutOfMemory
memory_ends_so (phases.Sequencing refusal batch) is = ap (λ (r : LedgerRefusal). fault_status (ledger_fault r)) is
memory_ends_so (phases.Beginning refusal ticket) is = ap (λ (r : Refusal). fault_status (cluster_fault r)) is
memory_ends_so (phases.Resolving refusal begun) is = ap (λ (r : Refusal). fault_status (cluster_fault r)) is
memory_ends_so (phases.Finishing refusal ready) is = ap (λ (r : Refusal). fault_status (cluster_fault r)) is

pub others_end_so : {N : Type 0} (fault : CommitFault N) → (IsMemoryFault fault → ⊥) → status_of fault ≡ statuses.ClusterRefused
others_end_so (phases.Sequencing refusal batch) another = ap fault_status (refused_by_ledger refusal another)
others_end_so (phases.Beginning refusal ticket) another = ap fault_status (refused_by_cluster refusal another)
others_end_so (phases.Resolving refusal begun) another = ap fault_status (refused_by_cluster refusal another)
others_end_so (phases.Finishing refusal ready) another = ap fault_status (refused_by_cluster refusal another)
