-- A batch whose refusal is printed got no record, since none could follow those before it.
use Rattle.std.proofs.Common.{◌≡◌, ◌+◌, ◌<◌, ◌≤◌, ℕ, List, Bool, true, false, length, nat_le, if◌then◌else◌, refl}
use Rattle.std.specs.Prelude.{Option, Some, None, Ok}
use Rattle.std.proofs.lemmas.Bool.{leb-true, leb-false}
use Rattle.model.specs.Configs.{Config, version_limit}
use Rattle.model.specs.Records.{Record, last_version}
use Rattle.model.specs.Stamps.{AdmittedTransaction}
use Rattle.agreed_ledger.specs.Cells.{Cells}
use Rattle.agreed_ledger.specs.declared.refusal.Refusal.{Refusal}
use Rattle.agreed_ledger.specs.declared.refusal.Refusal.TheVariants as refusals
use Rattle.locked_cluster.specs.Commits.{HandsBack, WasSequenceRefused}
use Rattle.locked_cluster.specs.declared.commits.commit_fault.CommitFault.{CommitFault}
use Rattle.locked_cluster.specs.declared.commits.commit_fault.CommitFault.TheVariants as phases
use Rattle.threads_lines.specs.Answers.{IsEnd}
use Rattle.threads_lines.specs.Faults.{printed_of_ledger, printed_refusal}

-- the fault that the tests of the sequencer give
abbrev fault_by : (rows : ℕ) → (unknown full ended : Bool) → Option Refusal
fault_by rows unknown full ended =
    if unknown then Some refusals.NoSuchProxy
    else if full then Some (refusals.LedgerFull rows)
    else if ended then Some refusals.VersionsEnd
    else None

-- the ledger is full only if the test says so
named_rows : (config : Config) (rows named : ℕ) (records : List Record) (unknown full ended : Bool)
    → nat_le rows (length records) ≡ full → Some (refusals.LedgerFull named) ≡ fault_by rows unknown full ended
    → (named ≡ rows) × (rows ≤ length records)
named_rows config rows named records true full ended is_full fault = absurd (cc)
named_rows config rows named records false true ended is_full fault = (cc, leb-true rows (length records) is_full)
named_rows config rows named records false false true is_full fault = absurd (cc)
named_rows config rows named records false false false is_full fault = absurd (cc)

-- the versions end only if the test says so, and the ledger has a row left
versions_end : (config : Config) (rows : ℕ) (records : List Record) (unknown full ended : Bool)
    → nat_le rows (length records) ≡ full → nat_le version_limit (last_version records + config.step) ≡ ended
    → Some refusals.VersionsEnd ≡ fault_by rows unknown full ended
    → (length records < rows) × (version_limit ≤ last_version records + config.step)
versions_end config rows records true full ended is_full is_ended fault = absurd (cc)
versions_end config rows records false true ended is_full is_ended fault = absurd (cc)
versions_end config rows records false false true is_full is_ended fault =
    (leb-false rows (length records) is_full, leb-true version_limit (last_version records + config.step) is_ended)
versions_end config rows records false false false is_full is_ended fault = absurd (cc)

-- a refusal of the sequencer that is printed says that no record could follow
end_of_sequence : (cells : Cells) (p : ℕ) (refusal printed : Refusal)
    → WasSequenceRefused cells p refusal → printed_of_ledger refusal ≡ Ok printed → IsEnd cells.config (length cells.records) printed
end_of_sequence cells p refusals.BadConfig printed was is = absurd (cc)
end_of_sequence cells p refusals.NoSuchResolver printed was is = absurd (cc)
end_of_sequence cells p refusals.NoSuchProxy printed was is = absurd (cc)
end_of_sequence cells p (refusals.LedgerFull named) printed was is =
    let (s, follows, fault) = was in
    let same : printed ≡ refusals.LedgerFull named = cc in
    let rows = length cells.records in
    let full = named_rows cells.config rows named s.records (nat_le cells.config.proxies p) (nat_le rows (length s.records)) (nat_le version_limit (last_version s.records + cells.config.step)) refl fault in
    rw same (s.records, follows.history, full)
end_of_sequence cells p refusals.VersionsEnd printed was is =
    let (s, follows, fault) = was in
    let same : printed ≡ refusals.VersionsEnd = cc in
    let rows = length cells.records in
    let ended = versions_end cells.config rows s.records (nat_le cells.config.proxies p) (nat_le rows (length s.records)) (nat_le version_limit (last_version s.records + cells.config.step)) refl refl fault in
    rw same (s.records, follows.history, ended)
end_of_sequence cells p refusals.CellTaken printed was is = absurd (cc)
end_of_sequence cells p refusals.OutOfMemory printed was is = absurd (cc)

-- a commit whose fault is printed got no record
pub end_of_commit : {N : Type 0} (cells : Cells) (whose : Option ℕ) (p : ℕ) (batch : List AdmittedTransaction) (fault : CommitFault N) (printed : Refusal)
    → HandsBack cells whose p batch fault → printed_refusal fault ≡ Ok printed → IsEnd cells.config (length cells.records) printed
end_of_commit cells whose p batch (phases.Sequencing refusal returned) printed back is = end_of_sequence cells p refusal printed back.1 is
end_of_commit cells whose p batch (phases.Beginning refusal ticket) printed back is = absurd (cc)
end_of_commit cells whose p batch (phases.Resolving refusal begun) printed back is = absurd (cc)
end_of_commit cells whose p batch (phases.Finishing refusal ready) printed back is = absurd (cc)
