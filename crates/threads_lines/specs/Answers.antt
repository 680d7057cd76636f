-- What a batch may be answered, and the texts that are the lines of such answers. `rows` is how many
-- rows the ledger has. `before` is what is known before an answer, and `after` what is known after it.
-- *Profile*: all of it.
use Rattle.std.specs.Prelude.{◌≡◌, ◌+◌, ◌<◌, ◌≤◌, ℕ, List, [], length, slice_get, Some, Ok, Err}
use Rattle.model.specs.Configs.{Config, version_limit}
use Rattle.model.specs.Numbers.{ProxyNumber}
use Rattle.model.specs.Records.{Record, IsHistory, last_version}
use Rattle.model.specs.Stamps.{AdmittedTransaction}
use Rattle.agreed_ledger.specs.declared.refusal.Refusal.{Refusal}
use Rattle.agreed_ledger.specs.declared.refusal.Refusal.TheVariants as refusals
use Rattle.locked_cluster.specs.Answers.{NotedFinishedView, IsNotedFinished}
use Rattle.locked_cluster.specs.Commits.{HoldsBatch}
use Rattle.threads_lines.specs.Histories.{IsStartOf, Joins, Known, SeesFinished, nothing_known}
use Rattle.threads_lines.specs.Lines.{CommitResult, batch_line, closing_line}
use Rattle.threads_lines.specs.Parts.{IsInTurns}
use Rattle.threads_lines.specs.declared.committer.Committed.{Committed}
use Rattle.threads_lines.specs.declared.committer.Committed.TheVariants as committed

-- ---- answers

-- The outcomes and the tags are the definition's for the last of some records, which are a history;
-- this last record is of proxy p, and holds the batch.
pub record FinishesBatch
    (config : Config) (p : ProxyNumber) (batch : List AdmittedTransaction)
    (noted : NotedFinishedView) :
    Type 0 where
  pub is : IsNotedFinished config noted
  pub holds : HoldsBatch p noted.finished.row noted.records batch

-- the records fill the ledger, which has as many rows as are named
abbrev pub IsFull : (rows : ℕ) → List Record → (named : ℕ) → Type 0
IsFull rows records named = (named ≡ rows) × (rows ≤ length records)

-- the ledger has a row left, but the next version would not be below the limit
abbrev pub AreVersionsEnded : Config → (rows : ℕ) → List Record → Type 0
AreVersionsEnded config rows records =
    (length records < rows) × (version_limit ≤ last_version records + config.step)

-- why no record can follow these: they fill the ledger, whose rows the refusal names; or the versions
-- have ended
abbrev pub IsEndAfter : Config → (rows : ℕ) → List Record → Refusal → Type 0
IsEndAfter config rows records (refusals.LedgerFull named) = IsFull rows records named
IsEndAfter config rows records refusals.VersionsEnd = AreVersionsEnded config rows records
IsEndAfter config rows records refusal = ⊥

-- no record can follow some records, which are a history
abbrev pub IsEnd : Config → (rows : ℕ) → Refusal → Type 0
IsEnd config rows refusal =
    (records : List Record) × IsHistory config records × IsEndAfter config rows records refusal

-- what a commit of the batch by proxy p may come to
abbrev pub IsCommitOf :
    {N : Type 0} → Config → (rows : ℕ) → ProxyNumber → List AdmittedTransaction → Committed N
    → Type 0
IsCommitOf config rows p batch (committed.Finished noted) = FinishesBatch config p batch noted
IsCommitOf config rows p batch (committed.NoRecord refusal) = IsEnd config rows refusal

-- no record can follow the records that are known then, which are a history as `RunHistory` keeps them;
-- no batch was seen finished
pub record SeesEnd (config : Config) (rows : ℕ) (refusal : Refusal) (before after : Known) :
    Type 0 where
  pub kept : IsStartOf before.records after.records
  pub ended : IsEndAfter config rows after.records refusal
  pub counted : after.finished ≡ before.finished

-- The batch of proxy p may be answered so: it is finished by the definition for the last of some
-- records, beyond all that were known, which are known then; or there is no record for it, since none
-- can follow those that are known then.
abbrev pub AnswersBatch :
    Config → (rows : ℕ) → ProxyNumber → List AdmittedTransaction → (before after : Known)
    → CommitResult → Type 0
AnswersBatch config rows p batch before after (Ok finished) =
    (noted : NotedFinishedView) × FinishesBatch config p batch noted
    × SeesFinished noted before after × (finished ≡ noted.finished)
AnswersBatch config rows p batch before after (Err refusal) =
    SeesEnd config rows refusal before after

-- ---- their lines

-- the line of an answer to the batch of proxy p
abbrev pub IsLineOf :
    Config → (rows : ℕ) → ProxyNumber → (line : CommitResult → List ℕ) → List AdmittedTransaction
    → (before after : Known) → (text : List ℕ) → Type 0
IsLineOf config rows p line batch before after text =
    (answer : CommitResult) × AnswersBatch config rows p batch before after answer
    × (text ≡ line answer)

-- the line of an answer to the batch at this place among those of proxy p
abbrev pub IsBatchLine :
    Config → (rows : ℕ) → ProxyNumber → List (List AdmittedTransaction) → (place : ℕ)
    → (before after : Known) → (text : List ℕ) → Type 0
IsBatchLine config rows p batches place before after text =
    (batch : List AdmittedTransaction) × (slice_get batches place ≡ Some batch)
    × IsLineOf config rows p (batch_line p place) batch before after text

-- The lines of answers to these batches of proxy p, in order, after which so much is known by them: so
-- the rows of those that are finished rise.
abbrev pub AreBatchLines :
    Config → (rows : ℕ) → ProxyNumber → List (List AdmittedTransaction) → Known → (text : List ℕ)
    → Type 0
AreBatchLines config rows p batches known text =
    IsInTurns (IsBatchLine config rows p batches) nothing_known (length batches) known text

-- the lines of answers to the batches that proxy p commits, and what is known by them
abbrev pub AreLinesOfProxy :
    Config → (rows : ℕ) → (work : List (List (List AdmittedTransaction))) → ProxyNumber
    → (before after : Known) → (text : List ℕ) → Type 0
AreLinesOfProxy config rows work p before after text =
    (batches : List (List AdmittedTransaction)) × (known : Known)
    × (slice_get work p ≡ Some batches)
    × AreBatchLines config rows p batches known text × Joins known before after

-- the lines of answers to the batches of all proxies, in the order of the proxies
abbrev pub AreWorkLines :
    Config → (rows : ℕ) → (work : List (List (List AdmittedTransaction))) → Known → (text : List ℕ)
    → Type 0
AreWorkLines config rows work known text =
    IsInTurns (AreLinesOfProxy config rows work) nothing_known (length work) known text

-- the line of an answer to the empty batch by which proxy p closes
abbrev pub IsClosingLine :
    Config → (rows : ℕ) → ProxyNumber → (before after : Known) → (text : List ℕ) → Type 0
IsClosingLine config rows p before after text =
    IsLineOf config rows p (closing_line p) [] before after text

-- The lines of answers to the closings of this number of proxies, in order: the rows of those that are finished
-- rise, beyond all records that were known before.
abbrev pub AreClosingLines :
    Config → (rows proxies : ℕ) → (before after : Known) → (text : List ℕ) → Type 0
AreClosingLines config rows proxies before after text =
    IsInTurns (IsClosingLine config rows) before proxies after text
