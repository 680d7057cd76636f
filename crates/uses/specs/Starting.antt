-- What two proxies of a cluster show, each right after it has committed a batch.
use Rattle.std.specs.Prelude.{◌≡◌, ◌⊎◌, ℕ, ◌<◌, ◌≤◌, List, length}
use Rattle.model.specs.Configs.{Config}
use Rattle.model.specs.Stamps.{AdmittedTransaction}
use Rattle.model.specs.Metadata.{Entries}
use Rattle.model.specs.declared.outcome.Finished.{Finished}
use Rattle.agreed_ledger.specs.Cells.{Cells, ledger_limit}
use Rattle.agreed_ledger.specs.declared.refusal.Refusal.TheVariants as ledgers
use Rattle.locked_resolvers.specs.declared.refusal.Refusal.TheVariants as clusters
use Rattle.locked_cluster.specs.Answers.{NotedFinishedView}
use Rattle.locked_cluster.specs.Commits.{IsCommitted}
use Rattle.locked_cluster.specs.Headline.{Headline}
use Rattle.locked_cluster.specs.Proxies.{LockedProxyView}
use Rattle.uses.specs.Causes.{WasNotCommitted}
use Rattle.uses.specs.declared.refused.Refused.{Refused}
use Rattle.uses.specs.declared.refused.Refused.TheVariants.{ByCluster, ByLedger}

-- These are the metadata of two locked proxies, and the finished batches of two answers. The promise
-- holds of the proxies with each of the answers.
pub record ShowsPromise
    (config : Config) (one other : LockedProxyView) (answer next_answer : NotedFinishedView)
    (mine theirs : Entries) (finished next_finished : Finished) : Type 0 where
  pub finished_is : finished ≡ answer.finished
  pub next_finished_is : next_finished ≡ next_answer.finished
  pub promise : Headline config one other mine theirs answer
  pub next_promise : Headline config one other mine theirs next_answer

-- The first two proxies, 0 and 1, have each just committed one of the batches, and show this metadata.
-- What they finished are these, and the promise holds.
pub record KeepsPromise
    (config : Config) (batch next_batch : List AdmittedTransaction)
    (mine theirs : Entries) (finished next_finished : Finished) : Type 0 where
  pub one : LockedProxyView
  pub other : LockedProxyView
  pub answer : NotedFinishedView
  pub next_answer : NotedFinishedView
  pub committed : IsCommitted 0 batch answer one
  pub next_committed : IsCommitted 1 next_batch next_answer other
  pub shows :
      ShowsPromise config one other answer next_answer mine theirs finished next_finished

-- ---- refusals

-- an allocation failed
abbrev pub IsOutOfMemory : Refused → Type 0
IsOutOfMemory refused =
    (refused ≡ ByLedger ledgers.OutOfMemory) ⊎ (refused ≡ ByCluster clusters.OutOfMemory)

-- the batch of proxy 0, or the one of proxy 1, was not committed
abbrev pub OneOfTwoWasNotCommitted : Cells → (batch next_batch : List AdmittedTransaction) → Refused
    → Type 0
OneOfTwoWasNotCommitted cells batch next_batch refused =
    WasNotCommitted cells 0 batch refused ⊎ WasNotCommitted cells 1 next_batch refused

-- why the first two proxies, which are there, showed nothing: an allocation failed, or one of the
-- batches was not committed
abbrev pub WasNotShownByTwo : Cells → (batch next_batch : List AdmittedTransaction) → Refused
    → Type 0
WasNotShownByTwo cells batch next_batch refused =
    IsOutOfMemory refused ⊎ OneOfTwoWasNotCommitted cells batch next_batch refused

-- Why a cluster that has its ledger showed nothing. If it has no second proxy: `NoSuchProxy`, or an
-- allocation failed. Otherwise: what kept its first two proxies from showing anything.
abbrev pub WasNotShownBy : Cells → (batch next_batch : List AdmittedTransaction) → Refused → Type 0
WasNotShownBy cells batch next_batch refused =
    (cells.config.proxies ≤ 1
    → IsOutOfMemory refused ⊎ (refused ≡ ByCluster clusters.NoSuchProxy))
    × (1 < cells.config.proxies → WasNotShownByTwo cells batch next_batch refused)

-- a ledger cannot have this number of rows
abbrev pub IsBadCount : (rows : ℕ) → Type 0
IsBadCount rows = (rows ≡ 0) ⊎ (ledger_limit < rows)

-- a ledger can have this number of rows
abbrev pub IsGoodCount : (rows : ℕ) → Type 0
IsGoodCount rows = (1 ≤ rows) × (rows ≤ ledger_limit)

-- Why nothing was shown. If a ledger cannot have this number of rows: `BadConfig`. Otherwise: an allocation
-- failed, or what kept a cluster of these numbers, with this number of rows, from showing anything.
abbrev pub WasNotShown :
    (rows : ℕ) → Config → (batch next_batch : List AdmittedTransaction) → Refused → Type 0
WasNotShown rows config batch next_batch refused =
    (IsBadCount rows → refused ≡ ByLedger ledgers.BadConfig)
    × (IsGoodCount rows
    → IsOutOfMemory refused
    ⊎ ((cells : Cells) × (cells.config ≡ config) × (length cells.records ≡ rows)
    × WasNotShownBy cells batch next_batch refused))
