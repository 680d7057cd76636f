-- Two records that a locked proxy finishes, one after the other.
use Rattle.std.specs.Prelude.{◌≡◌, ◌<◌, ◌⊎◌, List, ◌∷◌, slice_get, Some}
use Rattle.model.specs.Numbers.{ProxyNumber}
use Rattle.model.specs.Configs.{Config}
use Rattle.model.specs.Records.{Record}
use Rattle.model.specs.Stamps.{AdmittedTransaction}
use Rattle.locked_cluster.specs.Ready.{ReadyView}
use Rattle.locked_cluster.specs.Answers.{NotedFinishedView}
use Rattle.locked_cluster.specs.Commits.{HoldsBatch}
use Rattle.locked_cluster.specs.Proxies.{LockedProxyView, FinishesReady, IsFinishRefusal}
use Rattle.locked_cluster.specs.Proxies.{IsLockedProxy, IsOfProxy}
use Rattle.uses.specs.declared.refused.Refused.{Refused}
use Rattle.uses.specs.declared.refused.Refused.TheVariants.{ByCluster, ByLedger}

-- The answer is to the record of the replies: it is of the same row, with the same records and cells,
-- and in this row stands the record that was begun.
pub record IsAnswerTo (rec : Record) (ready : ReadyView) (noted : NotedFinishedView) : Type 0 where
  pub record_row : rec.row ≡ ready.row
  pub row : noted.finished.row ≡ ready.row
  pub records : noted.records ≡ ready.records
  pub columns : noted.columns ≡ ready.columns
  pub there : slice_get noted.records noted.finished.row ≡ Some rec

-- The two records were the first ones begun, in this order, and are so no longer. The answers are to
-- them, and their versions increase. Both records are of the proxy, which has reached the version of
-- the second.
pub record FinishesBoth
    (before : LockedProxyView) (first second : ReadyView)
    (after : LockedProxyView) (answer next_answer : NotedFinishedView) : Type 0 where
  pub rec : Record
  pub next : Record
  pub rest : List Record
  pub begun : before.proxy.begun ≡ rec ∷ next ∷ rest
  pub left : after.proxy.begun ≡ rest
  pub answer_to : IsAnswerTo rec first answer
  pub next_answer_to : IsAnswerTo next second next_answer
  pub increase : answer.finished.version < next_answer.finished.version
  pub own : IsOfProxy after.proxy.number answer.finished.row answer.records
  pub next_own : IsOfProxy after.proxy.number next_answer.finished.row next_answer.records
  pub version : after.proxy.version ≡ next_answer.finished.version
  pub records : after.records ≡ before.records
  pub columns : after.columns ≡ second.columns

-- the proxy is unchanged, and refused to finish the record so
abbrev pub RefusesFinish :
    (before : LockedProxyView) → ReadyView → (after : LockedProxyView) → Refused → Type 0
RefusesFinish before ready after (ByLedger refusal) = ⊥
RefusesFinish before ready after (ByCluster refusal) =
    (after ≡ before) × IsFinishRefusal before ready refusal

-- the proxy refused to finish one of two records: the first, or else the second, after it finished the
-- first
abbrev pub RefusesOneFinish :
    Config → (before : LockedProxyView) → (first second : ReadyView) → (after : LockedProxyView)
    → Refused → Type 0
RefusesOneFinish config before first second after refused =
    RefusesFinish before first after refused
    ⊎ ((between : LockedProxyView) × (answer : NotedFinishedView)
    × FinishesReady before first between answer × IsLockedProxy config between
    × RefusesFinish between second after refused)

-- Two answers of proxy p, in the order of their versions. In the row of each stands a record of the
-- proxy with its batch.
pub record AnswerInOrder
    (p : ProxyNumber) (batch next_batch : List AdmittedTransaction)
    (answer next_answer : NotedFinishedView) :
    Type 0 where
  pub increase : answer.finished.version < next_answer.finished.version
  pub holds : HoldsBatch p answer.finished.row answer.records batch
  pub next_holds : HoldsBatch p next_answer.finished.row next_answer.records next_batch
