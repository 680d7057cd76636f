-- What a commit came to, and the line of it.
use Rattle.std.proofs.Common.{◌≡◌, ◌++◌, ℕ, List, refl}
use Rattle.std.specs.Prelude.{Ok, Err}
use Rattle.model.specs.Configs.{Config}
use Rattle.model.specs.Stamps.{AdmittedTransaction}
use Rattle.model.specs.declared.outcome.Finished.{Finished}
use Rattle.agreed_ledger.specs.declared.refusal.Refusal.{Refusal}
use Rattle.locked_cluster.specs.Answers.{NotedFinishedView}
use Rattle.threads_lines.specs.Answers.{FinishesBatch, IsLineOf, SeesEnd}
use Rattle.threads_lines.specs.Histories.{Known, SeesFinished}
use Rattle.threads_lines.specs.Lines.{CommitResult}
use Rattle.threads_lines.specs.Parts.{GrowsBy}

-- the line of a finished batch
pub finished_line : (config : Config) (rows : ℕ) (p : ℕ) (line : CommitResult → List ℕ) (batch : List AdmittedTransaction) (before after : Known) (noted : NotedFinishedView) (finished : Finished) (old new : List ℕ)
    → FinishesBatch config p batch noted → SeesFinished noted before after → finished ≡ noted.finished → new ≡ old ++ line (Ok finished) → GrowsBy (IsLineOf config rows p line batch before after) old new
finished_line config rows p line batch before after noted finished old new finishes seen same is = (line (Ok finished), (Ok finished, (noted, finishes, seen, same), refl), is)

-- the line of a batch without record
pub refused_line : (config : Config) (rows : ℕ) (p : ℕ) (line : CommitResult → List ℕ) (batch : List AdmittedTransaction) (before after : Known) (refusal : Refusal) (old new : List ℕ)
    → SeesEnd config rows refusal before after → new ≡ old ++ line (Err refusal) → GrowsBy (IsLineOf config rows p line batch before after) old new
refused_line config rows p line batch before after refusal old new ends is = (line (Err refusal), (Err refusal, ends, refl), is)
