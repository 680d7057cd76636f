-- The version of the record before the end.
use Rattle.std.proofs.Common.{◌∙◌, ap, arith}
use Rattle.model.specs.Records.{last_version}
use Rattle.threads_lines.specs.Histories.{Known}
use Rattle.threads_lines.proofs.HistoryLemmas.{last_of_stretch}
use Rattle.threads_lines.proofs.run_history.RunHistory.last_version.Goals as goal

pub returns-in-Some-get : goal.returns-in-Some-get
returns-in-Some-get g c =
    c.version.ensures.value ∙ last_of_stretch c.self.inside.records c.in-Some.last c.in-Some-get.rec.now c.self.invariant.0 (omega arith) c.in-Some-get.ensures
    ∙ ap (λ (known : Known). last_version known.records) c.self.view_is
