use Rattle.std.proofs.Common.{◌∙◌, ap}
use Rattle.fold_run.specs.Text.{version_of}
use Rattle.fold_run.proofs.ListLemmas.{last_at}
use Rattle.fold_run.proofs.text.last_version.Goals as goal

pub returns-in-Some : goal.returns-in-Some
returns-in-Some c = ap version_of (c.in-Some.ensures.value ∙ last_at c.args.rows.now)
