-- The names that are kept, or read, are those of the value.
use Rattle.std.proofs.Common.{◌∙◌, ap}
use Rattle.metadata.specs.CachedTags.{Names}
use Rattle.metadata.specs.ServerTables.{gathered}
use Rattle.metadata.proofs.Outcomes.{on_ok}
use Rattle.metadata.proofs.Tags.{added}
use Rattle.metadata.proofs.row_tags.gather_row.Goals as goal

pub returns-in-Some : goal.returns-in-Some
returns-in-Some c = on_ok c.gather.result (λ is. is ∙ ap (λ (names : Names). added c.args.tags.now (gathered c.args.servers.now.tags names)) c.in-Some.ensures) c.gather.ensures
