-- The tags are added in the order of the value, which gives what they give when they are sorted first.
use Rattle.std.proofs.Common.{◌∙◌, ap, sym}
use Rattle.metadata.specs.CachedTags.{Names, names_by}
use Rattle.metadata.specs.ServerTables.{gathered, tags_named}
use Rattle.metadata.proofs.Outcomes.{on_ok}
use Rattle.metadata.proofs.SortedTags.{resorted}
use Rattle.metadata.proofs.Tags.{added}
use Rattle.metadata.proofs.row_tags.RowTags.add_to.Goals as goal

pub returns-in-Some : goal.returns-in-Some
unfolding tags_named
returns-in-Some c =
    on_ok c.gather_into.result
    (λ is.
    is
    ∙ ap (λ (names : Names). added c.args.tags.now.keys (gathered c.self.inside.servers.now.tags names)) c.in-Some.ensures
    ∙ sym (resorted c.args.tags.now.keys (gathered c.self.inside.servers.now.tags (names_by c.self.inside.row.now)))
    ∙ ap (added c.args.tags.now.keys) c.self.view_is)
    c.gather_into.ensures
