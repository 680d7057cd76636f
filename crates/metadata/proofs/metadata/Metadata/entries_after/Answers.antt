-- None of what is still to be removed gives a tag.
use Rattle.std.proofs.Common.{◌∙◌, sym, ap, subst}
use Rattle.model.specs.Metadata.{Entries}
use Rattle.metadata.specs.Overwrites.{entries_without}
use Rattle.metadata.specs.CachedTags.{may_tag_some}
use Rattle.metadata.specs.HiddenRuns.{AreHiddenRuns}
use Rattle.metadata.specs.ServerTables.{GiveTags}
use Rattle.metadata.specs.Started.{Started}
use Rattle.metadata.proofs.MetadataServers.{removed_give_tags}
use Rattle.metadata.proofs.metadata.Metadata.entries_after.Goals as goal

pub new-requires-clause-runs : goal.new-requires-clause-runs
new-requires-clause-runs c =
    subst (λ (entries : Entries). AreHiddenRuns c.started.inside.removed entries c.hidden_runs-runs.result.now) (sym (c.map-entries.ensures.entries ∙ c.self.view_is))
    (subst (λ (started : Started). AreHiddenRuns started.removed c.args.self.now c.hidden_runs-runs.result.now) (sym c.started.view_is) c.hidden_runs-runs.ensures)

pub new-requires-clause-servers : goal.new-requires-clause-servers
new-requires-clause-servers c =
    subst (λ (entries : Entries). GiveTags c.self.inside.servers.tags (entries_without c.started.inside.removed entries)) (sym c.map-entries.ensures.entries)
    (removed_give_tags c.started.inside.removed c.self.inside.entries c.self.inside.servers.tags (ap (λ (entries : Entries). may_tag_some entries c.started.inside.removed) (sym c.map.ensures.entries) ∙ sym c.may_tag_some.ensures ∙ c.if-may_tag_some.false) c.self.invariant.1)
