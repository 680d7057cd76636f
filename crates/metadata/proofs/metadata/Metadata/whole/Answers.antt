-- No entry is hidden.
use Rattle.std.proofs.Common.{◌∙◌, sym, subst}
use Rattle.model.specs.Metadata.{Entries}
use Rattle.metadata.specs.Overwrites.{entries_without}
use Rattle.metadata.specs.HiddenRuns.{AreHiddenRuns}
use Rattle.metadata.specs.ServerTables.{GiveTags}
use Rattle.metadata.proofs.EntriesLeft.{without_none}
use Rattle.metadata.proofs.MetadataServers.{all_give_tags}
use Rattle.metadata.proofs.metadata.Metadata.whole.Goals as goal

pub new-requires-clause-runs : goal.new-requires-clause-runs
new-requires-clause-runs c = subst (AreHiddenRuns c.self.inside.none c.map-entries.result.now) (sym c.self.invariant.2) tt

pub new-requires-clause-servers : goal.new-requires-clause-servers
new-requires-clause-servers c =
    subst (λ (entries : Entries). GiveTags c.self.inside.servers.tags (entries_without c.self.inside.none entries)) (sym c.map-entries.ensures.entries)
    (all_give_tags c.self.inside.none c.self.inside.entries c.self.inside.servers.tags c.self.invariant.0 c.self.invariant.1)

pub returns : goal.returns
returns c = c.new.ensures ∙ without_none c.self.inside.none c.map-entries.result.now c.self.invariant.0 ∙ c.map-entries.ensures.entries ∙ c.self.view_is
