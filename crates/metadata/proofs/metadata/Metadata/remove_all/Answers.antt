-- The servers whose entries are removed are no longer listed.
use Rattle.std.proofs.Common.{◌∙◌, subst}
use Rattle.model.specs.Metadata.{Entries, entry_value}
use Rattle.metadata.specs.ServerTables.{AreRefreshed}
use Rattle.metadata.proofs.MetadataServers.{places_left, servers_left}
use Rattle.metadata.proofs.metadata.Metadata.remove_all.Goals as goal

pub invariant_of-self : goal.invariant_of-self
invariant_of-self c = (
  c.self.invariant.0,
  servers_left c.args.keys.now c.self.inside.entries c.remove_all.new.self c.self.inside.servers.tags c.refresh.new.self.tags c.remove_all.ensures
      (subst (λ (entries : Entries). AreRefreshed c.args.keys.now (entry_value entries) c.self.inside.servers.tags c.refresh.new.self.tags) c.map.ensures.entries c.refresh.ensures)
      c.self.invariant.1,
  c.self.invariant.2,
)

pub refresh-requires : goal.refresh-requires
refresh-requires c = places_left c.args.keys.now c.self.inside.entries c.map.result.now c.self.inside.servers (c.map.ensures.entries ∙ c.remove_all.ensures)
