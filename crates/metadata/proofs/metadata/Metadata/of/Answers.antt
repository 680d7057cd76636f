-- The servers are those of the entries.
use Rattle.std.proofs.Common.{subst}
use Rattle.model.specs.Metadata.{Entries, entry_value}
use Rattle.metadata.specs.ServerTables.{AreServers}
use Rattle.metadata.proofs.metadata.Metadata.of.Goals as goal

pub invariant_of-result : goal.invariant_of-result
invariant_of-result c = (
  c.new.ensures,
  subst (λ (entries : Entries). AreServers c.in_ok-servers.servers.tags (entry_value entries)) c.map-map.ensures.entries c.in_ok-servers.ensures,
  c.new-2.ensures,
)
