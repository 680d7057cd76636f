-- The servers of the serverTag entries that are put are read anew.
use Rattle.std.proofs.Common.{sym, subst}
use Rattle.model.specs.Metadata.{Entries, IsInOrder, AreKept, entry_value}
use Rattle.metadata.specs.ServerTables.{ServerTags, AreServers, AreServerKeys, AreRefreshed, ServersTakeBack}
use Rattle.metadata.proofs.MetadataServers.{servers_put_over, servers_take_back}
use Rattle.metadata.proofs.metadata.Metadata.put_over.Goals as goal

pub invariant_of-self-2 : goal.invariant_of-self-2
invariant_of-self-2 c = (
  c.self.invariant.0,
  servers_put_over c.in_ok-servers.servers c.args.puts c.self.inside.entries c.put_over.new.self c.reserve.new.self.tags c.refresh.new.self.tags
      (subst (AreServerKeys c.in_ok-servers.servers) c.map.ensures.entries c.in_ok-servers.ensures) c.in_ok-displaced.ensures.ok
      (subst (λ (entries : Entries). AreRefreshed c.in_ok-servers.servers (entry_value entries) c.reserve.new.self.tags c.refresh.new.self.tags) c.map-2.ensures.entries c.refresh.ensures)
      (subst (λ (servers : ServerTags). AreServers servers (entry_value c.self.inside.entries)) (sym c.reserve.ensures.tags) c.self.invariant.1),
  c.self.invariant.2,
)

pub returns-clause-servers : goal.returns-clause-servers
returns-clause-servers c =
    subst (λ (entries : Entries). ServersTakeBack c.in_ok-servers.servers (entry_value entries) (entry_value c.put_over.new.self)) c.self.view_is
    (servers_take_back c.in_ok-servers.servers c.args.puts c.self.inside.entries c.put_over.new.self (subst (AreServerKeys c.in_ok-servers.servers) c.map.ensures.entries c.in_ok-servers.ensures) c.in_ok-displaced.ensures.ok)

pub returns-clause-was_in_order : goal.returns-clause-was_in_order
returns-clause-was_in_order c = subst IsInOrder c.self.view_is c.map-others.ensures.order

pub returns-clause-was_kept : goal.returns-clause-was_kept
returns-clause-was_kept c = subst AreKept c.self.view_is c.map-others.ensures.kept
