-- The entries and the servers are those before.
use Rattle.std.proofs.Common.{◌≡◌, sym, subst}
use Rattle.model.specs.Metadata.{Entries, entry_value}
use Rattle.metadata.specs.Started.{Started}
use Rattle.metadata.specs.Overwrites.{TakesBack}
use Rattle.metadata.specs.ServerTables.{AreRefreshed, ServersTakeBack}
use Rattle.metadata.proofs.MetadataServers.{places_taken_back, servers_taken_back}
use Rattle.metadata.proofs.metadata.Metadata.take_back_rows.Goals as goal

pub invariant_of-self : goal.invariant_of-self
invariant_of-self c =
    let takes : TakesBack c.started.inside.put.displaced.items c.requires.before c.self.inside.entries =
    subst (λ (started : Started). TakesBack started.displaced c.requires.before c.self.inside.entries) (sym c.started.view_is)
    (subst (λ (entries : Entries). TakesBack c.args.started.displaced c.requires.before entries) (sym c.self.view_is) c.requires.is.takes) in
    let same : c.take_back.new.self ≡ c.requires.before = c.take_back.ensures c.requires.before takes in (
      c.self.invariant.0,
      servers_taken_back c.started.inside.put.servers c.requires.before c.self.inside.entries c.take_back.new.self c.self.inside.servers.tags c.refresh.new.self.tags
          (subst (λ (started : Started). ServersTakeBack started.servers (entry_value c.requires.before) (entry_value c.self.inside.entries)) (sym c.started.view_is)
          (subst (λ (entries : Entries). ServersTakeBack c.args.started.servers (entry_value c.requires.before) (entry_value entries)) (sym c.self.view_is) c.requires.is.servers))
          same
          (subst (λ (entries : Entries). AreRefreshed c.started.inside.put.servers (entry_value entries) c.self.inside.servers.tags c.refresh.new.self.tags) c.map.ensures.entries c.refresh.ensures)
          c.self.invariant.1,
      c.self.invariant.2,
    )

pub refresh-requires : goal.refresh-requires
refresh-requires c =
    places_taken_back c.started.inside.put.servers c.requires.before c.self.inside.entries c.map.result.now c.self.inside.servers
    (subst (λ (started : Started). ServersTakeBack started.servers (entry_value c.requires.before) (entry_value c.self.inside.entries)) (sym c.started.view_is)
    (subst (λ (entries : Entries). ServersTakeBack c.args.started.servers (entry_value c.requires.before) (entry_value entries)) (sym c.self.view_is) c.requires.is.servers))
    c.self.invariant.1
