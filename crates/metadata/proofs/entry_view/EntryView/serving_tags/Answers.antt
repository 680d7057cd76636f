-- The tags of the row that serves the key are gathered by what it names.
use Rattle.std.proofs.Common.{◌∙◌, ap, sym, subst, Some, None}
use Rattle.std.specs.Option.{option_map}
use Rattle.model.specs.Metadata.{serving_entry, key_servers_entries}
use Rattle.metadata.specs.ServerTables.{GiveTags}
use Rattle.metadata.proofs.GatheredTags.{found_gathered}
use Rattle.metadata.proofs.entry_view.EntryView.serving_tags.Goals as goal

pub returns-in-Some : goal.returns-in-Some
returns-in-Some c =
    let servers = c.self.inside.servers.now.tags in
    let give = subst (GiveTags servers) c.self.view_is c.self.invariant.1 in
    ap Some c.new.ensures
    ∙ found_gathered servers c.args.self.now (Some c.in-Some.row.now) (serving_entry (key_servers_entries c.args.self.now) c.args.key.now) give
    (ap (option_map (λ row. row.now)) (sym c.in-Some.is) ∙ c.in_ok-row.ensures)

pub returns-in-None : goal.returns-in-None
returns-in-None c =
    let servers = c.self.inside.servers.now.tags in
    let give = subst (GiveTags servers) c.self.view_is c.self.invariant.1 in
    found_gathered servers c.args.self.now None (serving_entry (key_servers_entries c.args.self.now) c.args.key.now) give
    (ap (option_map (λ row. row.now)) (sym c.in-None.is) ∙ c.in_ok-row.ensures)
