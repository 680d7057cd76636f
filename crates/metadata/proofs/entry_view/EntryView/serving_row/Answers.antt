-- The last keyServers entry up to the key serves it, unless it is hidden.
use Rattle.std.proofs.Common.{◌≡◌, ◌∙◌, ap, sym, false, rules}
use Rattle.std.specs.Option.{option_map}
use Rattle.model.specs.Metadata.{Entry, Entries, serving_entry, key_servers_entries}
use Rattle.metadata.specs.MapEntries.{lent_entry}
use Rattle.metadata.specs.Overwrites.{is_listed}
use Rattle.metadata.proofs.LastServing.{shown_serves, none_serves}
use Rattle.metadata.proofs.entry_view.EntryView.serving_row.Goals as goal

pub returns-in_default : goal.returns-in_default
returns-in_default c =
    none_serves c.self.inside.hidden.now c.self.inside.entries.now c.args.key.now (ap (option_map lent_entry) (sym c.in_default.is) ∙ c.in_ok-found.ensures.found)
    ∙ ap (λ (entries : Entries). option_map (λ (entry : Entry). entry.1) (serving_entry (key_servers_entries entries) c.args.key.now)) c.self.view_is

pub returns : goal.returns
returns c =
    let shows : is_listed c.self.inside.hidden.now c.in-Some.found.now ≡ false = search rules in
    shown_serves c.self.inside.hidden.now c.self.inside.entries.now c.args.key.now (c.in-Some.found.now, c.in-Some.row.now) (ap (option_map lent_entry) (sym c.in-Some.is) ∙ c.in_ok-found.ensures.found) shows
    ∙ ap (λ (entries : Entries). option_map (λ (entry : Entry). entry.1) (serving_entry (key_servers_entries entries) c.args.key.now)) c.self.view_is
