-- The tags of the row at the place are those of its key.
use Rattle.std.proofs.Common.{◌≡◌, ◌∙◌, ap, slice_get, Option, Some, None, List, ℕ, rules}
use Rattle.std.specs.Option.{option_map}
use Rattle.model.specs.Metadata.{Entry, Entries, key_servers_entries, tags_of_key}
use Rattle.metadata.proofs.ExactTags.{place_known}
use Rattle.metadata.proofs.MetadataServers.{servers_give_tags}
use Rattle.metadata.proofs.metadata.Metadata.cached.Goals as goal

pub returns : goal.returns
returns c =
    let entries = c.self.inside.entries in
    let value : Entries → Option (List ℕ) = λ rows. option_map (λ (row : Entry). row.1) (slice_get (key_servers_entries rows) c.args.place) in
    ap Some c.new.ensures
    ∙ place_known entries c.self.inside.servers.tags c.args.place (Some c.in_ok-row.row.now) c.map.ensures.order (servers_give_tags entries c.self.inside.servers.tags c.self.invariant.1)
    (c.in_ok-row.ensures ∙ ap value c.map.ensures.entries)
    ∙ ap (λ (entries : Entries). option_map (λ (row : Entry). tags_of_key entries row.0) (slice_get (key_servers_entries entries) c.args.place)) c.self.view_is

pub returns-in_err-row : goal.returns-in_err-row
returns-in_err-row c =
    let entries = c.self.inside.entries in
    let value : Entries → Option (List ℕ) = λ rows. option_map (λ (row : Entry). row.1) (slice_get (key_servers_entries rows) c.args.place) in
    let none : c.from_residual.result ≡ None = search rules in
    none
    ∙ place_known entries c.self.inside.servers.tags c.args.place None c.map.ensures.order (servers_give_tags entries c.self.inside.servers.tags c.self.invariant.1)
    (c.in_err-row.ensures ∙ ap value c.map.ensures.entries)
    ∙ ap (λ (entries : Entries). option_map (λ (row : Entry). tags_of_key entries row.0) (slice_get (key_servers_entries entries) c.args.place)) c.self.view_is
