-- Only what stands beside the server of the key changes, to what the row gives.
use Rattle.std.proofs.Common.{◌∙◌, sym, ap, Some, ℕ, List, Bor}
use Rattle.std.specs.Option.{option_map}
use Rattle.std.specs.Result.{result_ok}
use Rattle.model.specs.Metadata.{entry_value}
use Rattle.metadata.specs.ServerTables.{TaggedServers, decoded_tag}
use Rattle.metadata.proofs.Outcomes.{on_ok}
use Rattle.metadata.proofs.ServerTables.{none_refreshed, row_put, row_taken}
use Rattle.metadata.proofs.server_table.ServerTable.refresh_key.Goals as goal

pub returns-in_default-clause-tags : goal.returns-in_default-clause-tags
returns-in_default-clause-tags c = none_refreshed c.args.key.now (entry_value c.args.entries.now) c.args.self.now.tags c.in_default.ensures.all

pub returns-in-Some-get-clause-tags : goal.returns-in-Some-get-clause-tags
returns-in-Some-get-clause-tags c =
    row_put c.insert.result c.args.key.now (entry_value c.args.entries.now) c.in-Some.id c.args.self.now c.self.inside.tags.entries c.insert.new.self.entries _ c.ok.result
    (ap (λ (table : TaggedServers). table.tags) c.self.view_is) (ap (λ (table : TaggedServers). table.room) c.self.view_is)
    c.in-Some.ensures.found c.in-Some.ensures.size
    (ap Some (c.ok.ensures.value ∙ ap result_ok c.decode_tag.ensures.value)
    ∙ ap (option_map decoded_tag) (ap (option_map (λ (value : Bor (List ℕ)). value.now)) (sym c.in-Some-get.is) ∙ c.get.ensures ∙ ap (entry_value c.args.entries.now) c.in-Some.ensures.found))
    c.requires c.insert.ensures.succeeds c.insert.ensures.absent (on_ok c.insert.result (λ is. is.0) c.insert.ensures.updates)

pub returns-in-None-clause-tags : goal.returns-in-None-clause-tags
returns-in-None-clause-tags c =
    row_taken c.args.key.now (entry_value c.args.entries.now) c.in-Some.id c.args.self.now c.self.inside.tags.entries c.swap_remove.new.self.entries
    (ap (λ (table : TaggedServers). table.tags) c.self.view_is) c.in-Some.ensures.found
    (ap (option_map decoded_tag) (ap (option_map (λ (value : Bor (List ℕ)). value.now)) (sym c.in-None.is) ∙ c.get.ensures ∙ ap (entry_value c.args.entries.now) c.in-Some.ensures.found))
    c.swap_remove.ensures.updates.0
