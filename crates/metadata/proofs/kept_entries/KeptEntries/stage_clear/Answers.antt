-- The keys of the range are cleared.
use Rattle.std.proofs.Common.{◌∙◌, ◌++◌, ap, filter}
use Rattle.std.specs.Map.{keys_of}
use Rattle.system_keys.specs.Keys.{holds}
use Rattle.model.specs.Metadata.{Entry, Entries}
use Rattle.metadata.proofs.StagedChanges.{clear_staged}
use Rattle.metadata.proofs.kept_entries.KeptEntries.stage_clear.Goals as goal

pub returns-clause-staged : goal.returns-clause-staged
returns-clause-staged c =
    clear_staged c.args.self.now c.new-staged.result.puts c.deref.result.now c.new-staged.result.cleared c.insert_all.new.self c.args.range.now c.new-staged.ensures.cleared c.new-staged.ensures.puts
    (c.deref.ensures.value ∙ c.in_ok-list_keys_inside.ensures ∙ ap (λ keys. keys ++ keys_of (filter (λ (row : Entry). holds c.args.range.now row.0) c.self.inside.entries)) c.new-keys.ensures.items
    ∙ ap (λ (entries : Entries). keys_of (filter (λ (row : Entry). holds c.args.range.now row.0) entries)) c.self.view_is)
    c.in_ok-insert_all.ensures
