-- A look-up in the map is a look-up in its entries.
use Rattle.std.proofs.Common.{◌∙◌, ap, Some}
use Rattle.model.specs.Metadata.{Entries, entry_value}
use Rattle.metadata.proofs.entry_map.EntryMap.get.Goals as goal

pub returns : goal.returns
returns c =
    ap Some c.value.ensures ∙ c.in_ok-row.ensures.value
    ∙ ap (λ (entries : Entries). entry_value entries c.args.key.now) c.self.view_is

pub returns-in_err-row : goal.returns-in_err-row
returns-in_err-row c =
    rw c.from_residual.ensures (c.in_err-row.ensures.value
    ∙ ap (λ (entries : Entries). entry_value entries c.args.key.now) c.self.view_is)
