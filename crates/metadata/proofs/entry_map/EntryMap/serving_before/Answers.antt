-- The entries of the map between its ends are the keyServers entries before the key.
use Rattle.std.proofs.Common.{◌∙◌, ap, filter}
use Rattle.model.specs.Metadata.{Entries}
use Rattle.metadata.specs.HiddenRuns.{is_serving_before}
use Rattle.metadata.proofs.HiddenRuns.{least_first, between_before}
use Rattle.metadata.proofs.entry_map.EntryMap.serving_before.Goals as goal

pub range-requires : goal.range-requires
range-requires c = least_first c.in_ok-least.least c.args.key.now c.in_ok-least.ensures c.requires

pub returns : goal.returns
returns c =
    c.range.ensures.between tt
    ∙ between_before c.self.inside.values.entries c.in_ok-least.least c.args.key.now c.in_ok-least.ensures c.requires
    ∙ ap (λ (entries : Entries). filter (is_serving_before c.args.key.now) entries) c.self.view_is
