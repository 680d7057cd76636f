-- The entries of the map between its ends are the keyServers entries up to the key.
use Rattle.std.proofs.Common.{◌∙◌, ap, filter, subst}
use Rattle.model.specs.Metadata.{Entries, IsInOrder}
use Rattle.metadata.specs.MapEntries.{is_serving_up_to}
use Rattle.metadata.proofs.ServingEntries.{between_up_to}
use Rattle.metadata.proofs.entry_map.EntryMap.serving_up_to.Goals as goal

pub returns-clause-found : goal.returns-clause-found
returns-clause-found c =
    c.range.ensures.between tt
    ∙ between_up_to c.self.inside.values.entries c.in_ok-least.least c.in_ok-greatest.greatest c.args.key.now c.in_ok-least.ensures c.in_ok-greatest.ensures
    ∙ ap (λ (entries : Entries). filter (is_serving_up_to c.args.key.now) entries) c.self.view_is

pub returns-clause-order : goal.returns-clause-order
returns-clause-order c = subst IsInOrder c.self.view_is c.self.invariant
