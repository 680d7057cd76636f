-- A range begins below its end; and the entries of the map between its ends are the keyServers entries inside.
use Rattle.std.proofs.Common.{◌∙◌, ap, filter, subst}
use Rattle.model.specs.Metadata.{Entries, IsInOrder}
use Rattle.metadata.specs.MapEntries.{is_serving_inside}
use Rattle.metadata.proofs.ServingEntries.{between_inside, ends_forward}
use Rattle.metadata.proofs.entry_map.EntryMap.serving_inside.Goals as goal

pub range-requires : goal.range-requires
range-requires c = ends_forward c.in_ok-begin.begin c.in_ok-end.end c.args.range.now (rw (← c.begin.ensures.value) c.in_ok-begin.ensures) (rw (← c.end.ensures.value) c.in_ok-end.ensures) c.begin.ensures.kept

pub returns-clause-found : goal.returns-clause-found
returns-clause-found c =
    c.range.ensures.between tt
    ∙ between_inside c.self.inside.values.entries c.in_ok-begin.begin c.in_ok-end.end c.args.range.now (rw (← c.begin.ensures.value) c.in_ok-begin.ensures) (rw (← c.end.ensures.value) c.in_ok-end.ensures)
    ∙ ap (λ (entries : Entries). filter (is_serving_inside c.args.range.now) entries) c.self.view_is

pub returns-clause-order : goal.returns-clause-order
returns-clause-order c = subst IsInOrder c.self.view_is c.self.invariant
