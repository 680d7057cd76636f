-- A removal from the map is one from its entries.
use Rattle.std.proofs.Common.{◌∙◌, ap, subst, None, if◌then◌else◌}
use Rattle.model.specs.Metadata.{Entries, IsInOrder, entry_value}
use Rattle.metadata.specs.Overwrites.{is_same_key}
use Rattle.metadata.proofs.KeyValues.{value_removed}
use Rattle.metadata.proofs.entry_map.EntryMap.remove_key.Goals as goal

pub invariant_of-self : goal.invariant_of-self
invariant_of-self c = c.remove.ensures.ordered

pub returns-clause-values : goal.returns-clause-values
returns-clause-values c = λ other.
    ap (λ (entries : Entries). entry_value entries other) c.remove.ensures.entries
    ∙ value_removed c.self.inside.values.entries c.args.key.now other c.self.invariant
    ∙ ap (λ (entries : Entries). if is_same_key other c.args.key.now then None else entry_value entries other) c.self.view_is

pub returns-clause-order : goal.returns-clause-order
returns-clause-order c = c.remove.ensures.ordered

pub returns-clause-was_in_order : goal.returns-clause-was_in_order
returns-clause-was_in_order c = subst IsInOrder c.self.view_is c.self.invariant
