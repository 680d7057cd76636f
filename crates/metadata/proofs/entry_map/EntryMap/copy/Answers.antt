-- A clone of the map has the same entries.
use Rattle.std.proofs.Common.{◌∙◌, sym, subst}
use Rattle.model.specs.Metadata.{IsInOrder}
use Rattle.metadata.proofs.MapEntries.{cloned}
use Rattle.metadata.proofs.entry_map.EntryMap.copy.Goals as goal

pub returns : goal.returns
returns c = cloned c.self.inside.values.entries c.in_ok-values.values.entries c.in_ok-values.ensures.cases ∙ c.self.view_is

pub invariant_of-result : goal.invariant_of-result
invariant_of-result c = subst IsInOrder (sym (cloned c.self.inside.values.entries c.in_ok-values.values.entries c.in_ok-values.ensures.cases)) c.self.invariant
