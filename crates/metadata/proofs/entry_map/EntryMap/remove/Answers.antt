-- Once the entries at the keys of the range are removed, none of the range is left.
use Rattle.std.proofs.Common.{◌∙◌, ◌++◌, ap, filter, subst}
use Rattle.std.specs.Map.{keys_of}
use Rattle.system_keys.specs.Keys.{holds}
use Rattle.model.specs.Metadata.{Entry, IsInOrder}
use Rattle.metadata.proofs.OverwrittenEntries.{range_removed}
use Rattle.metadata.proofs.entry_map.EntryMap.remove.Goals as goal

pub returns-clause-ok : goal.returns-clause-ok
returns-clause-ok c =
    range_removed c.args.range.now c.deref.result.now c.args.self.now c.remove_listed.new.self (subst IsInOrder c.self.view_is c.self.invariant)
    (c.remove_listed.ensures.order (subst IsInOrder c.self.view_is c.self.invariant))
    (c.deref.ensures.value ∙ c.in_ok-list_keys_inside.ensures ∙ ap (λ keys. keys ++ keys_of (filter (λ (row : Entry). holds c.args.range.now row.0) c.args.self.now)) c.new-keys.ensures.items) c.remove_listed.ensures.values
