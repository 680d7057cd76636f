-- An insertion at a key that is there cannot fail.
use Rattle.std.proofs.Common.{◌∙◌, ap}
use Rattle.std.specs.BTreeMap.{insert_entry}
use Rattle.model.specs.Metadata.{Entries}
use Rattle.metadata.specs.Overwrites.{has_entry}
use Rattle.metadata.proofs.KeyValues.{key_cmp}
use Rattle.metadata.proofs.MapEntries.{filled}
use Rattle.metadata.proofs.entry_map.EntryMap.overwrite.Goals as goal

pub invariant_of-self : goal.invariant_of-self
invariant_of-self c = c.insert.ensures.ordered

pub returns-clause-value : goal.returns-clause-value
returns-clause-value c = λ there.
    filled c.insert.result c.self.inside.values.entries c.insert.new.self.entries c.args.key c.args.row c.insert.ensures.entries c.insert.ensures.absent
    (ap (λ (entries : Entries). has_entry entries c.args.key) c.self.view_is ∙ there)
    ∙ ap (λ (entries : Entries). insert_entry key_cmp entries c.args.key c.args.row) c.self.view_is

pub returns-clause-order : goal.returns-clause-order
returns-clause-order c = c.insert.ensures.ordered
