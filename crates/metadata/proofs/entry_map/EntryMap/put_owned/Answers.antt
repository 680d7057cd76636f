-- An insertion into the map is one into its entries.
use Rattle.std.proofs.Common.{◌∙◌, ap, ap₂}
use Rattle.std.specs.BTreeMap.{insert_entry}
use Rattle.model.specs.Metadata.{Entries}
use Rattle.metadata.proofs.KeyValues.{key_cmp}
use Rattle.metadata.proofs.entry_map.EntryMap.put_owned.Goals as goal

pub invariant_of-self-2 : goal.invariant_of-self-2
invariant_of-self-2 c = c.insert.ensures.ordered

pub returns-clause-ok : goal.returns-clause-ok
returns-clause-ok c =
    c.in_ok-insert.ensures.entries
    ∙ ap (λ (entries : Entries). insert_entry key_cmp entries c.in_ok-key.key c.unread.result) c.self.view_is
    ∙ ap₂ (insert_entry key_cmp c.args.self.now) c.in_ok-key.ensures c.unread.ensures

pub returns-clause-order : goal.returns-clause-order
returns-clause-order c = c.insert.ensures.ordered
