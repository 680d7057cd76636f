-- Without some entries, the entries are still in order, and all of their keys kept.
use Rattle.std.proofs.Common.{◌∙◌, ap}
use Rattle.model.specs.Metadata.{Entries}
use Rattle.metadata.specs.Overwrites.{entries_without}
use Rattle.metadata.proofs.EntriesLeft.{without_kept_in_order}
use Rattle.metadata.proofs.kept_entries.KeptEntries.remove_all.Goals as goal

pub invariant_of-self : goal.invariant_of-self
invariant_of-self c = without_kept_in_order c.args.keys.now c.self.inside.entries c.remove_all.new.self c.self.invariant (c.remove_all.ensures c.self.invariant.0)

pub returns : goal.returns
returns c = c.remove_all.ensures c.self.invariant.0 ∙ ap (λ (entries : Entries). entries_without c.args.keys.now entries) c.self.view_is
