-- Without the entries of a range, the entries are still in order, and all of their keys kept.
use Rattle.system_keys.specs.declared.change.Change.TheVariants.{Clear}
use Rattle.metadata.proofs.KeptInOrder.{changed_kept_in_order}
use Rattle.metadata.proofs.kept_entries.KeptEntries.clear.Goals as goal

pub invariant_of-self-2 : goal.invariant_of-self-2
invariant_of-self-2 c = changed_kept_in_order c.self.inside.entries c.remove.new.self (Clear c.args.range.now) c.self.invariant c.in_ok-remove.ensures.ok
