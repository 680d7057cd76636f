-- The entries with others put over them are in order, and all of their keys kept.
use Rattle.metadata.proofs.EntriesLeft.{over_kept}
use Rattle.metadata.proofs.kept_entries.KeptEntries.put_over.Goals as goal

pub invariant_of-self-2 : goal.invariant_of-self-2
invariant_of-self-2 c = (c.in_ok-displaced.ensures.order, over_kept c.puts.inside.entries c.self.inside.entries c.put_all.new.self c.puts.invariant.1 c.self.invariant.1 c.in_ok-displaced.ensures.ok)

pub returns-clause-kept : goal.returns-clause-kept
returns-clause-kept c = over_kept c.puts.inside.entries c.self.inside.entries c.put_all.new.self c.puts.invariant.1 c.self.invariant.1 c.in_ok-displaced.ensures.ok
