-- An entry at a kept key leaves the entries in order, and all of their keys kept.
use Rattle.std.proofs.Common.{rules}
use Rattle.metadata.proofs.KeptInOrder.{put_kept_in_order}
use Rattle.metadata.proofs.kept_entries.KeptEntries.set_own.Goals as goal

pub invariant_of-self : goal.invariant_of-self
invariant_of-self c =
    put_kept_in_order c.self.inside.entries c.put_owned.new.self c.as_slice-bytes.result.now c.args.value c.self.invariant (search rules) c.in_ok-put_owned.ensures.ok
