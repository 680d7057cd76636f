-- The copies so far, and the batches to come, are all batches.
use Rattle.std.proofs.Common.{◌≡◌, ◌++◌, drop}
use Rattle.threads_scripts.proofs.script.copy_work.Given as goal

abbrev pub invariant-loop-batches : goal.invariant-loop-batches
invariant-loop-batches l = l.copies.items ++ drop l.batches-index l.work ≡ l.work
