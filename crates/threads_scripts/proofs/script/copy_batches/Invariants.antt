-- The copies so far, and the batches to come, are all batches.
use Rattle.std.proofs.Common.{◌≡◌, ◌++◌, drop}
use Rattle.threads_scripts.proofs.script.copy_batches.Given as goal

abbrev pub invariant-loop-batch : goal.invariant-loop-batch
invariant-loop-batch l = l.copies.items ++ drop l.batch-index l.batches ≡ l.batches
