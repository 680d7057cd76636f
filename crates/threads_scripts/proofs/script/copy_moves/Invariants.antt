-- The copies so far, and the moves to come, are all moves.
use Rattle.std.proofs.Common.{◌≡◌, ◌++◌, drop}
use Rattle.threads_scripts.proofs.script.copy_moves.Given as goal

abbrev pub invariant-loop-undated : goal.invariant-loop-undated
invariant-loop-undated l = l.copies.items ++ drop l.undated-index l.moves ≡ l.moves
