-- The moves so far were carried out.
use Rattle.std.proofs.Common.{take}
use Rattle.threads_lines.specs.Moves.{HaveMoved}
use Rattle.threads_lines.proofs.cluster.move_all.Given as goal

abbrev pub invariant-loop-one : goal.invariant-loop-one
invariant-loop-one g l = HaveMoved l.fn.guard (take l.one-index l.moves) l.guard
