-- The moves so far are appended.
use Rattle.std.proofs.Common.{◌≡◌, ◌++◌, drop}
use Rattle.request_builder.proofs.moves.append_copies.Given as goal

abbrev pub invariant-loop-one : goal.invariant-loop-one
invariant-loop-one l = l.moves.items ++ drop l.one-index l.more ≡ l.initial.moves.items ++ l.more
