-- The map has gained the moves so far.
use Rattle.std.proofs.Common.{take}
use Rattle.proxy_state.specs.Beginning.{HasGained}
use Rattle.proxy_state.proofs.moving.remake_moves.Given as goal

abbrev pub invariant-loop-place : goal.invariant-loop-place
invariant-loop-place l = HasGained l.fn.owners (take l.place l.moves) l.owners
