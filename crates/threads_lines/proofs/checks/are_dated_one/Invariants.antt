-- The moves so far are the same.
use Rattle.std.proofs.Common.{◌≡◌, length, map, take}
use Rattle.threads_lines.specs.Moves.{dated}
use Rattle.threads_lines.proofs.checks.are_dated_one.Given as goal

abbrev pub invariant-loop-place : goal.invariant-loop-place
invariant-loop-place l = record {
  count : length l.moves ≡ length l.undated;
  same : take l.place l.moves ≡ map (dated 1) (take l.place l.undated);
}
