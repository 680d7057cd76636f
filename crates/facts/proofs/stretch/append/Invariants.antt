-- The copies so far are appended, and there is room for those to come.
use Rattle.std.proofs.Common.{◌≡◌, ◌-◌, ◌+◌, ◌≤◌, ◌++◌, take, drop}
use Rattle.std.specs.Vec.{vec_len, vec_capacity}
use Rattle.facts.proofs.stretch.append.Given as goal

abbrev pub invariant-loop-place : goal.invariant-loop-place
invariant-loop-place g l =
    record {
      appended : l.to.items ≡ l.fn.to.items ++ drop l.start (take l.place l.from.items);
      room : vec_len l.to + (l.end - l.place) ≤ vec_capacity l.to;
    }
