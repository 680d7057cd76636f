-- The starts so far that are counted, and those of the entries that are left, are all; and they are no more than the entries.
use Rattle.std.proofs.Common.{◌≡◌, ◌+◌, ◌≤◌, ◌<◌, ◌^◌, length}
use Rattle.share_judge.specs.Steps.{changes_from, starts_now}
use Rattle.share_judge.proofs.step_map.StepMap.count.Given as goal

abbrev pub invariant-loop-key : goal.invariant-loop-key
invariant-loop-key l =
    record {
      counted : l.count + changes_from l.dropped l.last (starts_now l.key-iterator) ≡ 1 + changes_from l.dropped 0 (starts_now l.self);
      fits : l.count + length l.key-iterator ≤ 1 + l._length;
      small : l._length < 2 ^ 63;
    }
