-- What was gained and lost by the keys so far makes the difference to what those that are left give.
use Rattle.std.proofs.Common.{◌≡◌, ◌+◌, ◌*◌, ◌≤◌, ◌^◌, length}
use Rattle.share_judge.specs.Steps.{changes_from, starts_now}
use Rattle.share_judge.specs.Versions.{with_keys}
use Rattle.share_judge.proofs.CountOver.{AreTail}
use Rattle.share_judge.proofs.key_map.KeyMap.count_beside.Given as goal

abbrev pub invariant-loop-key : goal.invariant-loop-key
invariant-loop-key l =
    record {
      whole : l.gained + changes_from l.dropped 0 (with_keys (starts_now l.key-iterator) (starts_now l.steps)) ≡ 1 + changes_from l.dropped 0 (with_keys (starts_now l.self) (starts_now l.steps)) + changes_from l.dropped 0 (starts_now l.steps) + l.lost;
      tail : AreTail l.self l.key-iterator;
      gained_fits : l.gained + 2 * length l.key-iterator ≤ 2 ^ 63 + 2 ^ 62;
      lost_fits : l.lost + 2 * length l.key-iterator ≤ 2 ^ 62;
    }
