-- Some entry that is left is above the bound exactly if one in the range is.
use Rattle.std.proofs.Common.{◌≡◌, nat_lt}
use Rattle.std.specs.List.{list_any}
use Rattle.share_judge.specs.Steps.{Start, has_start_above, starts_now}
use Rattle.share_judge.proofs.key_map.KeyMap.has_version_above.Given as goal

abbrev pub invariant-loop-step : goal.invariant-loop-step
invariant-loop-step l =
    list_any (λ (s : Start). nat_lt l.bound s.1) (starts_now l.step-iterator)
    ≡ has_start_above l.bound (starts_now l.self) (record { begin = l.begin; end = l.end })
