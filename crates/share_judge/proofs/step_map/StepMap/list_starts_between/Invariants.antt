-- The keys so far, and those of the entries that are left, are the keys listed before and those between.
use Rattle.std.proofs.Common.{◌≡◌, ◌++◌}
use Rattle.std.specs.Map.{keys_of}
use Rattle.share_judge.specs.Steps.{keys_between}
use Rattle.share_judge.proofs.step_map.StepMap.list_starts_between.Given as goal

abbrev pub invariant-loop-key : goal.invariant-loop-key
invariant-loop-key l =
    l.keys.items ++ keys_of l.key-iterator
    ≡ l.fn.keys.items ++ keys_between l.begin l.end l.self
