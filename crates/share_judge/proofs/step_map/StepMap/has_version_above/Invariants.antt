-- The starts that are left reach above the bound exactly if all do, and they become fewer.
use Rattle.std.proofs.Common.{length}
use Rattle.share_judge.specs.Steps.{starts_now}
use Rattle.share_judge.proofs.WalkBack.{AreLeft}
use Rattle.share_judge.proofs.step_map.StepMap.has_version_above.Given as goal

abbrev pub invariant-loop-key : goal.invariant-loop-key
invariant-loop-key l = AreLeft l.bound (record { begin = l.begin; end = l.end }) (starts_now l.self) (starts_now l.left)

abbrev pub decreases-loop-key : goal.decreases-loop-key
decreases-loop-key l = length l.left
