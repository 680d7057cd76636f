use Rattle.std.proofs.Common.{◌≡◌, drop}
use Rattle.fold_run.specs.Limits.{versions_increase}
use Rattle.fold_run.proofs.limits.versions_increase.Given as goal

abbrev pub invariant-loop-row : goal.invariant-loop-row
invariant-loop-row l = versions_increase l.before (drop l.row-index l.rows) ≡ versions_increase 0 l.rows
