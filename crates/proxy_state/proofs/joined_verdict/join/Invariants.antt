-- The least so far, with those that are left, is the least of all.
use Rattle.std.proofs.Common.{◌≡◌, drop}
use Rattle.model.specs.Verdicts.{least_of, joined}
use Rattle.proxy_state.proofs.joined_verdict.join.Given as goal

abbrev pub invariant-loop-verdict : goal.invariant-loop-verdict
invariant-loop-verdict l = least_of l.least (joined (drop l.verdict-index l.verdicts)) ≡ joined l.verdicts
