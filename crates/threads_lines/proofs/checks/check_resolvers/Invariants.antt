-- Those that were looked at are as they must be.
use Rattle.std.proofs.Common.{take}
use Rattle.std.specs.Prelude.{All}
use Rattle.threads_lines.specs.Histories.{HasJudgedAll}
use Rattle.threads_lines.proofs.checks.check_resolvers.Given as goal

abbrev pub invariant-loop-resolver : goal.invariant-loop-resolver
invariant-loop-resolver g l = All (HasJudgedAll l.history.records) (take l.resolver-index l.resolvers)
