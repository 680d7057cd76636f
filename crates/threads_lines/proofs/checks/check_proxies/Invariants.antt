-- Those that were looked at are as they must be.
use Rattle.std.proofs.Common.{take}
use Rattle.std.specs.Prelude.{All}
use Rattle.threads_lines.specs.Histories.{HasFinishedAll}
use Rattle.threads_lines.proofs.checks.check_proxies.Given as goal

abbrev pub invariant-loop-proxy : goal.invariant-loop-proxy
invariant-loop-proxy g l = All (HasFinishedAll l.history.records) (take l.proxy-index l.proxies)
