-- The proxy confirms the answer, or has not come to its version.
use Rattle.std.proofs.Common.{◌≤◌, ◌<◌, ◌↔◌, refl, Bool, true, false, IsTrue, arith}
use Rattle.std.specs.Prelude.{MatchBool}
use Rattle.model.specs.Configs.{Config}
use Rattle.locked_cluster.specs.Answers.{NotedFinishedView}
use Rattle.locked_cluster.specs.Audits.{IsConfirmed}
use Rattle.locked_cluster.specs.Proxies.{LockedProxyView}
use Rattle.headline_uses.proofs.answering.has_reached.Goals as goal

-- by whether the proxy confirms the answer
by : (config : Config) (v : LockedProxyView) (answer : NotedFinishedView) (confirms : Bool) → MatchBool confirms (IsConfirmed config v answer) (v.proxy.version < answer.finished.version) → IsTrue confirms ↔ (answer.finished.version ≤ v.proxy.version)
by config v answer true is = (λ confirms. is.reached, λ reached. refl)
by config v answer false is = (λ confirms. absurd (cc), λ reached. absurd (omega (arith, is, reached)))

pub returns : goal.returns
returns g c = by g.N.Naming.cells.config c.args.proxy.now c.args.answer.now c.confirm.result c.confirm.ensures
