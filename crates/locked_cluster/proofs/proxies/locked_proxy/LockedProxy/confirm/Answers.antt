-- The proxy has reached the version of the answer, or it has not.
use Rattle.std.proofs.Common.{◌≡◌, ◌<◌, Bool, true, false, refl, ap, nat_le, arith}
use Rattle.std.specs.Prelude.{MatchBool}
use Rattle.std.proofs.lemmas.Bool.{leb-true, leb-false}
use Rattle.facts.specs.Stretches.{Agree}
use Rattle.model.specs.Configs.{Config}
use Rattle.model.specs.declared.outcome.Finished.{Finished}
use Rattle.locked_cluster.specs.Answers.{NotedFinishedView}
use Rattle.locked_cluster.specs.Audits.{IsConfirmed}
use Rattle.locked_cluster.specs.Proxies.{LockedProxyView}
use Rattle.locked_cluster.proofs.ProxyAudits.{is_confirmed}
use Rattle.locked_cluster.proofs.ProxyMeets.{agree_lists}
use Rattle.locked_cluster.proofs.proxies.locked_proxy.LockedProxy.confirm.Goals as goal

pub returns : goal.returns
returns g c = by (nat_le c.value-finished.result.now.version c.version-reached.result) refl
  where
    config : Config
    config = g.N.Naming.cells.config

    v : LockedProxyView
    v = c.args.self.now

    answer : NotedFinishedView
    answer = c.args.answer.now

    agree : Agree 0 v.records 0 answer.records
    agree = agree_lists c.records-mine.result.now c.records-known.result.now v.records answer.records c.records-mine.ensures.value c.records-known.ensures.value c.agree.ensures

    version : c.value-finished.result.now.version ≡ answer.finished.version
    version = ap (λ (f : Finished). f.version) c.value-finished.ensures.value

    by : (t : Bool) → nat_le c.value-finished.result.now.version c.version-reached.result ≡ t → MatchBool t (IsConfirmed config v answer) (v.proxy.version < answer.finished.version)
    by true is = is_confirmed config v answer c.version-reached.ensures.kept c.value-finished.ensures.kept agree (let at = leb-true c.value-finished.result.now.version c.version-reached.result is in omega (arith, at, version, c.version-reached.ensures.value))
    by false is = let at = leb-false c.value-finished.result.now.version c.version-reached.result is in omega (arith, at, version, c.version-reached.ensures.value)
