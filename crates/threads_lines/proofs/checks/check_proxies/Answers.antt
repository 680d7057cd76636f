-- One more is looked at.
use Rattle.std.proofs.Common.{◌≡◌, rules, subst, sym, arith}
use Rattle.std.specs.Prelude.{⊤, All, Result, Err, IfErr}
use Rattle.locked_resolvers.proofs.Lists.{got}
use Rattle.threads_lines.specs.Faults.{FailsCheckOf}
use Rattle.threads_lines.specs.declared.faults.RunFault.{RunFault}
use Rattle.threads_lines.specs.Histories.{HasFinishedAll}
use Rattle.threads_lines.proofs.CheckLemmas.{all_at, all_next, all_taken}
use Rattle.threads_lines.proofs.checks.check_proxies.Goals as goal

pub loop-proxy-preserved : goal.loop-proxy-preserved
loop-proxy-preserved g c =
    let l = c.loop-proxy in
    let proxies = c.args.proxies.now in
    let k = l.proxy-index in
    let proxy = c.proxy-item.result in
    all_next (HasFinishedAll c.args.history.now.records) proxies k proxy (got proxies k proxy (omega arith) c.proxy-item.is) c.in_ok-check_proxy.ensures.checked l.invariant

pub returns-clause-checked : goal.returns-clause-checked
returns-clause-checked g c =
    let l = c.loop-proxy in
    all_taken (HasFinishedAll c.args.history.now.records) c.args.proxies.now l.proxy-index (omega arith) l.invariant

pub returns-in_err-check_proxy-clause-err : goal.returns-in_err-check_proxy-clause-err
returns-in_err-check_proxy-clause-err g c =
    let proxies = c.args.proxies.now in
    let k = c.loop-proxy.proxy-index in
    let proxy = c.proxy-item.result in
    let at = got proxies k proxy (omega arith) c.proxy-item.is in
    let failed = c.in_err-check_proxy.ensures.err in
    let is : c.from_residual.result ≡ Err c.in_err-check_proxy.field-0.0 = search rules in
    subst (λ (r : Result ⊤ RunFault). IfErr r (FailsCheckOf (All (HasFinishedAll c.args.history.now.records) proxies))) (sym is)
    (failed.0, λ all. failed.1 (all_at (HasFinishedAll c.args.history.now.records) proxies k proxy all at))
