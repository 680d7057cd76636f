-- One more is looked at.
use Rattle.std.proofs.Common.{◌≡◌, rules, subst, sym, arith}
use Rattle.std.specs.Prelude.{⊤, All, Result, Err, IfErr}
use Rattle.locked_resolvers.proofs.Lists.{got}
use Rattle.threads_lines.specs.Faults.{FailsCheckOf}
use Rattle.threads_lines.specs.declared.faults.RunFault.{RunFault}
use Rattle.threads_lines.specs.Histories.{HasJudgedAll}
use Rattle.threads_lines.proofs.CheckLemmas.{all_at, all_next, all_taken}
use Rattle.threads_lines.proofs.checks.check_resolvers.Goals as goal

pub loop-resolver-preserved : goal.loop-resolver-preserved
loop-resolver-preserved g c =
    let l = c.loop-resolver in
    let resolvers = c.args.resolvers.now in
    let k = l.resolver-index in
    let resolver = c.resolver-item.result in
    all_next (HasJudgedAll c.args.history.now.records) resolvers k resolver (got resolvers k resolver (omega arith) c.resolver-item.is) c.in_ok-check_resolver.ensures.checked l.invariant

pub returns-clause-checked : goal.returns-clause-checked
returns-clause-checked g c =
    let l = c.loop-resolver in
    all_taken (HasJudgedAll c.args.history.now.records) c.args.resolvers.now l.resolver-index (omega arith) l.invariant

pub returns-in_err-check_resolver-clause-err : goal.returns-in_err-check_resolver-clause-err
returns-in_err-check_resolver-clause-err g c =
    let resolvers = c.args.resolvers.now in
    let k = c.loop-resolver.resolver-index in
    let resolver = c.resolver-item.result in
    let at = got resolvers k resolver (omega arith) c.resolver-item.is in
    let failed = c.in_err-check_resolver.ensures.err in
    let is : c.from_residual.result ≡ Err c.in_err-check_resolver.field-0.0 = search rules in
    subst (λ (r : Result ⊤ RunFault). IfErr r (FailsCheckOf (All (HasJudgedAll c.args.history.now.records) resolvers))) (sym is)
    (failed.0, λ all. failed.1 (all_at (HasJudgedAll c.args.history.now.records) resolvers k resolver all at))
