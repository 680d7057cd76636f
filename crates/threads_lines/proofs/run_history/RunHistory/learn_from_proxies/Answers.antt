-- One more proxy is looked at.
use Rattle.std.proofs.Common.{arith}
use Rattle.locked_resolvers.proofs.Lists.{got}
use Rattle.threads_lines.proofs.HistoryLemmas.{one_more_guard, told_history}
use Rattle.threads_lines.proofs.run_history.RunHistory.learn_from_proxies.Goals as goal

pub learn-requires-clause-history : goal.learn-requires-clause-history
learn-requires-clause-history g c = told_history g.N.Naming.cells.config c.records.result.now c.proxy-item.result.records c.records.ensures.value c.records.ensures.kept.agreed.history

pub loop-proxy-preserved : goal.loop-proxy-preserved
loop-proxy-preserved g c =
    let l = c.loop-proxy in
    let k = l.proxy-index in
    one_more_guard (λ v. v.records) c.args.proxies.now k c.proxy-item.result c.records.result.now c.args.self.now l.self c.learn.new.self
    (got c.args.proxies.now k c.proxy-item.result (omega arith) c.proxy-item.is) c.records.ensures.value c.learn.ensures.kept c.learn.ensures.counted c.in_ok-learn.ensures.learned l.invariant
