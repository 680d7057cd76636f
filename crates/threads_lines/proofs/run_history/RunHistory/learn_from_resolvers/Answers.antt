-- One more resolver is looked at.
use Rattle.std.proofs.Common.{arith}
use Rattle.locked_resolvers.proofs.Lists.{got}
use Rattle.threads_lines.proofs.HistoryLemmas.{one_more_guard, told_history}
use Rattle.threads_lines.proofs.run_history.RunHistory.learn_from_resolvers.Goals as goal

pub learn-requires-clause-history : goal.learn-requires-clause-history
learn-requires-clause-history g c = told_history g.N.Naming.cells.config c.records.result.now c.resolver-item.result.records c.records.ensures.value c.records.ensures.kept.history

pub loop-resolver-preserved : goal.loop-resolver-preserved
loop-resolver-preserved g c =
    let l = c.loop-resolver in
    let k = l.resolver-index in
    one_more_guard (λ w. w.records) c.args.resolvers.now k c.resolver-item.result c.records.result.now c.args.self.now l.self c.learn.new.self
    (got c.args.resolvers.now k c.resolver-item.result (omega arith) c.resolver-item.is) c.records.ensures.value c.learn.ensures.kept c.learn.ensures.counted c.in_ok-learn.ensures.learned l.invariant
