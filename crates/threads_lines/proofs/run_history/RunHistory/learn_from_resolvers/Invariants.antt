-- Those that were looked at are learned.
use Rattle.std.proofs.Common.{take}
use Rattle.threads_lines.proofs.HistoryLemmas.{LearnedFrom}
use Rattle.threads_lines.proofs.run_history.RunHistory.learn_from_resolvers.Given as goal

abbrev pub invariant-loop-resolver : goal.invariant-loop-resolver
invariant-loop-resolver g l = LearnedFrom (λ w. w.records) (take l.resolver-index l.resolvers) l.fn.self l.self
