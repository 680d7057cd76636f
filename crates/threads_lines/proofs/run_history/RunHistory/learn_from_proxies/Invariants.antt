-- Those that were looked at are learned.
use Rattle.std.proofs.Common.{take}
use Rattle.threads_lines.proofs.HistoryLemmas.{LearnedFrom}
use Rattle.threads_lines.proofs.run_history.RunHistory.learn_from_proxies.Given as goal

abbrev pub invariant-loop-proxy : goal.invariant-loop-proxy
invariant-loop-proxy g l = LearnedFrom (λ v. v.records) (take l.proxy-index l.proxies) l.fn.self l.self
