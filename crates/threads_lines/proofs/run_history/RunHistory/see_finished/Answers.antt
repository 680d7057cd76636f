-- The records up to the batch are learned, and it is counted.
use Rattle.threads_lines.proofs.HistoryLemmas.{told_history}
use Rattle.threads_lines.proofs.run_history.RunHistory.see_finished.Goals as goal

pub learn-requires-clause-history : goal.learn-requires-clause-history
learn-requires-clause-history g c = told_history g.N.Naming.cells.config c.records.result.now c.args.noted.now.records c.records.ensures.value c.records.ensures.kept.history
