use Rattle.model.proofs.edges.missing_verdict_edges.Goals as goal
use Rattle.model.proofs.EdgeCases.{cells_without_verdicts, a_history_without_verdicts}
use Rattle.model.proofs.EdgeCases.{too_few_verdicts}

pub returns : goal.returns
returns c = record {
  cells = cells_without_verdicts;
  history = a_history_without_verdicts;
  told = too_few_verdicts;
}
