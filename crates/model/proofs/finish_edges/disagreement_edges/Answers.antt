use Rattle.model.proofs.FinishingEdgeCases.{a_missing_row, a_row_missing_in_both, a_row_too_many}
use Rattle.model.proofs.FinishingEdgeCases.{a_version_between, other_numbers_of_state_transactions}
use Rattle.model.proofs.FinishingEdgeCases.{content_of_the_wrong_resolver}
use Rattle.model.proofs.finish_edges.disagreement_edges.Goals as goal

pub returns : goal.returns
returns c = record {
  missing = a_missing_row;
  missing_in_both = a_row_missing_in_both;
  too_many = a_row_too_many;
  between = a_version_between;
  states = other_numbers_of_state_transactions;
  content = content_of_the_wrong_resolver;
}
