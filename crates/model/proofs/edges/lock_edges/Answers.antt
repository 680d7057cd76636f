use Rattle.model.proofs.edges.lock_edges.Goals as goal
use Rattle.model.proofs.EdgeCases.{an_empty_value_is_no_lock, the_outcomes_under_the_lock}

pub returns : goal.returns
returns c = record {
  empty = an_empty_value_is_no_lock;
  outcomes = the_outcomes_under_the_lock;
}
