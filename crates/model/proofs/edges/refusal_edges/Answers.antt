use Rattle.model.proofs.edges.refusal_edges.Goals as goal
use Rattle.model.proofs.EdgeCases.{a_repeat_gets_the_same_reply, an_unknown_row_is_refused_first}
use Rattle.model.proofs.EdgeCases.{strangers_are_refused_first, the_first_missing_reply}
use Rattle.model.proofs.EdgeCases.{the_limits_of_a_cluster}

pub returns : goal.returns
returns c = record {
  repeat = a_repeat_gets_the_same_reply;
  unknown_row = an_unknown_row_is_refused_first;
  strangers = strangers_are_refused_first;
  missing = the_first_missing_reply;
  limits = the_limits_of_a_cluster;
}
