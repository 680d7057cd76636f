use Rattle.model.proofs.FinishingEdgeCases.{replies_to_another_record, other_numbers_of_verdicts}
use Rattle.model.proofs.FinishingEdgeCases.{the_record_is_checked_first}
use Rattle.model.proofs.finish_edges.other_record_edges.Goals as goal

pub returns : goal.returns
returns c = record {
  other = replies_to_another_record;
  verdicts = other_numbers_of_verdicts;
  first = the_record_is_checked_first;
}
