use Rattle.model.proofs.Verdicts.Missing.{no_record_is_conflict, no_transaction_is_conflict, unknown_record_is_conflict, no_verdict_in_cell_is_conflict, unjudged_mark_is_conflict, no_verdict_is_told_as_conflict}
use Rattle.model.proofs.laws.verdicts.missing_is_conflict_law.Goals as goal

pub returns : goal.returns
returns c = record {
  no_record = no_record_is_conflict;
  no_transaction = no_transaction_is_conflict;
  unknown_record = unknown_record_is_conflict;
  cell = no_verdict_in_cell_is_conflict;
  mark = unjudged_mark_is_conflict;
  told = no_verdict_is_told_as_conflict;
}
