use Rattle.model.proofs.Agreement.Agreed.{agreed_at_start, agreed_fewer, agreed_record, agreed_cell, agreed_rows, agreed_journal}
use Rattle.model.proofs.laws.agreement.agreed_view_law.Goals as goal

pub returns : goal.returns
returns c = record {
  start = agreed_at_start;
  fewer = agreed_fewer;
  record_there = agreed_record;
  cell_there = agreed_cell;
  rows = agreed_rows;
  journal = agreed_journal;
}
