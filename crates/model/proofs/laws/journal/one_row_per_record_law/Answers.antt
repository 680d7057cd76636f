use Rattle.model.proofs.History.Rows.{journal_counted, record_row, row_record, all_verdicts, rows_exact}
use Rattle.model.proofs.laws.journal.one_row_per_record_law.Goals as goal

pub returns : goal.returns
returns c = record { count = journal_counted; row = record_row; record_there = row_record; verdicts = all_verdicts; exact = rows_exact }
