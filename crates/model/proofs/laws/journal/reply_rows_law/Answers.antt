use Rattle.model.proofs.Journals.ReplyRows.{told_row_is, row_verdicts, told_exact, unseen_is_told}
use Rattle.model.proofs.laws.journal.reply_rows_law.Goals as goal

pub returns : goal.returns
returns c = record { row = told_row_is; verdicts = row_verdicts; exact = told_exact; unseen = unseen_is_told }
