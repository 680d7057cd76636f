use Rattle.model.proofs.Agreement.Columns.{replies_say, columns_give_replies, replies_by_cells, reply_to_the_record}
use Rattle.model.proofs.laws.agreement.column_replies_law.Goals as goal

pub returns : goal.returns
returns c = record { said = replies_say; given = columns_give_replies; cells = replies_by_cells; history = reply_to_the_record }
