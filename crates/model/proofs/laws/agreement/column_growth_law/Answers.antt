use Rattle.model.proofs.Agreement.Holders.{column_more, column_first}
use Rattle.model.proofs.laws.agreement.column_growth_law.Goals as goal

pub returns : goal.returns
returns c = record { more = column_more; first = column_first }
