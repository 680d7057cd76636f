use Rattle.model.proofs.Agreement.Cells.{columns_cut_down}
use Rattle.model.proofs.Agreement.Holders.{finished_meet}
use Rattle.model.proofs.laws.agreement.holders_agree_law.Goals as goal

pub returns : goal.returns
returns c = record { same = columns_cut_down; finished = finished_meet }
