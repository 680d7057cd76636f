use Rattle.model.proofs.Agreement.Growing.{no_verdicts, agreed_with_a_record, agreed_with_any_cells, agreed_with_cells, verdicts_with_cells, histories_are_agreed, all_columns_have_cells, all_columns_gain_verdicts, all_columns_are_verdicts}
use Rattle.model.proofs.laws.agreement.view_growth_law.Goals as goal

pub returns : goal.returns
returns c = record {
  nothing = no_verdicts;
  next_record = agreed_with_a_record;
  any_cells = agreed_with_any_cells;
  next_cells = agreed_with_cells;
  verdicts = verdicts_with_cells;
  whole = histories_are_agreed;
  whole_cells = all_columns_have_cells;
  whole_gains = all_columns_gain_verdicts;
  whole_verdicts = all_columns_are_verdicts;
}
