use Rattle.model.proofs.History.Growth.{no_history, history_push, history_last, up_to_last, no_moves, moves_follow_record, moves_follow_move}
use Rattle.model.proofs.Verdicts.Places.{row_at}
use Rattle.model.proofs.Agreement.Sources.{history_take}
use Rattle.model.proofs.Journals.ReplyRows.{first_up_to}
use Rattle.model.proofs.laws.history.history_growth_law.Goals as goal

pub returns : goal.returns
returns c = record {
  none = no_history;
  next = history_push;
  last = history_last;
  first = history_take;
  rows = row_at;
  versions = up_to_last;
  up_to = first_up_to;
  no_moves = no_moves;
  record_more = moves_follow_record;
  move_more = moves_follow_move;
}
