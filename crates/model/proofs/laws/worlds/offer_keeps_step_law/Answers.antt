use Rattle.model.proofs.Worlds.Offers.{answers_as_world, judged_row_next, judged_in_step}
use Rattle.model.proofs.Worlds.KeptRows.{kept_rows_are}
use Rattle.model.proofs.laws.worlds.offer_keeps_step_law.Goals as goal

pub returns : goal.returns
returns c = record { answer = answers_as_world; next = judged_row_next; judged = judged_in_step; kept = kept_rows_are }
