use Rattle.session_texts.proofs.LawLemmas.{fitting_answer, fitting_line, lost_is_none, one_place, one_session}
use Rattle.session_texts.proofs.laws.placed_answers_law.Goals as goal

pub returns : goal.returns
returns c = record { fitting = fitting_answer; place = one_place; line = fitting_line; session = one_session; lost = lost_is_none }
