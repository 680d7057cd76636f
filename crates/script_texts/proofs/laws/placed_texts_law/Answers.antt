use Rattle.script_texts.proofs.LawLemmas.{fitting_placed, length_told, one_outcome}
use Rattle.script_texts.proofs.laws.placed_texts_law.Goals as goal

pub returns : goal.returns
returns c = record { one = one_outcome; fitting = fitting_placed; short = length_told }
