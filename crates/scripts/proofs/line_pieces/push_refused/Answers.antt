use Rattle.pages.proofs.Prints.{prints_both}
use Rattle.scripts.proofs.line_pieces.push_refused.Goals as goal

pub returns : goal.returns
returns g c = prints_both c.push_refused_number.ensures c.push_word.ensures
