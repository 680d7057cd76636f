use Rattle.pages.proofs.Prints.{prints_both}
use Rattle.turns_run.proofs.lines.print_sequence.Goals as goal

pub returns : goal.returns
returns g c = prints_both c.push_sequence.ensures c.push.ensures
