use Rattle.pages.proofs.Prints.{prints_both}
use Rattle.turns_run.proofs.lines.push_offer_start.Goals as goal

pub returns : goal.returns
returns g c = prints_both c.push_numbered.ensures c.push_numbered-2.ensures
