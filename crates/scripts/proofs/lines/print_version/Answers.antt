use Rattle.pages.proofs.Prints.{prints_both}
use Rattle.scripts.proofs.lines.print_version.Goals as goal

pub returns : goal.returns
returns g c = prints_both c.push_numbered.ensures c.push.ensures
