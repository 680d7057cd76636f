use Rattle.pages.proofs.Prints.{prints_both}
use Rattle.scripts.proofs.lines.print_metadata_version.Goals as goal

pub returns : goal.returns
returns g c = prints_both (prints_both c.push.ensures c.push_quoted_or_none.ensures) c.push-2.ensures
