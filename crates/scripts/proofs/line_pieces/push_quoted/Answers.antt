use Rattle.pages.proofs.Prints.{prints_both}
use Rattle.scripts.proofs.line_pieces.push_quoted.Goals as goal

pub returns : goal.returns
returns g c = prints_both (prints_both c.push.ensures c.push_bytes.ensures) c.push-2.ensures
