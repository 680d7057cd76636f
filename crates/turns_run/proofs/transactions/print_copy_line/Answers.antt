use Rattle.pages.proofs.Prints.{prints_both}
use Rattle.turns_run.proofs.transactions.print_copy_line.Goals as goal

pub returns : goal.returns
returns g c =
    let place = prints_both c.push_numbered.ensures c.push_numbered-2.ensures in
    let key = prints_both c.push.ensures (rw c.as_slice.ensures at c.push_quoted.ensures) in
    let tag = prints_both c.push-2.ensures c.push_to.ensures in
    prints_both (prints_both (prints_both place key) tag) c.push-3.ensures
