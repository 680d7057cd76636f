use Rattle.pages.proofs.Prints.{prints_both}
use Rattle.scripts.proofs.lines.print_route.Goals as goal

pub returns : goal.returns
returns g c =
    let key = prints_both c.push.ensures c.push_quoted.ensures in
    let tags = prints_both c.push-2.ensures c.push_list.ensures in
    prints_both (prints_both key tags) c.push-3.ensures
