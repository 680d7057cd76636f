use Rattle.pages.proofs.Prints.{prints_both}
use Rattle.turns_run.proofs.transactions.print_mutation_tags.Goals as goal

pub returns : goal.returns
returns g c =
    let place = prints_both c.push_numbered.ensures c.push_numbered-2.ensures in
    let tags = rw c.as_slice.ensures at c.push_list.ensures in
    prints_both (prints_both (prints_both place c.push.ensures) tags) c.push-2.ensures
