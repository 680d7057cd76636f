use Rattle.pages.proofs.Prints.{prints_both}
use Rattle.turns_run.proofs.transactions.print_transaction.Goals as goal

pub returns : goal.returns
returns g c =
    let outcome = prints_both c.push.ensures c.push_outcome.ensures in
    prints_both (prints_both c.push_numbered.ensures outcome) c.push-2.ensures
