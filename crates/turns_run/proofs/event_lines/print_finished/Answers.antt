use Rattle.pages.proofs.Prints.{prints_both}
use Rattle.turns_run.proofs.event_lines.print_finished.Goals as goal

pub returns : goal.returns
returns g c =
    let transactions = rw (c.as_slice.ensures, c.as_slice-2.ensures) at c.print_transactions.ensures in
    prints_both (prints_both c.push_finish.ensures c.push.ensures) transactions
