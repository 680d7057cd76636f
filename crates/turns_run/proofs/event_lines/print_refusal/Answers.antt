use Rattle.pages.proofs.Prints.{prints_both}
use Rattle.turns_run.proofs.event_lines.print_refusal.Goals as goal

pub returns : goal.returns
returns g c =
    let refused = rw (c.number.ensures, c.name.ensures) at c.push_refused.ensures in
    prints_both (prints_both refused c.push_refusal_value.ensures) c.push.ensures
