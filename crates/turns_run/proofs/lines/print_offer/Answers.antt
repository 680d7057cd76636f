use Rattle.pages.proofs.Prints.{prints_both}
use Rattle.turns_run.proofs.lines.print_offer.Goals as goal

pub returns : goal.returns
returns g c =
    let reply = prints_both c.push_offer_start.ensures c.push_word.ensures in
    let verdicts = prints_both c.push.ensures (rw c.as_slice.ensures at c.push_list.ensures) in
    let unseen = prints_both c.push-2.ensures (rw c.as_slice-2.ensures at c.push_list-2.ensures) in
    prints_both (prints_both (prints_both reply verdicts) unseen) c.push-3.ensures
