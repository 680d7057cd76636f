use Rattle.std.proofs.lemmas.Result.{on_ok_weaker}
use Rattle.pages.proofs.Prints.{prints_as}
use Rattle.session_run.proofs.ShowLemmas.{shown_missing, shown_proxy}
use Rattle.session_run.proofs.session.print_show.Goals as goal

pub returns-in-Some-clause-text : goal.returns-in-Some-clause-text
returns-in-Some-clause-text g c =
    let same = shown_proxy c.args.cluster.now c.args.show.now.proxy c.in-Some.proxy.now c.args.show.now.ask c.in-Some.ensures.0 c.in-Some.ensures.1 in
    on_ok_weaker c.print_found_proxy.result (λ printed. prints_as printed same) c.print_found_proxy.ensures.text

pub returns-in-None-clause-text : goal.returns-in-None-clause-text
returns-in-None-clause-text g c =
    prints_as c.print_refusal.ensures (shown_missing c.args.cluster.now c.args.show.now.proxy c.args.show.now.ask c.in-None.ensures)
