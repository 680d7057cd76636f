use Rattle.std.proofs.lemmas.Result.{on_ok_weaker}
use Rattle.turns_run.proofs.WorldLemmas.{printed_text-is}
use Rattle.turns_run.proofs.text.print_turns.Goals as goal

pub returns : goal.returns
returns c =
    on_ok_weaker c.print_proxies.result
    (λ printed. printed_text-is c.args.script _ _ _ _ _
    c.in_ok-world.ensures
    c.in_ok-carry_out_events.ensures.text
    c.in_ok-carry_out_events.ensures.world
    (rw c.as_slice.ensures at printed))
    c.print_proxies.ensures
