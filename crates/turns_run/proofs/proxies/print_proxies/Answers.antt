use Rattle.turns_run.proofs.WorldLemmas.{one_more_proxy}
use Rattle.turns_run.proofs.proxies.print_proxies.Goals as goal

pub loop-number-preserved : goal.loop-number-preserved
loop-number-preserved c =
    one_more_proxy c.args.config.now c.args.world.now.world c.args.keys.now c.loop-number.number c.in-Some.proxy.now _ _ _
    (rw c.requires at c.in-Some.ensures.1) c.loop-number.invariant c.in_ok-print_proxy.ensures
