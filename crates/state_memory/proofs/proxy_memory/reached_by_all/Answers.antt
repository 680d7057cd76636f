-- The least of the first one and of all is the least of all.
use Rattle.state_memory.proofs.KeptLaws.{least_start}
use Rattle.state_memory.proofs.proxy_memory.reached_by_all.Goals as goal

pub loop-one-init : goal.loop-one-init
loop-one-init c = least_start c.args.proxies.now c.in-Some.first.now c.in-Some.ensures.item.3.0 c.in-Some.ensures.item.1
