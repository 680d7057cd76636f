-- The copies keep the same.
use Rattle.state_memory.proofs.KeptLaws.{all_copied}
use Rattle.state_memory.proofs.resolver.copy_proxy_memories.Goals as goal

pub returns : goal.returns
returns c = all_copied c.args.proxies.now.items c.in_ok-clone.field-0.items c.in_ok-clone.ensures.cases.0
