-- A new proxy keeps what every proxy keeps.
use Rattle.std.proofs.Common.{rules}
use Rattle.proxy_state.proofs.KeptProxies.{kept_start}
use Rattle.proxy_state.proofs.proxy.Proxy.new.Goals as goal

pub invariant_of-result : goal.invariant_of-result
invariant_of-result c = kept_start _ _ _ _ _ (search rules) (search rules) (search rules) (search rules) (search rules)
