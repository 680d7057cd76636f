-- The proxies stand in the places of their numbers.
use Rattle.threads_lines.proofs.GuardLemmas.{all_proxies}
use Rattle.threads_lines.proofs.cluster.RunCluster.lock_proxies.Goals as goal

pub returns : goal.returns
returns g c =
    let cluster = c.args.self.now in
    all_proxies g.N.Naming.cells.config cluster.proxies.items c.as_slice.result.now c.lock_each_proxy.result (λ guards. guards.items)
    c.as_slice.ensures.value cluster.in_place cluster.proxy_count c.lock_each_proxy.ensures.count c.lock_each_proxy.ensures.kept
