-- The resolvers stand in the places of their numbers.
use Rattle.threads_lines.proofs.GuardLemmas.{all_resolvers}
use Rattle.threads_lines.proofs.cluster.RunCluster.lock_resolvers.Goals as goal

pub returns : goal.returns
returns g c =
    let cluster = c.args.self.now in
    all_resolvers g.N.Naming.cells.config cluster.resolvers.items c.as_slice.result.now c.lock_each_resolver.result (λ guards. guards.items)
    c.as_slice.ensures.value cluster.resolvers_in_place cluster.resolver_count c.lock_each_resolver.ensures.count
    c.lock_each_resolver.ensures.kept
