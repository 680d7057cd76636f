-- One resolver more has come as far as the proxy, or it is the first that has not.
use Rattle.std.proofs.Common.{◌≤◌, subst, List, arith}
use Rattle.facts.specs.Stretches.{Agree}
use Rattle.locked_cluster.specs.Audits.{HaveReached}
use Rattle.locked_cluster.specs.Proxies.{LockedProxyView}
use Rattle.locked_resolvers.specs.Resolvers.{LockedResolverView}
use Rattle.locked_resolvers.proofs.Lists.{got, take_all}
use Rattle.locked_cluster.proofs.ProxyAudits.{has_reached, have_reached_next, is_audited}
use Rattle.locked_cluster.proofs.ProxyMeets.{agree_lists}
use Rattle.locked_cluster.proofs.audits.auditing.audit.Goals as goal

pub returns-then-reached-version-clause-audited : goal.returns-then-reached-version-clause-audited
returns-then-reached-version-clause-audited g c = is_audited g.N.Naming.cells.config c.args.proxy.now c.version-version.ensures.kept

pub returns-then-reached-version-clause-reached : goal.returns-then-reached-version-clause-reached
returns-then-reached-version-clause-reached g c =
    let v : LockedProxyView = c.args.proxy.now in
    let resolvers : List LockedResolverView = c.args.resolvers.now in
    let k = c.loop-resolver.resolver-index in
    let item : LockedResolverView = c.resolver-item.result in
    record {
      place = k;
      resolver = item;
      there = got resolvers k item (omega arith) c.resolver-item.is;
      sooner = c.loop-resolver.invariant;
      number = c.number.ensures.value;
      version = c.version-reached.ensures.value;
      below = omega (arith, c.version-reached.ensures.value, c.version-version.ensures.value);
    }

pub loop-resolver-preserved : goal.loop-resolver-preserved
loop-resolver-preserved g c =
    let config = g.N.Naming.cells.config in
    let v : LockedProxyView = c.args.proxy.now in
    let resolvers : List LockedResolverView = c.args.resolvers.now in
    let k = c.loop-resolver.resolver-index in
    let item : LockedResolverView = c.resolver-item.result in
    let agree : Agree 0 v.records 0 item.records = agree_lists c.records-known.result.now c.records-judged.result.now v.records item.records c.records-known.ensures.value c.records-judged.ensures.value c.agree.ensures in
    let reached : v.proxy.version ≤ item.memory.version = omega (arith, c.version-reached.ensures.value, c.version-version.ensures.value) in
    have_reached_next config v resolvers k item (got resolvers k item (omega arith) c.resolver-item.is) c.loop-resolver.invariant
    (has_reached config v item c.version-version.ensures.kept c.version-reached.ensures.kept agree reached)

pub returns-clause-audited : goal.returns-clause-audited
returns-clause-audited g c = is_audited g.N.Naming.cells.config c.args.proxy.now c.version-version.ensures.kept

pub returns-clause-reached : goal.returns-clause-reached
returns-clause-reached g c =
    let resolvers : List LockedResolverView = c.args.resolvers.now in
    let done = c.loop-resolver-test.false in
    subst (λ (rs : List LockedResolverView). HaveReached g.N.Naming.cells.config c.args.proxy.now rs) (take_all resolvers c.loop-resolver.resolver-index (omega (arith, done))) c.loop-resolver.invariant
