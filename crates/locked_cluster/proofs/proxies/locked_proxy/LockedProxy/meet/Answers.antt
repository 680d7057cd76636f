-- The proxies are told apart by their versions.
use Rattle.std.proofs.Common.{◌≡◌, ◌<◌, rules, arith}
use Rattle.facts.specs.Stretches.{Agree}
use Rattle.locked_cluster.specs.Proxies.{LockedProxyView}
use Rattle.locked_cluster.proofs.ProxyMeets.{agree_back, agree_lists, begins_other, same_journal}
use Rattle.locked_cluster.proofs.proxies.locked_proxy.LockedProxy.meet.Goals as goal

pub returns-then-version-reached : goal.returns-then-version-reached
returns-then-version-reached g c =
    let a : LockedProxyView = c.args.self.now in
    let b : LockedProxyView = c.args.other.now in
    let agree : Agree 0 a.records 0 b.records = agree_lists c.records-mine.result.now c.records-theirs.result.now a.records b.records c.records-mine.ensures.value c.records-theirs.ensures.value c.agree.ensures in
    let less : a.proxy.version < b.proxy.version = search rules in
    (less, begins_other g.N.Naming.cells.config a b c.records-mine.ensures.kept c.records-theirs.ensures.kept agree (omega (arith, less)))

pub returns-then-version-reached-2 : goal.returns-then-version-reached-2
returns-then-version-reached-2 g c =
    let a : LockedProxyView = c.args.self.now in
    let b : LockedProxyView = c.args.other.now in
    let agree : Agree 0 a.records 0 b.records = agree_lists c.records-mine.result.now c.records-theirs.result.now a.records b.records c.records-mine.ensures.value c.records-theirs.ensures.value c.agree.ensures in
    let same : a.proxy.version ≡ b.proxy.version = search rules in
    (same, same_journal g.N.Naming.cells.config a b c.records-mine.ensures.kept c.records-theirs.ensures.kept agree same)

pub returns-else-version-reached-2 : goal.returns-else-version-reached-2
returns-else-version-reached-2 g c =
    let a : LockedProxyView = c.args.self.now in
    let b : LockedProxyView = c.args.other.now in
    let agree : Agree 0 a.records 0 b.records = agree_lists c.records-mine.result.now c.records-theirs.result.now a.records b.records c.records-mine.ensures.value c.records-theirs.ensures.value c.agree.ensures in
    let less : b.proxy.version < a.proxy.version = search rules in
    (less, begins_other g.N.Naming.cells.config b a c.records-theirs.ensures.kept c.records-mine.ensures.kept (agree_back a.records b.records agree) (omega (arith, less)))
