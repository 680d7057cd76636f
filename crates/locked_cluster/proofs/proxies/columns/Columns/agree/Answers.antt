-- The columns of one resolver more agree, and at the end all do.
use Rattle.std.proofs.Common.{◌≤◌, subst, min, length, arith}
use Rattle.model.specs.Agreed.{Columns}
use Rattle.locked_cluster.specs.Columns.{ColumnsAgree, known_columns}
use Rattle.locked_resolvers.proofs.Lists.{got}
use Rattle.locked_cluster.proofs.ProxyColumns.{agree_more, all_agree, known_count, one_resolver}
use Rattle.locked_cluster.proofs.proxies.columns.Columns.agree.Goals as goal

pub agree-requires : goal.agree-requires
agree-requires g c =
    let mine = c.self.inside.columns.items in
    let theirs = c.other.inside.columns.items in
    let k = c.loop-resolver.resolver in
    one_resolver mine theirs k c.index.result.now c.index-in-loop-resolver.result.now c.self.invariant c.other.invariant (got mine k c.index.result.now (omega arith) c.index.ensures) (got theirs k c.index-in-loop-resolver.result.now (omega arith) c.index-in-loop-resolver.ensures)

pub loop-resolver-preserved : goal.loop-resolver-preserved
loop-resolver-preserved g c =
    let mine = c.self.inside.columns.items in
    let theirs = c.other.inside.columns.items in
    let k = c.loop-resolver.resolver in
    agree_more mine theirs k c.index.result.now c.index-in-loop-resolver.result.now c.self.invariant c.other.invariant (got mine k c.index.result.now (omega arith) c.index.ensures) (got theirs k c.index-in-loop-resolver.result.now (omega arith) c.index-in-loop-resolver.ensures) c.agree.ensures c.loop-resolver.invariant

pub returns : goal.returns
returns g c =
    let mine = c.self.inside.columns.items in
    let theirs = c.other.inside.columns.items in
    let all : min (length (known_columns mine)) (length (known_columns theirs)) ≤ c.loop-resolver.resolver = omega (arith, known_count mine, known_count theirs) in
    subst (λ (cs : Columns). ColumnsAgree cs c.args.other.now) c.self.view_is (subst (λ (cs : Columns). ColumnsAgree (known_columns mine) cs) c.other.view_is (all_agree (known_columns mine) (known_columns theirs) c.loop-resolver.resolver all c.loop-resolver.invariant))
