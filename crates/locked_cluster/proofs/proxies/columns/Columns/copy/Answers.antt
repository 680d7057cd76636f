-- One column more is copied.
use Rattle.std.proofs.Common.{◌∙◌, sym, ap, List, length, arith}
use Rattle.agreed_ledger.specs.Cells.{ColumnView}
use Rattle.model.specs.Agreed.{Column}
use Rattle.locked_cluster.specs.Columns.{known_columns}
use Rattle.locked_resolvers.proofs.Lists.{got, take_all}
use Rattle.locked_cluster.proofs.ProxyColumns.{copied_count, copied_next, got_in}
use Rattle.locked_cluster.proofs.proxies.columns.Columns.copy.Goals as goal

pub loop-column-init : goal.loop-column-init
loop-column-init g c = c.none-copied.ensures

pub push-requires-clause-resolver : goal.push-requires-clause-resolver
push-requires-clause-resolver g c =
    let items = c.deref-column-items.result.now in
    let k = c.loop-column.column-index in
    let here = got_in c.self.inside.columns.items items k c.column-item.result c.deref-column-items.ensures.value (omega arith) c.column-item.is in
    ap (λ (column : ColumnView). column.resolver) c.in_ok-copy.ensures ∙ (c.self.invariant k c.column-item.result here).0 ∙ sym (ap (λ (cs : List Column). length cs) c.loop-column.invariant ∙ copied_count items k (omega arith))

pub push-requires-clause-first : goal.push-requires-clause-first
push-requires-clause-first g c =
    let items = c.deref-column-items.result.now in
    let k = c.loop-column.column-index in
    let here = got_in c.self.inside.columns.items items k c.column-item.result c.deref-column-items.ensures.value (omega arith) c.column-item.is in
    ap (λ (column : ColumnView). column.rows.first) c.in_ok-copy.ensures ∙ (c.self.invariant k c.column-item.result here).1

pub loop-column-preserved : goal.loop-column-preserved
loop-column-preserved g c =
    let items = c.deref-column-items.result.now in
    let k = c.loop-column.column-index in
    copied_next items k c.column-item.result c.in_ok-copy.field-0 c.loop-column.copied c.push.new.self (got items k c.column-item.result (omega arith) c.column-item.is) c.in_ok-copy.ensures c.loop-column.invariant c.in_ok-push.ensures

pub returns : goal.returns
returns g c =
    let items = c.deref-column-items.result.now in
    c.loop-column.invariant ∙ ap known_columns (take_all items c.loop-column.column-index c.loop-column-test.false ∙ c.deref-column-items.ensures.value) ∙ c.self.view_is
