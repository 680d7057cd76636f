use Rattle.std.proofs.Common.{length, subst}
use Rattle.agreed_ledger.specs.Cells.{ColumnView, IsWithin, verdict_cells}
use Rattle.agreed_ledger.proofs.StretchLaws.{values_within}
use Rattle.agreed_ledger.proofs.column.Column.end.Goals as goal

pub returns-clause-within : goal.returns-clause-within
returns-clause-within g c =
    let cells = g.N.Naming.cells in
    subst (λ (v : ColumnView). IsWithin (length (verdict_cells cells v.resolver)) v.rows) c.self.view_is
    (values_within (verdict_cells cells c.self.inside.resolver) c.self.inside.stretch c.self.invariant)
