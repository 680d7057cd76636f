use Rattle.std.proofs.Common.{◌<◌, length, arith}
use Rattle.std.proofs.lemmas.Option.{slice_get_within}
use Rattle.once_cell.specs.Once.{cell_name}
use Rattle.agreed_ledger.specs.Cells.{verdict_cells}
use Rattle.agreed_ledger.proofs.CellLaws.{column_row_below}
use Rattle.agreed_ledger.proofs.column.Column.set.Goals as goal

pub set_next-requires : goal.set_next-requires
set_next-requires g c =
    let cells = g.N.Naming.cells in
    let column = verdict_cells cells c.self.inside.resolver in
    let within : c.end.result < length column = slice_get_within column c.end.result (cell_name c.verdict_cell-cell.result.now) c.verdict_cell-cell.ensures in
    let below : c.end.result < length cells.records = column_row_below cells c.self.inside.resolver c.end.result c.rows-rows.ensures.kept within in
    omega (arith, below, c.rows-rows.ensures.kept.rows.1, c.end.ensures.value)
