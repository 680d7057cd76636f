use Rattle.std.proofs.Common.{◌≡◌, ◌∙◌, ◌<◌, ℕ, length, subst, sym, arith}
use Rattle.std.proofs.lemmas.Option.{slice_get_within}
use Rattle.once_cell.specs.Once.{cell_name}
use Rattle.facts.specs.Stretches.{end_of, values_of}
use Rattle.facts.specs.Unsets.{IfTaken}
use Rattle.agreed_ledger.specs.Cells.{AreKnownAt, ColumnView, verdict_cells}
use Rattle.agreed_ledger.proofs.StretchLaws.{values_end}
use Rattle.agreed_ledger.proofs.CellLaws.{column_row_below}
use Rattle.agreed_ledger.proofs.column.Column.set_and_copy.Goals as goal

pub set_next_and_copy-requires : goal.set_next_and_copy-requires
set_next_and_copy-requires g c =
    let cells = g.N.Naming.cells in
    let column = verdict_cells cells c.self.inside.resolver in
    let within : c.end-row.result < length column = slice_get_within column c.end-row.result (cell_name c.verdict_cell-cell.result.now) c.verdict_cell-cell.ensures in
    let below : c.end-row.result < length cells.records = column_row_below cells c.self.inside.resolver c.end-row.result c.rows-rows.ensures.kept within in
    omega (arith, below, c.rows-rows.ensures.kept.rows.1, c.end-row.ensures.value)

pub returns-in-Err-clause-taken : goal.returns-in-Err-clause-taken
returns-in-Err-clause-taken g c =
    let row : c.end-row.result ≡ end_of (values_of c.self.inside.stretch) = c.end-row.ensures.value ∙ sym (values_end c.self.inside.stretch) in
    subst (λ (v : ColumnView). IfTaken c.from_not_set-why.result (AreKnownAt (end_of v.rows) v.resolver)) c.self.view_is
    (subst (λ (n : ℕ). IfTaken c.from_not_set-why.result (AreKnownAt n c.self.inside.resolver)) row c.from_not_set-why.ensures.taken)
