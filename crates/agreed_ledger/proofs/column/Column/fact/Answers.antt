use Rattle.std.proofs.Common.{◌≡◌, List, subst}
use Rattle.std.specs.Prelude.{IfSome, MatchOption}
use Rattle.std.specs.List.{slice_get}
use Rattle.std.specs.declared.option.Option.TheVariants.{Some}
use Rattle.facts.specs.declared.fact.Fact.{Fact}
use Rattle.facts.specs.Stretches.{HasAt, Lacks}
use Rattle.model.specs.declared.verdict.Verdict.{Verdict}
use Rattle.agreed_ledger.specs.Cells.{ColumnView, verdict_cells}
use Rattle.agreed_ledger.proofs.StretchLaws.{cell_get, values_get}
use Rattle.agreed_ledger.proofs.column.Column.fact.Goals as goal

pub returns-clause-value : goal.returns-clause-value
returns-clause-value g c =
    subst (λ (v : ColumnView). MatchOption c.get.result (Lacks v.rows c.args.row) (λ (fact : Fact (List Verdict)). HasAt v.rows c.args.row fact.value)) c.self.view_is
    (values_get c.self.inside.stretch c.args.row c.get.result c.get.ensures)

pub returns-clause-cell : goal.returns-clause-cell
returns-clause-cell g c =
    let cells = g.N.Naming.cells in
    subst (λ (v : ColumnView). IfSome c.get.result (λ (fact : Fact (List Verdict)). slice_get (verdict_cells cells v.resolver) c.args.row ≡ Some fact.cell)) c.self.view_is
    (cell_get (verdict_cells cells c.self.inside.resolver) c.self.inside.stretch c.args.row c.get.result c.self.invariant c.get.ensures)
