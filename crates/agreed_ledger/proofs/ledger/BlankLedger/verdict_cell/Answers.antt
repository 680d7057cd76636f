use Rattle.std.proofs.Common.{◌≡◌, refl, ap, sym, ◌<◌, length, arith}
use Rattle.std.proofs.lemmas.Option.{slice_get_read}
use Rattle.std.specs.List.{slice_get}
use Rattle.std.specs.declared.option.Option.TheVariants.{Some}
use Rattle.once_cell.specs.Once.{cell_name}
use Rattle.agreed_ledger.specs.Cells.{Cells}
use Rattle.agreed_ledger.proofs.CellLaws.{column_within, row_within, cell_is}
use Rattle.agreed_ledger.proofs.ledger.BlankLedger.verdict_cell.Goals as goal

pub index-requires : goal.index-requires
index-requires c =
    let columns = c.self.inside.verdicts.items in
    let within : c.args.resolver < length columns = column_within (λ v. v.items) cell_name c.args.self.now.verdicts columns c.args.resolver c.args.row (ap (λ (cells : Cells). cells.verdicts) (sym c.self.view_is)) c.requires in
    omega (arith, within, c.self.inside.verdicts.ok)

pub index-requires-2 : goal.index-requires-2
index-requires-2 c =
    let columns = c.self.inside.verdicts.items in
    let same = ap (λ (cells : Cells). cells.verdicts) (sym c.self.view_is) in
    let within : c.args.resolver < length columns = column_within (λ v. v.items) cell_name c.args.self.now.verdicts columns c.args.resolver c.args.row same c.requires in
    let at : slice_get columns c.args.resolver ≡ Some c.index.result.now = slice_get_read columns (length columns) c.args.resolver c.index.result.now refl within c.index.ensures in
    let below : c.args.row < length c.index.result.now.items = row_within (λ v. v.items) cell_name c.args.self.now.verdicts columns c.args.resolver c.args.row c.index.result.now same at c.requires in
    omega (arith, below, c.index.result.now.ok)

pub returns : goal.returns
returns c =
    let columns = c.self.inside.verdicts.items in
    let same = ap (λ (cells : Cells). cells.verdicts) (sym c.self.view_is) in
    let within : c.args.resolver < length columns = column_within (λ v. v.items) cell_name c.args.self.now.verdicts columns c.args.resolver c.args.row same c.requires in
    let at : slice_get columns c.args.resolver ≡ Some c.index.result.now = slice_get_read columns (length columns) c.args.resolver c.index.result.now refl within c.index.ensures in
    let column = c.index.result.now.items in
    let below : c.args.row < length column = row_within (λ v. v.items) cell_name c.args.self.now.verdicts columns c.args.resolver c.args.row c.index.result.now same at c.requires in
    let at_row : slice_get column c.args.row ≡ Some c.index-2.result.now = slice_get_read column (length column) c.args.row c.index-2.result.now refl below c.index-2.ensures in
    cell_is (λ v. v.items) cell_name c.args.self.now.verdicts columns c.args.resolver c.args.row c.index.result.now c.index-2.result.now same at at_row
