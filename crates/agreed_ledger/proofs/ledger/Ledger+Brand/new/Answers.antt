use Rattle.std.proofs.Common.{◌≡◌, sym, ◌∙◌, length, arith}
use Rattle.std.proofs.lemmas.List.{length-map}
use Rattle.once_cell.specs.Once.{cell_name}
use Rattle.agreed_ledger.specs.Cells.{names}
use Rattle.agreed_ledger.proofs.CellLaws.{column_lengths}
use Rattle.agreed_ledger.proofs.ledger.Ledger+Brand.new.Goals as goal

pub invariant_of-result : goal.invariant_of-result
invariant_of-result c =
    let records = c.in-Ok.records.items in
    let columns = c.in-Ok-empty_columns.verdicts.items in
    let rows : length (names records) ≡ c.args.rows = length-map records cell_name ∙ c.in-Ok.ensures in
    record {
      rows = (omega (arith, rows, c.if-rows-lt1.false), omega (arith, rows, c.if-rows-gt-LEDGER_LIMIT.false));
      config = c.resolvers.ensures.limits;
      resolvers = length-map columns _ ∙ c.in-Ok-empty_columns.ensures.0 ∙ c.resolvers.ensures.value;
      columns = λ r column at. column_lengths (λ v. v.items) cell_name columns c.args.rows c.in-Ok-empty_columns.ensures.1 r column at ∙ sym rows;
    }
