-- Columns of verdict cells, one for each resolver, that are kept together. *Profile*: all of it.
use Rattle.std.specs.Prelude.{◌≡◌, List, map, slice_get, Some}
use Rattle.facts.specs.Stretches.{Agree}
use Rattle.model.specs.Numbers.{ResolverNumber}
use Rattle.model.specs.Journal.{list_at}
use Rattle.model.specs.Agreed.{Columns}
use Rattle.agreed_ledger.specs.Cells.{ColumnView}

-- the verdicts in each column
abbrev pub known_columns : List ColumnView → Columns
known_columns columns = map (λ (column : ColumnView). column.rows.known) columns

-- the column at each place belongs to the resolver of this number, and begins at row 0
abbrev pub AreInOrder : List ColumnView → Type 0
AreInOrder columns =
    (r : ResolverNumber) (column : ColumnView) → slice_get columns r ≡ Some column
    → (column.resolver ≡ r) × (column.rows.first ≡ 0)

-- wherever both have a cell of a resolver, it holds the same verdicts
abbrev pub ColumnsAgree : Columns → (other : Columns) → Type 0
ColumnsAgree columns other =
    (r : ResolverNumber) → Agree 0 (list_at columns r) 0 (list_at other r)
