-- There is a column for each resolver so far, and it has a cell for each row.
use Rattle.std.proofs.Common.{◌≡◌, length}
use Rattle.std.specs.Prelude.{All}
use Rattle.agreed_ledger.proofs.ledger.empty_columns.Given as goal

abbrev pub invariant-loop-resolver : goal.invariant-loop-resolver
invariant-loop-resolver g l =
    record {
      count : length l.columns.items ≡ l.resolver;
      cells : All (λ column. length column.items ≡ l.rows) l.columns.items;
    }
