-- There is a cell for each row so far.
use Rattle.std.proofs.Common.{◌≡◌, length}
use Rattle.agreed_ledger.proofs.ledger.empty_cells.Given as goal

abbrev pub invariant-loop-row : goal.invariant-loop-row
invariant-loop-row g l = length l.cells.items ≡ l.row
