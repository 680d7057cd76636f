-- The columns so far are copied.
use Rattle.std.proofs.Common.{◌≡◌, take}
use Rattle.locked_cluster.specs.Columns.{known_columns}
use Rattle.locked_cluster.proofs.proxies.columns.Columns.copy.Given as goal

abbrev pub invariant-loop-column : goal.invariant-loop-column
invariant-loop-column g l = l.copied ≡ known_columns (take l.column-index l.column-items)
