use Rattle.std.proofs.Common.{◌≡◌, length}
use Rattle.std.specs.Vec.Iter.{into_iter_items, into_iter_len}
use Rattle.scripts.specs.Checks.{each_checked}
use Rattle.scripts.proofs.ListLemmas.{checked_behind}
use Rattle.scripts.proofs.checks.check_each.Given as goal

abbrev pub invariant-loop-raw : goal.invariant-loop-raw
invariant-loop-raw g l = record {
  told : checked_behind l.items.items (each_checked g.X.Checked.checked (into_iter_items l.raw-iterator)) ≡ each_checked g.X.Checked.checked l.fn.list;
  count : into_iter_len l.raw-iterator ≡ length (into_iter_items l.raw-iterator);
}
