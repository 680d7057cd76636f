use Rattle.std.proofs.Common.{List, length}
use Rattle.model.specs.declared.journal.JournalRow.{JournalRow}
use Rattle.scripts.proofs.StreamListLemmas.{SoFar}
use Rattle.fold_run.specs.Shapes.{row_shape}
use Rattle.fold_run.specs.declared.script.RawRow.{RawRow}
use Rattle.fold_run.proofs.FoldingLemmas.{SoFarFolded}
use Rattle.fold_run.proofs.folded_rows.fold_each.Given as goal

abbrev pub invariant-rows : goal.invariant-rows
invariant-rows l = (raws : List RawRow) × (rows : List JournalRow)
    × SoFar row_shape l.depth l.initial.reader raws l.reader
    × SoFarFolded raws rows l.folded

abbrev pub decreases-rows : goal.decreases-rows
decreases-rows l = length l.reader
