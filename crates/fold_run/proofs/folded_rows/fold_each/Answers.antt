use Rattle.std.proofs.Common.{◌≡◌, ◌++◌, ◌∷◌, [], arith}
use Rattle.scripts.proofs.StreamLemmas.{taken_shorter}
use Rattle.scripts.proofs.StreamListLemmas.{no_end, so_far_start, so_far_turn, so_far_end}
use Rattle.fold_run.specs.Shapes.{row_shape}
use Rattle.fold_run.proofs.FoldingLemmas.{fold_end, fold_start, fold_turn}
use Rattle.fold_run.proofs.folded_rows.fold_each.Goals as goal

pub rows-init : goal.rows-init
rows-init c = ([], [], so_far_start row_shape c.args.depth c.args.reader.now, fold_start c.args.resolvers c.new-folded.result c.new-folded.ensures)

pub rows-smaller : goal.rows-smaller
rows-smaller c =
    let going : c.take_end_array.new.self ≡ c.rows.reader = grind arith in
    let next = c.in_ok-next.ensures in
    taken_shorter row_shape c.args.depth c.rows.reader c.fold_next.new.reader next.0 (rw going at next.1)

pub rows-preserved : goal.rows-preserved
rows-preserved c =
    let l = c.rows in
    let next = c.in_ok-next.ensures in
    let so_far = l.invariant in
    let going : c.take_end_array.new.self ≡ l.reader = grind arith in
    let taken = rw going at next.1 in
    let more = no_end row_shape c.args.depth l.reader next.0 c.fold_next.new.reader taken in (
      so_far.0 ++ next.0 ∷ [],
      so_far.1 ++ next.2.row ∷ [],
      so_far_turn row_shape c.args.depth c.args.reader.now l.reader c.fold_next.new.reader so_far.0 next.0 so_far.2 more taken,
      fold_turn so_far.0 so_far.1 next.0 next.2.row l.folded c.in_ok-next.next so_far.3 next.2.next next.2.checked next.2.folded,
    )

pub returns : goal.returns
returns c =
    let l = c.rows in
    let so_far = l.invariant in (
      so_far.0,
      so_far_end row_shape c.args.depth c.args.reader.now l.reader c.take_end_array.new.self so_far.0 so_far.2 (grind arith),
      fold_end so_far.0 so_far.1 l.folded so_far.3,
    )
