use Rattle.std.proofs.Common.{◌≡◌, ◌∷◌, ◌<◌, arith}
use Rattle.json.specs.Token as tokens
use Rattle.scripts.proofs.StreamListLemmas.{takes_list}
use Rattle.scripts.proofs.StreamObjectLemmas.{if_some_weaker}
use Rattle.fold_run.specs.Shapes.{row_shape}
use Rattle.fold_run.proofs.folded_rows.FoldedRowsFromFoldRows.take.Goals as goal

pub returns : goal.returns
returns c =
    let first : c.args.reader.now ≡ tokens.begin_array ∷ c.take_begin_array.new.self = grind arith in
    let some : 0 < c.args.depth = omega arith in
    if_some_weaker c.fold_each.result (λ _ taken. (
      taken.0,
      takes_list row_shape c.args.depth c.args.reader.now c.take_begin_array.new.self c.fold_each.new.reader taken.0 first some taken.1,
      taken.2,
    )) c.fold_each.ensures
