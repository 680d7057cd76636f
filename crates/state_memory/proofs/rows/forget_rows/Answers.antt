-- A first element at or below the version is not above it, and if the first one is above it, all are.
use Rattle.std.proofs.Common.{◌∙◌, sym, ap, subst}
use Rattle.state_memory.specs.Kept.{rows_above}
use Rattle.state_memory.specs.Order.{RowsIncrease}
use Rattle.state_memory.proofs.KeptLaws.{row_dropped, rows_kept}
use Rattle.state_memory.proofs.rows.forget_rows.Goals as goal

pub loop-rows-preserved-in-loop-rows : goal.loop-rows-preserved-in-loop-rows
loop-rows-preserved-in-loop-rows c =
    let dropped = row_dropped c.args.version c.loop-rows.rows.items c.loop-rows.invariant.order (sym c.is_first_row_up_to.ensures ∙ c.loop-rows-test.true) in
    record {
      order = subst RowsIncrease (sym c.pop_front.ensures.rest) dropped.0;
      same = ap (rows_above c.args.version) c.pop_front.ensures.rest ∙ dropped.1 ∙ c.loop-rows.invariant.same;
    }

pub returns : goal.returns
returns c =
    sym (rows_kept c.args.version c.loop-rows.rows.items c.loop-rows.invariant.order (sym c.is_first_row_up_to.ensures ∙ c.loop-rows-test.false))
    ∙ c.loop-rows.invariant.same
