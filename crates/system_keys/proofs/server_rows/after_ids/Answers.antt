-- Each turn and each exit of the loop is a step of the reader that keeps only what is behind.
use Rattle.std.proofs.Common.{sym, ◌∙◌}
use Rattle.system_keys.proofs.RowLaws.{loop_next, loop_short, loop_falling, loop_done}
use Rattle.system_keys.proofs.server_rows.after_ids.Goals as goal

pub loop-preserved : goal.loop-preserved
loop-preserved c =
    rw (c.split_at.ensures.front, c.split_at.ensures.back) (loop_next _ _ _ _ _ c.loop-test.true c.if-rest-lt-SERVER_ID_LENGTH.false (rw (← c.split_at.ensures.front) (sym c.is_id_above.ensures ∙ c.if-not-is_id_above.false)) c.loop.invariant)

pub returns-then-rest-lt-SERVER_ID_LENGTH : goal.returns-then-rest-lt-SERVER_ID_LENGTH
returns-then-rest-lt-SERVER_ID_LENGTH c = loop_short _ _ _ _ _ c.loop-test.true c.if-rest-lt-SERVER_ID_LENGTH.true c.loop.invariant

pub returns-then-not-is_id_above : goal.returns-then-not-is_id_above
returns-then-not-is_id_above c =
    loop_falling _ _ _ _ _ c.loop-test.true c.if-rest-lt-SERVER_ID_LENGTH.false (rw (← c.split_at.ensures.front) (sym c.is_id_above.ensures ∙ c.if-not-is_id_above.true)) c.loop.invariant

pub returns : goal.returns
returns c = loop_done _ _ _ _ _ c.loop-test.false c.loop.invariant
