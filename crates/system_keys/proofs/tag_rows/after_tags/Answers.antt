-- A turn of the loop is a step of the reader that keeps only what is behind.
use Rattle.std.proofs.Common.{sym, ◌∙◌}
use Rattle.system_keys.proofs.ListedTagLaws.{loop_next}
use Rattle.system_keys.proofs.tag_rows.after_tags.Goals as goal

pub loop-preserved : goal.loop-preserved
loop-preserved c =
    rw (c.from_bytes-tag.ensures)
    (loop_next c.args.count c.loop.counter c.loop.before c.loop.rest.now _ c.loop-test.true c.in-len3-up.len_at_least (rw (← c.from_bytes-tag.ensures) (sym c.is_tag_above.ensures ∙ c.if-not-is_tag_above.false)) c.loop.invariant)
