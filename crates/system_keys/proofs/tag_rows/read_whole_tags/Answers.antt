use Rattle.system_keys.proofs.ListedTagLaws.{whole_next}
use Rattle.system_keys.proofs.tag_rows.read_whole_tags.Goals as goal

pub loop-preserved : goal.loop-preserved
loop-preserved c =
    rw (c.in_ok-push.ensures.items, c.from_bytes.ensures)
    (whole_next c.args.count c.loop.counter c.loop.tags.items _ c.loop.rest.now c.loop-test.true c.in-len3-up.len_at_least c.loop.invariant)
