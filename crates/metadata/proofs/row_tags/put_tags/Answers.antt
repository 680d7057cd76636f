-- A turn of the loop adds one tag.
use Rattle.std.proofs.Common.{arith}
use Rattle.metadata.proofs.Tags.{next_tag}
use Rattle.metadata.proofs.row_tags.put_tags.Goals as goal

pub loop-tag-preserved : goal.loop-tag-preserved
loop-tag-preserved c =
    next_tag c.args.list.now _ c.loop-tag.tag-index c.loop-tag.tags.keys c.insert.new.self.keys _ (omega (arith, c.loop-tag-test.true)) c.in_ok-insert.ensures.keys c.loop-tag.invariant
