-- A turn of the loop adds one tag.
use Rattle.std.proofs.Common.{arith}
use Rattle.metadata.proofs.Tags.{next_tag}
use Rattle.metadata.proofs.tag_list.TagList.add_all.Goals as goal

pub loop-tag-preserved : goal.loop-tag-preserved
loop-tag-preserved c =
    next_tag c.args.tags.now _ c.loop-tag.tag-index c.loop-tag.self c.add.new.self _ (omega (arith, c.loop-tag-test.true)) c.in_ok-add.ensures c.loop-tag.invariant
