-- The promise, from what the types keep.
use Rattle.locked_cluster.proofs.ProxyHeadline.{headline_of}
use Rattle.locked_cluster.proofs.ProxyMeets.{agree_lists}
use Rattle.locked_cluster.proofs.audits.headline.metadata_of_two.Goals as goal

pub returns : goal.returns
returns g c =
    let one = c.args.one.now in
    let other = c.args.other.now in
    let answer = c.args.answer.now in
    let known = c.records-known in
    let others = c.records-others in
    let told = c.records-told in
    headline_of g.N.Naming.cells.config one other c.metadata-mine.result.now c.metadata-theirs.result.now answer
    known.ensures.kept others.ensures.kept told.ensures.kept
    (agree_lists known.result.now others.result.now one.records other.records known.ensures.value others.ensures.value c.agree.ensures)
    (agree_lists known.result.now told.result.now one.records answer.records known.ensures.value told.ensures.value c.agree-2.ensures)
    (agree_lists others.result.now told.result.now other.records answer.records others.ensures.value told.ensures.value c.agree-3.ensures)
    c.metadata-mine.ensures.value c.metadata-theirs.ensures.value
