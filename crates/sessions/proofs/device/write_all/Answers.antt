use Rattle.std.proofs.Common.{◌<◌, ◌∙◌, arith}
use Rattle.sessions.proofs.EventLemmas.{writes_part, writes_front}
use Rattle.sessions.proofs.device.write_all.Goals as goal

pub returns-then-count-eq0-clause-err : goal.returns-then-count-eq0-clause-err
returns-then-count-eq0-clause-err g c =
    let (front, whole, wrote) = c.loop-rest.invariant.wrote in
    writes_part _ _ _ _ front c.loop-rest.rest.now c.in_ok-count.count whole wrote c.in_ok-count.ensures.wrote

pub loop-rest-preserved : goal.loop-rest-preserved
loop-rest-preserved g c =
    let (front, whole, wrote) = c.loop-rest.invariant.wrote in
    let some : 0 < c.in_ok-count.count = omega (arith, c.if-count-eq0.false) in
    record {
      wrote = writes_front _ _ _ _ front c.loop-rest.rest.now c.in_ok-count.count whole wrote c.in_ok-count.ensures.wrote;
      unfailed = c.in_ok-count.ensures.unfailed some ∙ c.loop-rest.invariant.unfailed;
    }
