-- One request more has its reply.
use Rattle.std.proofs.Common.{◌+◌, sym, subst, List, take, arith}
use Rattle.locked_resolvers.specs.NotedReplies.{NotedReplyView}
use Rattle.locked_resolvers.specs.Asking.{AreRepliesInOrder}
use Rattle.workers.proofs.AskLemmas.{order_next}
use Rattle.workers.proofs.DeskLemmas.{got}
use Rattle.workers.proofs.awaited_replies.await_replies.Goals as goal

pub loop-place-preserved : goal.loop-place-preserved
loop-place-preserved g c =
    let requests = c.args.requests.now in
    let k = c.loop-place.place in
    let q = c.index-requests-place.result in
    let at = got requests k q (omega arith) c.index-requests-place.is in
    record {
      replied = subst (λ (rs : List NotedReplyView). AreRepliesInOrder (take (k + 1) requests) rs) (sym c.push_reserved.ensures.items) (order_next requests k q c.loop-place.replies.items c.in_ok-await_reply.field-0 at c.loop-place.invariant.replied c.in_ok-await_reply.ensures.replied);
      room = omega (arith, c.loop-place.invariant.room, c.push_reserved.ensures.capacity);
    }
