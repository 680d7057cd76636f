-- One request more has its reply, or was refused.
use Rattle.std.proofs.Common.{◌+◌, sym, subst, List, take, None, arith, rules}
use Rattle.locked_resolvers.specs.NotedReplies.{NotedReplyView}
use Rattle.locked_resolvers.specs.Asking.{AreRepliesInOrder}
use Rattle.locked_resolvers.proofs.Lists.{got}
use Rattle.locked_resolvers.proofs.AskedRequests.{all_taken, one_refused, order_next}
use Rattle.locked_resolvers.proofs.all_resolvers.AllResolversAsking.ask_all.Goals as goal

pub loop-request-preserved : goal.loop-request-preserved
loop-request-preserved g c =
    let requests = c.args.requests.now in
    let k = c.loop-request.request-index in
    let at = got requests k c.request-item.result (omega arith) c.request-item.is in
    record {
      replied = subst (λ (rs : List NotedReplyView). AreRepliesInOrder (take (k + 1) requests) rs) (sym c.push_reserved.ensures.items) (order_next requests k c.request-item.result c.loop-request.replies.items c.in_ok-ask.field-0 at c.loop-request.invariant.replied c.in_ok-ask.ensures.replied);
      room = omega (arith, c.loop-request.invariant.room, c.push_reserved.ensures.capacity);
    }

pub returns-in_err-ask-clause-refused : goal.returns-in_err-ask-clause-refused
returns-in_err-ask-clause-refused g c =
    let requests = c.args.requests.now in
    let k = c.loop-request.request-index in
    let at = got requests k c.request-item.result (omega arith) c.request-item.is in
    let refused = one_refused g.N.Naming.cells.config None requests k c.request-item.result c.in_err-ask.field-0.0 (all_taken requests) at c.in_err-ask.ensures.refused in
    search rules
