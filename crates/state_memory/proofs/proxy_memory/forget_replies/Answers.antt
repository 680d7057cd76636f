-- A first element at or below the version is not above it, and if the first one is above it, all are.
use Rattle.std.proofs.Common.{◌∙◌, sym, ap, subst, arith}
use Rattle.state_memory.specs.Kept.{replies_above}
use Rattle.state_memory.specs.Order.{RepliesIncrease}
use Rattle.state_memory.proofs.KeptLaws.{reply_dropped, replys_kept}
use Rattle.state_memory.proofs.proxy_memory.forget_replies.Goals as goal

pub loop-replies-preserved-in-loop-replies : goal.loop-replies-preserved-in-loop-replies
loop-replies-preserved-in-loop-replies c =
    let dropped = reply_dropped c.args.version c.loop-replies.replies.items c.loop-replies.invariant.order (sym c.is_first_reply_up_to.ensures ∙ c.loop-replies-test.true) in
    record {
      order = subst RepliesIncrease (sym c.pop_front.ensures.rest) dropped.0;
      same = ap (replies_above c.args.version) c.pop_front.ensures.rest ∙ dropped.1 ∙ c.loop-replies.invariant.same;
      room = λ had. omega (arith, c.loop-replies.invariant.room had, c.pop_front.ensures.len, c.pop_front.ensures.capacity);
    }

pub returns-clause-items : goal.returns-clause-items
returns-clause-items c =
    sym (replys_kept c.args.version c.loop-replies.replies.items c.loop-replies.invariant.order (sym c.is_first_reply_up_to.ensures ∙ c.loop-replies-test.false))
    ∙ c.loop-replies.invariant.same
