-- What is left is in order, and of it the same is above the version.
use Rattle.std.proofs.Common.{◌≡◌, ◌<◌, length}
use Rattle.std.specs.VecDeque.{deque_len, deque_capacity}
use Rattle.state_memory.specs.Kept.{replies_above}
use Rattle.state_memory.specs.Order.{RepliesIncrease}
use Rattle.state_memory.proofs.proxy_memory.forget_replies.Given as goal

abbrev pub invariant-loop-replies : goal.invariant-loop-replies
invariant-loop-replies l =
    record {
      order : RepliesIncrease l.replies.items;
      same : replies_above l.version l.replies.items ≡ replies_above l.version l.fn.replies.items;
      room : deque_len l.fn.replies < deque_capacity l.fn.replies → deque_len l.replies < deque_capacity l.replies;
    }

abbrev pub decreases-loop-replies : goal.decreases-loop-replies
decreases-loop-replies l = length l.replies.items
