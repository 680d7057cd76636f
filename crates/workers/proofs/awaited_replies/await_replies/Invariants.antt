-- The requests so far have their replies, and there is room for those to come.
use Rattle.std.proofs.Common.{◌≤◌, length, take}
use Rattle.std.specs.Vec.{vec_capacity}
use Rattle.locked_resolvers.specs.Asking.{AreRepliesInOrder}
use Rattle.workers.proofs.awaited_replies.await_replies.Given as goal

abbrev pub invariant-loop-place : goal.invariant-loop-place
invariant-loop-place g l = record {
  replied : AreRepliesInOrder (take l.place l.requests) l.replies.items;
  room : length l.requests ≤ vec_capacity l.replies;
}
