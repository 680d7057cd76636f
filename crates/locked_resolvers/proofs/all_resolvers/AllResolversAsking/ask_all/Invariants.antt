-- The requests so far have their replies, and there is room for those to come.
use Rattle.std.proofs.Common.{◌≤◌, length, take}
use Rattle.std.specs.Vec.{vec_capacity}
use Rattle.locked_resolvers.specs.Asking.{AreRepliesInOrder}
use Rattle.locked_resolvers.proofs.all_resolvers.AllResolversAsking.ask_all.Given as goal

abbrev pub invariant-loop-request : goal.invariant-loop-request
invariant-loop-request g l =
    record {
      replied : AreRepliesInOrder (take l.request-index l.requests) l.replies.items;
      room : length l.requests ≤ vec_capacity l.replies;
    }
