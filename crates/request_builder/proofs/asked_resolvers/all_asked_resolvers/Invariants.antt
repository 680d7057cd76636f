-- The transactions so far are asked about.
use Rattle.std.proofs.Common.{◌≡◌, length, take}
use Rattle.request_builder.specs.AskedResolvers.{AreAllAskedResolvers}
use Rattle.request_builder.proofs.asked_resolvers.all_asked_resolvers.Given as goal

abbrev pub invariant-loop-transaction : goal.invariant-loop-transaction
invariant-loop-transaction l = record {
  as_many : length l.askings.items ≡ l.transaction-index;
  asked : AreAllAskedResolvers l.oldest l.owners (take l.transaction-index l.batch) l.askings.items;
}
