-- The key is longer than its prefix and an id.
use Rattle.std.proofs.Common.{arith}
use Rattle.metadata.proofs.PrivateCopies.{past_the_id}
use Rattle.metadata.proofs.private_copies.named_server.Goals as goal

pub slice_bounds-id-end : goal.slice_bounds-id-end
slice_bounds-id-end c = let past = past_the_id c.args.key.now c.requires in omega (arith, past)
