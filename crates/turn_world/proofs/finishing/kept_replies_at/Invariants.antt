-- The places of the resolvers so far are as they keep replies, and the others are empty.
use Rattle.std.proofs.Common.{◌≡◌, ◌-◌, ◌++◌, None, length, take, replicate}
use Rattle.turn_world.specs.Parts.{kept_replies_at}
use Rattle.turn_world.proofs.finishing.kept_replies_at.Given as goal

abbrev pub invariant-loop-resolver : goal.invariant-loop-resolver
invariant-loop-resolver l = l.replies ≡ kept_replies_at (take l.resolver-index l.resolvers) l.proxy l.version ++ replicate (length l.resolvers - l.resolver-index) None
