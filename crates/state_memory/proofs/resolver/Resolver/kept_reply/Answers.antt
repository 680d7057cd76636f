-- The replies to each proxy are in the order of their versions.
use Rattle.std.proofs.Common.{ap}
use Rattle.state_memory.specs.Kept.{all_kept}
use Rattle.state_memory.proofs.JudgedRequests.{kept_replies_increase}
use Rattle.state_memory.proofs.KeptLaws.{kept_there}
use Rattle.state_memory.proofs.resolver.Resolver.kept_reply.Goals as goal

pub reply_at-requires : goal.reply_at-requires
reply_at-requires c =
    kept_replies_increase c.self.inside.version c.self.inside.rows.items _ c.deref.result.now c.self.invariant.1 (ap all_kept c.deref.ensures.value) c.args.proxy _ (kept_there c.deref.result.now c.args.proxy c.in-Some.one.now c.in-Some.ensures.lookup.3.0 c.in-Some.ensures.lookup.1)
