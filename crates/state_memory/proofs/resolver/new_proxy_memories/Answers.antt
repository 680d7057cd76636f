-- One more of which nothing is kept.
use Rattle.std.proofs.Common.{vec_len, arith}
use Rattle.state_memory.proofs.KeptLaws.{one_more_new}
use Rattle.state_memory.proofs.resolver.new_proxy_memories.Goals as goal

pub loop-alloc-preserved : goal.loop-alloc-preserved
loop-alloc-preserved c =
    record {
      new = one_more_new (vec_len c.loop-alloc.made) (vec_len c.push.new.self) c.loop-alloc.made.items c.push.new.self.items c.new.result (omega (arith, c.in_ok-push.ensures.len)) c.in_ok-push.ensures.items c.new.ensures c.loop-alloc.invariant.new;
      up_to = omega (arith, c.in_ok-push.ensures.len, c.len.ensures, c.loop-alloc-test.true);
    }
