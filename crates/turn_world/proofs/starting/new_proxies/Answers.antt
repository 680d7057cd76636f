-- One more.
use Rattle.std.proofs.Common.{◌+◌, arith}
use Rattle.turn_world.proofs.NewParts.{one_more_proxy}
use Rattle.turn_world.proofs.starting.new_proxies.Goals as goal

pub loop-number-preserved : goal.loop-number-preserved
loop-number-preserved c =
    one_more_proxy c.args.config.now c.loop-number.number (c.loop-number.number + 1) c.loop-number.made.items c.push.new.self.items c.in_ok-new.field-0 (omega arith) c.in_ok-push.ensures.items
    (record { number = c.in_ok-new.ensures.number; config_is = c.in_ok-new.ensures.config; holds = c.in_ok-new.ensures.moves; last_begun = c.in_ok-new.ensures.begun.0; begun = c.in_ok-new.ensures.begun.1; version = c.in_ok-new.ensures.finished.0; journal = c.in_ok-new.ensures.finished.1 }) c.loop-number.invariant
