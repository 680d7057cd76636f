-- One more.
use Rattle.std.proofs.Common.{◌+◌, ◌∙◌, arith}
use Rattle.turn_world.proofs.NewParts.{one_more_resolver}
use Rattle.turn_world.proofs.starting.new_resolvers.Goals as goal

pub loop-number-preserved : goal.loop-number-preserved
loop-number-preserved c =
    one_more_resolver c.args.config.now c.loop-number.number (c.loop-number.number + 1) c.loop-number.made.items c.push.new.self.items c.in_ok-new.field-0 (omega arith) c.in_ok-push.ensures.items
    (record { number = c.in_ok-new.ensures.number; proxies = c.in_ok-new.ensures.proxies ∙ c.proxies.ensures.value; window = c.in_ok-new.ensures.window ∙ c.window.ensures.value; stands = c.in_ok-new.ensures.stands }) c.loop-number.invariant
