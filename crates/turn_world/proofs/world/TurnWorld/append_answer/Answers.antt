-- The event is answered, or refused.
use Rattle.std.proofs.Common.{◌≡◌, rules, ◌∙◌, sym, false, is_none}
use Rattle.std.specs.Prelude.{Ok, Err}
use Rattle.turn_world.specs.Events.{event_of, fault_of}
use Rattle.turn_world.proofs.EventRuns.{answered_one, refused_one}
use Rattle.turn_world.proofs.world.TurnWorld.append_answer.Goals as goal

pub returns-in-Ok-clause-ok : goal.returns-in-Ok-clause-ok
returns-in-Ok-clause-ok c = (Ok c.in-Ok.answer, search rules, answered_one c.args.self.now c.step.new.self (event_of c.args.event.now) c.in-Ok.answer c.in-Ok.ensures.answer c.in-Ok.ensures.ok)

pub returns-else-is_out_of_memory-clause-ok : goal.returns-else-is_out_of_memory-clause-ok
returns-else-is_out_of_memory-clause-ok c =
    let other : false ≡ is_none (fault_of c.in-Err.refusal) = sym c.if-is_out_of_memory.false ∙ c.is_out_of_memory.ensures in
    (Err c.in-Err.refusal, search rules, refused_one c.args.self.now c.step.new.self (event_of c.args.event.now) c.in-Err.refusal other c.in-Err.ensures.answer c.in-Err.ensures.err)
