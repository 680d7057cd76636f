-- No other refusal is out of memory.
use Rattle.turn_world.proofs.EventRuns.{is_refusal}
use Rattle.turn_world.proofs.refusal.Refusal.is_out_of_memory.Goals as goal

pub returns-in_default : goal.returns-in_default
returns-in_default c = is_refusal c.args.self.now c.in_default.not-OutOfMemory
