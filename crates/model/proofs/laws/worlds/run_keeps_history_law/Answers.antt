use Rattle.model.specs.World.{initial_world, world_after}
use Rattle.model.proofs.Serializability.Histories.{history_is_serial}
use Rattle.model.proofs.Worlds.Histories.{happens_sound, run_sound}
use Rattle.model.proofs.laws.worlds.run_keeps_history_law.Goals as goal

pub returns : goal.returns
returns c = record {
  step = happens_sound;
  sound = run_sound;
  history = λ config events. (run_sound config events).sequencer.history;
  serial = λ config events limits. history_is_serial config (world_after config (initial_world config) events).history limits (run_sound config events).sequencer.history;
}
