use Rattle.model.proofs.Worlds.Runs.{answers_append, world_after_append}
use Rattle.model.proofs.laws.worlds.events_append_law.Goals as goal

pub returns : goal.returns
returns c = record { told = answers_append; world = world_after_append }
