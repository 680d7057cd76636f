use Rattle.model.proofs.Worlds.InStep.{new_in_step, moved_in_step}
use Rattle.model.proofs.Worlds.Offers.{refused_unchanged}
use Rattle.model.proofs.laws.worlds.parts_in_step_law.Goals as goal

pub returns : goal.returns
returns c = record { refused = refused_unchanged; made = new_in_step; moved = moved_in_step }
