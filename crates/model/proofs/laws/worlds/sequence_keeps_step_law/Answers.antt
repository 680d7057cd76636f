use Rattle.model.proofs.Worlds.InStep.{sequence_is, may_begin, begun_in_step}
use Rattle.model.proofs.laws.worlds.sequence_keeps_step_law.Goals as goal

pub returns : goal.returns
returns c = record { given = sequence_is; may = may_begin; begun = begun_in_step }
