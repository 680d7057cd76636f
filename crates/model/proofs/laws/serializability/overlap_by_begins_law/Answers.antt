use Rattle.system_keys.proofs.KeyLaws.{overlap_iff}
use Rattle.model.proofs.laws.serializability.overlap_by_begins_law.Goals as goal

pub returns : goal.returns
returns c = overlap_iff
