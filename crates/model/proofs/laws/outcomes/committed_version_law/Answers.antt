use Rattle.model.proofs.Serializability.ByKeys.{committed_is_told, told_numbers_are_its_own}
use Rattle.model.proofs.laws.outcomes.committed_version_law.Goals as goal

pub returns : goal.returns
returns c = record { told = committed_is_told; numbers = told_numbers_are_its_own }
