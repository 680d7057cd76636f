use Rattle.model.proofs.Verdicts.ByPairs.{verdict_parts, too_old_iff}
use Rattle.model.proofs.Verdicts.ByPlaces.{verdict_places}
use Rattle.model.proofs.laws.verdicts.conflict_by_pairs_law.Goals as goal

pub returns-clause-parts : goal.returns-clause-parts
returns-clause-parts c = verdict_parts

pub returns-clause-places : goal.returns-clause-places
returns-clause-places c = verdict_places

pub returns-clause-too_old : goal.returns-clause-too_old
returns-clause-too_old c = too_old_iff
