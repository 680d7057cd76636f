use Rattle.model.proofs.Agreement.AgreeingSources.{outcomes_after_alike, finished_after_alike, told_row_of_one, unseen_of_one}
use Rattle.model.proofs.laws.agreement.agreeing_sources_finish_law.Goals as goal

pub returns : goal.returns
returns c = record { outcomes = outcomes_after_alike; finished = finished_after_alike; row = told_row_of_one; rows = unseen_of_one }
