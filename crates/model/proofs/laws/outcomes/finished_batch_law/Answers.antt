use Rattle.model.proofs.Agreement.Holders.{finished_outcomes, finished_tags}
use Rattle.model.proofs.laws.outcomes.finished_batch_law.Goals as goal

pub returns : goal.returns
returns c = record { told = finished_outcomes; tagged = finished_tags }
