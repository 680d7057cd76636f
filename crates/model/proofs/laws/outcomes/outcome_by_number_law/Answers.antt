use Rattle.model.proofs.Metadata.Applied.{the_lock_refuses_the_plain}
use Rattle.model.proofs.Agreement.Sources.{outcomes_after_at, outcomes_at}
use Rattle.model.proofs.laws.outcomes.outcome_by_number_law.Goals as goal

pub returns : goal.returns
returns c = record {
  journal = outcomes_after_at;
  records = outcomes_at;
  lock = the_lock_refuses_the_plain;
}
