use Rattle.share_judge.proofs.OneCount.{steps_have_one_count, a_write_makes_three_steps}
use Rattle.share_judge.proofs.laws.one_count_of_steps_law.Goals as goal

pub returns-clause-one_count : goal.returns-clause-one_count
returns-clause-one_count c = steps_have_one_count

pub returns-clause-scenario : goal.returns-clause-scenario
returns-clause-scenario c = a_write_makes_three_steps
