use Rattle.mutation.proofs.LimitLaws.{limits_from_faultless, faultless_from_limits, limits_when_stamped, faultless_when_stamped}
use Rattle.mutation.proofs.laws.no_fault_within_limits_law.Goals as goal

pub returns-clause-given : goal.returns-clause-given
returns-clause-given c = λ t. (limits_from_faultless t, faultless_from_limits t)

pub returns-clause-stamped : goal.returns-clause-stamped
returns-clause-stamped c = λ t. (limits_when_stamped t, faultless_when_stamped t)
