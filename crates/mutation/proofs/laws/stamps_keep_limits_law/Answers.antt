use Rattle.mutation.proofs.LimitLaws.{limits_kept}
use Rattle.mutation.proofs.laws.stamps_keep_limits_law.Goals as goal

pub returns : goal.returns
returns c = limits_kept
