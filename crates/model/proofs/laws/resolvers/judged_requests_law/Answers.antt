use Rattle.model.proofs.Resolvers.Judged.{others_leave, judged_adds, others_change_nothing}
use Rattle.model.proofs.laws.resolvers.judged_requests_law.Goals as goal

pub returns : goal.returns
returns c = record { kept = others_leave; more = judged_adds; others = others_change_nothing }
