use Rattle.mutation.proofs.LimitLaws.{transaction_fault-head}
use Rattle.mutation.proofs.laws.first_fault_law.Goals as goal

pub returns : goal.returns
returns c = transaction_fault-head
