-- The proxy refused to finish the record.
use Rattle.std.proofs.Common.{inr}
use Rattle.uses.proofs.committing.finish.Goals as goal

pub returns-clause-refused : goal.returns-clause-refused
returns-clause-refused g c = λ batch holds. inr (inr (c.args.ready, c.row-row.ensures.kept, holds, (c.lock.result, c.lock.ensures.kept, c.lock.ensures.number, c.in-Err.ensures.refused)))
