-- The proxy refused to begin the record.
use Rattle.std.proofs.Common.{inl}
use Rattle.uses.proofs.committing.begin_record.Goals as goal

pub returns-clause-refused : goal.returns-clause-refused
returns-clause-refused g c = λ batch holds. inl (c.args.ticket, c.row-row.ensures.kept, holds, (c.lock.result, c.lock.ensures.kept, c.lock.ensures.number, c.in-Err.ensures.refused))
