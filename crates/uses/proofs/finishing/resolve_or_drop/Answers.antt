-- A resolver refused the record.
use Rattle.std.proofs.Common.{inl, inr}
use Rattle.uses.proofs.finishing.resolve_or_drop.Goals as goal

pub returns-in-Err-clause-refused : goal.returns-in-Err-clause-refused
returns-in-Err-clause-refused g c = λ batch holds. inr (inl (c.args.begun, g.A.Asking.takes c.args.asking.now, c.row-row.ensures.kept, holds, c.in-Err.ensures.refused))
