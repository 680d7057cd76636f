-- One resolver that has a row.
use Rattle.std.proofs.Common.{sym, not, is_some, arith, rules}
use Rattle.model.specs.Finishing.{row_from}
use Rattle.proxy_state.proofs.BelowLaws.{one_fails}
use Rattle.proxy_state.proofs.disagreements.no_rows_at.Goals as goal

pub returns-then-is_some : goal.returns-then-is_some
returns-then-is_some c =
    sym (one_fails (λ r. not (is_some (row_from c.args.replies.now c.args.place r))) c.args.resolvers c.loop-resolver.resolver (omega arith) (search rules))
