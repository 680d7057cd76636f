-- One row that does not fit.
use Rattle.std.proofs.Common.{sym, arith, rules}
use Rattle.model.specs.Finishing.{row_from, row_fits}
use Rattle.proxy_state.proofs.BelowLaws.{one_fails}
use Rattle.proxy_state.proofs.disagreements.rows_fit.Goals as goal

pub returns-then-not-row_fits : goal.returns-then-not-row_fits
returns-then-not-row_fits c =
    sym (one_fails (λ r. row_fits c.args.version c.args.count r (row_from c.args.replies.now c.args.place r)) c.args.resolvers c.loop-resolver.resolver (omega arith) (search rules))
