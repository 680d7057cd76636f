-- There was an offer to append.
use Rattle.std.proofs.Common.{arith}
use Rattle.turn_world.proofs.EventsLeft.{on_err, offer_due}
use Rattle.turn_world.proofs.offers_left.push_offers_of_row.Goals as goal

pub returns-in_err-push-clause-err : goal.returns-in_err-push-clause-err
returns-in_err-push-clause-err c =
    on_err c.from_residual.result
    (offer_due c.args.judged_counts.now c.args.row c.loop-resolver.resolver (omega (arith, c.loop-resolver-test.true)) (omega (arith, c.if-row-judged_counts.false)))
