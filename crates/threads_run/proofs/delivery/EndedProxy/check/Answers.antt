-- Each of its ends is ended.
use Rattle.std.proofs.Common.{subst}
use Rattle.std.specs.Prelude.{All, IfErr}
use Rattle.inboxes.specs.Ends.{ProxyView}
use Rattle.threads_lines.specs.Faults.{FailsCheckOf}
use Rattle.threads_run.specs.Delivered.{IsDelivered}
use Rattle.threads_run.proofs.DeliveryLemmas.{all_ended}
use Rattle.threads_run.proofs.delivery.EndedProxy.check.Goals as goal

pub check_senders-requires-clause-ended : goal.check_senders-requires-clause-ended
check_senders-requires-clause-ended g c =
    all_ended c.self.inside.proxy g.N.Naming.cells.config.resolvers c.self.inside.ends.items c.self.invariant.senders c.self.invariant.ended

pub returns-clause-err : goal.returns-clause-err
returns-clause-err g c =
    subst (λ (side : ProxyView). IfErr c.check_senders.result (FailsCheckOf (All (IsDelivered c.args.messages c.args.workers.now.items) side.ends))) c.self.view_is c.check_senders.ensures.err
