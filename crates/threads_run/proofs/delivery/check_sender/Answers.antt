-- The worker is that of the sender's resolver.
use Rattle.std.proofs.Common.{◌≡◌, ◌∙◌, ◌≤◌, length, refl, sym, true, false, arith}
use Rattle.threads_run.proofs.DeliveryLemmas.{delivered_so, end_last, no_worker, not_delivered_so, same_workers, worker_of}
use Rattle.threads_run.proofs.delivery.check_sender.Goals as goal

pub returns-then-gone-clause-err : goal.returns-then-gone-clause-err
returns-then-gone-clause-err g c =
    (refl, λ all. let other : true ≡ false = sym c.if-gone.true ∙ c.gone.ensures ∙ all.accepted in cc)

pub returns-then-resolver-len-clause-err : goal.returns-then-resolver-len-clause-err
returns-then-resolver-len-clause-err g c =
    let workers = c.args.workers.now.items in
    let past : length workers ≤ c.args.sender.resolver = omega (arith, c.if-resolver-len.true, c.resolver-resolver.ensures, c.len.ensures) in
    (refl, no_worker c.args.messages workers c.args.sender past)

pub check_worker-requires-clause-ended : goal.check_worker-requires-clause-ended
check_worker-requires-clause-ended g c = end_last c.args.sender c.requires.ended (sym c.gone.ensures ∙ c.if-gone.false)

pub returns-clause-same : goal.returns-clause-same
returns-clause-same g c =
    same_workers c.args.workers.now.items c.resolver-resolver.result c.index_mut.result.now c.check_worker.new.worker c.index_mut.ensures.value c.check_worker.ensures.same

pub returns-clause-checked : goal.returns-clause-checked
returns-clause-checked g c =
    let workers = c.args.workers.now.items in
    let k = c.resolver-resolver.result in
    let worker = c.index_mut.result.now in
    let at = worker_of workers k c.args.sender.resolver worker c.resolver-resolver.ensures (omega (arith, c.if-resolver-len.false, c.len.ensures)) c.index_mut.ensures.value in
    delivered_so c.check_worker.result c.args.messages workers c.args.sender worker at (sym c.gone.ensures ∙ c.if-gone.false) c.check_worker.ensures.checked

pub returns-clause-err : goal.returns-clause-err
returns-clause-err g c =
    let workers = c.args.workers.now.items in
    let k = c.resolver-resolver.result in
    let worker = c.index_mut.result.now in
    let at = worker_of workers k c.args.sender.resolver worker c.resolver-resolver.ensures (omega (arith, c.if-resolver-len.false, c.len.ensures)) c.index_mut.ensures.value in
    not_delivered_so c.check_worker.result c.args.messages workers c.args.sender worker at c.check_worker.ensures.err
