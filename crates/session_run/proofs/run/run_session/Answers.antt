use Rattle.std.proofs.Common.{ap, sym}
use Rattle.session_run.proofs.RunLemmas.{runs, serial_if_begun}
use Rattle.session_run.proofs.run.run_session.Goals as goal

pub returns-clause-session : goal.returns-clause-session
returns-clause-session g c =
    let session = c.answer_lines-status.ensures.session in
    let source = c.source-1.given.1 (sym (ap (λ names. names.0) session.leads.same)) in
    let sink = c.sink-1.given.1 (sym (ap (λ names. names.1) session.leads.same)) in
    let serial = serial_if_begun (λ cluster. cluster.now) _ _ c.cluster.ensures.cluster c.cluster.ensures.serial in
    rw (source, sink) (runs _ _ _ _ (rw c.new-session.ensures at session) serial)

pub returns-clause-failures : goal.returns-clause-failures
returns-clause-failures g c =
    let session = c.answer_lines-status.ensures.session in
    let source = c.source-1.given.1 (sym (ap (λ names. names.0) session.leads.same)) in
    let sink = c.sink-1.given.1 (sym (ap (λ names. names.1) session.leads.same)) in
    rw (source, sink) c.answer_lines-status.ensures.failures
