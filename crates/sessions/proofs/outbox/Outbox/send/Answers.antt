use Rattle.sessions.proofs.OutboxLemmas.{send_cut, send_done, send_nothing, send_stuck}
use Rattle.sessions.proofs.outbox.Outbox.send.Goals as goal

pub returns-then-self-clause-sent : goal.returns-then-self-clause-sent
returns-then-self-clause-sent g c = λ beginning printed sent. send_nothing c.args.text.now c.if-self.true sent

pub returns-in-Err-clause-sent : goal.returns-in-Err-clause-sent
returns-in-Err-clause-sent g c = λ beginning printed sent.
    send_stuck c.args.text.now c.if-self.false (rw c.as_slice.ensures.value at c.in-Err.ensures.err) c.in-Err.ensures.failed sent

pub returns-in-Err-write_all-clause-sent : goal.returns-in-Err-write_all-clause-sent
returns-in-Err-write_all-clause-sent g c = λ beginning printed sent.
    send_cut c.if-self.false (rw c.as_slice.ensures.value at c.in-Ok.ensures.ok) c.in-Ok.ensures.unfailed c.in-Err-write_all.ensures.err c.in-Err-write_all.ensures.failed sent

pub returns-clause-sent : goal.returns-clause-sent
returns-clause-sent g c = λ beginning printed sent.
    send_done c.if-self.false c.clear.ensures.items (rw c.as_slice.ensures.value at c.in-Ok.ensures.ok) c.in-Ok.ensures.unfailed c.in-Ok-write_all.ensures.ok c.in-Ok-write_all.ensures.unfailed sent
