use Rattle.std.proofs.Common.{◌≡◌}
use Rattle.sessions.proofs.SessionLemmas.{Standing}
use Rattle.sessions.proofs.run.answer_until_end.Given as goal

-- before each read all whole lines are answered
abbrev pub invariant-loop-call : goal.invariant-loop-call
invariant-loop-call g l =
    let state = g.A.Answering.state in
    let view = g.T.Device.view in
    record {
      stands : Standing g.A.Answering.rules (state l.fn.answering) (state l.answering) (view l.fn.device) (view l.device) l.pending l._call;
      unfailed : g.T.Device.failures l.device ≡ g.T.Device.failures l.fn.device;
    }
