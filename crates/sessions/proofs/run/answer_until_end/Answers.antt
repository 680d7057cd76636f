use Rattle.std.proofs.Common.{take, ◌∙◌, arith}
use Rattle.sessions.specs.Events.{End, Read}
use Rattle.sessions.proofs.EventLemmas.{takes_some}
use Rattle.sessions.proofs.SessionLemmas.{stands_on, session_fails, session_done}
use Rattle.sessions.proofs.run.answer_until_end.Goals as goal
use Rattle.sessions.proofs.run.answer_until_end.Goals.{in-Ok-answer_open_line, in-Err-answer_open_line}

pub returns-then-count-eq0-clause-session : goal.returns-then-count-eq0-clause-session
returns-then-count-eq0-clause-session g c =
    let came = c.in-Ok.ensures.ended c.if-count-eq0.true (omega arith) in
    elim c.match-answer_open_line.branch [
      | in-Ok-answer_open_line w ↦ rw w.result-is (session_done _ _ _ _ _ _ _ _ c.loop-call.pending c.answer_open_line.new.pending c.loop-call._call c.loop-call.invariant.stands came (rw w.in-Ok-answer_open_line.is at c.answer_open_line.ensures.feeds))
      | in-Err-answer_open_line w ↦ rw w.result-is (session_fails _ _ _ _ _ _ _ _ c.loop-call.pending c.answer_open_line.new.pending c.loop-call._call End c.answer_open_line.result tt c.loop-call.invariant.stands came c.answer_open_line.ensures.feeds)
    ]

pub returns-in-Err-answer_bytes-clause-session : goal.returns-in-Err-answer_bytes-clause-session
returns-in-Err-answer_bytes-clause-session g c =
    let came = c.in-Ok.ensures.came (omega arith) in
    session_fails _ _ _ _ _ _ _ _ c.loop-call.pending c.answer_bytes.new.pending c.loop-call._call (Read (take c.in-Ok.count c.read.new.buffer)) c.answer_bytes.result tt c.loop-call.invariant.stands came c.answer_bytes.ensures.feeds

pub loop-call-preserved : goal.loop-call-preserved
loop-call-preserved g c =
    let some = takes_some c.in-Ok.count c.read.new.buffer (omega arith) c.in-Ok.ensures.bound.0 in
    let came = c.in-Ok.ensures.came (omega arith) in
    record {
      stands = stands_on _ _ _ _ _ _ _ _ c.loop-call.pending c.answer_bytes.new.pending c.loop-call._call (take c.in-Ok.count c.read.new.buffer) some c.loop-call.invariant.stands came (rw c.in-Ok-answer_bytes.is at c.answer_bytes.ensures.feeds);
      unfailed = c.in-Ok-answer_bytes.ensures.unfailed ∙ c.in-Ok.ensures.unfailed ∙ c.loop-call.invariant.unfailed;
    }
