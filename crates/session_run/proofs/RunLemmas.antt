-- A session over a source and a sink.
use Rattle.std.proofs.Common.{◌≡◌, ◌+◌, ◌<◌, ◌++◌, ◌-◌, ◌^◌, ℕ, IfSome, List, None, Option, Some, subst, arith, ◌∙◌}
use Rattle.std.specs.Io.KnownBytes.{Appends, Consumes}
use Rattle.std.specs.Prelude.{MatchOption}
use Rattle.model.specs.Serial.{IsSerial}
use Rattle.model.specs.Turns.{TurnCluster}
use Rattle.scripts.specs.Devices.{IsIncremented}
use Rattle.sessions.proofs.Corollaries.{in_turn_at, whole_run}
use Rattle.sessions.proofs.LawLemmas.{never_writes_ahead, status_tells}
use Rattle.sessions.specs.Events.{Event, View, bytes_came, bytes_written}
use Rattle.sessions.specs.Laws.{ReadFailsMore, WriteFailsMore}
use Rattle.sessions.specs.Sessions.{AnswersBeforeReads, AnswersWhole, IsAnsweredAtReads, IsSession, LeavesFailures, NeverAhead}
use Rattle.sessions.specs.declared.status.SessionStatus.{SessionStatus}
use Rattle.sessions.specs.declared.status.SessionStatus.TheVariants.{Done, ReadFailed, WriteFailed, Unended}
use Rattle.session_run.specs.Runs.{AnswersInput, ReadFails, RunsLeaveSerial, RunsNeverWriteAhead, RunsSession, StatusTellsCounts, WriteFails}
use Rattle.session_run.specs.Session.{State, session_rules}

abbrev pub IsSerialIfBegun : State → Type 0
IsSerialIfBegun state = IfSome state (λ (cluster : TurnCluster). IsSerial cluster.config cluster.world.history)

-- what the cluster says of itself
pub serial_if_begun : {R : Type 0} (now : R → TurnCluster) (state : State) (lent : Option R) → MatchOption lent (state ≡ None) (λ cluster. state ≡ Some (now cluster))
    → IfSome lent (λ cluster. IsSerial (now cluster).config (now cluster).world.history) → IsSerialIfBegun state
serial_if_begun now state None is serial = let e : state ≡ None = is in rw e tt
serial_if_begun now state (Some cluster) is serial = let e : state ≡ Some (now cluster) = is in rw e serial

pub runs : {N : Type 0} (old new : View N) (now : State) (status : SessionStatus) → IsSession session_rules None now old new status → IsSerialIfBegun now → RunsSession old.remaining new.remaining old.written new.written status
runs old new now status session serial =
    record {
      events = session.events;
      now = now;
      read = session.leads.remaining;
      end = session.leads.end;
      written = session.leads.written;
      in_turn = session.in_turn;
      never_ahead = session.never_ahead;
      ends = session.ends;
      serial = serial;
    }

pub answers : {N : Type 0} (old new : View N) (now : State) (status : SessionStatus) → AnswersWhole session_rules None now old new status → AnswersInput old.remaining old.written new.written status
answers old new now status whole = (now, whole)

-- ---- what follows of a run

pub runs_in_turn : (input rest old new : Option (List ℕ)) (status : SessionStatus) → RunsSession input rest old new status
    → (events : List Event) × Consumes input rest (bytes_came events) × Appends old new (bytes_written events) × IsAnsweredAtReads session_rules None events
runs_in_turn input rest old new status run = (run.events, run.read, run.written, λ after before event is split. in_turn_at session_rules None after before event is (subst (AnswersBeforeReads session_rules None) split run.in_turn))

pub runs_answer : (input rest old new : Option (List ℕ)) (status : SessionStatus) → RunsSession input rest old new status → AnswersInput input old new status
runs_answer input rest old new status run = (run.now, whole_run session_rules None run.now input rest old new status run.events run.read run.end run.written run.ends)

pub runs_behind : RunsNeverWriteAhead
runs_behind input rest old new status run =
    (run.events, run.read, run.written, λ after before split. never_writes_ahead session_rules None after before (subst (NeverAhead session_rules None) split run.never_ahead))

pub runs_serial : RunsLeaveSerial
runs_serial input rest old new status run = (run.events, run.now, run.ends, run.serial)

-- ---- counts of failed calls

one_more : (old new : ℕ) → IsIncremented old new → old < 2 ^ 64 - 1 → new ≡ old + 1
one_more old new more below = omega (arith, more, below)

fails_more : (old new : ℕ × ℕ) (status : SessionStatus) → old.0 < 2 ^ 64 - 1 → old.1 < 2 ^ 64 - 1 → LeavesFailures ReadFails WriteFails old new status → LeavesFailures ReadFailsMore WriteFailsMore old new status
fails_more old new Done reads writes leaves = leaves
fails_more old new ReadFailed reads writes leaves = (one_more old.0 new.0 leaves.0 reads, leaves.1)
fails_more old new WriteFailed reads writes leaves = (leaves.0, one_more old.1 new.1 leaves.1 writes)
fails_more old new Unended reads writes leaves = leaves

pub status_tells_counts : StatusTellsCounts
status_tells_counts old new status leaves reads writes = status_tells old new status (fails_more old new status reads writes leaves)
