-- What the history of a device in memory says of a session.
use Rattle.std.proofs.Common.{◌≡◌, ℕ, List, [], ◌++◌, Some, sym, ap, ◌∙◌, append-nil, subst}
use Rattle.sessions.proofs.Corollaries.{session_at_reads, whole_session}
use Rattle.sessions.proofs.LawLemmas.{answered_at_end, never_writes_ahead}
use Rattle.sessions.specs.Answers.{Answers, Rules}
use Rattle.sessions.specs.Events.{Event, View, bytes_written, with_events}
use Rattle.sessions.specs.Lines.{lines_of}
use Rattle.sessions.specs.Sessions.{IsSession, NeverAhead}
use Rattle.sessions.specs.declared.status.SessionStatus.{SessionStatus}
use Rattle.tests_program.specs.Rehearsals.{AnswersInHistory, history_of}
use Rattle.tests_program.specs.declared.memory_device.Call.{Call}

-- what the device shows
abbrev pub shown : List ℕ → List Call → View (Unit {0})
shown rest calls =
    record { name = tt; remaining = Some rest; written = Some (bytes_written (history_of calls)); history = Some (history_of calls) }

-- a history that began with nothing is the events
events_are : (old new events : List Event) → Some new ≡ with_events (Some old) events → old ≡ [] → new ≡ events
events_are old new events grew none = let same : new ≡ events ++ old = cc in same ∙ ap (λ l. events ++ l) none ∙ append-nil events

pub rehearsed : {S : Type 0} (rules : Rules S) (start now : S) (input rest : List ℕ) (old calls : List Call) (status : SessionStatus) → old ≡ [] → IsSession rules start now (shown input old) (shown rest calls) status
    → AnswersInHistory rules start input (history_of calls) status
rehearsed rules start now input rest old calls status none session =
    let fresh = ap history_of none in
    let same = events_are (history_of old) (history_of calls) session.events session.leads.history fresh in
    let known = ap (λ (history : List Event). Some history) fresh in
    record {
      end = now;
      at_reads = session_at_reads rules start now (shown input old) (shown rest calls) status session known;
      ahead = λ after before split. never_writes_ahead rules start after before (subst (NeverAhead rules start) (sym same ∙ split) session.never_ahead);
      at_end = λ other. answered_at_end rules start now (shown input old) (shown rest calls) status session other known;
      done = λ ends.
          let (text, answers, written) = whole_session rules start now (shown input old) (shown rest calls) status session ends in
          subst (λ l. Answers rules start (lines_of input) l now) (sym (written ∙ ap (λ l. bytes_written l ++ text) fresh)) answers;
    }
