-- The history that a device in memory keeps, and what it says of a session.
use Rattle.std.specs.Prelude.{◌≡◌, ◌≢◌, Bool, ℕ, List, [], ◌∷◌, ◌++◌, codes, true}
use Rattle.sessions.specs.Answers.{Answers, Rules}
use Rattle.sessions.specs.Events.{End, Event, Read, Wrote, bytes_written, lines_read}
use Rattle.sessions.specs.Lines.{lines_of}
use Rattle.sessions.specs.Sessions.{IsAnsweredAtReads}
use Rattle.sessions.specs.declared.status.SessionStatus.{SessionStatus}
use Rattle.sessions.specs.declared.status.SessionStatus.TheVariants.{Done, WriteFailed}
use Rattle.tests_program.specs.declared.memory_device.Call.{Call}
use Rattle.tests_program.specs.declared.memory_device.Call.TheVariants as calls

abbrev pub event_of : Call → Event
event_of (calls.Read bytes) = Read bytes.items
event_of calls.Ended = End
event_of (calls.Wrote bytes) = Wrote bytes.items

-- the oldest call stands first, and the newest event
abbrev pub history_of : List Call → List Event
history_of [] = []
history_of (call ∷ others) = history_of others ++ event_of call ∷ []

-- whether a read and whether a write has failed
abbrev pub ReadHasFailed : Bool × Bool → Bool × Bool → Type 0
ReadHasFailed old new = (new.0 ≡ true) × (new.1 ≡ old.1)

abbrev pub WriteHasFailed : Bool × Bool → Bool × Bool → Type 0
WriteHasFailed old new = (new.0 ≡ old.0) × (new.1 ≡ true)

-- A session over an input, by its whole history. Wherever it read, the lines that were whole by then had been
-- answered, and no more was written; after each call what was written began answers to the lines that had come.
-- At the end the lines that came are answered unless a write failed, and all lines of the input if it is done.
pub record AnswersInHistory {S : Type 0} (rules : Rules S) (start : S) (input : List ℕ) (history : List Event)
    (status : SessionStatus) : Type 0 where
  pub end : S
  pub at_reads : IsAnsweredAtReads rules start history
  pub ahead : (after before : List Event) → history ≡ after ++ before
      → (unwritten : List ℕ) × (later : S)
      × Answers rules start (lines_read before) (bytes_written before ++ unwritten) later
  pub at_end : status ≢ WriteFailed → Answers rules start (lines_read history) (bytes_written history) end
  pub done : status ≡ Done → Answers rules start (lines_of input) (bytes_written history) end

-- each line is answered with `ok`
abbrev pub ok_rules : Rules (Unit {0})
ok_rules =
    record {
      answer = λ state line. codes "ok" ++ 10 ∷ [];
      after = λ state line. state;
    }
