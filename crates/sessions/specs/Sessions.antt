-- What a session leaves.
use Rattle.std.specs.Prelude.{◌≡◌, ℕ, List, [], ◌∷◌, ◌++◌, ◌-◌, ◌^◌, IfSome, Option}
use Rattle.std.specs.Io.KnownBytes.{Appends}
use Rattle.sessions.specs.Answers.{Rules, Answers}
use Rattle.sessions.specs.Events.{Event, Read, End, Wrote, View, GoesOnBy, HasEnded}
use Rattle.sessions.specs.Events.{bytes_came, bytes_read, bytes_written, lines_read, reads_of}
use Rattle.sessions.specs.Lines.{closed, lines_of}
use Rattle.sessions.specs.declared.status.SessionStatus.{SessionStatus}
use Rattle.sessions.specs.declared.status.SessionStatus.TheVariants.{Done, ReadFailed}
use Rattle.sessions.specs.declared.status.SessionStatus.TheVariants.{WriteFailed, Unended}

-- exactly the answers to the whole lines read so far are written
abbrev pub HasAnswered : {S : Type 0} → Rules S → S → List Event → S → Type 0
HasAnswered rules start events now =
    Answers rules start (lines_read events) (bytes_written events) now

-- what is written is a beginning of the answers to the whole lines read so far
abbrev pub IsAnswering : {S : Type 0} → Rules S → S → List Event → Type 0
IsAnswering {S} rules start events = (unwritten : List ℕ) × (end : S)
    × Answers rules start (lines_read events) (bytes_written events ++ unwritten) end

-- whenever the session read, it had answered each line that was whole by then
abbrev pub AnswersBeforeReads : {S : Type 0} → Rules S → S → List Event → Type 0
AnswersBeforeReads rules start [] = Unit {0}
AnswersBeforeReads {S} rules start (Read bytes ∷ before) =
    ((now : S) × HasAnswered rules start before now) × AnswersBeforeReads rules start before
AnswersBeforeReads {S} rules start (End ∷ before) =
    ((now : S) × HasAnswered rules start before now) × AnswersBeforeReads rules start before
AnswersBeforeReads rules start (Wrote bytes ∷ before) = AnswersBeforeReads rules start before

-- it never wrote ahead: after each event, what was written began the answers to the lines so far
abbrev pub NeverAhead : {S : Type 0} → Rules S → S → List Event → Type 0
NeverAhead rules start [] = Unit {0}
NeverAhead rules start (event ∷ before) =
    IsAnswering rules start (event ∷ before) × NeverAhead rules start before

-- the last call failed, and no other; or none did
abbrev pub LeavesFailures : {F : Type 0} → (read_fails write_fails : F → F → Type 0) → F → F
    → SessionStatus → Type 0
LeavesFailures read_fails write_fails old new Done = new ≡ old
LeavesFailures read_fails write_fails old new ReadFailed = read_fails old new
LeavesFailures read_fails write_fails old new WriteFailed = write_fails old new
LeavesFailures read_fails write_fails old new Unended = new ≡ old

-- How it ended: all is answered. If a write failed, what is written begins the answers, and the state is still that
-- after the lines.
abbrev pub MatchesStatus : {S : Type 0} → Rules S → S → List Event → S → SessionStatus → Type 0
MatchesStatus rules start events now Done = HasEnded events
    × (bytes_read events ≡ closed (bytes_came events)) × HasAnswered rules start events now
MatchesStatus rules start events now ReadFailed = HasAnswered rules start events now
MatchesStatus rules start events now WriteFailed = (unwritten : List ℕ)
    × Answers rules start (lines_read events) (bytes_written events ++ unwritten) now
MatchesStatus rules start events now Unended = (reads_of events ≡ 2 ^ 64 - 1)
    × HasAnswered rules start events now

-- a session over a device, from its state at the start to that at the end
pub record IsSession {S N : Type 0} (rules : Rules S) (start now : S)
    (old new : View N) (status : SessionStatus) : Type 0 where
  -- what it read and wrote
  pub events : List Event
  pub leads : GoesOnBy old new events
  pub in_turn : AnswersBeforeReads rules start events
  pub never_ahead : NeverAhead rules start events
  pub ends : MatchesStatus rules start events now status

-- what follows of a whole history: wherever it has a read, the lines that were whole by then had
-- been answered, and no more was written
abbrev pub IsRead : Event → Type 0
IsRead (Read bytes) = Unit {0}
IsRead End = Unit {0}
IsRead (Wrote bytes) = ⊥

abbrev pub IsAnsweredAtReads : {S : Type 0} → Rules S → S → List Event → Type 0
IsAnsweredAtReads {S} rules start history = (after before : List Event) (event : Event)
    → IsRead event → history ≡ after ++ event ∷ before
    → (now : S) × Answers rules start (lines_read before) (bytes_written before) now

-- what follows of a known input, once it is done: each of its lines was answered, in order
abbrev pub AnswersKnown : {S : Type 0} → Rules S → S → S → Option (List ℕ)
    → Option (List ℕ) → Option (List ℕ) → SessionStatus → Type 0
AnswersKnown rules start now input old new status = status ≡ Done → IfSome input (λ bytes.
    (text : List ℕ) × Answers rules start (lines_of bytes) text now × Appends old new text)

abbrev pub AnswersWhole : {S N : Type 0} → Rules S → S → S → View N → View N → SessionStatus
    → Type 0
AnswersWhole rules start now old new =
    AnswersKnown rules start now old.remaining old.written new.written
