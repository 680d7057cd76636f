-- Statements of laws: what follows of the definitions.
use Rattle.std.specs.Prelude.{◌≡◌, ◌≢◌, ◌≤◌, ◌↔◌, ◌+◌, ◌-◌, ◌^◌, ℕ, List, [], ◌∷◌, ◌++◌, length, flat_map, fold}
use Rattle.std.specs.Prelude.{Some, IfSome}
use Rattle.sessions.specs.Answers.{Rules, Answers, CarriesOutSome, IsSomeOf, answers_to, out_of_memory}
use Rattle.sessions.specs.Events.{End, Event, GoesOnBy, HasEnded, Read, View, Wrote, bytes_came, bytes_written, lines_read}
use Rattle.sessions.specs.Lines.{Splits, open_line_of, whole_lines}
use Rattle.sessions.specs.Sessions.{IsAnsweredAtReads, IsRead, IsSession, LeavesFailures, NeverAhead}
use Rattle.sessions.specs.declared.status.SessionStatus.{SessionStatus}
use Rattle.sessions.specs.declared.status.SessionStatus.TheVariants.{ReadFailed, WriteFailed, Unended}

-- ---- lines

-- lines without line feeds, and an open line, that make up bytes are the whole lines and the open line of them
abbrev pub OneSplit : Type 0
OneSplit =
    (bytes : List ℕ) (lines : List (List ℕ)) (open_line : List ℕ) → Splits bytes lines open_line
    → (lines ≡ whole_lines bytes) × (open_line ≡ open_line_of bytes)

-- ---- answers

-- none of these answers is `out of memory`
abbrev pub NoneIsOutOfMemory : List (List ℕ) → Type 0
NoneIsOutOfMemory [] = Unit {0}
NoneIsOutOfMemory (answer ∷ answers) = (answer ≢ out_of_memory) × NoneIsOutOfMemory answers

-- Each line has one answer. If none of them is `out of memory`, they are those of the rules, and all lines were
-- carried out.
abbrev pub OneAnswerForEach : {S : Type 0} → Rules S → Type 0
OneAnswerForEach {S} rules =
    (old new : S) (lines : List (List ℕ)) (text : List ℕ) → Answers rules old lines text new
    → (given : List (List ℕ)) × (text ≡ flat_map (λ answer. answer) given)
    × (length given ≡ length lines)
    × (NoneIsOutOfMemory given
    → (given ≡ answers_to rules old lines) × (new ≡ fold rules.after old lines))

-- a line is carried out whole or not at all
abbrev pub LinesOrNothing : {S : Type 0} → Rules S → Type 0
LinesOrNothing {S} rules =
    (old new : S) (lines : List (List ℕ)) (text : List ℕ) → Answers rules old lines text new
    → CarriesOutSome rules old lines new

-- an empty line, and a line of one byte
abbrev pub first_line : List ℕ
first_line = []

abbrev pub next_line : List ℕ
next_line = 1 ∷ []

-- Of two lines some are both, one or none; they are not turned round, come once, and are no others.
pub record SomeOfTwoLines : Type 0 where
  pub both : IsSomeOf (first_line ∷ next_line ∷ []) (first_line ∷ next_line ∷ [])
  pub first : IsSomeOf (first_line ∷ []) (first_line ∷ next_line ∷ [])
  pub next : IsSomeOf (next_line ∷ []) (first_line ∷ next_line ∷ [])
  pub none : IsSomeOf [] (first_line ∷ next_line ∷ [])
  pub turned_round : IsSomeOf (next_line ∷ first_line ∷ []) (first_line ∷ next_line ∷ []) → ⊥
  pub twice : IsSomeOf (first_line ∷ first_line ∷ []) (first_line ∷ next_line ∷ []) → ⊥
  pub another : IsSomeOf ((1 ∷ next_line) ∷ []) (first_line ∷ next_line ∷ []) → ⊥

-- an empty answer is not `out of memory`; a list of answers with `out of memory` at its end has it
pub record AnswersWithoutMemory : Type 0 where
  pub others : NoneIsOutOfMemory ([] ∷ [] ∷ [])
  pub at_the_end : NoneIsOutOfMemory ([] ∷ out_of_memory ∷ []) → ⊥

-- ---- devices

-- the device shows what is left to read, what was written, and its history
abbrev pub ShowsAll : {N : Type 0} → View N → List ℕ → List ℕ → List Event → Type 0
ShowsAll view remaining written history = (view.remaining ≡ Some remaining)
    × (view.written ≡ Some written) × (view.history ≡ Some history)

-- A device that shows all goes on to show all: what came is taken from what there was to read, all of it if it
-- ended; what was written stands after what was there, and the events before its history.
abbrev pub GoesOnKnown : Type 0 → Type 0
GoesOnKnown N =
    (old new : View N) (events history : List Event) (input text : List ℕ) → GoesOnBy old new events
    → ShowsAll old input text history
    → (left : List ℕ) × ShowsAll new left (text ++ bytes_written events) (events ++ history)
    × (input ≡ bytes_came events ++ left) × (HasEnded events → left ≡ [])

-- events that follow others are one list with them
abbrev pub GoesOnInTurn : Type 0 → Type 0
GoesOnInTurn N =
    (old mid new : View N) (first later : List Event) → GoesOnBy old mid first → GoesOnBy mid new later
    → GoesOnBy old new (later ++ first)

-- ---- sessions

-- bytes that came are read, and so is the end of the input; what was written is not
pub record ReadsAreThese : Type 0 where
  pub bytes : (bytes : List ℕ) → IsRead (Read bytes)
  pub end : IsRead End
  pub written : (bytes : List ℕ) → IsRead (Wrote bytes) → ⊥

-- at no moment more was written than a beginning of answers to the lines that had come whole
abbrev pub NeverWritesAhead : {S : Type 0} → Rules S → Type 0
NeverWritesAhead {S} rules =
    (start : S) (after before : List Event) → NeverAhead rules start (after ++ before)
    → (unwritten : List ℕ) × (end : S)
    × Answers rules start (lines_read before) (bytes_written before ++ unwritten) end

-- where no answer is empty, something was written before each read that comes after a whole line
abbrev pub AnswersBeforeItReadsOn : {S : Type 0} → Rules S → Type 0
AnswersBeforeItReadsOn {S} rules =
    ((state : S) (line : List ℕ) → rules.answer state line ≢ [])
    → (start : S) (after before : List Event) (event : Event)
    → IsAnsweredAtReads rules start (after ++ event ∷ before) → IsRead event
    → lines_read before ≢ [] → bytes_written before ≢ []

-- unless a write failed, exactly the answers to all lines of a known history are written at the end
abbrev pub AnsweredAtEnd : {S : Type 0} → Rules S → Type 0 → Type 0
AnsweredAtEnd {S} rules N =
    (start now : S) (old new : View N) (status : SessionStatus) → IsSession rules start now old new status
    → status ≢ WriteFailed → old.history ≡ Some []
    → IfSome new.history (λ history. Answers rules start (lines_read history) (bytes_written history) now)

-- however a session of a known history ends, its state is that after some of the lines that had come, in order
abbrev pub CarriesOutLines : {S : Type 0} → Rules S → Type 0 → Type 0
CarriesOutLines {S} rules N =
    (start now : S) (old new : View N) (status : SessionStatus) → IsSession rules start now old new status
    → old.history ≡ Some [] → IfSome new.history (λ history. CarriesOutSome rules start (lines_read history) now)

-- a known input that did not end within the reads of a session has as many bytes
abbrev pub UnendedIsLong : {S : Type 0} → Rules S → Type 0 → Type 0
UnendedIsLong {S} rules N =
    (start now : S) (old new : View N) → IsSession rules start now old new Unended
    → IfSome old.remaining (λ input. 2 ^ 64 - 1 ≤ length input)

-- the numbers of failed reads and of failed writes
abbrev pub ReadFailsMore : ℕ × ℕ → ℕ × ℕ → Type 0
ReadFailsMore old new = (new.0 ≡ old.0 + 1) × (new.1 ≡ old.1)

abbrev pub WriteFailsMore : ℕ × ℕ → ℕ × ℕ → Type 0
WriteFailsMore old new = (new.0 ≡ old.0) × (new.1 ≡ old.1 + 1)

-- of a device that counts its failed calls: the status says whether a read failed, or a write
abbrev pub StatusTellsFailures : Type 0
StatusTellsFailures =
    (old new : ℕ × ℕ) (status : SessionStatus) → LeavesFailures ReadFailsMore WriteFailsMore old new status
    → ((status ≡ ReadFailed) ↔ (new.0 ≢ old.0)) × ((status ≡ WriteFailed) ↔ (new.1 ≢ old.1))
