-- What was read and written, in order.
use Rattle.std.specs.Prelude.{◌≡◌, ℕ, List, [], ◌∷◌, ◌++◌, ◌+◌, Option, Some, None, IfSome}
use Rattle.std.specs.Io.KnownBytes.{Appends, Consumes, IsAtEnd}
use Rattle.sessions.specs.Lines.{closed, whole_lines}

-- a call of a device that returned
pub data Event : Type 0 where
  -- these bytes came
  Read : (bytes : List ℕ) → Event
  -- the input was at its end
  End : Event
  -- these bytes were written
  Wrote : (bytes : List ℕ) → Event

-- ---- lists of events; the newest stands first

-- the bytes that came
abbrev pub bytes_came : List Event → List ℕ
bytes_came [] = []
bytes_came (Read bytes ∷ before) = bytes_came before ++ bytes
bytes_came (End ∷ before) = bytes_came before
bytes_came (Wrote bytes ∷ before) = bytes_came before

-- the same; the end of the input ends a line that is open
abbrev pub bytes_read : List Event → List ℕ
bytes_read [] = []
bytes_read (Read bytes ∷ before) = bytes_read before ++ bytes
bytes_read (End ∷ before) = closed (bytes_read before)
bytes_read (Wrote bytes ∷ before) = bytes_read before

-- the lines that had come whole
abbrev pub lines_read : List Event → List (List ℕ)
lines_read events = whole_lines (bytes_read events)

-- the bytes that were written
abbrev pub bytes_written : List Event → List ℕ
bytes_written [] = []
bytes_written (Read bytes ∷ before) = bytes_written before
bytes_written (End ∷ before) = bytes_written before
bytes_written (Wrote bytes ∷ before) = bytes_written before ++ bytes

-- how many reads brought bytes
abbrev pub reads_of : List Event → ℕ
reads_of [] = 0
reads_of (Read [] ∷ before) = reads_of before
reads_of (Read (byte ∷ bytes) ∷ before) = reads_of before + 1
reads_of (End ∷ before) = reads_of before
reads_of (Wrote bytes ∷ before) = reads_of before

-- the input was at its end
abbrev pub HasEnded : List Event → Type 0
HasEnded [] = ⊥
HasEnded (Read bytes ∷ before) = HasEnded before
HasEnded (End ∷ before) = Unit {0}
HasEnded (Wrote bytes ∷ before) = HasEnded before

-- nothing but writes, of this text in all
abbrev pub Writes : List Event → List ℕ → Type 0
Writes [] text = text ≡ []
Writes (Read bytes ∷ before) text = ⊥
Writes (End ∷ before) text = ⊥
Writes (Wrote bytes ∷ before) text =
    (front : List ℕ) × Writes before front × (text ≡ front ++ bytes)

-- ---- what a device shows

-- which device it is; the bytes that are left, those that were written, and all that was read and written,
-- each where it is known
pub record View (Name : Type 0) : Type 0 where
  pub name : Name
  pub remaining : Option (List ℕ)
  pub written : Option (List ℕ)
  pub history : Option (List Event)

-- a known history goes on by these events
abbrev pub with_events : Option (List Event) → List Event → Option (List Event)
with_events None events = None
with_events (Some history) events = Some (events ++ history)

-- these events lead from one view to another
pub record GoesOnBy {Name : Type 0} (old new : View Name) (events : List Event) : Type 0 where
  pub same : new.name ≡ old.name
  pub remaining : Consumes old.remaining new.remaining (bytes_came events)
  pub end : HasEnded events → IfSome old.remaining (λ _. IsAtEnd new.remaining)
  pub written : Appends old.written new.written (bytes_written events)
  pub history : new.history ≡ with_events old.history events

-- the device wrote this text and did nothing else
abbrev pub WritesText : {Name : Type 0} → View Name → View Name → List ℕ → Type 0
WritesText old new text = (events : List Event) × GoesOnBy old new events × Writes events text
