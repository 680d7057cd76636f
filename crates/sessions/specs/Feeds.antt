-- What a piece of the input leaves.
use Rattle.std.specs.Prelude.{◌≡◌, ℕ, List, [], ◌++◌, Result, OnOk}
use Rattle.pages.specs.Printing.{Prints}
use Rattle.sessions.specs.Answers.{Rules, Answer, Answers}
use Rattle.sessions.specs.Events.{View, WritesText}
use Rattle.sessions.specs.Lines.{lines_from, open_from}
use Rattle.sessions.specs.Pending.{Holds}
use Rattle.sessions.specs.declared.device.Failed.{Failed}
use Rattle.sessions.specs.declared.pending.Pending.{Pending}

-- a line has an answer, which is printed
pub record AnswersLine {S P O : Type 0} (rules : Rules S) (has_printed : P → O → List ℕ → Type 0)
    (start now : S) (old new : P) (line : List ℕ) : Type 0 where
  pub text : List ℕ
  pub answer : Answer rules start line text now
  pub printed : Prints has_printed old new text

-- the lines that these bytes end were answered, in order, and the open line is held
pub record Feeds {S P O : Type 0} (rules : Rules S) (has_printed : P → O → List ℕ → Type 0)
    (start now : S) (old new : P) (open_line bytes : List ℕ) (pending : Pending) : Type 0 where
  pub text : List ℕ
  pub answers : Answers rules start (lines_from open_line bytes) text now
  pub printed : Prints has_printed old new text
  pub held : Holds pending (open_from open_line bytes)

-- The lines that these bytes end were answered, and the state is that after them; or a beginning of the
-- answers was written, if a write failed.
pub record AnswersBytes {S N : Type 0} (rules : Rules S) (start now : S) (old new : View N)
    (open_line bytes : List ℕ) (pending : Pending) (result : Result (Unit {0}) Failed) : Type 0 where
  pub text : List ℕ
  pub unwritten : List ℕ
  pub wrote : WritesText old new text
  pub answers : Answers rules start (lines_from open_line bytes) (text ++ unwritten) now
  pub all : OnOk result (unwritten ≡ [])
  pub kept : OnOk result (Holds pending (open_from open_line bytes))
