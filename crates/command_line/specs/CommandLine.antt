-- The command line `proxy_run [MODE]`, as what clap reads of it.
use Rattle.std.specs.Prelude.{◌≡◌, ◌∷◌, [], List, MatchResult, Option, Result, Some, None, codes}
use Rattle.std.specs.Prelude.{false, map, true}
use Rattle.std.specs.Borrow.{Bor}
use Rattle.clap.specs.Words.{Accepts, App, HasKind, IsParsedFrom, Row, Rule, Shape, Text, app_of}
use Rattle.clap.specs.Words.{fault_of, first_of, first_value, found_of, matches_of, new_rule}
use Rattle.clap.specs.Words.{with_rule}
use Rattle.clap.specs.Simple.{new_shape}
use Rattle.clap.specs.declared.builder.command.Command.{Command}
use Rattle.clap.specs.declared.error.Error.{Error}
use Rattle.clap.specs.declared.parser.matches.ArgMatches.{ArgMatches}
use Rattle.clap.specs.declared.builder.value_parser.ValueParser.TheVariants.{Names}
use Rattle.command_line.specs.Modes.{mode_named}
use Rattle.command_line.specs.declared.mode.Mode.{Mode}
use Rattle.command_line.specs.declared.mode.Mode.TheVariants.{Fold}

-- the names of the modes, wherever they lie in memory
pub record ModeNames : Type 0 where
  pub list : Bor (List (Bor Text))
  pub texts : map (λ name. name.now) list.now
      ≡ codes "fold" ∷ codes "turns" ∷ codes "threads" ∷ []

-- the one argument: a word among the names
abbrev pub mode_rule : ModeNames → Rule
mode_rule names = record (new_rule (codes "mode")) {
  value_names = 1;
  parser = Some (Names names.list);
}

-- the command before its argument is added: no word is the program's name
abbrev pub bare_shape : Shape
bare_shape = record (new_shape (codes "proxy_run")) { no_binary_name = true }

-- the command line
abbrev pub command_line : ModeNames → App
command_line names = with_rule (record { top = bare_shape; subs = [] }) (mode_rule names)

-- the mode of the word that was given; `fold` without one
abbrev pub mode_given : Option Text → Option Mode
mode_given None = Some Fold
mode_given (Some name) = mode_named name

-- the mode that the matches give
abbrev pub mode_of : List Row → Option Mode
mode_of rows = mode_given (first_of (codes "mode") rows)

-- `clap` takes the words, and they give this mode
abbrev pub GivesMode : ModeNames → List Text → Mode → Type 0
GivesMode names words mode = (fault_of (command_line names) words ≡ [])
    × (mode_of (matches_of (command_line names) words) ≡ Some mode)

-- the command is that command line, and each word that a parse gives as the mode is among the names
pub record IsCommandLine (names : ModeNames) (command : Command) : Type 0 where
  pub shape : app_of command ≡ command_line names
  pub passes : (matches : ArgMatches) (word : Text) → IsParsedFrom command matches
      → first_value (found_of matches) (codes "mode") ≡ Some word
      → Accepts false (Names names.list) word

-- what `clap` reads of the words: the mode if it takes them, and otherwise one of its faults or
-- OutOfMemory
abbrev pub ReadsMode : List Text → Result (Option Mode) Error → Type 0
ReadsMode words read = (names : ModeNames) × MatchResult read
    (λ mode. (fault_of (command_line names) words ≡ [])
    × (mode ≡ mode_of (matches_of (command_line names) words)))
    (HasKind (fault_of (command_line names) words))
