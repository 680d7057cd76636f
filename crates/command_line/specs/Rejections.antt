-- How the words of a command line that is refused are answered.
use Rattle.std.specs.Prelude.{◌≡◌, ℕ, List, [], ◌∷◌, ◌++◌, Option, Some, None, Result, Ok, Err}
use Rattle.std.specs.Prelude.{codes, string_bytes}
use Rattle.clap.specs.Words.{IsAmong, Kinds}
use Rattle.clap.specs.declared.error.kind.ErrorKind.{ErrorKind}
use Rattle.clap.specs.declared.error.kind.ErrorKind.TheVariants.{DisplayHelp}
use Rattle.command_line.specs.declared.choosing.Rejection.{Rejection}
use Rattle.command_line.specs.declared.choosing.Rejection.TheVariants.{OutOfMemory, Words}
use Rattle.command_line.specs.declared.mode.Mode.{Mode}

-- the text, and then the end of its line
abbrev line : List ℕ → List ℕ
line text = text ++ 10 ∷ []

-- what follows the help
abbrev pub example : List ℕ
example = line [] ++ line (codes "Example:") ++ line (codes "  proxy_run turns < script.json")

-- what follows any other error
abbrev pub hint : List ℕ
hint = line (codes "hint: the script is read on standard input: proxy_run < script.json")

-- what the program adds to the text of an error of this kind
abbrev pub ending_of_kind : ErrorKind → List ℕ
ending_of_kind DisplayHelp = example
ending_of_kind kind = hint

-- the text is what was said, and then this ending
abbrev pub EndsSo : (ending text : List ℕ) → Type 0
EndsSo ending text = (said : List ℕ) × (text ≡ said ++ ending)

-- the text is what a value displays, as far as its type says it, and then this ending
abbrev pub DisplaysThen : (displayed : Option (List ℕ)) → (ending text : List ℕ) → Type 0
DisplaysThen (Some said) ending text = text ≡ said ++ ending
DisplaysThen None ending text = EndsSo ending text

-- the rejection's text ends as the text of an error of this kind, unless an allocation failed
abbrev pub TellsKind : ErrorKind → Rejection → Type 0
TellsKind kind OutOfMemory = Unit {0}
TellsKind kind (Words text) = EndsSo (ending_of_kind kind) (string_bytes text)

-- the text ends as the text of an error of one of these kinds
abbrev pub IsTextOf : Kinds → (text : List ℕ) → Type 0
IsTextOf faults text =
    (kind : ErrorKind) × IsAmong kind faults × EndsSo (ending_of_kind kind) text

-- no mode is chosen, and the text tells one of these faults, unless an allocation failed
abbrev pub RejectsBy : Kinds → Result Mode Rejection → Type 0
RejectsBy faults (Ok mode) = ⊥
RejectsBy faults (Err OutOfMemory) = Unit {0}
RejectsBy faults (Err (Words text)) = IsTextOf faults (string_bytes text)
