-- What the characters of a script behind a quote spell.
use Rattle.std.specs.Prelude.{◌≡◌, ℕ, ◌+◌, ◌++◌, List, Some, drop, false, get_or, true}
use Rattle.json.specs.Lex.{between, in_string, lex}
use Rattle.json.specs.Text.{content, plain}
use Rattle.system_keys.specs.Text.{byte_of_hex_digits, bytes_of, is_lower_hex_digit, is_plain}

-- a string goes on with this content up to its quote, and `after` is the text behind the quote
pub record Closes (text inside after : List ℕ) : Type 0 where
  pub content_is : content plain text ≡ Some inside
  pub goes_on : lex in_string text ≡ lex between after

-- and the content spells these bytes
abbrev pub Spells : List ℕ → List ℕ → List ℕ → Type 0
Spells text bytes after = (inside : List ℕ) × Closes text inside after × (bytes_of inside ≡ Some bytes)

-- the characters from one place to another spell these bytes, whatever comes behind them
abbrev pub SpellsUpTo : List ℕ → ℕ → List ℕ → ℕ → Type 0
SpellsUpTo text from part to =
    (bytes after : List ℕ) → Spells (drop to text) bytes after → Spells (drop from text) (part ++ bytes) after

-- the characters from one place to another stand for this part of the content, whatever comes behind them
abbrev pub StandsUpTo : List ℕ → ℕ → List ℕ → ℕ → Type 0
StandsUpTo text from part to =
    (inside after : List ℕ) → Closes (drop to text) inside after → Closes (drop from text) (part ++ inside) after

-- two backslashes, which stand for one, and `x` stand at this place
pub record HasMarks (text : List ℕ) (at : ℕ) : Type 0 where
  pub first : get_or text at 0 ≡ 92
  pub second : get_or text (at + 1) 0 ≡ 92
  pub letter : get_or text (at + 2) 0 ≡ 120

-- the escape of a byte that is not its own character stands at this place
pub record IsEscapeAt (text : List ℕ) (at byte : ℕ) : Type 0 where
  pub marks : HasMarks text at
  pub high : is_lower_hex_digit (get_or text (at + 3) 0) ≡ true
  pub low : is_lower_hex_digit (get_or text (at + 4) 0) ≡ true
  pub byte_is : byte ≡ byte_of_hex_digits (get_or text (at + 3) 0) (get_or text (at + 4) 0)
  pub other : is_plain byte ≡ false
