-- What calls of devices change.
use Rattle.std.specs.Prelude.{◌≡◌, ◌+◌, ◌-◌, ◌^◌, ◌*◌, ◌++◌, min, ℕ, List, Option}
use Rattle.std.specs.Io.KnownBytes.{Appends}

-- the count after `calls` further calls; it stays at the largest number once it has reached it
abbrev pub saturating_add : ℕ → ℕ → ℕ
saturating_add calls count = count + min calls (2 ^ 64 - 1 - count)

-- a count went up by one, unless it was the largest number
abbrev pub IsIncremented : ℕ → ℕ → Type 0
IsIncremented old new = new ≡ saturating_add 1 old

-- how many read calls a whole input may take (this project's profile)
abbrev pub read_limit : ℕ
read_limit = 1048576

-- how many bytes one read call asks for (this project's profile)
abbrev pub read_size : ℕ
read_size = 4096

-- the longest input that can be read to its end: the last call meets the end
abbrev pub input_limit : ℕ
input_limit = (read_limit - 1) * read_size

-- known bytes grow by a beginning of these bytes; `rest` is what follows it
abbrev pub AppendsBefore : Option (List ℕ) → Option (List ℕ) → List ℕ → List ℕ → Type 0
AppendsBefore old new bytes rest =
    (front : List ℕ) × (front ++ rest ≡ bytes) × Appends old new front

-- known bytes grow by a beginning of these bytes
abbrev pub AppendsBeginning : Option (List ℕ) → Option (List ℕ) → List ℕ → Type 0
AppendsBeginning old new bytes = (rest : List ℕ) × AppendsBefore old new bytes rest
