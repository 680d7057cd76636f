-- Bytes as text: one text for each string of bytes (this project's profile).
use Rattle.std.specs.Prelude.{ℕ, ◌+◌, ◌-◌, ◌*◌, ◌/◌, ◌%◌, List, [], ◌∷◌, Bool, ◌==◌, ◌&&◌, ◌||◌}
use Rattle.std.specs.Prelude.{◌≡◌, ◌<◌, ◌≤◌, true, get_or}
use Rattle.std.specs.Prelude.{not, nat_le, nat_lt, if◌then◌else◌, Option, Some, None, option_map}
use Rattle.std.specs.Prelude.{ok_or, Result}
use Rattle.std.specs.Int.{w64, trailing_zeros}
use Rattle.std.specs.List.{flat_map}
use Rattle.std.specs.Char.{digit_char}
use Rattle.system_keys.specs.declared.refusal.RowFault.{RowFault}
use Rattle.system_keys.specs.declared.refusal.RowFault.TheVariants as faults

-- a byte that is its own character: printable ASCII but for the double quote and the backslash
abbrev pub is_plain : ℕ → Bool
is_plain byte = nat_le 33 byte && nat_le byte 126 && not (byte == 34) && not (byte == 92)

-- a byte's text: its character, or `\x` and two lower-case hexadecimal digits
abbrev pub byte_text : ℕ → List ℕ
byte_text byte =
    if is_plain byte then byte ∷ []
    else 92 ∷ 120 ∷ digit_char (byte / 16) ∷ digit_char (byte % 16) ∷ []

-- the text of bytes, one after another
abbrev pub text_of : List ℕ → List ℕ
text_of bytes = flat_map byte_text bytes

-- a lower-case hexadecimal digit
abbrev pub is_lower_hex_digit : ℕ → Bool
is_lower_hex_digit character =
    (nat_le 48 character && nat_le character 57) || (nat_le 97 character && nat_le character 102)

-- the value of a lower-case hexadecimal digit
abbrev pub value_of_hex_digit : ℕ → ℕ
value_of_hex_digit character = if nat_lt character 97 then character - 48 else character - 87

-- the byte that two digits write
abbrev pub byte_of_hex_digits : ℕ → ℕ → ℕ
byte_of_hex_digits high low = 16 * value_of_hex_digit high + value_of_hex_digit low

-- four characters are the escape of a byte that is not its own character
abbrev pub is_escape : ℕ → ℕ → ℕ → ℕ → Bool
is_escape slash x high low =
    slash == 92 && x == 120 && is_lower_hex_digit high && is_lower_hex_digit low && not (is_plain (byte_of_hex_digits high low))

-- a byte in front of those that were read, if they were
abbrev pub with_byte : ℕ → Option (List ℕ) → Option (List ℕ)
with_byte byte read = option_map (λ bytes. byte ∷ bytes) read

-- the bytes that a text spells, or none
unfoldable pub bytes_of : List ℕ → Option (List ℕ)
bytes_of [] = Some []
bytes_of (a ∷ []) = if is_plain a then with_byte a (bytes_of []) else None
bytes_of (a ∷ b ∷ []) = if is_plain a then with_byte a (bytes_of (b ∷ [])) else None
bytes_of (a ∷ b ∷ c ∷ []) = if is_plain a then with_byte a (bytes_of (b ∷ c ∷ [])) else None
bytes_of (a ∷ b ∷ c ∷ d ∷ rest) =
    if is_plain a then with_byte a (bytes_of (b ∷ c ∷ d ∷ rest))
    else if is_escape a b c d then with_byte (byte_of_hex_digits c d) (bytes_of rest)
    else None

-- the bytes of a text, or BadText
abbrev pub bytes_read : List ℕ → Result (List ℕ) RowFault
bytes_read text = ok_or (bytes_of text) faults.BadText

-- the first byte that a text spells, and the text behind it
abbrev pub first_of : List ℕ → Option (ℕ × List ℕ)
first_of [] = None
first_of (a ∷ []) = if is_plain a then Some (a, []) else None
first_of (a ∷ b ∷ []) = if is_plain a then Some (a, b ∷ []) else None
first_of (a ∷ b ∷ c ∷ []) = if is_plain a then Some (a, b ∷ c ∷ []) else None
first_of (a ∷ b ∷ c ∷ d ∷ rest) =
    if is_plain a then Some (a, b ∷ c ∷ d ∷ rest)
    else if is_escape a b c d then Some (byte_of_hex_digits c d, rest)
    else None

-- Two words of private clauses:
-- the characters from one place up to another stand for themselves
abbrev pub ArePlain : List ℕ → ℕ → ℕ → Type 0
ArePlain text from to = (i : ℕ) → from ≤ i → i < to → is_plain (get_or text i 0) ≡ true

-- the place of the lowest bit that is set, or else a number
abbrev pub first_set_bit : ℕ → ℕ → ℕ
first_set_bit mask other = if mask == 0 then other else trailing_zeros w64 mask
