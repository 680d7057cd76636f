-- Bytes as text: what a text spells is spelled so, and what was printed is read again.
use Rattle.std.proofs.Common.{◌≡◌, ℕ, zero, suc, ◌+◌, ◌*◌, ◌/◌, ◌%◌, ◌<◌, ◌≤◌, Bool, true, false, cond, not, ◌&&◌, List, [], ◌∷◌, ◌++◌, length, get_or, take, drop, Option, Some, None, refl, sym, ap, ◌∙◌, append_assoc, arith}
use Rattle.std.specs.Prelude.{option_map, ◌==◌}
use Rattle.std.specs.Char.{digit_char}
use Rattle.std.proofs.lemmas.Bool.Decides.{nat_tests}
use Rattle.std.proofs.lemmas.Bool.{and_parts, eqb-true}
use Rattle.std.proofs.lemmas.List.{append-nil}
use Rattle.system_keys.specs.Text.{is_plain, ArePlain, byte_text, text_of, is_lower_hex_digit, value_of_hex_digit, byte_of_hex_digits, is_escape, with_byte, bytes_of, first_of}

-- ---- digits

pub char_of_digit : (character : ℕ) → is_lower_hex_digit character ≡ true → digit_char (value_of_hex_digit character) ≡ character
char_of_digit character h = grind (arith, nat_tests)

digit_below : (character : ℕ) → is_lower_hex_digit character ≡ true → value_of_hex_digit character < 16
digit_below character h = grind (arith, nat_tests)

is_digit_char : (value : ℕ) → value < 16 → is_lower_hex_digit (digit_char value) ≡ true
is_digit_char value h = grind (arith, nat_tests)

digit_of_char : (value : ℕ) → value < 16 → value_of_hex_digit (digit_char value) ≡ value
digit_of_char value h = grind (arith, nat_tests)

-- the two digits of a byte write it
high_part : (h l : ℕ) → l < 16 → (16 * h + l) / 16 ≡ h
high_part h l lt = omega arith

low_part : (h l : ℕ) → l < 16 → (16 * h + l) % 16 ≡ l
low_part h l lt = omega arith

-- ---- one text for each byte

plain_text : (byte : ℕ) → is_plain byte ≡ true → byte_text byte ≡ byte ∷ []
plain_text byte h = rw h refl

escaped_text : (byte : ℕ) → is_plain byte ≡ false → byte_text byte ≡ 92 ∷ 120 ∷ digit_char (byte / 16) ∷ digit_char (byte % 16) ∷ []
escaped_text byte h = rw h refl

-- what an escape is made of
record Escape (a b c d : ℕ) : Type 0 where
  slash : a ≡ 92
  x : b ≡ 120
  high : is_lower_hex_digit c ≡ true
  low : is_lower_hex_digit d ≡ true
  other : is_plain (byte_of_hex_digits c d) ≡ false

not_plain : (b : Bool) → not b ≡ true → b ≡ false
not_plain true h = absurd (cc)
not_plain false h = refl

escape_parts : (a b c d : ℕ) → is_escape a b c d ≡ true → Escape a b c d
escape_parts a b c d h =
    let p = and_parts ((a == 92) && (b == 120) && is_lower_hex_digit c && is_lower_hex_digit d) (not (is_plain (byte_of_hex_digits c d))) h in
    let q = and_parts ((a == 92) && (b == 120) && is_lower_hex_digit c) (is_lower_hex_digit d) p.0 in
    let r = and_parts ((a == 92) && (b == 120)) (is_lower_hex_digit c) q.0 in
    let s = and_parts (a == 92) (b == 120) r.0 in
    record { slash = eqb-true a 92 s.0; x = eqb-true b 120 s.1; high = r.1; low = q.1; other = not_plain _ p.1 }

escape_text : (a b c d : ℕ) → Escape a b c d → byte_text (byte_of_hex_digits c d) ≡ a ∷ b ∷ c ∷ d ∷ []
escape_text a b c d e =
    let lt : value_of_hex_digit d < 16 = digit_below d e.low in
    escaped_text (byte_of_hex_digits c d) e.other ∙ rw (high_part (value_of_hex_digit c) (value_of_hex_digit d) lt, low_part (value_of_hex_digit c) (value_of_hex_digit d) lt, char_of_digit c e.high, char_of_digit d e.low, e.slash, e.x) refl

-- ---- what a text spells is spelled so

-- a byte was read in front of others
record WithByte (byte : ℕ) (read : Option (List ℕ)) (bytes : List ℕ) : Type 0 where
  more : List ℕ
  read_is : read ≡ Some more
  bytes_are : bytes ≡ byte ∷ more

with_byte_is : (byte : ℕ) (read : Option (List ℕ)) (bytes : List ℕ) → with_byte byte read ≡ Some bytes → WithByte byte read bytes
with_byte_is byte None bytes e = absurd (cc)
with_byte_is byte (Some more) bytes e = record { more = more; read_is = refl; bytes_are = sym (cc (e)) }

plain_spelled : (t : Bool) (a : ℕ) (tail : List ℕ) (read other : Option (List ℕ)) (bytes : List ℕ) → is_plain a ≡ t → cond t (with_byte a read) other ≡ Some bytes → ((more : List ℕ) → read ≡ Some more → tail ≡ text_of more) → ((e : is_plain a ≡ false) → other ≡ Some bytes → a ∷ tail ≡ text_of bytes) → a ∷ tail ≡ text_of bytes
plain_spelled true a tail read other bytes plain e inner outer =
    let w = with_byte_is a read bytes e in
    rw (w.bytes_are, plain_text a plain) (ap (λ (text : List ℕ). a ∷ text) (inner w.more w.read_is))
plain_spelled false a tail read other bytes plain e inner outer = outer plain e

escape_spelled : (t : Bool) (a b c d : ℕ) (rest : List ℕ) (read : Option (List ℕ)) (bytes : List ℕ) → is_escape a b c d ≡ t → cond t (with_byte (byte_of_hex_digits c d) read) None ≡ Some bytes → ((more : List ℕ) → read ≡ Some more → rest ≡ text_of more) → a ∷ b ∷ c ∷ d ∷ rest ≡ text_of bytes
escape_spelled true a b c d rest read bytes is e inner =
    let w = with_byte_is (byte_of_hex_digits c d) read bytes e in
    let front = escape_text a b c d (escape_parts a b c d is) in
    rw (w.bytes_are) (ap (λ (text : List ℕ). a ∷ b ∷ c ∷ d ∷ text) (inner w.more w.read_is) ∙ ap (λ (text : List ℕ). text ++ text_of w.more) (sym front))
escape_spelled false a b c d rest read bytes is e inner = absurd (cc)

pub text_spelled : (text bytes : List ℕ) → bytes_of text ≡ Some bytes → text ≡ text_of bytes
unfolding bytes_of
text_spelled [] bytes e =
    let none : ◌≡◌ {A = List ℕ} [] bytes = cc (e) in
    ap text_of none
text_spelled (a ∷ []) bytes e = plain_spelled (is_plain a) a [] (bytes_of []) None bytes refl e (text_spelled []) (λ n o. absurd (cc))
text_spelled (a ∷ b ∷ []) bytes e = plain_spelled (is_plain a) a (b ∷ []) (bytes_of (b ∷ [])) None bytes refl e (text_spelled (b ∷ [])) (λ n o. absurd (cc))
text_spelled (a ∷ b ∷ c ∷ []) bytes e = plain_spelled (is_plain a) a (b ∷ c ∷ []) (bytes_of (b ∷ c ∷ [])) None bytes refl e (text_spelled (b ∷ c ∷ [])) (λ n o. absurd (cc))
text_spelled (a ∷ b ∷ c ∷ d ∷ rest) bytes e =
    plain_spelled (is_plain a) a (b ∷ c ∷ d ∷ rest) (bytes_of (b ∷ c ∷ d ∷ rest)) _ bytes refl e (text_spelled (b ∷ c ∷ d ∷ rest))
    (λ n o. escape_spelled (is_escape a b c d) a b c d rest (bytes_of rest) bytes refl o (text_spelled rest))

-- ---- what was printed is read again

bytes_of-plain : (a : ℕ) (tail : List ℕ) → is_plain a ≡ true → bytes_of (a ∷ tail) ≡ with_byte a (bytes_of tail)
unfolding bytes_of
bytes_of-plain a [] h = rw h refl
bytes_of-plain a (b ∷ []) h = rw h refl
bytes_of-plain a (b ∷ c ∷ []) h = rw h refl
bytes_of-plain a (b ∷ c ∷ d ∷ rest) h = rw h refl

bytes_of-escape : (c d : ℕ) (rest : List ℕ) → is_lower_hex_digit c ≡ true → is_lower_hex_digit d ≡ true → is_plain (byte_of_hex_digits c d) ≡ false → bytes_of (92 ∷ 120 ∷ c ∷ d ∷ rest) ≡ with_byte (byte_of_hex_digits c d) (bytes_of rest)
unfolding bytes_of
bytes_of-escape c d rest high low other = rw (high, low, other) refl

written : (byte : ℕ) → byte < 256 → byte_of_hex_digits (digit_char (byte / 16)) (digit_char (byte % 16)) ≡ byte
written byte fits =
    let high : byte / 16 < 16 = omega arith in
    let low : byte % 16 < 16 = omega arith in
    rw (digit_of_char (byte / 16) high, digit_of_char (byte % 16) low) (omega arith)

byte_again : (plain : Bool) (byte : ℕ) (text : List ℕ) → byte < 256 → is_plain byte ≡ plain → bytes_of (byte_text byte ++ text) ≡ with_byte byte (bytes_of text)
byte_again true byte text fits h = rw (plain_text byte h) (bytes_of-plain byte text h)
byte_again false byte text fits h =
    let high : byte / 16 < 16 = omega arith in
    let low : byte % 16 < 16 = omega arith in
    let same = written byte fits in
    let other : is_plain (byte_of_hex_digits (digit_char (byte / 16)) (digit_char (byte % 16))) ≡ false = rw same h in
    rw (escaped_text byte h) (bytes_of-escape _ _ text (is_digit_char (byte / 16) high) (is_digit_char (byte % 16) low) other ∙ ap (λ (b : ℕ). with_byte b (bytes_of text)) same)

bytes_of-none : bytes_of [] ≡ Some []
unfolding bytes_of
bytes_of-none = refl

pub bytes_again : (bytes : List ℕ) → ((i : ℕ) → get_or bytes i 0 < 256) → bytes_of (text_of bytes) ≡ Some bytes
bytes_again [] fits = bytes_of-none
bytes_again (byte ∷ bytes) fits = byte_again (is_plain byte) byte (text_of bytes) (fits 0) refl ∙ ap (with_byte byte) (bytes_again bytes (λ i. fits (suc i)))

-- ---- reading byte by byte

-- the bytes that a text spells, by its first byte
abbrev pub bytes_from : Option (ℕ × List ℕ) → Option (List ℕ)
bytes_from None = None
bytes_from (Some next) = with_byte next.0 (bytes_of next.1)

by_test : (t : Bool) (next other : Option (ℕ × List ℕ)) (read : Option (List ℕ)) → read ≡ bytes_from other → cond t (bytes_from next) read ≡ bytes_from (cond t next other)
by_test true next other read e = refl
by_test false next other read e = e

pub bytes_of-first : (a : ℕ) (tail : List ℕ) → bytes_of (a ∷ tail) ≡ bytes_from (first_of (a ∷ tail))
unfolding bytes_of
bytes_of-first a [] = by_test (is_plain a) (Some (a, [])) None None refl
bytes_of-first a (b ∷ []) = by_test (is_plain a) (Some (a, b ∷ [])) None None refl
bytes_of-first a (b ∷ c ∷ []) = by_test (is_plain a) (Some (a, b ∷ c ∷ [])) None None refl
bytes_of-first a (b ∷ c ∷ d ∷ rest) =
    by_test (is_plain a) (Some (a, b ∷ c ∷ d ∷ rest)) _ _ (by_test (is_escape a b c d) (Some (byte_of_hex_digits c d, rest)) None None refl)

-- a text whose first byte is known
pub bytes_of-next : (text : List ℕ) (byte : ℕ) (rest : List ℕ) → first_of text ≡ Some (byte, rest) → bytes_of text ≡ with_byte byte (bytes_of rest)
bytes_of-next [] byte rest e = absurd (cc)
bytes_of-next (a ∷ tail) byte rest e = bytes_of-first a tail ∙ ap bytes_from e

-- a text with no first byte is empty, or spells nothing
pub bytes_of-stop : (a : ℕ) (tail : List ℕ) → first_of (a ∷ tail) ≡ None → bytes_of (a ∷ tail) ≡ None
bytes_of-stop a tail e = bytes_of-first a tail ∙ ap bytes_from e

-- the loop that counts
count_first : (count byte : ℕ) (read : Option (List ℕ)) → option_map (λ (bytes : List ℕ). (count + 1) + length bytes) read ≡ option_map (λ (bytes : List ℕ). count + length bytes) (with_byte byte read)
count_first count byte None = refl
count_first count byte (Some bytes) = ap Some (omega arith)

pub count_next : (count : ℕ) (text : List ℕ) (byte : ℕ) (rest : List ℕ) (told : Option ℕ) → first_of text ≡ Some (byte, rest) → option_map (λ (bytes : List ℕ). count + length bytes) (bytes_of text) ≡ told → option_map (λ (bytes : List ℕ). (count + 1) + length bytes) (bytes_of rest) ≡ told
count_next count text byte rest told first e =
    count_first count byte (bytes_of rest) ∙ ap (option_map (λ (bytes : List ℕ). count + length bytes)) (sym (bytes_of-next text byte rest first)) ∙ e

pub count_stop : (count : ℕ) (text : List ℕ) (told : Option ℕ) → 0 < length text → first_of text ≡ None → option_map (λ (bytes : List ℕ). count + length bytes) (bytes_of text) ≡ told → told ≡ None
count_stop count [] told more none e = absurd (omega arith)
count_stop count (a ∷ tail) told more none e = sym e ∙ ap (option_map (λ (bytes : List ℕ). count + length bytes)) (bytes_of-stop a tail none)

pub count_done : (count : ℕ) (text : List ℕ) (told : Option ℕ) → length text ≡ 0 → option_map (λ (bytes : List ℕ). count + length bytes) (bytes_of text) ≡ told → told ≡ Some count
count_done count [] told done e = sym e ∙ ap (option_map (λ (bytes : List ℕ). count + length bytes)) bytes_of-none ∙ ap Some (omega arith)
count_done count (a ∷ tail) told done e = absurd (omega arith)

-- the loop that keeps the bytes
abbrev pub behind_kept : List ℕ → Option (List ℕ) → Option (List ℕ)
behind_kept kept read = option_map (λ bytes. kept ++ bytes) read

kept_first : (kept : List ℕ) (byte : ℕ) (read : Option (List ℕ)) → behind_kept (kept ++ byte ∷ []) read ≡ behind_kept kept (with_byte byte read)
kept_first kept byte None = refl
kept_first kept byte (Some bytes) = ap Some (append_assoc kept (byte ∷ []) bytes)

pub kept_next : (kept text : List ℕ) (byte : ℕ) (rest : List ℕ) (told : Option (List ℕ)) → first_of text ≡ Some (byte, rest) → behind_kept kept (bytes_of text) ≡ told → behind_kept (kept ++ byte ∷ []) (bytes_of rest) ≡ told
kept_next kept text byte rest told first e = kept_first kept byte (bytes_of rest) ∙ ap (behind_kept kept) (sym (bytes_of-next text byte rest first)) ∙ e

pub kept_stop : (kept text : List ℕ) (told : Option (List ℕ)) → 0 < length text → first_of text ≡ None → behind_kept kept (bytes_of text) ≡ told → told ≡ None
kept_stop kept [] told more none e = absurd (omega arith)
kept_stop kept (a ∷ tail) told more none e = sym e ∙ ap (behind_kept kept) (bytes_of-stop a tail none)

pub kept_done : (kept text : List ℕ) (told : Option (List ℕ)) → length text ≡ 0 → behind_kept kept (bytes_of text) ≡ told → told ≡ Some kept
kept_done kept [] told done e = sym e ∙ ap (behind_kept kept) bytes_of-none ∙ ap Some (append-nil kept)
kept_done kept (a ∷ tail) told done e = absurd (omega arith)

pub kept_none : (read : Option (List ℕ)) → behind_kept [] read ≡ read
kept_none None = refl
kept_none (Some bytes) = refl

kept_many : (kept more : List ℕ) (read : Option (List ℕ)) → behind_kept (kept ++ more) read ≡ behind_kept kept (behind_kept more read)
kept_many kept more None = refl
kept_many kept more (Some bytes) = ap Some (append_assoc kept more bytes)

-- characters that stand for themselves are kept
pub kept_plain : (kept text : List ℕ) (n : ℕ) (told : Option (List ℕ)) → bytes_of text ≡ behind_kept (take n text) (bytes_of (drop n text)) → behind_kept kept (bytes_of text) ≡ told → behind_kept (kept ++ take n text) (bytes_of (drop n text)) ≡ told
kept_plain kept text n told plain e = kept_many kept (take n text) (bytes_of (drop n text)) ∙ ap (behind_kept kept) (sym plain) ∙ e

kept_front : (a : ℕ) (kept : List ℕ) (read : Option (List ℕ)) → behind_kept (a ∷ kept) read ≡ with_byte a (behind_kept kept read)
kept_front a kept None = refl
kept_front a kept (Some bytes) = refl

plain_step : (n : ℕ) (text : List ℕ) → n < length text → is_plain (get_or text n 0) ≡ true → behind_kept (take n text) (bytes_of (drop n text)) ≡ behind_kept (take (suc n) text) (bytes_of (drop (suc n) text))
plain_step n [] within plain = absurd (omega arith)
plain_step zero (a ∷ tail) within plain = kept_none (bytes_of (a ∷ tail)) ∙ bytes_of-plain a tail plain
plain_step (suc n) (a ∷ tail) within plain =
    kept_front a (take n tail) (bytes_of (drop n tail)) ∙ ap (with_byte a) (plain_step n tail (omega arith) plain) ∙ sym (kept_front a (take (suc n) tail) (bytes_of (drop (suc n) tail)))

-- plain characters at the front stand for themselves
pub plain_front : (count : ℕ) (text : List ℕ) → count ≤ length text → ArePlain text 0 count → bytes_of text ≡ behind_kept (take count text) (bytes_of (drop count text))
plain_front zero text within plain = sym (kept_none (bytes_of text))
plain_front (suc count) text within plain =
    plain_front count text (omega (arith, within)) (λ i from below. plain i from (omega (arith, below)))
    ∙ plain_step count text (omega (arith, within)) (plain count (omega arith) (omega arith))

-- the text of a loop that has printed all bytes
pub printed_again : (text rest bytes : List ℕ) → rest ≡ [] → ((i : ℕ) → get_or bytes i 0 < 256) → text ++ text_of rest ≡ text_of bytes → bytes_of text ≡ Some bytes
printed_again text rest bytes none fits told =
    let whole : text ≡ text_of bytes = sym (append-nil text) ∙ ap (λ (r : List ℕ). text ++ text_of r) (sym none) ∙ told in
    ap bytes_of whole ∙ bytes_again bytes fits
