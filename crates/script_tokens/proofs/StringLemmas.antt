-- Strings: the characters up to the quote, and what they spell.
use Rattle.std.proofs.Common.{◌≡◌, ◌∙◌, ℕ, zero, suc, ◌+◌, ◌-◌, ◌<◌, ◌≤◌, Bool, true, false, not, cond, eqb, ltb, List, [], ◌∷◌, ◌++◌, length, take, drop, get_or, refl, sym, ap, subst, arith, append_assoc}
use Rattle.std.specs.Prelude.{Option, None, Some, IfSome, slice_range, ◌&&◌, ◌==◌, nat_le}
use Rattle.std.proofs.lemmas.Bool.{and_parts, le-leb, le-ltb, leb-true}
use Rattle.std.proofs.lemmas.Bool.Decides.{nat_tests}
use Rattle.std.proofs.lemmas.List.{append-nil, drop-drop, drop_more, get_or-drop, length-drop, take-append-le, take-take}
use Rattle.std.proofs.lemmas.Simd.{length-put_chunk, take_more_put_chunk}
use lib.Lanes.{chunk, put_chunk}
use Rattle.json.specs.Token as tokens
use Rattle.json.specs.Text.{content, plain, prepend, short_escape}
use Rattle.json.specs.Word.{head, is_operator, is_space}
use Rattle.json.specs.Lex.{Lexeme, token, operator, space, other, class, Mode, between, in_string, lex, lex_byte}
use Rattle.system_keys.specs.Text.{ArePlain, byte_of_hex_digits, bytes_of, is_lower_hex_digit, is_plain, with_byte}
use Rattle.script_tokens.specs.LeftTokens.{StandsFirst, is_own_byte}
use Rattle.script_tokens.specs.Spelled.{Closes, IsEscapeAt, Spells, SpellsUpTo}
use Rattle.script_tokens.proofs.LexLemmas.{differs, first_is, lex-cons}

-- ---- one character

content-cons : (x : ℕ) (xs : List ℕ) → eqb x 34 ≡ false → eqb x 92 ≡ false → ltb x 32 ≡ false → content plain (x ∷ xs) ≡ prepend (x ∷ []) (content plain xs)
unfolding content
content-cons x xs a b c = rw (a, b, c) refl

string_passes : (b c : Bool) (x : ℕ) (xs : List ℕ) (k : Mode → List Lexeme) → lex_byte in_string (cond b operator (cond c space other)) x xs k ≡ k in_string
string_passes true c x xs k = refl
string_passes false true x xs k = refl
string_passes false false x xs k = refl

pub string-cons : (x : ℕ) (xs : List ℕ) → eqb x 34 ≡ false → eqb x 92 ≡ false → lex in_string (x ∷ xs) ≡ lex in_string xs
string-cons x xs a b =
    let class_is : class x ≡ cond (is_operator x) operator (cond (is_space x) space other) = rw (a, b) refl in
    lex-cons in_string x xs ∙ ap (λ c. lex_byte in_string c x xs (λ next. lex next xs)) class_is ∙ string_passes (is_operator x) (is_space x) x xs (λ next. lex next xs)

no_control : (x : ℕ) → is_own_byte x ≡ true → ltb x 32 ≡ false
no_control x own =
    let parts = and_parts (nat_le 32 x && not (x == 34)) (not (x == 92)) own in
    let more = and_parts (nat_le 32 x) (not (x == 34)) parts.0 in
    le-ltb x 32 (leb-true 32 x more.0)

pub closes_own : (x : ℕ) (xs inside after : List ℕ) → is_own_byte x ≡ true → Closes xs inside after → Closes (x ∷ xs) (x ∷ inside) after
closes_own x xs inside after own closes =
    let no_quote = differs is_own_byte x 34 own refl in
    let no_backslash = differs is_own_byte x 92 own refl in
    record {
      content_is = content-cons x xs no_quote no_backslash (no_control x own) ∙ ap (prepend (x ∷ [])) closes.content_is;
      goes_on = string-cons x xs no_quote no_backslash ∙ closes.goes_on;
    }

pub closes_end : (xs : List ℕ) → Closes (34 ∷ xs) [] xs
unfolding content lex
closes_end xs = record { content_is = refl; goes_on = refl }

content_of_backslashes : (xs : List ℕ) → content plain (92 ∷ 92 ∷ xs) ≡ prepend (92 ∷ []) (content plain xs)
unfolding content short_escape
content_of_backslashes xs = refl

string_of_backslashes : (xs : List ℕ) → lex in_string (92 ∷ 92 ∷ xs) ≡ lex in_string xs
unfolding lex
string_of_backslashes xs = refl

closes_backslashes : (xs inside after : List ℕ) → Closes xs inside after → Closes (92 ∷ 92 ∷ xs) (92 ∷ inside) after
closes_backslashes xs inside after closes = record {
  content_is = content_of_backslashes xs ∙ ap (prepend (92 ∷ [])) closes.content_is;
  goes_on = string_of_backslashes xs ∙ closes.goes_on;
}

-- ---- a whole string

string_lexed : (rest : List ℕ) (inside after : List ℕ) → Closes rest inside after → lex between (34 ∷ rest) ≡ token (tokens.string inside) ∷ lex between after
unfolding lex
string_lexed rest inside after closes = rw (closes.content_is, closes.goes_on) refl

pub string_first : (t inside after : List ℕ) → head t ≡ 34 → Closes (drop 1 t) inside after → StandsFirst t (tokens.string inside) after
string_first t inside after is closes = ap (lex between) (first_is t 34 is refl) ∙ string_lexed (drop 1 t) inside after closes

closes_run : (n : ℕ) (xs : List ℕ) → n < length xs → ((i : ℕ) → i < n → is_own_byte (get_or xs i 0) ≡ true) → get_or xs n 0 ≡ 34 → Closes xs (take n xs) (drop (suc n) xs)
closes_run n [] within own closed = absurd (omega arith)
closes_run zero (x ∷ xs) within own closed = subst (λ y. Closes (y ∷ xs) [] xs) (sym closed) (closes_end xs)
closes_run (suc n) (x ∷ xs) within own closed =
    closes_own x xs (take n xs) (drop (suc n) xs) (own 0 (omega arith)) (closes_run n xs (omega (arith, within)) (λ i below. own (suc i) (omega (arith, below))) closed)

-- a text without escapes, between two quotes
pub text_first : (d : List ℕ) (start end : ℕ) → head (drop start d) ≡ 34 → start + 1 ≤ end → end < length d
    → ((i : ℕ) → start + 1 ≤ i → i < end → is_own_byte (get_or d i 0) ≡ true) → get_or d end 0 ≡ 34
    → StandsFirst (drop start d) (tokens.string (slice_range d (start + 1) end)) (drop (end + 1) d)
text_first d start end opened some within own closed =
    let n = end - (start + 1) in
    let xs = drop (start + 1) d in
    let there : start + 1 + n ≡ end = omega arith in
    let behind : start + 1 + suc n ≡ end + 1 = omega arith in
    let run = closes_run n xs (omega (arith, length-drop (start + 1) d))
    (λ i below. ap is_own_byte (get_or-drop (start + 1) d i 0) ∙ own (start + 1 + i) (omega arith) (omega (arith, below)))
    (get_or-drop (start + 1) d n 0 ∙ ap (λ k. get_or d k 0) there ∙ closed) in
    let after : drop (suc n) xs ≡ drop (end + 1) d = drop-drop (suc n) (start + 1) d ∙ ap (λ k. drop k d) behind in
    let whole : Closes xs (take n xs) (drop (end + 1) d) = subst (Closes xs (take n xs)) after run in
    string_first (drop start d) (take n xs) (drop (end + 1) d) opened (subst (λ t. Closes t (take n xs) (drop (end + 1) d)) (sym (drop-drop 1 start d)) whole)

-- ---- characters that stand for bytes

own_of_plain : (x : ℕ) → is_plain x ≡ true → is_own_byte x ≡ true
own_of_plain x h =
    let parts = and_parts (nat_le 33 x && nat_le x 126 && not (x == 34)) (not (x == 92)) h in
    let more = and_parts (nat_le 33 x && nat_le x 126) (not (x == 34)) parts.0 in
    let low = and_parts (nat_le 33 x) (nat_le x 126) more.0 in
    let above = leb-true 33 x low.0 in
    rw (le-leb 32 x (omega (arith, above)), more.1, parts.1) refl

bytes_of-cons : (a : ℕ) (tail : List ℕ) → is_plain a ≡ true → bytes_of (a ∷ tail) ≡ with_byte a (bytes_of tail)
unfolding bytes_of
bytes_of-cons a [] h = rw h refl
bytes_of-cons a (b ∷ []) h = rw h refl
bytes_of-cons a (b ∷ c ∷ []) h = rw h refl
bytes_of-cons a (b ∷ c ∷ d ∷ rest) h = rw h refl

bytes_of-escape : (c d : ℕ) (rest : List ℕ) → is_lower_hex_digit c ≡ true → is_lower_hex_digit d ≡ true → is_plain (byte_of_hex_digits c d) ≡ false
    → bytes_of (92 ∷ 120 ∷ c ∷ d ∷ rest) ≡ with_byte (byte_of_hex_digits c d) (bytes_of rest)
unfolding bytes_of
bytes_of-escape c d rest high low rare = rw (high, low, rare) refl

bytes_of-nil : bytes_of [] ≡ Some []
unfolding bytes_of
bytes_of-nil = refl

spells_plain : (x : ℕ) (xs bytes after : List ℕ) → is_plain x ≡ true → Spells xs bytes after → Spells (x ∷ xs) (x ∷ bytes) after
spells_plain x xs bytes after h spells =
    (x ∷ spells.0, closes_own x xs spells.0 after (own_of_plain x h) spells.1, bytes_of-cons x spells.0 h ∙ ap (with_byte x) spells.2)

spells_run : (n : ℕ) (xs bytes after : List ℕ) → n ≤ length xs → ((i : ℕ) → i < n → is_plain (get_or xs i 0) ≡ true) → Spells (drop n xs) bytes after → Spells xs (take n xs ++ bytes) after
spells_run zero xs bytes after within own spells = spells
spells_run (suc n) [] bytes after within own spells = absurd (omega arith)
spells_run (suc n) (x ∷ xs) bytes after within own spells =
    spells_plain x xs (take n xs ++ bytes) after (own 0 (omega arith)) (spells_run n xs bytes after (omega (arith, within)) (λ i below. own (suc i) (omega (arith, below))) spells)

own_of_digit : (x : ℕ) → is_lower_hex_digit x ≡ true → is_own_byte x ≡ true
own_of_digit x h = grind (arith, nat_tests)

spells_escape : (h l : ℕ) (xs bytes after : List ℕ) → is_lower_hex_digit h ≡ true → is_lower_hex_digit l ≡ true → is_plain (byte_of_hex_digits h l) ≡ false
    → Spells xs bytes after → Spells (92 ∷ 92 ∷ 120 ∷ h ∷ l ∷ xs) (byte_of_hex_digits h l ∷ bytes) after
spells_escape h l xs bytes after high low rare spells =
    let inside = spells.0 in
    let two = closes_own h (l ∷ xs) (l ∷ inside) after (own_of_digit h high) (closes_own l xs inside after (own_of_digit l low) spells.1) in (
      92 ∷ 120 ∷ h ∷ l ∷ inside,
      closes_backslashes (120 ∷ h ∷ l ∷ xs) (120 ∷ h ∷ l ∷ inside) after (closes_own 120 (h ∷ l ∷ xs) (h ∷ l ∷ inside) after refl two),
      bytes_of-escape h l inside high low rare ∙ ap (with_byte (byte_of_hex_digits h l)) spells.2,
    )

-- ---- parts of a text

pub nothing_spelled : (d : List ℕ) (at : ℕ) → SpellsUpTo d at [] at
nothing_spelled d at bytes after spells = spells

pub plain_spelled : (d : List ℕ) (from to : ℕ) → from ≤ to → to ≤ length d → ArePlain d from to → SpellsUpTo d from (slice_range d from to) to
plain_spelled d from to ordered within own bytes after spells =
    let there : from + (to - from) ≡ to = omega arith in
    let rest = drop-drop (to - from) from d ∙ ap (λ k. drop k d) there in
    spells_run (to - from) (drop from d) bytes after (omega (arith, length-drop from d))
    (λ i below. ap is_plain (get_or-drop from d i 0) ∙ own (from + i) (omega arith) (omega (arith, below)))
    (subst (λ t. Spells t bytes after) (sym rest) spells)

pub front_spelled : (d : List ℕ) (at n : ℕ) → n ≤ length (drop at d) → ArePlain (drop at d) 0 n → SpellsUpTo d at (take n (drop at d)) (at + n)
front_spelled d at n within own bytes after spells =
    spells_run n (drop at d) bytes after within (λ i below. own i (omega arith) below) (subst (λ t. Spells t bytes after) (sym (drop-drop n at d)) spells)

five : (d : List ℕ) (i : ℕ) → i + 5 ≤ length d → drop i d ≡ get_or d i 0 ∷ get_or d (i + 1) 0 ∷ get_or d (i + 2) 0 ∷ get_or d (i + 3) 0 ∷ get_or d (i + 4) 0 ∷ drop (i + 5) d
five d i h =
    let more : (j k : ℕ) → k ≡ j + 1 → j < length d → drop j d ≡ get_or d j 0 ∷ drop k d = λ j k e l. drop_more d j 0 l ∙ ap (λ n. get_or d j 0 ∷ drop n d) (sym e) in
    more i (i + 1) refl (omega arith) ∙ ap (λ l. get_or d i 0 ∷ l) (more (i + 1) (i + 2) (omega arith) (omega arith) ∙ ap (λ l. get_or d (i + 1) 0 ∷ l)
    (more (i + 2) (i + 3) (omega arith) (omega arith) ∙ ap (λ l. get_or d (i + 2) 0 ∷ l) (more (i + 3) (i + 4) (omega arith) (omega arith)
    ∙ ap (λ l. get_or d (i + 3) 0 ∷ l) (more (i + 4) (i + 5) (omega arith) (omega arith)))))

pub escape_spelled : (d : List ℕ) (at byte : ℕ) → at + 5 ≤ length d → IsEscapeAt d at byte → SpellsUpTo d at (byte ∷ []) (at + 5)
escape_spelled d at byte within escape bytes after spells =
    let h = get_or d (at + 3) 0 in
    let l = get_or d (at + 4) 0 in
    let rest = drop (at + 5) d in
    let marks : 92 ∷ 92 ∷ 120 ∷ h ∷ l ∷ rest ≡ drop at d =
    sym (five d at within ∙ ap (λ x. x ∷ get_or d (at + 1) 0 ∷ get_or d (at + 2) 0 ∷ h ∷ l ∷ rest) escape.marks.first
    ∙ ap (λ x. 92 ∷ x ∷ get_or d (at + 2) 0 ∷ h ∷ l ∷ rest) escape.marks.second ∙ ap (λ x. 92 ∷ 92 ∷ x ∷ h ∷ l ∷ rest) escape.marks.letter) in
    let rare : is_plain (byte_of_hex_digits h l) ≡ false = ap is_plain (sym escape.byte_is) ∙ escape.other in
    subst (λ t. Spells t (byte ∷ bytes) after) marks
    (subst (λ b. Spells (92 ∷ 92 ∷ 120 ∷ h ∷ l ∷ rest) (b ∷ bytes) after) (sym escape.byte_is) (spells_escape h l rest bytes after escape.high escape.low rare spells))

pub spelled_on : (d front back : List ℕ) (from middle to : ℕ) → SpellsUpTo d from front middle → SpellsUpTo d middle back to → SpellsUpTo d from (front ++ back) to
spelled_on d front back from middle to left right bytes after spells =
    subst (λ all. Spells (drop from d) all after) (sym (append_assoc front back bytes)) (left (back ++ bytes) after (right bytes after spells))

-- up to the quote
pub spelled_to_quote : (d part : List ℕ) (from to : ℕ) → SpellsUpTo d from part to → head (drop to d) ≡ 34 → Spells (drop from d) part (drop (to + 1) d)
spelled_to_quote d part from to part_spelled is =
    let rest = drop (to + 1) d in
    let closed : drop to d ≡ 34 ∷ rest = first_is (drop to d) 34 is refl ∙ ap (λ t. 34 ∷ t) (drop-drop 1 to d) in
    let end : Spells (drop to d) [] rest = subst (λ t. Spells t [] rest) (sym closed) ([], closes_end rest, bytes_of-nil) in
    subst (λ all. Spells (drop from d) all rest) (append-nil part) (part_spelled [] rest end)

-- a whole text of bytes
pub byte_text_first : (d : List ℕ) (start : ℕ) (bytes after : List ℕ) → head (drop start d) ≡ 34 → Spells (drop (start + 1) d) bytes after
    → (inside : List ℕ) × StandsFirst (drop start d) (tokens.string inside) after × (bytes_of inside ≡ Some bytes)
byte_text_first d start bytes after is spells =
    (spells.0, string_first (drop start d) spells.0 after is (subst (λ t. Closes t spells.0 after) (sym (drop-drop 1 start d)) spells.1), spells.2)

pub byte_text_if_some : (d : List ℕ) (start : ℕ) (r : Option (List ℕ × ℕ)) → head (drop start d) ≡ 34 → IfSome r (λ found. Spells (drop (start + 1) d) found.0 (drop found.1 d))
    → IfSome r (λ found. (inside : List ℕ) × StandsFirst (drop start d) (tokens.string inside) (drop found.1 d) × (bytes_of inside ≡ Some found.0))
byte_text_if_some d start None is spells = tt
byte_text_if_some d start (Some found) is spells = byte_text_first d start found.0 (drop found.1 d) is spells

-- ---- characters that are written sixteen at once

take-append-add : (xs ys : List ℕ) (n : ℕ) → take (length xs + n) (xs ++ ys) ≡ xs ++ take n ys
take-append-add [] ys n = let e : 0 + n ≡ n = omega arith in ap (λ k. take k ys) e
take-append-add (x ∷ xs) ys n =
    let e : suc (length xs) + n ≡ suc (length xs + n) = omega arith in
    ap (λ k. take k (x ∷ (xs ++ ys))) e ∙ ap (λ l. x ∷ l) (take-append-add xs ys n)

-- sixteen are written behind those that are kept, and only the first `run` of them are kept
pub kept_front : (front middle back v : List ℕ) (count run : ℕ) → length front ≡ count → length v ≡ 16 → 16 ≤ length middle → run ≤ 16
    → take (count + run) (front ++ (put_chunk 0 middle v ++ back)) ≡ front ++ take run v
kept_front front middle back v count run kept long room few =
    let written = put_chunk 0 middle v in
    let whole : take 16 written ≡ v = take_more_put_chunk 0 middle v 16 (omega (arith, long)) room in
    ap (λ k. take (k + run) (front ++ (written ++ back))) (sym kept) ∙ take-append-add front (written ++ back) run
    ∙ ap (λ t. front ++ t) (take-append-le run written back (omega (arith, length-put_chunk 0 middle v)) ∙ sym (take-take run 16 written few) ∙ ap (take run) whole)

pub run_is : (d : List ℕ) (at run : ℕ) → run ≤ 16 → take run (chunk at 16 d) ≡ slice_range d at (at + run)
run_is d at run few =
    let back : at + run - at ≡ run = omega arith in
    take-take run 16 (drop at d) few ∙ ap (λ k. take k (drop at d)) (sym back)
