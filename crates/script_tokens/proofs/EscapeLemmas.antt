-- Escapes of JSON in a string: what they stand for, and where the string goes on.
use Rattle.std.proofs.Common.{◌≡◌, ◌∙◌, ℕ, suc, ◌+◌, ◌*◌, ◌<◌, ◌≤◌, Bool, true, false, cond, eqb, leb, List, [], ◌∷◌, ◌++◌, length, drop, get_or, refl, sym, ap, subst, arith, true≢false, append_assoc}
use Rattle.std.specs.Prelude.{Option, None, Some, Result, Ok, Err, ok_or, nat_le, ◌&&◌}
use Rattle.std.specs.Char.{digit_value, encode_utf8, is_digit}
use Rattle.std.proofs.lemmas.Bool.{and_parts, lt-leb, lt-ltb, ne_eqb}
use Rattle.std.proofs.lemmas.List.{append-nil, drop-drop, drop_more}
use Rattle.json.specs.Token as tokens
use Rattle.json.specs.Text.{code_unit, content, plain, prepend, short_escape}
use Rattle.json.specs.Word.{head}
use Rattle.json.specs.Lex.{in_string, lex}
use Rattle.system_keys.specs.Text.{bytes_of, bytes_read}
use Rattle.system_keys.specs.declared.refusal.RowFault.{RowFault}
use Rattle.system_keys.specs.declared.refusal.RowFault.TheVariants.{BadText}
use Rattle.script_tokens.specs.LeftTokens.{StandsFirst, is_own_byte}
use Rattle.script_tokens.specs.Spelled.{Closes, StandsUpTo}
use Rattle.script_tokens.proofs.LexLemmas.{differs, first_is}
use Rattle.script_tokens.proofs.StringLemmas.{closes_end, closes_own, string-cons, string_first}

-- ---- one escape

content_of_short : (x c : ℕ) (xs : List ℕ) → eqb x 117 ≡ false → short_escape x ≡ Some c → content plain (92 ∷ x ∷ xs) ≡ prepend (c ∷ []) (content plain xs)
unfolding content
content_of_short x c xs other stands = rw (other, stands) refl

string_of_escape : (x : ℕ) (xs : List ℕ) → lex in_string (92 ∷ x ∷ xs) ≡ lex in_string xs
unfolding lex
string_of_escape x xs = refl

abbrev is_there : Option ℕ → Bool
is_there None = false
is_there (Some x) = true

u_is_no_short_escape : short_escape 117 ≡ None
unfolding short_escape
u_is_no_short_escape = refl

other_than_u : (x c : ℕ) → short_escape x ≡ Some c → eqb x 117 ≡ false
other_than_u x c stands = ne_eqb x 117 (λ same. true≢false (ap is_there (sym stands ∙ ap short_escape same ∙ u_is_no_short_escape)))

closes_short : (x c : ℕ) (xs inside after : List ℕ) → short_escape x ≡ Some c → Closes xs inside after → Closes (92 ∷ x ∷ xs) (c ∷ inside) after
closes_short x c xs inside after stands closes = record {
  content_is = content_of_short x c xs (other_than_u x c stands) stands ∙ ap (prepend (c ∷ [])) closes.content_is;
  goes_on = string_of_escape x xs ∙ closes.goes_on;
}

-- ---- four digits

one_byte : (u : ℕ) → u < 128 → encode_utf8 u ≡ u ∷ []
unfolding encode_utf8
one_byte u ascii = rw (lt-ltb u 128 ascii) refl

content_of_code : (a b c d u : ℕ) (xs : List ℕ) → code_unit a b c d ≡ Some u → nat_le 0xd800 u ≡ false → nat_le 0xdc00 u ≡ false → encode_utf8 u ≡ u ∷ []
    → content plain (92 ∷ 117 ∷ a ∷ b ∷ c ∷ d ∷ xs) ≡ prepend (u ∷ []) (content plain xs)
unfolding content
content_of_code a b c d u xs code high low one = rw (code, high, low, one) refl

code_of_digits : (a b c d : ℕ) → is_digit a 16 ≡ true → is_digit b 16 ≡ true → is_digit c 16 ≡ true → is_digit d 16 ≡ true
    → code_unit a b c d ≡ Some (digit_value a * 4096 + digit_value b * 256 + digit_value c * 16 + digit_value d)
unfolding code_unit
code_of_digits a b c d first second third last = rw (first, second, third, last) refl

small_sum : (v w high low : ℕ) → v ≡ high → w ≡ low → 0 * 4096 + 0 * 256 + v * 16 + w ≡ 16 * high + low
small_sum v w high low v_is w_is = omega (arith, v_is, w_is)

pub code_of_ascii : (a b c d high low : ℕ) → a ≡ 48 → b ≡ 48 → digit_value c ≡ high → digit_value d ≡ low → high < 16 → low < 16 → code_unit a b c d ≡ Some (16 * high + low)
code_of_ascii a b c d high low a_is b_is c_is d_is high_small low_small =
    let third : is_digit c 16 ≡ true = lt-ltb (digit_value c) 16 (subst (λ v. v < 16) (sym c_is) high_small) in
    let last : is_digit d 16 ≡ true = lt-ltb (digit_value d) 16 (subst (λ v. v < 16) (sym d_is) low_small) in
    ap (λ x. code_unit x b c d) a_is ∙ ap (λ x. code_unit 48 x c d) b_is ∙ code_of_digits 48 48 c d refl refl third last
    ∙ ap (λ v. Some v) (small_sum (digit_value c) (digit_value d) high low c_is d_is)

cond_is : (test : Bool) (v u : ℕ) → cond test (Some v) None ≡ Some u → test ≡ true
cond_is true v u is = refl
cond_is false v u is = absurd (true≢false (ap is_there (sym is)))

digits_of_code : (a b c d u : ℕ) → code_unit a b c d ≡ Some u → (is_digit a 16 && is_digit b 16 && is_digit c 16 && is_digit d 16) ≡ true
unfolding code_unit
digits_of_code a b c d u code = cond_is (is_digit a 16 && is_digit b 16 && is_digit c 16 && is_digit d 16) _ u code

past_digit : (x : ℕ) (xs : List ℕ) → is_digit x 16 ≡ true → lex in_string (x ∷ xs) ≡ lex in_string xs
past_digit x xs digit = string-cons x xs (differs (λ y. is_digit y 16) x 34 digit refl) (differs (λ y. is_digit y 16) x 92 digit refl)

closes_code : (a b c d u : ℕ) (xs inside after : List ℕ) → code_unit a b c d ≡ Some u → u < 128 → Closes xs inside after → Closes (92 ∷ 117 ∷ a ∷ b ∷ c ∷ d ∷ xs) (u ∷ inside) after
closes_code a b c d u xs inside after code ascii closes =
    let four = and_parts (is_digit a 16 && is_digit b 16 && is_digit c 16) (is_digit d 16) (digits_of_code a b c d u code) in
    let three = and_parts (is_digit a 16 && is_digit b 16) (is_digit c 16) four.0 in
    let two = and_parts (is_digit a 16) (is_digit b 16) three.0 in
    let no_high : nat_le 0xd800 u ≡ false = below u 0xd800 (omega (arith, ascii)) in
    let no_low : nat_le 0xdc00 u ≡ false = below u 0xdc00 (omega (arith, ascii)) in
    record {
      content_is = content_of_code a b c d u xs code no_high no_low (one_byte u ascii) ∙ ap (prepend (u ∷ [])) closes.content_is;
      goes_on = string_of_escape 117 (a ∷ b ∷ c ∷ d ∷ xs) ∙ past_digit a (b ∷ c ∷ d ∷ xs) two.0 ∙ past_digit b (c ∷ d ∷ xs) two.1 ∙ past_digit c (d ∷ xs) three.1 ∙ past_digit d xs four.1 ∙ closes.goes_on;
    }
  where
    below : (x bound : ℕ) → x < bound → leb bound x ≡ false
    below x bound less = lt-leb bound x less

-- ---- parts of a text

pub nothing_stands : (d : List ℕ) (at : ℕ) → StandsUpTo d at [] at
nothing_stands d at inside after closes = closes

pub own_stands : (d : List ℕ) (at : ℕ) → at < length d → is_own_byte (get_or d at 0) ≡ true → StandsUpTo d at (get_or d at 0 ∷ []) (at + 1)
own_stands d at within own inside after closes =
    subst (λ t. Closes t (get_or d at 0 ∷ inside) after) (sym (drop_more d at 0 within)) (closes_own (get_or d at 0) (drop (at + 1) d) inside after own closes)

one_more : (d : List ℕ) (j k : ℕ) → k ≡ j + 1 → j < length d → drop j d ≡ get_or d j 0 ∷ drop k d
one_more d j k next within = drop_more d j 0 within ∙ ap (λ n. get_or d j 0 ∷ drop n d) (sym next)

pub short_stands : (d : List ℕ) (at c : ℕ) → at + 2 ≤ length d → get_or d at 0 ≡ 92 → short_escape (get_or d (at + 1) 0) ≡ Some c → StandsUpTo d at (c ∷ []) (at + 2)
short_stands d at c within backslash stands inside after closes =
    let x = get_or d (at + 1) 0 in
    let rest = drop (at + 2) d in
    let marks : drop at d ≡ 92 ∷ x ∷ rest =
    one_more d at (at + 1) refl (omega arith) ∙ ap (λ y. y ∷ drop (at + 1) d) backslash ∙ ap (λ t. 92 ∷ t) (one_more d (at + 1) (at + 2) (omega arith) (omega arith)) in
    subst (λ t. Closes t (c ∷ inside) after) (sym marks) (closes_short x c rest inside after stands closes)

four_more : (d : List ℕ) (i : ℕ) → i + 4 ≤ length d → drop i d ≡ get_or d i 0 ∷ get_or d (i + 1) 0 ∷ get_or d (i + 2) 0 ∷ get_or d (i + 3) 0 ∷ drop (i + 4) d
four_more d i h =
    one_more d i (i + 1) refl (omega arith) ∙ ap (λ l. get_or d i 0 ∷ l) (one_more d (i + 1) (i + 2) (omega arith) (omega arith)
    ∙ ap (λ l. get_or d (i + 1) 0 ∷ l) (one_more d (i + 2) (i + 3) (omega arith) (omega arith) ∙ ap (λ l. get_or d (i + 2) 0 ∷ l) (one_more d (i + 3) (i + 4) (omega arith) (omega arith))))

pub code_stands : (d : List ℕ) (at digits u : ℕ) → digits ≡ at + 2 → at + 6 ≤ length d → get_or d at 0 ≡ 92 → get_or d (at + 1) 0 ≡ 117 → u < 128
    → code_unit (get_or d digits 0) (get_or d (digits + 1) 0) (get_or d (digits + 2) 0) (get_or d (digits + 3) 0) ≡ Some u → StandsUpTo d at (u ∷ []) (at + 6)
code_stands d at digits u there within backslash letter ascii code inside after closes =
    let a = get_or d digits 0 in
    let b = get_or d (digits + 1) 0 in
    let c = get_or d (digits + 2) 0 in
    let e = get_or d (digits + 3) 0 in
    let rest = drop (at + 6) d in
    let behind : digits + 4 ≡ at + 6 = omega (arith, there) in
    let four : drop digits d ≡ a ∷ b ∷ c ∷ e ∷ rest = four_more d digits (omega (arith, there, within)) ∙ ap (λ n. a ∷ b ∷ c ∷ e ∷ drop n d) behind in
    let marks : drop at d ≡ 92 ∷ 117 ∷ a ∷ b ∷ c ∷ e ∷ rest =
    one_more d at (at + 1) refl (omega arith) ∙ ap (λ y. y ∷ drop (at + 1) d) backslash ∙ ap (λ t. 92 ∷ t) (one_more d (at + 1) digits (omega (arith, there)) (omega arith)
    ∙ ap (λ y. y ∷ drop digits d) letter ∙ ap (λ t. 117 ∷ t) four) in
    subst (λ t. Closes t (u ∷ inside) after) (sym marks) (closes_code a b c e u rest inside after code ascii closes)

pub stands_on : (d front back : List ℕ) (from middle to : ℕ) → StandsUpTo d from front middle → StandsUpTo d middle back to → StandsUpTo d from (front ++ back) to
stands_on d front back from middle to left right inside after closes =
    subst (λ all. Closes (drop from d) all after) (sym (append_assoc front back inside)) (left (back ++ inside) after (right inside after closes))

-- up to the quote
pub stands_to_quote : (d part : List ℕ) (from to : ℕ) → StandsUpTo d from part to → head (drop to d) ≡ 34 → Closes (drop from d) part (drop (to + 1) d)
stands_to_quote d part from to stands is =
    let rest = drop (to + 1) d in
    let closed : drop to d ≡ 34 ∷ rest = first_is (drop to d) 34 is refl ∙ ap (λ t. 34 ∷ t) (drop-drop 1 to d) in
    let end : Closes (drop to d) [] rest = subst (λ t. Closes t [] rest) (sym closed) (closes_end rest) in
    subst (λ all. Closes (drop from d) all rest) (append-nil part) (stands [] rest end)

-- a whole text
pub text_there : (d : List ℕ) (start : ℕ) (inside after : List ℕ) → head (drop start d) ≡ 34 → Closes (drop (start + 1) d) inside after → StandsFirst (drop start d) (tokens.string inside) after
text_there d start inside after is closes = string_first (drop start d) inside after is (subst (λ t. Closes t inside after) (sym (drop-drop 1 start d)) closes)

-- ---- what a text of bytes spells

abbrev value_of : Result (List ℕ) RowFault → Option (List ℕ)
value_of (Ok bytes) = Some bytes
value_of (Err fault) = None

ok_or_is : (found : Option (List ℕ)) (bytes : List ℕ) (fault : RowFault) → ok_or found fault ≡ Ok bytes → found ≡ Some bytes
ok_or_is None bytes fault is = ap value_of is
ok_or_is (Some other) bytes fault is = ap value_of is

pub bytes_there : (text bytes : List ℕ) → bytes_read text ≡ Ok bytes → bytes_of text ≡ Some bytes
bytes_there text bytes is = ok_or_is (bytes_of text) bytes BadText is
