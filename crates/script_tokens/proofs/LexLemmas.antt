-- What stands first in a text, by its first bytes.
use Rattle.std.proofs.Common.{◌≡◌, ◌∙◌, ℕ, ◌+◌, ◌<◌, ◌≤◌, Bool, true, false, cond, ◌||◌, eqb, List, [], ◌∷◌, length, drop, get_or, refl, sym, ap, subst, true≢false, inl, inr, ◌⊎◌, add-zero, lt_of_not-le}
use Rattle.std.proofs.lemmas.Bool.{ne_eqb, eqb-true}
use Rattle.std.specs.Prelude.{◌==◌}
use Rattle.std.proofs.lemmas.List.{drop-drop, drop_all, drop_more, get_or-drop, get_or_default, get_or_past}
use Rattle.json.specs.Token.{Token}
use Rattle.json.specs.Token as tokens
use Rattle.json.specs.Word.{head, is_operator, is_space}
use Rattle.json.specs.Lex.{comma, colon, Class, operator, space, other, class, Mode, between, in_word, lex, lex_byte, begins_colon, operator_lexeme}
use Rattle.script_tokens.specs.LeftTokens.{StandsFirst, ends_value}

-- ---- a byte that passes a test differs from one that does not

pub differs : (p : ℕ → Bool) (x y : ℕ) → p x ≡ true → p y ≡ false → eqb x y ≡ false
differs p x y passes fails = ne_eqb x y (λ same. true≢false (sym passes ∙ ap p same ∙ fails))

-- ---- the first byte

pub first_is : (t : List ℕ) (byte : ℕ) → head t ≡ byte → eqb 32 byte ≡ false → t ≡ byte ∷ drop 1 t
first_is [] byte is apart = let same : eqb 32 32 ≡ eqb 32 byte = ap (eqb 32) is in absurd (true≢false (same ∙ apart))
first_is (x ∷ xs) byte is apart = ap (λ y. y ∷ xs) is

pub lex-nil : (m : Mode) → lex m [] ≡ []
unfolding lex
lex-nil m = refl

pub lex-cons : (m : Mode) (x : ℕ) (xs : List ℕ) → lex m (x ∷ xs) ≡ lex_byte m (class x) x xs (λ next. lex next xs)
unfolding lex
lex-cons m x xs = refl

-- ---- spaces

or_is : (a b : Bool) → a || b ≡ true → (a ≡ true) ⊎ (b ≡ true)
or_is true b is = inl refl
or_is false b is = inr is

class_of_space : (x : ℕ) → is_space x ≡ true → class x ≡ space
class_of_space x is =
    rw (
      differs is_space x 34 is refl,
      differs is_space x 92 is refl,
      differs is_space x 123 is refl,
      differs is_space x 125 is refl,
      differs is_space x 91 is refl,
      differs is_space x 93 is refl,
      differs is_space x 58 is refl,
      differs is_space x 44 is refl,
      is,
    ) refl

pub past_space : (d : List ℕ) (i : ℕ) → i < length d → is_space (get_or d i 0) ≡ true → lex between (drop (i + 1) d) ≡ lex between (drop i d)
past_space d i within is =
    let x = get_or d i 0 in
    let rest = drop (i + 1) d in
    sym (ap (lex between) (drop_more d i 0 within) ∙ lex-cons between x rest ∙ ap (λ c. lex_byte between c x rest (λ next. lex next rest)) (class_of_space x is))

-- ---- operators

operator_at : (d : List ℕ) (i byte : ℕ) → head (drop i d) ≡ byte → eqb 32 byte ≡ false → class byte ≡ operator → lex between (drop i d) ≡ operator_lexeme byte ∷ lex between (drop (i + 1) d)
operator_at d i byte is apart op =
    let rest = drop 1 (drop i d) in
    ap (lex between) (first_is (drop i d) byte is apart) ∙ lex-cons between byte rest ∙ ap (λ c. lex_byte between c byte rest (λ next. lex next rest)) op
    ∙ ap (λ t. operator_lexeme byte ∷ lex between t) (drop-drop 1 i d)

pub begin_array_at : (d : List ℕ) (i : ℕ) → head (drop i d) ≡ 91 → StandsFirst (drop i d) tokens.begin_array (drop (i + 1) d)
begin_array_at d i is = operator_at d i 91 is refl refl

pub end_array_at : (d : List ℕ) (i : ℕ) → head (drop i d) ≡ 93 → StandsFirst (drop i d) tokens.end_array (drop (i + 1) d)
end_array_at d i is = operator_at d i 93 is refl refl

pub begin_object_at : (d : List ℕ) (i : ℕ) → head (drop i d) ≡ 123 → StandsFirst (drop i d) tokens.begin_object (drop (i + 1) d)
begin_object_at d i is = operator_at d i 123 is refl refl

pub end_object_at : (d : List ℕ) (i : ℕ) → head (drop i d) ≡ 125 → StandsFirst (drop i d) tokens.end_object (drop (i + 1) d)
end_object_at d i is = operator_at d i 125 is refl refl

pub comma_at : (d : List ℕ) (i : ℕ) → head (drop i d) ≡ 44 → lex between (drop i d) ≡ comma ∷ lex between (drop (i + 1) d)
comma_at d i is = operator_at d i 44 is refl refl

pub colon_at : (d : List ℕ) (i : ℕ) → head (drop i d) ≡ 58 → lex between (drop i d) ≡ colon ∷ lex between (drop (i + 1) d)
colon_at d i is = operator_at d i 58 is refl refl

pub no_colon_at : (d : List ℕ) (i : ℕ) → ends_value (head (drop i d)) ≡ true → begins_colon (lex between (drop i d)) ≡ false
no_colon_at d i is =
    let x = head (drop i d) in
    elim (or_is ((x == 44) || (x == 93)) (x == 125) is) [
      | inl early ↦ elim (or_is (x == 44) (x == 93) early) [
        | inl e ↦ ap begins_colon (comma_at d i (eqb-true x 44 e))
        | inr e ↦ ap begins_colon (end_array_at d i (eqb-true x 93 e))
      ]
      | inr e ↦ ap begins_colon (end_object_at d i (eqb-true x 125 e))
    ]

pub nothing_at : (d : List ℕ) (i : ℕ) → length d ≤ i → lex between (drop i d) ≡ []
nothing_at d i past = ap (lex between) (drop_all i d past) ∙ lex-nil between

-- ---- the end of a word

abbrev pub ends : ℕ → Bool
ends x = is_operator x || is_space x

class_of_end : (x : ℕ) → ends x ≡ true → (class x ≡ operator) ⊎ (class x ≡ space)
class_of_end x is = by_test (is_operator x) refl
  where
    class_is : class x ≡ cond (is_operator x) operator (cond (is_space x) space other)
    class_is = rw (differs ends x 34 is refl, differs ends x 92 is refl) refl

    by_test : (b : Bool) → is_operator x ≡ b → (class x ≡ operator) ⊎ (class x ≡ space)
    by_test true op = inl (class_is ∙ ap (λ b. cond b operator (cond (is_space x) space other)) op)
    by_test false op = inr (class_is ∙ ap (λ b. cond b operator (cond (is_space x) space other)) op ∙ ap (λ b. cond b space other) (sym (ap (λ b. b || is_space x) op) ∙ is))

-- in front of a byte that ends a word, the word and the space between words are alike
pub word_ends : (t : List ℕ) → ends (head t) ≡ true → lex in_word t ≡ lex between t
word_ends [] is = lex-nil in_word ∙ sym (lex-nil between)
word_ends (x ∷ xs) is =
    let same = λ (c : Class). lex_byte in_word c x xs (λ next. lex next xs) ≡ lex_byte between c x xs (λ next. lex next xs) in
    lex-cons in_word x xs ∙ elim (class_of_end x is) [ inl op ↦ subst same (sym op) refl | inr sp ↦ subst same (sym sp) refl ] ∙ sym (lex-cons between x xs)

-- a byte that is no space stands in the text
pub byte_there : (d : List ℕ) (i byte : ℕ) → head (drop i d) ≡ byte → (byte ≡ 32 → ⊥) → (i < length d) × (get_or d i 0 ≡ byte)
byte_there d i byte is apart =
    let here : get_or d i 32 ≡ byte = ap (λ k. get_or d k 32) (sym (add-zero i)) ∙ sym (get_or-drop i d 0 32) ∙ is in
    let within : i < length d = lt_of_not-le (λ past. apart (sym here ∙ get_or_past d i 32 past)) in
    (within, get_or_default d i 0 32 within ∙ here)
