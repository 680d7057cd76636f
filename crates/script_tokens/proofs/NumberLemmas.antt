-- Numbers of digits alone, and the words for truth.
use Rattle.std.proofs.Common.{◌≡◌, ◌∙◌, ℕ, zero, suc, ◌+◌, ◌-◌, ◌*◌, ◌^◌, ◌<◌, ◌≤◌, Bool, true, false, cond, eqb, List, [], ◌∷◌, ◌++◌, length, take, drop, get_or, refl, sym, ap, arith, true≢false, add-zero}
use Rattle.std.specs.Prelude.{Some, option_and_then, nat_eq}
use Rattle.std.specs.Char.{digit_value, is_ascii_digit}
use Rattle.std.specs.List.{prefix_len, starts_with}
use Rattle.std.specs.Str.Parse.{AllDigits, digits_value}
use Rattle.std.proofs.lemmas.Bool.{and_parts, eqb-true, le-leb, le-ltb, lt-ltb, ne_eqb}
use Rattle.std.proofs.lemmas.List.{append-nil, get_or-drop, get_or_default, length-drop}
use Rattle.std.proofs.lemmas.List.Sums.{prefix_len_is}
use Rattle.std.proofs.lemmas.Int.Digits.{digits_more, digits_value_more}
use Rattle.std.proofs.lemmas.Str.Parse.{digit_from_value}
use Rattle.fast_float.specs.Text.{Parts, scan, IsWellFormed}
use Rattle.fast_float.proofs.Writing.{scan-text_of}
use Rattle.json.specs.Token as tokens
use Rattle.json.specs.Word.{head, word, after_exponent, after_fraction, after_minus, after_number, after_whole, number_before}
use Rattle.json.specs.Lex.{token, other, class, between, in_word, lex, lex_byte}
use Rattle.serde_json.specs.Data.{unsigned}
use Rattle.serde_json.specs.Read.{number_of}
use Rattle.script_tokens.specs.LeftTokens.{StandsFirst}
use Rattle.script_tokens.proofs.LexLemmas.{differs, ends, lex-cons, word_ends}

-- ---- what digits are worth

no_minus : (d : ℕ) → digit_value d < 10 → eqb d 45 ≡ false
no_minus d digit = let range = digit_from_value d digit in ne_eqb d 45 (λ e. omega (arith, range.0))

abbrev digits_alone : List ℕ → Parts
digits_alone ds = record { whole = ds; point = false; fraction = []; exponent_negative = false; exponent = []; len = length (ds ++ []) }

scanned : (ds : List ℕ) → AllDigits 10 ds → scan ds ≡ digits_alone ds
scanned ds digits =
    let formed : IsWellFormed (digits_alone ds) = record { whole_digits = digits; fraction_digits = tt; exponent_digits = tt; no_point = λ _. refl; no_exponent = λ _. refl; len_is = refl } in
    ap scan (sym (append-nil ds)) ∙ scan-text_of (digits_alone ds) formed

pub number_of_digits : (ds : List ℕ) → AllDigits 10 ds → 0 < length ds → digits_value 10 ds < 2 ^ 64 → number_of ds ≡ Some (unsigned (digits_value 10 ds))
unfolding number_of
number_of_digits [] digits some small = absurd (omega arith)
number_of_digits (d ∷ ds) digits some small =
    let alone = append-nil ds in
    rw (no_minus d digits.0, scanned (d ∷ ds) digits, alone, lt-ltb 0 (length (d ∷ ds)) some, lt-ltb (digits_value 10 (d ∷ ds)) (2 ^ 64) small) refl

-- ---- how many digits stand in front

digits_pass : (ds : List ℕ) (k : ℕ) → AllDigits 10 ds → k < length ds → is_ascii_digit (get_or ds k 0) ≡ true
digits_pass [] k digits below = absurd (omega arith)
digits_pass (d ∷ ds) zero digits below = let range = digit_from_value d digits.0 in rw (le-leb 48 d range.0, le-leb d 57 range.1) refl
digits_pass (d ∷ ds) (suc k) digits below = digits_pass ds k digits.1 (omega (arith, below))

abbrev EndsAfter : List ℕ → ℕ → Type 0
EndsAfter t n = ends (head (drop n t)) ≡ true

-- digits of a text, and behind them what ends a word
pub record IsDigitsFirst (t : List ℕ) (n : ℕ) : Type 0 where
  pub within : n ≤ length t
  pub some : 0 < n
  pub digits : AllDigits 10 (take n t)
  pub no_zero : head t ≡ 48 → n ≡ 1
  pub ended : EndsAfter t n

get_or-take : (n : ℕ) (t : List ℕ) (k : ℕ) → k < n → get_or (take n t) k 0 ≡ get_or t k 0
get_or-take zero t k below = absurd (omega arith)
get_or-take (suc n) [] k below = refl
get_or-take (suc n) (x ∷ xs) zero below = refl
get_or-take (suc n) (x ∷ xs) (suc k) below = get_or-take n xs k (omega (arith, below))

length-take-within : (n : ℕ) (t : List ℕ) → n ≤ length t → length (take n t) ≡ n
length-take-within zero t within = refl
length-take-within (suc n) [] within = absurd (omega arith)
length-take-within (suc n) (x ∷ xs) within = let rest = length-take-within n xs (omega (arith, within)) in omega (arith, rest)

digit_at : (t : List ℕ) (n k : ℕ) → IsDigitsFirst t n → k < n → is_ascii_digit (get_or t k 0) ≡ true
digit_at t n k first below =
    ap is_ascii_digit (sym (get_or-take n t k below)) ∙ digits_pass (take n t) k first.digits (omega (arith, length-take-within n t first.within))

false_of : (a : Bool) → (a ≡ true → ⊥) → a ≡ false
false_of true never = absurd (never refl)
false_of false never = refl

digit_ends_nothing : (x : ℕ) → is_ascii_digit x ≡ true → ends x ≡ false
digit_ends_nothing x digit =
    let apart : (y : ℕ) → is_ascii_digit y ≡ false → eqb x y ≡ false = λ y no. differs is_ascii_digit x y digit no in
    rw (apart 123 refl, apart 125 refl, apart 91 refl, apart 93 refl, apart 58 refl, apart 44 refl, apart 32 refl, apart 9 refl, apart 10 refl, apart 13 refl) refl

no_digit : (x : ℕ) → ends x ≡ true → is_ascii_digit x ≡ false
no_digit x end = false_of (is_ascii_digit x) (λ digit. true≢false (sym end ∙ digit_ends_nothing x digit))

class_of_digit : (x : ℕ) → is_ascii_digit x ≡ true → class x ≡ other
class_of_digit x digit =
    let apart : (y : ℕ) → is_ascii_digit y ≡ false → eqb x y ≡ false = λ y no. differs is_ascii_digit x y digit no in
    rw (apart 34 refl, apart 92 refl, apart 123 refl, apart 125 refl, apart 91 refl, apart 93 refl, apart 58 refl, apart 44 refl, apart 32 refl, apart 9 refl, apart 10 refl, apart 13 refl) refl

digits_count : (t : List ℕ) (n : ℕ) → IsDigitsFirst t n → prefix_len is_ascii_digit t ≡ n
digits_count t n first =
    prefix_len_is is_ascii_digit t n 0 first.within (λ k below. digit_at t n k first below)
    (λ more. ap is_ascii_digit (sym (get_or-drop n t 0 32 ∙ ap (λ k. get_or t k 32) (add-zero n) ∙ get_or_default t n 32 0 more)) ∙ no_digit (head (drop n t)) first.ended)

-- ---- the token of digits

first_digit : (t : List ℕ) (n : ℕ) → IsDigitsFirst t n → is_ascii_digit (head t) ≡ true
first_digit t n first = ap is_ascii_digit (get_or_default t 0 32 0 (omega (arith, first.within, first.some))) ∙ digit_at t n 0 first first.some

after_whole_is : (t : List ℕ) (n : ℕ) → IsDigitsFirst t n → after_whole t ≡ Some (drop n t)
after_whole_is t n first = by_test (eqb (head t) 48) refl
  where
    by_test : (b : Bool) → eqb (head t) 48 ≡ b → after_whole t ≡ Some (drop n t)
    by_test true zero_first = rw zero_first (ap (λ k. Some (drop k t)) (sym (first.no_zero (eqb-true (head t) 48 zero_first))))
    by_test false other_first =
        let some : eqb n 0 ≡ false = ne_eqb n 0 (λ none. omega (arith, first.some, none)) in
        rw (other_first, digits_count t n first, some) refl

after_number_is : (t : List ℕ) (n : ℕ) → IsDigitsFirst t n → after_number t ≡ Some (drop n t)
unfolding after_number
after_number_is t n first =
    let r = drop n t in
    let minus = differs is_ascii_digit (head t) 45 (first_digit t n first) refl in
    let dot = differs ends (head r) 46 first.ended refl in
    let lower = differs ends (head r) 101 first.ended refl in
    let upper = differs ends (head r) 69 first.ended refl in
    let unsigned : after_minus t ≡ t = rw minus refl in
    let fraction : after_fraction r ≡ Some r = rw dot refl in
    let exponent : after_exponent r ≡ Some r = rw (lower, upper) refl in
    ap (λ s. option_and_then after_exponent (option_and_then after_fraction (after_whole s))) unsigned
    ∙ ap (λ o. option_and_then after_exponent (option_and_then after_fraction o)) (after_whole_is t n first)
    ∙ ap (option_and_then after_exponent) fraction ∙ exponent

word_of_digits : (t : List ℕ) (n : ℕ) → IsDigitsFirst t n → word t ≡ tokens.number (take n t)
unfolding word
word_of_digits t n first =
    let digit = first_digit t n first in
    let count : length t - length (drop n t) ≡ n = omega (arith, length-drop n t, first.within) in
    rw (differs is_ascii_digit (head t) 116 digit refl, differs is_ascii_digit (head t) 102 digit refl, differs is_ascii_digit (head t) 110 digit refl)
    (ap (number_before t) (after_number_is t n first) ∙ ap (λ b. cond b (tokens.number (take (length t - length (drop n t)) t)) tokens.bad) first.ended ∙ ap (λ k. tokens.number (take k t)) count)

digits_passed : (n : ℕ) (t : List ℕ) → n ≤ length t → ((k : ℕ) → k < n → is_ascii_digit (get_or t k 0) ≡ true) → lex in_word t ≡ lex in_word (drop n t)
digits_passed zero t within digits = refl
digits_passed (suc n) [] within digits = absurd (omega arith)
digits_passed (suc n) (x ∷ xs) within digits =
    lex-cons in_word x xs ∙ ap (λ c. lex_byte in_word c x xs (λ next. lex next xs)) (class_of_digit x (digits 0 (omega arith)))
    ∙ digits_passed n xs (omega (arith, within)) (λ k below. digits (suc k) (omega (arith, below)))

digits_lexed : (t : List ℕ) (n : ℕ) → IsDigitsFirst t n → lex between t ≡ token (word t) ∷ lex between (drop n t)
digits_lexed t zero first = absurd (omega (arith, first.some))
digits_lexed [] (suc n) first = absurd (omega (arith, first.within))
digits_lexed (x ∷ xs) (suc n) first =
    lex-cons between x xs ∙ ap (λ c. lex_byte between c x xs (λ next. lex next xs)) (class_of_digit x (digit_at (x ∷ xs) (suc n) 0 first (omega arith)))
    ∙ ap (λ ls. token (word (x ∷ xs)) ∷ ls)
    (digits_passed n xs (omega (arith, first.within)) (λ k below. digit_at (x ∷ xs) (suc n) (suc k) first (omega (arith, below))) ∙ word_ends (drop n xs) first.ended)

pub number_first : (t : List ℕ) (n : ℕ) → IsDigitsFirst t n → StandsFirst t (tokens.number (take n t)) (drop n t)
number_first t n first = digits_lexed t n first ∙ ap (λ w. token w ∷ lex between (drop n t)) (word_of_digits t n first)

pub number_value : (t : List ℕ) (n : ℕ) → IsDigitsFirst t n → digits_value 10 (take n t) < 10 ^ 19 → number_of (take n t) ≡ Some (unsigned (digits_value 10 (take n t)))
number_value t n first small = number_of_digits (take n t) first.digits (omega (arith, length-take-within n t first.within, first.some)) (omega (arith, small))

-- ---- the words for truth

true_lexed : (r : List ℕ) → ends (head r) ≡ true → lex between (116 ∷ 114 ∷ 117 ∷ 101 ∷ r) ≡ token (tokens.boolean true) ∷ lex between r
unfolding lex word
true_lexed r end = rw (end, word_ends r end) refl

false_lexed : (r : List ℕ) → ends (head r) ≡ true → lex between (102 ∷ 97 ∷ 108 ∷ 115 ∷ 101 ∷ r) ≡ token (tokens.boolean false) ∷ lex between r
unfolding lex word
false_lexed r end = rw (end, word_ends r end) refl

split_front : (t name : List ℕ) → starts_with nat_eq t name ≡ true → t ≡ name ++ drop (length name) t
split_front t [] starts = refl
split_front [] (y ∷ ys) starts = absurd (true≢false (sym starts))
split_front (x ∷ xs) (y ∷ ys) starts =
    let parts = and_parts (nat_eq y x) (starts_with nat_eq xs ys) starts in
    ap (λ z. z ∷ xs) (sym (eqb-true y x parts.0)) ∙ ap (λ zs. y ∷ zs) (split_front xs ys parts.1)

pub true_first : (t : List ℕ) → starts_with nat_eq t (116 ∷ 114 ∷ 117 ∷ 101 ∷ []) ≡ true → ends (head (drop 4 t)) ≡ true → StandsFirst t (tokens.boolean true) (drop 4 t)
true_first t starts end = ap (lex between) (split_front t (116 ∷ 114 ∷ 117 ∷ 101 ∷ []) starts) ∙ true_lexed (drop 4 t) end

pub false_first : (t : List ℕ) → starts_with nat_eq t (102 ∷ 97 ∷ 108 ∷ 115 ∷ 101 ∷ []) ≡ true → ends (head (drop 5 t)) ≡ true → StandsFirst t (tokens.boolean false) (drop 5 t)
false_first t starts end = ap (lex between) (split_front t (102 ∷ 97 ∷ 108 ∷ 115 ∷ 101 ∷ []) starts) ∙ false_lexed (drop 5 t) end

-- ---- one more digit

pub one_more_digit : (t : List ℕ) (n count : ℕ) → count < length t → 48 ≤ get_or t count 0 → get_or t count 0 ≤ 57 → n ≡ digits_value 10 (take count t) → AllDigits 10 (take count t)
    → (n * 10 + (get_or t count 0 - 48) ≡ digits_value 10 (take (count + 1) t)) × AllDigits 10 (take (count + 1) t)
one_more_digit t n count within low high is digits =
    let x = get_or t count 0 in
    let worth : digit_value x ≡ x - 48 = rw (le-ltb x 48 low, lt-ltb x 58 (omega (arith, high))) refl in
    let small : digit_value x < 10 = omega (arith, worth, low, high) in (
      ap (λ m. m * 10 + (x - 48)) is ∙ ap (λ v. digits_value 10 (take count t) * 10 + v) (sym worth) ∙ sym (digits_value_more 10 t count within),
      digits_more 10 t count within digits small,
    )
