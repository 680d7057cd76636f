-- The lines of bytes that come in pieces.
use Rattle.std.proofs.Common.{◌≡◌, ◌≢◌, ℕ, List, [], ◌∷◌, ◌++◌, ◌==◌, true, false, cond, refl, ap, ◌∙◌, append-nil, append_assoc, sym, inl, inr, flat_map}
use Rattle.std.proofs.lemmas.Bool.{ne_eqb}
use Rattle.std.proofs.lemmas.Bool.Decides.{eqb_tells}
use Rattle.sessions.specs.Lines.{HasNoFeed, HaveNoFeed, Splits, closed, line_end, lines_from, lines_of, open_from, open_line_of, whole_lines}

-- a piece after another
pub lines_append : (open_line xs ys : List ℕ) → lines_from open_line (xs ++ ys) ≡ lines_from open_line xs ++ lines_from (open_from open_line xs) ys
lines_append open_line [] ys = refl
lines_append open_line (x ∷ xs) ys =
    elim (x == 10) as (λ b. cond b (open_line ∷ lines_from [] (xs ++ ys)) (lines_from (open_line ++ x ∷ []) (xs ++ ys))
    ≡ cond b (open_line ∷ lines_from [] xs) (lines_from (open_line ++ x ∷ []) xs) ++ lines_from (cond b (open_from [] xs) (open_from (open_line ++ x ∷ []) xs)) ys)
    [ true ↦ ap (λ l. open_line ∷ l) (lines_append [] xs ys) | false ↦ lines_append (open_line ++ x ∷ []) xs ys ]

pub open_append : (open_line xs ys : List ℕ) → open_from open_line (xs ++ ys) ≡ open_from (open_from open_line xs) ys
open_append open_line [] ys = refl
open_append open_line (x ∷ xs) ys =
    elim (x == 10) as (λ b. cond b (open_from [] (xs ++ ys)) (open_from (open_line ++ x ∷ []) (xs ++ ys))
    ≡ open_from (cond b (open_from [] xs) (open_from (open_line ++ x ∷ []) xs)) ys)
    [ true ↦ open_append [] xs ys | false ↦ open_append (open_line ++ x ∷ []) xs ys ]

-- a byte that ends no line
pub lines_within : (open_line : List ℕ) (byte : ℕ) → byte ≢ 10 → lines_from open_line (byte ∷ []) ≡ []
lines_within open_line byte other = let e : (byte == 10) ≡ false = ne_eqb byte 10 other in rw e refl

pub open_within : (open_line : List ℕ) (byte : ℕ) → byte ≢ 10 → open_from open_line (byte ∷ []) ≡ open_line ++ byte ∷ []
open_within open_line byte other = let e : (byte == 10) ≡ false = ne_eqb byte 10 other in rw e refl

-- one more byte
pub lines_more : (open_line taken : List ℕ) (byte : ℕ) → byte ≢ 10 → lines_from open_line (taken ++ byte ∷ []) ≡ lines_from open_line taken
lines_more open_line taken byte other =
    lines_append open_line taken (byte ∷ []) ∙ ap (λ l. lines_from open_line taken ++ l) (lines_within (open_from open_line taken) byte other)
    ∙ append-nil (lines_from open_line taken)

pub open_more : (open_line taken : List ℕ) (byte : ℕ) → byte ≢ 10 → open_from open_line (taken ++ byte ∷ []) ≡ open_from open_line taken ++ byte ∷ []
open_more open_line taken byte other = open_append open_line taken (byte ∷ []) ∙ open_within (open_from open_line taken) byte other

-- ---- what the lines are

no_feed_more : (bytes : List ℕ) (byte : ℕ) → HasNoFeed bytes → byte ≢ 10 → HasNoFeed (bytes ++ byte ∷ [])
no_feed_more [] byte none other = (other, tt)
no_feed_more (x ∷ bytes) byte none other = (none.0, no_feed_more bytes byte none.1 other)

lines_split_from : (open_line bytes : List ℕ) → HasNoFeed open_line → Splits (open_line ++ bytes) (lines_from open_line bytes) (open_from open_line bytes)
lines_split_from open_line [] none = record { whole = append-nil open_line; each = tt; last = none }
lines_split_from open_line (x ∷ xs) none =
    elim (eqb_tells x 10) [
      | inl same ↦
          let rest = lines_split_from [] xs tt in
          let e : (x == 10) ≡ true = same.0 in
          rw e (record {
            whole = ap (λ b. open_line ++ b ∷ xs) same.1 ∙ sym (append_assoc open_line (10 ∷ []) xs) ∙ ap (λ l. (open_line ++ 10 ∷ []) ++ l) rest.whole
                ∙ sym (append_assoc (open_line ++ 10 ∷ []) (flat_map (λ line. line ++ 10 ∷ []) (lines_from [] xs)) (open_from [] xs));
            each = (none, rest.each);
            last = rest.last;
          })
      | inr other ↦
          let rest = lines_split_from (open_line ++ x ∷ []) xs (no_feed_more open_line x none other.1) in
          let e : (x == 10) ≡ false = other.0 in
          rw e (record {
            whole = sym (append_assoc open_line (x ∷ []) xs) ∙ rest.whole;
            each = rest.each;
            last = rest.last;
          })
    ]

pub lines_split : (bytes : List ℕ) → Splits bytes (whole_lines bytes) (open_line_of bytes)
lines_split bytes = lines_split_from [] bytes tt

-- ---- the last line

-- bytes without a line feed stay in the open line
lines_plain : (open_line bytes : List ℕ) → HasNoFeed bytes → lines_from open_line bytes ≡ []
lines_plain open_line [] none = refl
lines_plain open_line (x ∷ xs) none = let e : (x == 10) ≡ false = ne_eqb x 10 none.0 in rw e (lines_plain (open_line ++ x ∷ []) xs none.1)

open_plain : (open_line bytes : List ℕ) → HasNoFeed bytes → open_from open_line bytes ≡ open_line ++ bytes
open_plain open_line [] none = sym (append-nil open_line)
open_plain open_line (x ∷ xs) none =
    let e : (x == 10) ≡ false = ne_eqb x 10 none.0 in
    rw e (open_plain (open_line ++ x ∷ []) xs none.1 ∙ append_assoc open_line (x ∷ []) xs)

-- after a line feed no line is open
open_after_feed : (bytes : List ℕ) → open_line_of (bytes ++ 10 ∷ []) ≡ []
open_after_feed bytes = open_append [] bytes (10 ∷ [])

end_of_some : (line : List ℕ) → line ≢ [] → line_end line ≡ 10 ∷ []
end_of_some [] some = absurd (some refl)
end_of_some (x ∷ line) some = refl

closed_whole : (bytes : List ℕ) → closed (bytes ++ 10 ∷ []) ≡ bytes ++ 10 ∷ []
closed_whole bytes = ap (λ l. (bytes ++ 10 ∷ []) ++ line_end l) (open_after_feed bytes) ∙ append-nil (bytes ++ 10 ∷ [])

open_last : (bytes line : List ℕ) → HasNoFeed line → open_line_of ((bytes ++ 10 ∷ []) ++ line) ≡ line
open_last bytes line none =
    open_append [] (bytes ++ 10 ∷ []) line ∙ ap (λ l. open_from l line) (open_after_feed bytes) ∙ open_plain [] line none

lines_last : (bytes line : List ℕ) → HasNoFeed line → whole_lines ((bytes ++ 10 ∷ []) ++ line) ≡ whole_lines (bytes ++ 10 ∷ [])
lines_last bytes line none =
    lines_append [] (bytes ++ 10 ∷ []) line ∙ ap (λ l. whole_lines (bytes ++ 10 ∷ []) ++ l) (lines_plain (open_line_of (bytes ++ 10 ∷ [])) line none)
    ∙ append-nil (whole_lines (bytes ++ 10 ∷ []))

last_open_line : (bytes line : List ℕ) → HasNoFeed line → line ≢ [] → lines_of ((bytes ++ 10 ∷ []) ++ line) ≡ whole_lines (bytes ++ 10 ∷ []) ++ line ∷ []
last_open_line bytes line none some =
    let all = (bytes ++ 10 ∷ []) ++ line in
    let open_is : open_line_of all ≡ line = open_last bytes line none in
    ap (λ l. whole_lines (all ++ line_end l)) open_is ∙ ap (λ l. whole_lines (all ++ l)) (end_of_some line some)
    ∙ lines_append [] all (10 ∷ []) ∙ ap (λ l. whole_lines all ++ l ∷ []) open_is ∙ ap (λ l. l ++ line ∷ []) (lines_last bytes line none)

pub last_line : (bytes line : List ℕ)
    → (lines_of (bytes ++ 10 ∷ []) ≡ whole_lines (bytes ++ 10 ∷ []))
    × (HasNoFeed line → line ≢ [] → lines_of ((bytes ++ 10 ∷ []) ++ line) ≡ whole_lines (bytes ++ 10 ∷ []) ++ line ∷ [])
last_line bytes line = (ap whole_lines (closed_whole bytes), last_open_line bytes line)

-- ---- other lines with the same bytes

first_line : (line rest : List ℕ) → HasNoFeed line → (whole_lines ((line ++ 10 ∷ []) ++ rest) ≡ line ∷ whole_lines rest) × (open_line_of ((line ++ 10 ∷ []) ++ rest) ≡ open_line_of rest)
first_line line rest none =
    let one : whole_lines (line ++ 10 ∷ []) ≡ line ∷ [] = lines_append [] line (10 ∷ []) ∙ ap (λ l. l ++ open_line_of line ∷ []) (lines_plain [] line none) ∙ ap (λ l. l ∷ []) (open_plain [] line none) in (
      lines_append [] (line ++ 10 ∷ []) rest ∙ ap (λ l. l ++ lines_from (open_line_of (line ++ 10 ∷ [])) rest) one ∙ ap (λ l. line ∷ lines_from l rest) (open_after_feed line),
      open_append [] (line ++ 10 ∷ []) rest ∙ ap (λ l. open_from l rest) (open_after_feed line),
    )

abbrev with_feeds : List (List ℕ) → List ℕ
with_feeds lines = flat_map (λ line. line ++ 10 ∷ []) lines

split_again : (lines : List (List ℕ)) (open_line : List ℕ) → HaveNoFeed lines → HasNoFeed open_line
    → (lines ≡ whole_lines (with_feeds lines ++ open_line)) × (open_line ≡ open_line_of (with_feeds lines ++ open_line))
split_again [] open_line each last = (sym (lines_plain [] open_line last), sym (open_plain [] open_line last))
split_again (line ∷ lines) open_line each last =
    let rest = with_feeds lines ++ open_line in
    let others = split_again lines open_line each.1 last in
    let first = first_line line rest each.0 in
    let parts : (line ++ 10 ∷ []) ++ rest ≡ with_feeds (line ∷ lines) ++ open_line = sym (append_assoc (line ++ 10 ∷ []) (with_feeds lines) open_line) in (
      ap (λ l. line ∷ l) others.0 ∙ sym first.0 ∙ ap whole_lines parts,
      others.1 ∙ sym first.1 ∙ ap open_line_of parts,
    )

pub one_split : (bytes : List ℕ) (lines : List (List ℕ)) (open_line : List ℕ) → Splits bytes lines open_line → (lines ≡ whole_lines bytes) × (open_line ≡ open_line_of bytes)
one_split bytes lines open_line splits =
    let again = split_again lines open_line splits.each splits.last in
    (again.0 ∙ ap whole_lines (sym splits.whole), again.1 ∙ ap open_line_of (sym splits.whole))
