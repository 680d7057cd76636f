-- Bytes that are their own characters, and those after them.
use Rattle.std.proofs.Common.{◌≡◌, ℕ, zero, suc, ◌+◌, ◌<◌, ◌≤◌, true, List, [], ◌∷◌, ◌++◌, length, take, drop, not, refl, sym, ap, ◌∙◌, append_assoc, length-append, arith}
use Rattle.std.specs.Prelude.{◌&&◌, ◌==◌, nat_le}
use Rattle.std.specs.Str.{IsAscii}
use Rattle.std.proofs.lemmas.Bool.{and_parts, leb-true}
use Rattle.std.proofs.lemmas.Grind.{flat_map-append}
use Rattle.std.proofs.lemmas.List.{take-append-drop}
use Rattle.system_keys.specs.Text.{ArePlain, byte_text, is_plain, text_of}

-- the bytes at the front are their own text
pub plain_text : (n : ℕ) (bytes : List ℕ) → n ≤ length bytes → ArePlain bytes 0 n → text_of (take n bytes) ≡ take n bytes
plain_text zero bytes within plain = refl
plain_text (suc n) [] within plain = absurd (omega arith)
plain_text (suc n) (byte ∷ bytes) within plain =
    let own : is_plain byte ≡ true = plain 0 (omega arith) (omega arith) in
    let rest = plain_text n bytes (omega (arith, within)) (λ i from below. plain (suc i) (omega arith) (omega (arith, below))) in
    rw (own, rest) refl

plain_small : (byte : ℕ) → is_plain byte ≡ true → byte < 128
plain_small byte own =
    let parts = and_parts (nat_le 33 byte && nat_le byte 126 && not (byte == 34)) (not (byte == 92)) own in
    let more = and_parts (nat_le 33 byte && nat_le byte 126) (not (byte == 34)) parts.0 in
    let up = leb-true byte 126 (and_parts (nat_le 33 byte) (nat_le byte 126) more.0).1 in
    omega (arith, up)

pub plain_ascii : (n : ℕ) (bytes : List ℕ) → ArePlain bytes 0 n → IsAscii (take n bytes)
plain_ascii zero bytes plain i = omega arith
plain_ascii (suc n) [] plain i = omega arith
plain_ascii (suc n) (byte ∷ bytes) plain zero = plain_small byte (plain 0 (omega arith) (omega arith))
plain_ascii (suc n) (byte ∷ bytes) plain (suc i) = plain_ascii n bytes (λ j from below. plain (suc j) (omega arith) (omega (arith, below))) i

pub split_whole : (n : ℕ) (bytes : List ℕ) → take n bytes ++ drop n bytes ≡ bytes
split_whole n bytes = take-append-drop n bytes

-- the text of the bytes at the front, of the next one, and of those after it
pub split_text : (rest plain behind : List ℕ) → plain ++ behind ≡ rest → text_of plain ≡ plain → text_of rest ≡ (plain ++ text_of (take 1 behind)) ++ text_of (drop 1 behind)
split_text rest plain behind whole own =
    let next : text_of behind ≡ text_of (take 1 behind) ++ text_of (drop 1 behind) =
    ap text_of (sym (take-append-drop 1 behind)) ∙ flat_map-append byte_text (take 1 behind) (drop 1 behind) in
    ap text_of (sym whole) ∙ flat_map-append byte_text plain behind ∙ ap (λ (front : List ℕ). front ++ text_of behind) own
    ∙ ap (λ (back : List ℕ). plain ++ back) next ∙ sym (append_assoc plain (text_of (take 1 behind)) (text_of (drop 1 behind)))

-- fewer bytes are left
pub split_shorter : (rest plain behind : List ℕ) → plain ++ behind ≡ rest → 0 < length rest → length (drop 1 behind) < length rest
split_shorter rest plain [] whole some = some
split_shorter rest plain (byte ∷ behind) whole some =
    let sum : length plain + length (byte ∷ behind) ≡ length rest = sym (length-append plain (byte ∷ behind)) ∙ ap length whole in
    omega (arith, sum)

pub no_text : (rest : List ℕ) → length rest ≡ 0 → text_of rest ≡ []
no_text [] none = refl
no_text (byte ∷ rest) none = absurd (omega arith)
