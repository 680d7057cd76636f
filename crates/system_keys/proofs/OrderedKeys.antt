-- Heads are in the order of keys.
use Rattle.std.proofs.Common.{◌≡◌, refl, sym, ap, subst, ◌∙◌, ℕ, zero, suc, ◌+◌, ◌*◌, ◌<◌, ◌≤◌, min, List, [], ◌∷◌, ◌++◌, map, Ordering, Less, Equal, Greater, nat_cmp, get_or, set, replicate, length, take, drop, nat_le, le-leb, if◌then◌else◌, arith}
use Rattle.std.specs.Cmp.{nat_cmp_is}
use Rattle.std.specs.Cmp.Lexicographic.{slice_cmp}
use Rattle.std.specs.Int.{w128, from_be_bytes}
use Rattle.std.specs.List.{range_with_len}
use Rattle.std.specs.Ordering.{ordering_then, MatchOrdering}
use Rattle.std.proofs.lemmas.Cmp.{ranked}
use Rattle.std.proofs.lemmas.List.FromFn.{fill_by_all}
use Rattle.system_keys.specs.Keys.{Key}
use Rattle.system_keys.specs.OrderedKeys.{front_from, front_and_length, key_of}
use Rattle.system_keys.specs.Rows.{AreBytes}

-- The digits so far, then the next `places` bytes as digits, and then how many bytes there were, or
-- one more if there are others. A place past the end of the key has the digit 0.
abbrev head_from : (places digits count : ℕ) (key : Key) → ℕ
head_from zero digits count [] = digits * 256 + count
head_from zero digits count (byte ∷ key) = digits * 256 + (count + 1)
head_from (suc places) digits count [] = head_from places (digits * 256) count []
head_from (suc places) digits count (byte ∷ key) =
    head_from places (digits * 256 + byte) (count + 1) key

-- the front of the key as one number
abbrev pub head_of : (key : Key) → ℕ
head_of key = head_from 15 0 0 key

below : (x y : ℕ) → x < y → nat_cmp x y ≡ Less
below x y l = sym (nat_cmp_is x y Less l)

above : (x y : ℕ) → y < x → nat_cmp x y ≡ Greater
above x y l = sym (nat_cmp_is x y Greater l)

none : AreBytes []
none i = omega arith

behind : (x : ℕ) (a : Key) → AreBytes (x ∷ a) → AreBytes a
behind x a bytes i = bytes (suc i)

-- lower digits make a lower head, whatever comes after them
lower : (n d e k l : ℕ) (a b : Key) → AreBytes a → d < e → k + n < 255 → head_from n d k a < head_from n e l b
lower zero d e k l [] [] bytes less few = omega arith
lower zero d e k l [] (y ∷ b) bytes less few = omega arith
lower zero d e k l (x ∷ a) [] bytes less few = omega arith
lower zero d e k l (x ∷ a) (y ∷ b) bytes less few = omega arith
lower (suc n) d e k l [] [] bytes less few = lower n (d * 256) (e * 256) k l [] [] none (omega arith) (omega arith)
lower (suc n) d e k l [] (y ∷ b) bytes less few = lower n (d * 256) (e * 256 + y) k (l + 1) [] b none (omega arith) (omega arith)
lower (suc n) d e k l (x ∷ a) [] bytes less few =
    let small : x < 256 = bytes 0 in
    lower n (d * 256 + x) (e * 256) (k + 1) l a [] (behind x a bytes) (omega (arith, small)) (omega arith)
lower (suc n) d e k l (x ∷ a) (y ∷ b) bytes less few =
    let small : x < 256 = bytes 0 in
    lower n (d * 256 + x) (e * 256 + y) (k + 1) (l + 1) a b (behind x a bytes) (omega (arith, small)) (omega arith)

-- a key that ends is lower than one that goes on
shorter : (n d k l : ℕ) (b : Key) → k < l → k + n < 255 → head_from n d k [] < head_from n d l b
shorter zero d k l [] less few = omega arith
shorter zero d k l (y ∷ b) less few = omega arith
shorter (suc n) d k l [] less few = shorter n (d * 256) k l [] less (omega arith)
shorter (suc n) d k l (zero ∷ b) less few =
    let none_more : d * 256 ≡ d * 256 + 0 = omega arith in
    subst (λ z. head_from n (d * 256) k [] < head_from n z (l + 1) b) none_more (shorter n (d * 256) k (l + 1) b (omega arith) (omega arith))
shorter (suc n) d k l (suc y ∷ b) less few = lower n (d * 256) (d * 256 + suc y) k (l + 1) [] b none (omega arith) (omega arith)

ends_first : (n d k : ℕ) (y : ℕ) (b : Key) → k + suc n < 255 → head_from n (d * 256) k [] < head_from n (d * 256 + y) (k + 1) b
ends_first n d k zero b few =
    let none_more : d * 256 ≡ d * 256 + 0 = omega arith in
    subst (λ z. head_from n (d * 256) k [] < head_from n z (k + 1) b) none_more (shorter n (d * 256) k (k + 1) b (omega arith) (omega arith))
ends_first n d k (suc y) b few = lower n (d * 256) (d * 256 + suc y) k (k + 1) [] b none (omega arith) (omega arith)

decided : (n d k : ℕ) (a b : Key) → AreBytes a → AreBytes b → k + n < 255 → (head_from n d k a ≡ head_from n d k b → ⊥)
    → slice_cmp nat_cmp a b ≡ nat_cmp (head_from n d k a) (head_from n d k b)
decided zero d k [] [] p q few differ = absurd (differ refl)
decided zero d k [] (y ∷ b) p q few differ = sym (below (d * 256 + k) (d * 256 + (k + 1)) (omega arith))
decided zero d k (x ∷ a) [] p q few differ = sym (above (d * 256 + (k + 1)) (d * 256 + k) (omega arith))
decided zero d k (x ∷ a) (y ∷ b) p q few differ = absurd (differ refl)
decided (suc n) d k [] [] p q few differ = absurd (differ refl)
decided (suc n) d k [] (y ∷ b) p q few differ = sym (below (head_from n (d * 256) k []) (head_from n (d * 256 + y) (k + 1) b) (ends_first n d k y b few))
decided (suc n) d k (x ∷ a) [] p q few differ = sym (above (head_from n (d * 256 + x) (k + 1) a) (head_from n (d * 256) k []) (ends_first n d k x a few))
decided (suc n) d k (x ∷ a) (y ∷ b) p q few differ =
    by (λ level. decided n (d * 256 + x) (k + 1) a b (behind x a p) (behind y b q) (omega arith) (λ same. differ (same ∙ ap (λ z. head_from n (d * 256 + z) (k + 1) b) level)))
    (nat_cmp x y) refl (ranked x y (nat_cmp x y) refl)
  where
    by : (x ≡ y → slice_cmp nat_cmp a b ≡ nat_cmp (head_from n (d * 256 + x) (k + 1) a) (head_from n (d * 256 + x) (k + 1) b))
        → (r : Ordering) → nat_cmp x y ≡ r → MatchOrdering r (x < y) (x ≡ y) (y < x)
        → slice_cmp nat_cmp (x ∷ a) (y ∷ b) ≡ nat_cmp (head_from n (d * 256 + x) (k + 1) a) (head_from n (d * 256 + y) (k + 1) b)
    by rest Less e l =
        let less : x < y = l in
        ap (λ r. ordering_then r (slice_cmp nat_cmp a b)) e
        ∙ sym (below (head_from n (d * 256 + x) (k + 1) a) (head_from n (d * 256 + y) (k + 1) b) (lower n (d * 256 + x) (d * 256 + y) (k + 1) (k + 1) a b (behind x a p) (omega (arith, less)) (omega arith)))
    by rest Equal e l =
        let level : x ≡ y = l in
        ap (λ r. ordering_then r (slice_cmp nat_cmp a b)) e
        ∙ rest level
        ∙ ap (λ z. nat_cmp (head_from n (d * 256 + x) (k + 1) a) (head_from n (d * 256 + z) (k + 1) b)) level
    by rest Greater e l =
        let more : y < x = l in
        ap (λ r. ordering_then r (slice_cmp nat_cmp a b)) e
        ∙ sym (above (head_from n (d * 256 + x) (k + 1) a) (head_from n (d * 256 + y) (k + 1) b) (lower n (d * 256 + y) (d * 256 + x) (k + 1) (k + 1) b a (behind y b q) (omega (arith, more)) (omega arith)))

-- heads that differ decide
pub by_heads : (a b : Key) → AreBytes a → AreBytes b → (head_of a ≡ head_of b → ⊥) → slice_cmp nat_cmp a b ≡ nat_cmp (head_of a) (head_of b)
by_heads a b p q differ = decided 15 0 0 a b p q (omega arith) differ

-- ---- a head is the number of sixteen bytes

length-front : (n count : ℕ) (key : Key) → length (front_from n count key) ≡ suc n
length-front zero count [] = refl
length-front zero count (byte ∷ key) = refl
length-front (suc n) count [] = ap suc (length-front n count [])
length-front (suc n) count (byte ∷ key) = ap suc (length-front n (count + 1) key)

-- the number of digits behind others
abbrev behind_digits : ℕ → List ℕ → ℕ
behind_digits digits [] = digits
behind_digits digits (byte ∷ bytes) = behind_digits (digits * 256 + byte) bytes

head_of_front : (n digits count : ℕ) (key : Key) → behind_digits digits (front_from n count key) ≡ head_from n digits count key
head_of_front zero digits count [] = refl
head_of_front zero digits count (byte ∷ key) = refl
head_of_front (suc n) digits count [] = head_of_front n (digits * 256 + 0) count [] ∙ ap (λ d. head_from n d count []) (omega arith)
head_of_front (suc n) digits count (byte ∷ key) = head_of_front n (digits * 256 + byte) (count + 1) key

sixteen : (bytes : List ℕ) → length bytes ≡ 16 → from_be_bytes w128 bytes ≡ behind_digits 0 bytes
sixteen bytes long =
    let at : ℕ → ℕ = λ k. get_or bytes k 0 in
    let added : from_be_bytes w128 bytes ≡ behind_digits 0 (map at (range_with_len 0 16)) = omega arith in
    added ∙ ap (behind_digits 0) (sym (fill_by_all at bytes 16 0 long (λ k l. refl)))

-- the front of the key over zeros, and then the count
pub front_is : (n before count last : ℕ) (key : Key) → count ≡ min (length key) n → last ≡ before + min (length key) (n + 1)
    → set (take count key ++ drop count (replicate (suc n) 0)) n last ≡ front_from n before key
front_is zero before zero last [] some all = ap (λ (x : ℕ). x ∷ []) (omega arith)
front_is zero before zero last (byte ∷ key) some all = ap (λ (x : ℕ). x ∷ []) (omega arith)
front_is zero before (suc count) last key some all = absurd (omega arith)
front_is (suc n) before zero last [] some all = ap (λ (xs : List ℕ). 0 ∷ xs) (front_is n before zero last [] (omega arith) (omega arith))
front_is (suc n) before zero last (byte ∷ key) some all = absurd (omega arith)
front_is (suc n) before (suc count) last [] some all = absurd (omega arith)
front_is (suc n) before (suc count) last (byte ∷ key) some all = ap (λ (xs : List ℕ). byte ∷ xs) (front_is n (before + 1) count last key (omega arith) (omega arith))

-- the number of the bytes is the head
pub head_is : (key : Key) → from_be_bytes w128 (front_and_length key) ≡ head_of key
head_is key = sixteen (front_and_length key) (length-front 15 0 key) ∙ head_of_front 15 0 0 key

-- ---- a key stands in its front, if it is short

last_of_front : (n count : ℕ) (key : Key) → get_or (front_from n count key) n 0 ≡ count + min (length key) (n + 1)
last_of_front zero count [] = omega arith
last_of_front zero count (byte ∷ key) = omega arith
last_of_front (suc n) count [] = last_of_front n count [] ∙ omega arith
last_of_front (suc n) count (byte ∷ key) = last_of_front n (count + 1) key ∙ omega arith

begins_front : (n count : ℕ) (key : Key) → length key ≤ n → take (length key) (front_from n count key) ≡ key
begins_front n count [] few = refl
begins_front zero count (byte ∷ key) few = absurd (omega arith)
begins_front (suc n) count (byte ∷ key) few = ap (λ (xs : List ℕ). byte ∷ xs) (begins_front n (count + 1) key (omega arith))

-- the count of a front tells a short key from a longer one
pub counted : (key : Key) → get_or (front_and_length key) 15 0 ≡ min (length key) 16
counted key = last_of_front 15 0 key ∙ omega arith

pub short_is : (key whole : Key) → length key ≤ 15 → key_of (front_and_length key) whole ≡ key
short_is key whole few =
    let count : get_or (front_and_length key) 15 0 ≡ length key = counted key ∙ omega arith in
    ap (λ n. if nat_le n 15 then take n (front_and_length key) else whole) count
    ∙ ap (λ b. if b then take (length key) (front_and_length key) else whole) (le-leb (length key) 15 few)
    ∙ begins_front 15 0 key few

pub long_is : (key : Key) → 15 < length key → key_of (front_and_length key) key ≡ key
long_is key many =
    let count : get_or (front_and_length key) 15 0 ≡ 16 = counted key ∙ omega arith in
    ap (λ n. if nat_le n 15 then take n (front_and_length key) else key) count

-- ---- a short key is the only one with its front

pub alone : (n d k : ℕ) (a b : Key) → AreBytes a → AreBytes b → k + n < 255 → length a ≤ n → head_from n d k a ≡ head_from n d k b → a ≡ b
alone n d k [] [] p q few short same = refl
alone n d k [] (y ∷ b) p q few short same = absurd (gone n d k y b few same)
  where
    gone : (n d k y : ℕ) (b : Key) → k + n < 255 → head_from n d k [] ≡ head_from n d k (y ∷ b) → ⊥
    gone zero d k y b few same = omega arith
    gone (suc n) d k y b few same =
        let first : head_from n (d * 256) k [] < head_from n (d * 256 + y) (k + 1) b = ends_first n d k y b few in
        omega (arith, first, same)
alone zero d k (x ∷ a) b p q few short same = absurd (omega arith)
alone (suc n) d k (x ∷ a) [] p q few short same =
    let first : head_from n (d * 256) k [] < head_from n (d * 256 + x) (k + 1) a = ends_first n d k x a few in
    absurd (omega (arith, first, same))
alone (suc n) d k (x ∷ a) (y ∷ b) p q few short same =
    by (λ rest. alone n (d * 256 + x) (k + 1) a b (behind x a p) (behind y b q) (omega arith) (omega arith) rest) (nat_cmp x y) refl (ranked x y (nat_cmp x y) refl)
  where
    by : (head_from n (d * 256 + x) (k + 1) a ≡ head_from n (d * 256 + x) (k + 1) b → a ≡ b)
        → (r : Ordering) → nat_cmp x y ≡ r → MatchOrdering r (x < y) (x ≡ y) (y < x) → x ∷ a ≡ y ∷ b
    by rest Less e l =
        let less : x < y = l in
        let first = lower n (d * 256 + x) (d * 256 + y) (k + 1) (k + 1) a b (behind x a p) (omega (arith, less)) (omega arith) in
        absurd (omega (arith, first, same))
    by rest Equal e l =
        let level : x ≡ y = l in
        let behind_same = same ∙ ap (λ z. head_from n (d * 256 + z) (k + 1) b) (sym level) in
        ap (λ (z : ℕ). z ∷ a) level ∙ ap (λ (xs : List ℕ). y ∷ xs) (rest behind_same)
    by rest Greater e l =
        let more : y < x = l in
        let first = lower n (d * 256 + y) (d * 256 + x) (k + 1) (k + 1) b a (behind y b q) (omega (arith, more)) (omega arith) in
        absurd (omega (arith, first, same))

itself : (key : Key) → slice_cmp nat_cmp key key ≡ Equal
itself [] = refl
itself (x ∷ key) = ap (λ r. ordering_then r (slice_cmp nat_cmp key key)) (sym (nat_cmp_is x x Equal refl)) ∙ itself key

-- short keys with one front are equal
pub by_front : (a b : Key) → AreBytes a → AreBytes b → length a ≤ 15 → head_of a ≡ head_of b → slice_cmp nat_cmp a b ≡ Equal
by_front a b p q short same = ap (λ (z : Key). slice_cmp nat_cmp a z) (sym (alone 15 0 0 a b p q (omega arith) short same)) ∙ itself a
