-- Starts that get a version: each key of their range has it then.
use Rattle.std.proofs.Common.{◌≡◌, refl, sym, ap, ap₂, ◌∙◌, subst, ℕ, zero, suc, ◌+◌, ◌-◌, ◌≤◌, inl, inr, List, [], ◌∷◌, ◌++◌, map, length, take, drop, length-append, Bool, true, false, cond, not, ◌&&◌, ◌||◌, nat_lt, arith}
use Rattle.std.proofs.lemmas.Bool.{both_ways, and_parts}
use Rattle.std.proofs.lemmas.List.Prefix.{front_rest}
use Rattle.std.specs.Map.{keys_of, set_value}
use Rattle.system_keys.specs.Keys.{Key, Range, is_key_below, holds}
use Rattle.system_keys.proofs.KeyOrder.{not_below_itself, below_trans, up_to_trans, not_below_back}
use Rattle.share_judge.specs.declared.step.Step.{Step}
use Rattle.share_judge.specs.Steps.{Start, StepStart, last_from, last_of_all, IsBefore, AreRising, HasStart, TellTheSame, is_same_key, is_listed, keys_between, marked, AreOver, starts_now}
use Rattle.share_judge.proofs.Starts.{same_key, below_differs, before_has}
use Rattle.share_judge.proofs.Settled.{same_last, same_past}
use Rattle.share_judge.proofs.Listed.{listed_passing, listed_there}
use Rattle.share_judge.proofs.Readings.{read_rising, read_has, has_read}

-- ---- marked starts

marked_has : (test : Key → Bool) (version : ℕ) (ss : List Start) (key : Key) → HasStart (marked test version ss) key → HasStart ss key
marked_has test version [] key has = absurd has
marked_has test version (s ∷ ss) key (inl e) = inl e
marked_has test version (s ∷ ss) key (inr has) = inr (marked_has test version ss key has)

pub marked_alike : (p q : Key → Bool) (version : ℕ) (ss : List Start) → ((key : Key) → HasStart ss key → p key ≡ q key) → marked p version ss ≡ marked q version ss
marked_alike p q version [] same = refl
marked_alike p q version (s ∷ ss) same =
    ap₂ (λ (b : Bool) (rest : List Start). (s.0, cond b version s.1) ∷ rest) (same s.0 (inl refl)) (marked_alike p q version ss (λ key has. same key (inr has)))

pub marked_twice : (p q : Key → Bool) (version : ℕ) (ss : List Start) → marked p version (marked q version ss) ≡ marked (λ key. q key || p key) version ss
marked_twice p q version [] = refl
marked_twice p q version (s ∷ ss) = ap₂ (λ (n : ℕ) (rest : List Start). (s.0, n) ∷ rest) (by (p s.0) (q s.0)) (marked_twice p q version ss)
  where
    by : (a b : Bool) → cond a version (cond b version s.1) ≡ cond (b || a) version s.1
    by true true = refl
    by true false = refl
    by false true = refl
    by false false = refl

pub none_marked : (version : ℕ) (ss : List Start) → marked (λ key. false) version ss ≡ ss
none_marked version [] = refl
none_marked version (s ∷ ss) = ap (λ (rest : List Start). s ∷ rest) (none_marked version ss)

unmarked : (key : Key) (version : ℕ) (ss : List Start) → IsBefore key ss → marked (is_same_key key) version ss ≡ ss
unmarked key version [] all = refl
unmarked key version (s ∷ ss) all = ap₂ (λ (b : Bool) (rest : List Start). (s.0, cond b version s.1) ∷ rest) (below_differs key s.0 all.0) (unmarked key version ss all.1)

-- one value that is set
pub value_set : (key : Key) (version : ℕ) (ss : List Start) → AreRising ss → set_value (is_same_key key) ss version ≡ marked (is_same_key key) version ss
value_set key version [] rising = refl
value_set key version (s ∷ ss) rising = by (is_same_key key s.0) refl (value_set key version ss rising.1)
  where
    by : (t : Bool) → is_same_key key s.0 ≡ t → set_value (is_same_key key) ss version ≡ marked (is_same_key key) version ss →
        cond t ((s.0, version) ∷ ss) (s ∷ set_value (is_same_key key) ss version) ≡ (s.0, cond t version s.1) ∷ marked (is_same_key key) version ss
    by true same rest = ap (λ (more : List Start). (s.0, version) ∷ more) (sym (rw (same_key key s.0 same) (unmarked s.0 version ss rising.0)))
    by false differs rest = ap (λ (more : List Start). s ∷ more) rest

-- ---- what stands at the starts

-- at each start, what a function has there
abbrev pub sampled : {X : Type 0} → (Key → X) → List Start → List (Key × X)
sampled f ss = map (λ (s : Start). (s.0, f s.0)) ss

marked_last : (test : Key → Bool) (version first : ℕ) (c : Bool) (ss : List Start) (key : Key) →
    last_from (cond c version first) (marked test version ss) key ≡ cond (last_from c (sampled test ss) key) version (last_from first ss key)
marked_last test version first c [] key = refl
marked_last test version first c (s ∷ ss) key = by (is_key_below key s.0) (marked_last test version s.1 (test s.0) ss key)
  where
    by : (b : Bool) → last_from (cond (test s.0) version s.1) (marked test version ss) key ≡ cond (last_from (test s.0) (sampled test ss) key) version (last_from s.1 ss key) →
        cond b (cond c version first) (last_from (cond (test s.0) version s.1) (marked test version ss) key)
        ≡ cond (cond b c (last_from (test s.0) (sampled test ss) key)) version (cond b first (last_from s.1 ss key))
    by true rest = refl
    by false rest = rest

tested : (test : ℕ → Bool) (f : Key → ℕ) (first : ℕ) (ss : List Start) (key : Key) → last_from (test first) (sampled (λ k. test (f k)) ss) key ≡ test (last_from first (sampled f ss) key)
tested test f first [] key = refl
tested test f first (s ∷ ss) key = by (is_key_below key s.0) (tested test f (f s.0) ss key)
  where
    by : (b : Bool) → last_from (test (f s.0)) (sampled (λ k. test (f k)) ss) key ≡ test (last_from (f s.0) (sampled f ss) key) →
        cond b (test first) (last_from (test (f s.0)) (sampled (λ k. test (f k)) ss) key) ≡ test (cond b first (last_from (f s.0) (sampled f ss) key))
    by true rest = refl
    by false rest = rest

-- between two keys with no start in between nothing changes
pub steady : (first : ℕ) (over : List Start) (low key : Key) → is_key_below key low ≡ false → ((k : Key) → HasStart over k → is_key_below low k ≡ true → is_key_below key k ≡ true) → last_from first over key ≡ last_from first over low
steady first [] low key up_to none = refl
steady first (o ∷ over) low key up_to none = by (is_key_below low o.0) refl (steady o.1 over low key up_to (λ k has. none k (inr has)))
  where
    by : (t : Bool) → is_key_below low o.0 ≡ t → last_from o.1 over key ≡ last_from o.1 over low → last_from first (o ∷ over) key ≡ cond t first (last_from o.1 over low)
    by true e rest = ap (λ (b : Bool). cond b first (last_from o.1 over key)) (none o.0 (inl refl) e)
    by false e rest = ap (λ (b : Bool). cond b first (last_from o.1 over key)) (up_to_trans o.0 low key e up_to) ∙ rest

sampled_from : (first : ℕ) (over : List Start) (low key : Key) (ss : List Start) → is_key_below key low ≡ false → IsBefore low ss → AreRising ss → ((k : Key) → HasStart over k → is_key_below low k ≡ true → HasStart ss k)
    → last_from (last_from first over low) (sampled (last_from first over) ss) key ≡ last_from first over key
sampled_from first over low key [] up_to all rising there = sym (steady first over low key up_to (λ k has above. absurd (there k has above)))
sampled_from first over low key (s ∷ ss) up_to all rising there = by (is_key_below key s.0) refl (sampled_from first over s.0 key ss)
  where
    later : (k : Key) → is_key_below key s.0 ≡ true → HasStart (s ∷ ss) k → is_key_below key k ≡ true
    later k e (inl is) = rw is e
    later k e (inr has) = below_trans key s.0 k e (before_has s.0 k ss rising.0 has)

    not_first : (k : Key) → is_key_below s.0 k ≡ true → HasStart (s ∷ ss) k → HasStart ss k
    not_first k above (inl is) = absurd (both_ways (is_key_below s.0 k) (rw is (not_below_itself s.0)) above)
    not_first k above (inr has) = has

    by : (t : Bool) → is_key_below key s.0 ≡ t
        → (is_key_below key s.0 ≡ false → IsBefore s.0 ss → AreRising ss → ((k : Key) → HasStart over k → is_key_below s.0 k ≡ true → HasStart ss k) → last_from (last_from first over s.0) (sampled (last_from first over) ss) key ≡ last_from first over key)
        → cond t (last_from first over low) (last_from (last_from first over s.0) (sampled (last_from first over) ss) key) ≡ last_from first over key
    by true e rest = sym (steady first over low key up_to (λ k has above. later k e (there k has above)))
    by false e rest = rest e rising.0 rising.1 (λ k has above. not_first k above (there k has (below_trans low s.0 k all.0 above)))

none_up_to : (first : ℕ) (over : List Start) (key : Key) → ((k : Key) → HasStart over k → is_key_below key k ≡ true) → last_from first over key ≡ first
none_up_to first [] key none = refl
none_up_to first (o ∷ over) key none = ap (λ (b : Bool). cond b first (last_from o.1 over key)) (none o.0 (inl refl))

-- if each start of a map is one of these, it changes at no other key
sampled_is : (first : ℕ) (over ss : List Start) (key : Key) → AreRising ss → ((k : Key) → HasStart over k → HasStart ss k) → last_from first (sampled (last_from first over) ss) key ≡ last_from first over key
sampled_is first over [] key rising there = sym (none_up_to first over key (λ k has. absurd (there k has)))
sampled_is first over (s ∷ ss) key rising there = by (is_key_below key s.0) refl
  where
    later : (k : Key) → is_key_below key s.0 ≡ true → HasStart (s ∷ ss) k → is_key_below key k ≡ true
    later k e (inl is) = rw is e
    later k e (inr has) = below_trans key s.0 k e (before_has s.0 k ss rising.0 has)

    not_first : (k : Key) → is_key_below s.0 k ≡ true → HasStart (s ∷ ss) k → HasStart ss k
    not_first k above (inl is) = absurd (both_ways (is_key_below s.0 k) (rw is (not_below_itself s.0)) above)
    not_first k above (inr has) = has

    by : (t : Bool) → is_key_below key s.0 ≡ t → cond t first (last_from (last_from first over s.0) (sampled (last_from first over) ss) key) ≡ last_from first over key
    by true e = sym (none_up_to first over key (λ k has. later k e (there k has)))
    by false e = sampled_from first over s.0 key ss e rising.0 rising.1 (λ k has above. not_first k above (there k has))

-- ---- past the last start

-- the key of the last start, or `low` if there is none
abbrev pub top : Key → List Start → Key
top low [] = low
top low (s ∷ ss) = top s.0 ss

low_up_to_top : (low : Key) (ss : List Start) → IsBefore low ss → AreRising ss → is_key_below (top low ss) low ≡ false
low_up_to_top low [] all rising = not_below_itself low
low_up_to_top low (s ∷ ss) all rising = up_to_trans low s.0 (top s.0 ss) (not_below_back low s.0 all.0) (low_up_to_top s.0 ss rising.0 rising.1)

has_up_to_top : (low : Key) (ss : List Start) (key : Key) → AreRising ss → HasStart ss key → is_key_below (top low ss) key ≡ false
has_up_to_top low [] key rising has = absurd has
has_up_to_top low (s ∷ ss) key rising (inl e) = rw e (low_up_to_top s.0 ss rising.0 rising.1)
has_up_to_top low (s ∷ ss) key rising (inr has) = has_up_to_top s.0 ss key rising.1 has

past_all : (first : ℕ) (ss : List Start) (key : Key) → ((k : Key) → HasStart ss k → is_key_below key k ≡ false) → last_from first ss key ≡ last_of_all first ss
past_all first [] key up_to = refl
past_all first (s ∷ ss) key up_to = ap (λ (b : Bool). cond b first (last_from s.1 ss key)) (up_to s.0 (inl refl)) ∙ past_all s.1 ss key (λ k has. up_to k (inr has))

-- ---- what is written over

-- whether a key passes the test is decided by the last start up to it, and past all starts none does
pub record IsDecided (test : Key → Bool) (ss : List Start) : Type 0 where
  pub at : (key : Key) → last_from false (sampled test ss) key ≡ test key
  pub past : test (top [] ss) ≡ false

-- the key has a version
abbrev pub is_written : (starts : List Start) (key : Key) → Bool
is_written starts key = nat_lt 0 (last_from 0 starts key)

decided_by : (over ss : List Start) → AreRising ss → last_of_all 0 over ≡ 0 → ((k : Key) → HasStart over k → HasStart ss k) → IsDecided (is_written over) ss
decided_by over ss rising none_over there =
    record {
      at = λ key. tested (nat_lt 0) (last_from 0 over) 0 ss key ∙ ap (nat_lt 0) (sampled_is 0 over ss key rising there);
      past = ap (nat_lt 0) (past_all 0 over (top [] ss) (λ k has. has_up_to_top [] ss k rising (there k has)) ∙ none_over);
    }

-- once the starts at the keys have a version, each key that passes the test has it
takes_over : (test : Key → Bool) (ss : List Start) (keys : List Key) (version : ℕ) → AreRising ss → IsDecided test ss → ((k : Key) → HasStart ss k → is_listed keys k ≡ test k) → AreOver test version ss (marked (is_listed keys) version ss)
takes_over test ss keys version rising decided listed =
    record {
      at = λ key. ap (λ (ts : List Start). last_from 0 ts key) same ∙ at_each key;
      past = λ none. ap (last_of_all 0) same ∙ past_each none;
    }
  where
    same : marked (is_listed keys) version ss ≡ marked test version ss
    same = marked_alike (is_listed keys) test version ss listed

    at_each : (key : Key) → last_from 0 (marked test version ss) key ≡ cond (test key) version (last_from 0 ss key)
    at_each key = marked_last test version 0 false ss key ∙ ap (λ (b : Bool). cond b version (last_from 0 ss key)) (decided.at key)

    past_each : last_of_all 0 ss ≡ 0 → last_of_all 0 (marked test version ss) ≡ 0
    past_each none =
        let key = top [] ss in
        sym (past_all 0 (marked test version ss) key (λ k has. has_up_to_top [] ss k rising (marked_has test version ss k has)))
        ∙ at_each key
        ∙ ap₂ (λ (b : Bool) (n : ℕ). cond b version n) decided.past (past_all 0 ss key (λ k has. has_up_to_top [] ss k rising has) ∙ none)

-- ---- one range

-- a version from `begin` up to `end` alone
abbrev pub range_starts : (begin end : Key) → List Start
range_starts begin end = (begin, 1) ∷ (end, 0) ∷ []

range_written : (begin end key : Key) → is_written (range_starts begin end) key ≡ holds (record { begin = begin; end = end }) key
range_written begin end key = by (is_key_below key begin) (is_key_below key end)
  where
    by : (a b : Bool) → nat_lt 0 (cond a 0 (cond b 1 0)) ≡ (not a && b)
    by true b = refl
    by false true = refl
    by false false = refl

range_decided : (begin end : Key) (ss : List Start) → AreRising ss → HasStart ss begin → HasStart ss end → IsDecided (holds (record { begin = begin; end = end })) ss
range_decided begin end ss rising first second =
    subst (λ (test : Key → Bool). IsDecided test ss) (λ i key. range_written begin end key i) (decided_by (range_starts begin end) ss rising refl there)
  where
    there : (k : Key) → HasStart (range_starts begin end) k → HasStart ss k
    there k (inl is) = subst (HasStart ss) (sym is) first
    there k (inr (inl is)) = subst (HasStart ss) (sym is) second
    there k (inr (inr none)) = absurd none

-- the starts of a range get a version, where there is one at both ends
range_over : (begin end : Key) (es : List StepStart) (keys : List Key) (version : ℕ) → AreRising es → HasStart es begin → HasStart es end → keys ≡ keys_between begin end es → AreOver (holds (record { begin = begin; end = end })) version (starts_now es) (marked (is_listed keys) version (starts_now es))
range_over begin end es keys version rising first second is =
    takes_over (holds range) (starts_now es) keys version (read_rising read es rising) (range_decided begin end (starts_now es) (read_rising read es rising) (read_has read es begin first) (read_has read es end second))
    (λ k has. ap (λ (ks : List Key). is_listed ks k) is ∙ listed_there (holds range) es k (has_read read es k has))
  where
    range : Range
    range = record { begin = begin; end = end }

    read : Step → ℕ
    read step = step.version

-- the keys between are in the range
pub between_inside : (begin end : Key) (es : List StepStart) (key : Key) → is_listed (keys_between begin end es) key ≡ true → holds (record { begin = begin; end = end }) key ≡ true
between_inside begin end es key listed = (and_parts (holds range key) (is_listed (keys_of es) key) (sym (listed_passing (holds range) es key) ∙ listed)).0
  where
    range : Range
    range = record { begin = begin; end = end }

-- what tells the same is written over alike
pub same_over : (test : Key → Bool) (old mid new : List Start) (version : ℕ) → AreRising old → AreRising mid → TellTheSame old mid → AreOver test version mid new → AreOver test version old new
same_over test old mid new version rising rising_mid same over =
    record {
      at = λ key. over.at key ∙ ap (λ n. cond (test key) version n) (same_last old mid rising rising_mid same key);
      past = λ none. over.past (same_past old mid same ∙ none);
    }

-- ---- the starts of a range, once they are listed

take_whole : (keys : List Key) (n : ℕ) → length keys ≤ n → take n keys ≡ keys
take_whole [] zero within = refl
take_whole [] (suc n) within = refl
take_whole (key ∷ keys) zero within = absurd (omega arith)
take_whole (key ∷ keys) (suc n) within = ap (λ (ks : List Key). key ∷ ks) (take_whole keys n (omega arith))

-- those listed last, as a slice
slice_is : (before all more whole : List Key) (first : ℕ) → first ≡ length before → all ≡ before ++ more → whole ≡ all → take (length whole - first) (drop first whole) ≡ more
slice_is before all more whole first size is same =
    let rest : drop first whole ≡ more = ap (λ (n : ℕ). drop n whole) size ∙ front_rest whole before more (same ∙ is) in
    let many : length whole ≡ length before + length more = ap (λ (keys : List Key). length keys) (same ∙ is) ∙ length-append before more in
    ap (take (length whole - first)) rest ∙ take_whole more (length whole - first) (omega (arith, many, size))

pub steps_over : (begin end : Key) (mid new : List StepStart) (before all whole : List Key) (first version : ℕ) → AreRising mid → HasStart mid begin → HasStart mid end → first ≡ length before → all ≡ before ++ keys_between begin end mid → whole ≡ all → starts_now new ≡ marked (is_listed (take (length whole - first) (drop first whole))) version (starts_now mid)
    → AreOver (holds (record { begin = begin; end = end })) version (starts_now mid) (starts_now new)
steps_over begin end mid new before all whole first version rising first_there second_there size is same now =
    subst (AreOver (holds (record { begin = begin; end = end })) version (starts_now mid)) (sym now)
    (range_over begin end mid (take (length whole - first) (drop first whole)) version rising first_there second_there (slice_is before all (keys_between begin end mid) whole first size is same))
