-- A share judged part by part: the verdicts and the writes so far, and what the parts from i on add to them.
use Rattle.std.proofs.Common.{◌≡◌, ℕ, zero, suc, ◌+◌, ◌<◌, ◌≤◌, ◌⊎◌, inl, inr, max, refl, sym, ap, ap₂, subst, ◌∙◌, Bool, true, false, cond, ◌||◌, nat_lt, nat_eq, nat_le, if◌then◌else◌, List, [], ◌∷◌, ◌++◌, length, drop, get_or, append_assoc, append-nil, add-one, arith}
use Rattle.std.specs.Prelude.{Some}
use Rattle.std.specs.List.{list_any, slice_get}
use Rattle.std.proofs.Math.Seq.{drop-cons}
use Rattle.std.proofs.lemmas.Option.{get_or_from_slice_get, slice_get_within}
use Rattle.std.proofs.lemmas.Bool.{ltb-true, lt-ltb, eqb-true, eq-eqb, cases_lt, leb-true, leb-false, or_cases, or_left, or_right}
use Rattle.system_keys.specs.Keys.{Key, Range, holds}
use Rattle.model.specs.declared.part.Part.{Part}
use Rattle.model.specs.declared.verdict.Verdict.{Verdict}
use Rattle.model.specs.declared.verdict.Verdict.TheVariants.{Conflict, TooOld, Committed}
use Rattle.model.specs.Verdicts.{JudgedPart, is_committed, is_too_old, judged_at}
use Rattle.model.specs.WriteHistories.{Write, last_at, unless_forgotten, writes_at, verdict_by_writes, with_writes, verdicts_by_writes, writes_after, has_overwritten_read, counts_against, ReadsCountedKey}
use Rattle.model.proofs.Members.{Has-from_Contains, Contains-from_Has, Passing, list_any-from_Has, Passing-from_list_any}
use Rattle.model.proofs.Shares.LastVersions.{last_at_append, key_from_overwritten, overwritten_from_key, same_truth}
use Rattle.share_judge.specs.Steps.{Start, AreRising, AreOver, last_from, last_of_all, IsReached, is_written_above, kept_writes, is_in_some}
use Rattle.share_judge.specs.Judged.{conflict_bound, verdict_by_steps, committed_writes, IsJudged}
use Rattle.share_judge.proofs.Reached.{reached_iff}
use Rattle.share_judge.proofs.KeptWrites.{last_kept}

-- ---- what is written

written_at : (version : ℕ) (ranges : List Range) (key : Key) → last_at (writes_at version ranges) key ≡ cond (is_in_some ranges key) version 0
written_at version [] key = refl
written_at version (range ∷ ranges) key = by (holds range key) (written_at version ranges key)
  where
    by : (t : Bool) → last_at (writes_at version ranges) key ≡ cond (is_in_some ranges key) version 0 →
        (if t then max version (last_at (writes_at version ranges) key) else last_at (writes_at version ranges) key) ≡ cond (t || is_in_some ranges key) version 0
    by true rest = rw rest (most (is_in_some ranges key))
      where
        most : (b : Bool) → max version (cond b version 0) ≡ version
        most true = omega arith
        most false = omega arith
    by false rest = rest

-- ---- one verdict

-- The writes so far give each key the version that it has in the steps, unless it was dropped. That of the share is above those that were.
pub record AreSoFar (dropped version : ℕ) (starts : List Start) (writes : List Write) : Type 0 where
  pub last : (key : Key) → last_at writes key ≡ unless_forgotten dropped (last_from 0 starts key)
  pub up_to : (key : Key) → last_from 0 starts key ≤ version
  pub rising : AreRising starts
  pub past : last_of_all 0 starts ≡ 0
  pub dropped_below : dropped < version

-- a version that counts, and what is left of one that was dropped
left_counts : (dropped snapshot n : ℕ) → snapshot < unless_forgotten dropped n → max dropped snapshot < n
left_counts dropped snapshot n h = by (nat_le n dropped) refl h
  where
    by : (t : Bool) → nat_le n dropped ≡ t → snapshot < cond t 0 n → max dropped snapshot < n
    by true low above = absurd (omega (arith, above))
    by false high above = let more = leb-false n dropped high in omega (arith, more, above)

counts_left : (dropped snapshot n : ℕ) → max dropped snapshot < n → snapshot < unless_forgotten dropped n
counts_left dropped snapshot n h = by (nat_le n dropped) refl
  where
    by : (t : Bool) → nat_le n dropped ≡ t → snapshot < cond t 0 n
    by true low = absurd (let less = leb-true n dropped low in omega (arith, less, h))
    by false high = omega (arith, h)

-- the version of the share was not dropped
own_left : (dropped version n : ℕ) → dropped < version → n ≡ version → unless_forgotten dropped n ≡ version
own_left dropped version n below is = by (nat_le n dropped) refl
  where
    by : (t : Bool) → nat_le n dropped ≡ t → cond t 0 n ≡ version
    by true low = absurd (let less = leb-true n dropped low in omega (arith, less, is, below))
    by false high = is

left_own : (dropped version n : ℕ) → dropped < version → unless_forgotten dropped n ≡ version → n ≡ version
left_own dropped version n below is = by (nat_le n dropped) is
  where
    by : (t : Bool) → cond t 0 n ≡ version → n ≡ version
    by true none = absurd (omega (arith, none, below))
    by false same = same

no_more : (dropped n : ℕ) → unless_forgotten dropped n ≤ n
no_more dropped n = by (nat_le n dropped)
  where
    by : (t : Bool) → cond t 0 n ≤ n
    by true = omega arith
    by false = omega arith

-- what is above the bound counts
above_counts : (dropped n last : ℕ) (t : JudgedPart) → dropped < t.version → n ≤ t.version → last ≡ unless_forgotten dropped n → conflict_bound dropped t < n → counts_against t last ≡ true
above_counts dropped n last t below up_to is above = by (cases_lt n t.version)
  where
    by : (n < t.version) ⊎ (t.version ≤ n) → counts_against t last ≡ true
    by (inl older) =
        let more : max dropped t.part.snapshot < n = omega (arith, older, above) in
        let left = counts_left dropped t.part.snapshot n more in
        or_right (nat_eq last t.version) (nat_lt t.part.snapshot last) (lt-ltb t.part.snapshot last (omega (arith, left, is)))
    by (inr own) = or_left (nat_eq last t.version) (nat_lt t.part.snapshot last) (eq-eqb last t.version (is ∙ own_left dropped t.version n below (omega (arith, own, up_to))))

-- and nothing else does
counts_above : (dropped n last : ℕ) (t : JudgedPart) → dropped < t.version → last ≡ unless_forgotten dropped n → counts_against t last ≡ true → conflict_bound dropped t < n
counts_above dropped n last t below is counts = by (or_cases (nat_eq last t.version) (nat_lt t.part.snapshot last) counts)
  where
    by : (nat_eq last t.version ≡ true) ⊎ (nat_lt t.part.snapshot last ≡ true) → conflict_bound dropped t < n
    by (inl own) = let same = left_own dropped t.version n below (sym is ∙ eqb-true last t.version own) in omega (arith, same, below)
    by (inr newer) =
        let above = ltb-true t.part.snapshot last newer in
        let left = left_counts dropped t.part.snapshot n (omega (arith, above, is)) in
        omega (arith, left)

hit_is : (dropped : ℕ) (starts : List Start) (writes : List Write) (t : JudgedPart) → AreSoFar dropped t.version starts writes → list_any (is_written_above (conflict_bound dropped t) starts) t.part.reads ≡ has_overwritten_read writes t
hit_is dropped starts writes t so_far = same_truth (list_any test t.part.reads) (has_overwritten_read writes t) to from
  where
    bound : ℕ
    bound = conflict_bound dropped t

    test : Range → Bool
    test = is_written_above bound starts

    zero_below : 0 < t.version
    zero_below = let low = so_far.dropped_below in omega (arith, low)

    up_to : (key : Key) → last_at writes key ≤ t.version
    up_to key = let is = so_far.last key in let no = no_more dropped (last_from 0 starts key) in let less = so_far.up_to key in omega (arith, is, no, less)

    to : list_any test t.part.reads ≡ true → has_overwritten_read writes t ≡ true
    to e = overwritten_from_key writes t zero_below (record {
      read = read.x;
      key = r.key;
      read_in = Contains-from_Has t.part.reads read.x read.has;
      inside = r.inside;
      counted = above_counts dropped (last_from 0 starts r.key) (last_at writes r.key) t so_far.dropped_below (so_far.up_to r.key) (so_far.last r.key) r.above;
    })
      where
        read : Passing test t.part.reads
        read = Passing-from_list_any test t.part.reads e

        r : IsReached bound (last_from 0 starts) read.x
        r = (reached_iff bound read.x starts so_far.rising).0 read.passes

    from : has_overwritten_read writes t ≡ true → list_any test t.part.reads ≡ true
    from e = list_any-from_Has test t.part.reads k.read (Has-from_Contains t.part.reads k.read k.read_in) ((reached_iff bound k.read starts so_far.rising).1 (record {
      key = k.key;
      inside = k.inside;
      above = counts_above dropped (last_from 0 starts k.key) (last_at writes k.key) t so_far.dropped_below (so_far.last k.key) k.counted;
    }))
      where
        k : ReadsCountedKey (last_at writes) t
        k = key_from_overwritten writes t up_to e

verdict_is : (window dropped : ℕ) (starts : List Start) (writes : List Write) (t : JudgedPart) → AreSoFar dropped t.version starts writes → verdict_by_steps window dropped starts t ≡ verdict_by_writes window writes t
verdict_is window dropped starts writes t so_far =
    ap (λ (b : Bool). if is_too_old window t then TooOld else if b then Conflict else Committed) (hit_is dropped starts writes t so_far)

-- ---- one part more

so_far_more : (window dropped : ℕ) (starts next : List Start) (writes : List Write) (t : JudgedPart) (v : Verdict) → AreSoFar dropped t.version starts writes → v ≡ verdict_by_writes window writes t → AreOver (is_in_some (committed_writes v t.part)) t.version starts next → AreRising next
    → AreSoFar dropped t.version next (with_writes window writes t)
so_far_more window dropped starts next writes t v so_far is over rising =
    record {
      last = λ key.
          sym (ap (λ (u : Verdict). last_at (if is_committed u then writes ++ writes_at t.version t.part.writes else writes) key) is)
          ∙ gained key (is_committed v)
          ∙ ap (unless_forgotten dropped) (sym (over.at key));
      up_to = λ key. less (is_in_some (committed_writes v t.part) key) (last_from 0 starts key) (last_from 0 next key) (over.at key) (so_far.up_to key);
      rising = rising;
      past = over.past so_far.past;
      dropped_below = so_far.dropped_below;
    }
  where
    less : (b : Bool) (n m : ℕ) → m ≡ cond b t.version n → n ≤ t.version → m ≤ t.version
    less true n m own up_to = omega (arith, own)
    less false n m old up_to = omega (arith, old, up_to)

    most : (b : Bool) (n : ℕ) → n ≤ t.version → max (unless_forgotten dropped n) (cond b t.version 0) ≡ unless_forgotten dropped (cond b t.version n)
    most true n up_to =
        let no = no_more dropped n in
        let own = own_left dropped t.version t.version so_far.dropped_below refl in
        omega (arith, no, own, up_to)
    most false n up_to = omega arith

    gained : (key : Key) (b : Bool)
        → last_at (if b then writes ++ writes_at t.version t.part.writes else writes) key ≡ unless_forgotten dropped (cond (is_in_some (if b then t.part.writes else []) key) t.version (last_from 0 starts key))
    gained key true =
        last_at_append writes (writes_at t.version t.part.writes) key
        ∙ ap₂ (λ (x : ℕ) (y : ℕ). max x y) (so_far.last key) (written_at t.version t.part.writes key)
        ∙ most (is_in_some t.part.writes key) (last_from 0 starts key) (so_far.up_to key)
    gained key false = so_far.last key

-- the verdicts and writes so far, and those that the parts from i on add, are those of all parts
pub record AreJudged (window dropped version : ℕ) (kept : List Start) (parts : List Part) (i : ℕ) (verdicts : List Verdict) (starts : List Start) : Type 0 where
  pub writes : List Write
  pub so_far : AreSoFar dropped version starts writes
  pub verdicts_are : verdicts ++ verdicts_by_writes window writes (judged_at version (drop i parts)) ≡ verdicts_by_writes window (kept_writes dropped kept) (judged_at version parts)
  pub writes_are : writes_after window writes (judged_at version (drop i parts)) ≡ writes_after window (kept_writes dropped kept) (judged_at version parts)

pub none_judged : (window dropped version : ℕ) (kept : List Start) (parts : List Part) → AreRising kept → last_of_all 0 kept ≡ 0 → ((key : Key) → last_from 0 kept key < version) → dropped < version → AreJudged window dropped version kept parts 0 [] kept
none_judged window dropped version kept parts rising past below low =
    record {
      writes = kept_writes dropped kept;
      so_far = record {
        last = λ key. last_kept dropped kept key rising past;
        up_to = λ key. let less = below key in omega (arith, less);
        rising = rising;
        past = past;
        dropped_below = low;
      };
      verdicts_are = refl;
      writes_are = refl;
    }

pub one_judged : (window dropped version : ℕ) (kept : List Start) (parts : List Part) (i : ℕ) (verdicts : List Verdict) (starts next : List Start) (writes : List Range) (part : Part) (v : Verdict) → i < length parts → part ≡ get_or parts i part
    → AreJudged window dropped version kept parts i verdicts starts → (let t : JudgedPart = record { version = version; part = part } in v ≡ verdict_by_steps window dropped starts t) → writes ≡ committed_writes v part → AreOver (is_in_some writes) version starts next → AreRising next
    → AreJudged window dropped version kept parts (i + 1) (verdicts ++ v ∷ []) next
one_judged window dropped version kept parts i verdicts starts next ranges part v there is judged verdict_by ranges_are over rising =
    record {
      writes = with_writes window judged.writes t;
      so_far = so_far_more window dropped starts next judged.writes t v judged.so_far by_writes (subst (λ (rs : List Range). AreOver (is_in_some rs) version starts next) ranges_are over) rising;
      verdicts_are =
          ap (λ k. (verdicts ++ v ∷ []) ++ verdicts_by_writes window (with_writes window judged.writes t) (judged_at version (drop k parts))) (add-one i)
          ∙ append_assoc verdicts (v ∷ []) (verdicts_by_writes window (with_writes window judged.writes t) (judged_at version (drop (suc i) parts)))
          ∙ ap (λ u. verdicts ++ u ∷ verdicts_by_writes window (with_writes window judged.writes t) (judged_at version (drop (suc i) parts))) by_writes
          ∙ ap (λ (ps : List Part). verdicts ++ verdicts_by_writes window judged.writes (judged_at version ps)) (sym first)
          ∙ judged.verdicts_are;
      writes_are =
          ap (λ k. writes_after window (with_writes window judged.writes t) (judged_at version (drop k parts))) (add-one i)
          ∙ ap (λ (ps : List Part). writes_after window judged.writes (judged_at version ps)) (sym first)
          ∙ judged.writes_are;
    }
  where
    t : JudgedPart
    t = record { version = version; part = part }

    by_writes : v ≡ verdict_by_writes window judged.writes t
    by_writes = verdict_by ∙ verdict_is window dropped starts judged.writes t judged.so_far

    first : drop i parts ≡ part ∷ drop (suc i) parts
    first = drop-cons parts i part there ∙ ap (λ (x : Part). x ∷ drop (suc i) parts) (sym is)

none_left : (i : ℕ) (parts : List Part) → length parts ≤ i → drop i parts ≡ []
none_left zero [] past = refl
none_left (suc i) [] past = refl
none_left zero (part ∷ parts) past = absurd (omega arith)
none_left (suc i) (part ∷ parts) past = none_left i parts (omega arith)

pub all_judged : (window dropped version : ℕ) (kept : List Start) (parts : List Part) (i : ℕ) (verdicts : List Verdict) (next : List Start) → length parts ≤ i → AreJudged window dropped version kept parts i verdicts next → IsJudged window dropped version kept parts verdicts next
all_judged window dropped version kept parts i verdicts next past judged =
    record {
      verdicts_are =
          sym (append-nil verdicts)
          ∙ ap (λ (ps : List Part). verdicts ++ verdicts_by_writes window judged.writes (judged_at version ps)) (sym (none_left i parts past))
          ∙ judged.verdicts_are;
      last = λ key.
          ap (λ (ws : List Write). last_at ws key) (sym judged.writes_are ∙ ap (λ (ps : List Part). writes_after window judged.writes (judged_at version ps)) (none_left i parts past))
          ∙ judged.so_far.last key;
      up_to = judged.so_far.up_to;
      past = judged.so_far.past;
    }

-- ---- the reads of one part

pub any_next : (test : Range → Bool) (ranges : List Range) (i : ℕ) (range : Range) → slice_get ranges i ≡ Some range → list_any test (drop i ranges) ≡ (test range || list_any test (drop (i + 1) ranges))
any_next test ranges i range is =
    ap (list_any test) (drop-cons ranges i range (slice_get_within ranges i range is) ∙ ap (λ (x : Range). x ∷ drop (suc i) ranges) (get_or_from_slice_get ranges i range range is))
    ∙ ap (λ k. test range || list_any test (drop k ranges)) (sym (add-one i))

-- ---- the ranges of one part

-- the ranges from i on, written over the steps so far, give what all give
pub record AreWriting (version : ℕ) (ranges : List Range) (i : ℕ) (old new : List Start) : Type 0 where
  pub at : (key : Key) → cond (is_in_some (drop i ranges) key) version (last_from 0 new key) ≡ cond (is_in_some ranges key) version (last_from 0 old key)
  pub past : last_of_all 0 old ≡ 0 → last_of_all 0 new ≡ 0

pub one_written : (version : ℕ) (ranges : List Range) (i : ℕ) (range : Range) (old mid new : List Start) → i < length ranges → range ≡ get_or ranges i range → AreWriting version ranges i old mid → AreOver (holds range) version mid new → AreWriting version ranges (i + 1) old new
one_written version ranges i range old mid new there is writing over =
    record {
      at = λ key.
          ap (λ k. cond (is_in_some (drop k ranges) key) version (last_from 0 new key)) (add-one i)
          ∙ ap (λ n. cond (is_in_some (drop (suc i) ranges) key) version n) (over.at key)
          ∙ either (is_in_some (drop (suc i) ranges) key) (holds range key) (last_from 0 mid key)
          ∙ ap (λ (rs : List Range). cond (is_in_some rs key) version (last_from 0 mid key)) (sym first)
          ∙ writing.at key;
      past = λ none. over.past (writing.past none);
    }
  where
    first : drop i ranges ≡ range ∷ drop (suc i) ranges
    first = drop-cons ranges i range there ∙ ap (λ (x : Range). x ∷ drop (suc i) ranges) (sym is)

    either : (a b : Bool) (n : ℕ) → cond a version (cond b version n) ≡ cond (b || a) version n
    either true true n = refl
    either true false n = refl
    either false true n = refl
    either false false n = refl
