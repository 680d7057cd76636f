-- The last version at each key decides what a part conflicts with.
use Rattle.std.proofs.Common.{◌≡◌, refl, sym, ap, ◌∙◌, ℕ, ◌-◌, ◌<◌, ◌≤◌, max, ◌⊎◌, inl, inr, List, [], ◌∷◌, ◌++◌, Bool, true, false, ◌&&◌, nat_eq, nat_lt, nat_le, if◌then◌else◌, arith}
use Rattle.std.specs.List.{list_any}
use Rattle.std.proofs.lemmas.Bool.{ltb-true, leb-true, lt-ltb, le-ltb, eqb-true, eq-eqb, ne_eqb, cases_lt, and_parts, and_from, or_cases, or_left, or_right, or_from}
use Rattle.system_keys.specs.Keys.{Key, Range, holds, overlaps}
use Rattle.system_keys.proofs.KeyLaws.{overlap_iff}
use Rattle.model.specs.Verdicts.{JudgedPart, is_after_snapshot, reads_a_write, committed_after}
use Rattle.model.specs.WriteHistories.{Write, last_at, writes_at, writes_of, unless_forgotten, last_committed, counts_against, is_overwritten, has_overwritten_read, ReadsCountedKey, AreUpTo}
use Rattle.model.proofs.Members.{Has, Has-from_Contains, Contains-from_Has, Has-append_left, Has-append_right, Has-append_cases, Has-split, list_any-from_Has, Passing-from_list_any}
use Rattle.model.proofs.Verdicts.ByPairs.{CommittedPart, committed_after_cases}

-- ---- the last version at a key

pub last_at_append : (a b : List Write) (key : Key) → last_at (a ++ b) key ≡ max (last_at a key) (last_at b key)
last_at_append [] b key = omega arith
last_at_append (w ∷ a) b key = by (holds w.range key) (last_at_append a b key)
  where
    by : (t : Bool) → last_at (a ++ b) key ≡ max (last_at a key) (last_at b key) →
        (if t then max w.version (last_at (a ++ b) key) else last_at (a ++ b) key) ≡ max (if t then max w.version (last_at a key) else last_at a key) (last_at b key)
    by true e = omega (arith, e)
    by false e = e

-- no write of the key is later
pub last_at_least : (ws : List Write) (w : Write) (key : Key) → Has ws w → holds w.range key ≡ true → w.version ≤ last_at ws key
last_at_least [] w key h inside = absurd h
last_at_least (u ∷ ws) w key (inl e) inside = by (holds u.range key) (ap (λ (x : Write). holds x.range key) e ∙ inside) (ap (λ (x : Write). x.version) e)
  where
    by : (t : Bool) → t ≡ true → u.version ≡ w.version → w.version ≤ (if t then max u.version (last_at ws key) else last_at ws key)
    by true in_u same = omega (arith, same)
    by false in_u same = absurd (cc)
last_at_least (u ∷ ws) w key (inr h) inside = by (holds u.range key) (last_at_least ws w key h inside)
  where
    by : (t : Bool) → w.version ≤ last_at ws key → w.version ≤ (if t then max u.version (last_at ws key) else last_at ws key)
    by true least = omega (arith, least)
    by false least = least

-- a write of the key at its last version
pub record LastWrite (ws : List Write) (key : Key) : Type 0 where
  pub write : Write
  pub has : Has ws write
  pub inside : holds write.range key ≡ true
  pub last : last_at ws key ≡ write.version

pub last_at_cases : (ws : List Write) (key : Key) → (last_at ws key ≡ 0) ⊎ LastWrite ws key
last_at_cases [] key = inl refl
last_at_cases (u ∷ ws) key = by (holds u.range key) refl (last_at_cases ws key)
  where
    rest : LastWrite ws key → last_at (u ∷ ws) key ≡ last_at ws key → LastWrite (u ∷ ws) key
    rest found e = record { write = found.write; has = inr found.has; inside = found.inside; last = e ∙ found.last }

    greater : holds u.range key ≡ true → last_at (u ∷ ws) key ≡ max u.version (last_at ws key)
    greater is = rw is refl

    inside : holds u.range key ≡ true → (last_at ws key ≡ 0) ⊎ LastWrite ws key → (u.version < last_at ws key) ⊎ (last_at ws key ≤ u.version) → (last_at (u ∷ ws) key ≡ 0) ⊎ LastWrite (u ∷ ws) key
    inside is (inl none) (inl less) = absurd (omega (arith, none, less))
    inside is (inr found) (inl less) = inr (rest found (greater is ∙ omega (arith, less)))
    inside is found (inr more) = inr (record { write = u; has = inl refl; inside = is; last = greater is ∙ omega (arith, more) })

    outside : holds u.range key ≡ false → (last_at ws key ≡ 0) ⊎ LastWrite ws key → (last_at (u ∷ ws) key ≡ 0) ⊎ LastWrite (u ∷ ws) key
    outside is (inl none) = inl (rw is none)
    outside is (inr found) = inr (rest found (rw is refl))

    by : (t : Bool) → holds u.range key ≡ t → (last_at ws key ≡ 0) ⊎ LastWrite ws key → (last_at (u ∷ ws) key ≡ 0) ⊎ LastWrite (u ∷ ws) key
    by true is found = inside is found (cases_lt u.version (last_at ws key))
    by false is found = outside is found

pub last_at_up_to : (n : ℕ) (ws : List Write) (key : Key) → ((w : Write) → Has ws w → w.version ≤ n) → last_at ws key ≤ n
last_at_up_to n ws key below = by (last_at_cases ws key)
  where
    by : (last_at ws key ≡ 0) ⊎ LastWrite ws key → last_at ws key ≤ n
    by (inl none) = omega (arith, none)
    by (inr found) = omega (arith, found.last, below found.write found.has)

-- ---- what counts

-- a later version counts too, up to the part's own
counts_later : (t : JudgedPart) (version later : ℕ) → counts_against t version ≡ true → version ≤ later → later ≤ t.version → counts_against t later ≡ true
counts_later t version later counts h up_to = by (or_cases (nat_eq version t.version) (nat_lt t.part.snapshot version) counts)
  where
    by : (nat_eq version t.version ≡ true) ⊎ (nat_lt t.part.snapshot version ≡ true) → counts_against t later ≡ true
    by (inl own) = or_left (nat_eq later t.version) (nat_lt t.part.snapshot later) (eq-eqb later t.version (let same = eqb-true version t.version own in omega (arith, same, h, up_to)))
    by (inr newer) = or_right (nat_eq later t.version) (nat_lt t.part.snapshot later) (lt-ltb t.part.snapshot later (let above = ltb-true t.part.snapshot version newer in omega (arith, above, h)))

-- a version that is not the part's own, and not above its snapshot, does not count
pub counts_not : (t : JudgedPart) (version : ℕ) → version < t.version → version ≤ t.part.snapshot → counts_against t version ≡ false
counts_not t version below old = or_from (nat_eq version t.version) (nat_lt t.part.snapshot version) (ne_eqb version t.version (λ same. omega (arith, same, below))) (le-ltb t.part.snapshot version old)

-- what is forgotten would not have counted: this is the argument of the window
pub counts_unforgotten : (window forgotten : ℕ) (t : JudgedPart) (version : ℕ) → forgotten < t.version → forgotten ≤ t.version - window → t.version - window ≤ t.part.snapshot → counts_against t (unless_forgotten forgotten version) ≡ counts_against t version
counts_unforgotten window forgotten t version below in_window young = by (nat_le version forgotten) refl
  where
    by : (b : Bool) → nat_le version forgotten ≡ b → counts_against t (if b then 0 else version) ≡ counts_against t version
    by true is =
        let low = leb-true version forgotten is in
        counts_not t 0 (omega (arith, below)) (omega arith) ∙ sym (counts_not t version (omega (arith, low, below)) (omega (arith, low, in_window, young)))
    by false is = refl

-- ---- from writes to last versions and back

pub key_from_overwritten : (ws : List Write) (t : JudgedPart) → ((key : Key) → last_at ws key ≤ t.version) → has_overwritten_read ws t ≡ true → ReadsCountedKey (last_at ws) t
key_from_overwritten ws t up_to e =
    let read = Passing-from_list_any (is_overwritten ws t) t.part.reads e in
    let write = Passing-from_list_any (λ (w : Write). counts_against t w.version && overlaps read.x w.range) ws read.passes in
    let both = and_parts (counts_against t write.x.version) (overlaps read.x write.x.range) write.passes in
    let shared = (overlap_iff read.x write.x.range).0 both.1 in
    let inside = and_parts (holds read.x shared.key) (holds write.x.range shared.key) shared.shared in
    record {
      read = read.x;
      key = shared.key;
      read_in = Contains-from_Has t.part.reads read.x read.has;
      inside = inside.0;
      counted = counts_later t write.x.version (last_at ws shared.key) both.0 (last_at_least ws write.x shared.key write.has inside.1) (up_to shared.key);
    }

pub overwritten_from_key : (ws : List Write) (t : JudgedPart) → 0 < t.version → ReadsCountedKey (last_at ws) t → has_overwritten_read ws t ≡ true
overwritten_from_key ws t above h = by (last_at_cases ws h.key)
  where
    by : (last_at ws h.key ≡ 0) ⊎ LastWrite ws h.key → has_overwritten_read ws t ≡ true
    by (inl none) =
        let counted : counts_against t (last_at ws h.key) ≡ true = h.counted in
        let zero_counts : counts_against t 0 ≡ true = ap (counts_against t) (sym none) ∙ counted in
        let not_zero = counts_not t 0 above (omega arith) in
        absurd (cc (zero_counts, not_zero))
    by (inr found) =
        let counted : counts_against t (last_at ws h.key) ≡ true = h.counted in
        list_any-from_Has (is_overwritten ws t) t.part.reads h.read (Has-from_Contains t.part.reads h.read h.read_in)
        (list_any-from_Has (λ (w : Write). counts_against t w.version && overlaps h.read w.range) ws found.write found.has
        (and_from (counts_against t found.write.version) (overlaps h.read found.write.range)
        (ap (counts_against t) (sym found.last) ∙ counted)
        ((overlap_iff h.read found.write.range).1 (record { key = h.key; shared = and_from (holds h.read h.key) (holds found.write.range h.key) h.inside found.inside }))))

-- ---- from parts to writes and back

-- a write is that of a part
record OfPart (parts : List JudgedPart) (w : Write) : Type 0 where
  part : JudgedPart
  has : Has parts part
  version : w.version ≡ part.version
  range_in : Has part.part.writes w.range

at_version : (version : ℕ) (ranges : List Range) (w : Write) → Has (writes_at version ranges) w → (w.version ≡ version) × Has ranges w.range
at_version version [] w h = absurd h
at_version version (range ∷ ranges) w (inl e) = (sym (ap (λ (x : Write). x.version) e), inl (ap (λ (x : Write). x.range) e))
at_version version (range ∷ ranges) w (inr h) = let found = at_version version ranges w h in (found.0, inr found.1)

range_at : (version : ℕ) (ranges : List Range) (range : Range) → Has ranges range → Has (writes_at version ranges) (record { range = range; version = version })
range_at version [] range h = absurd h
range_at version (q ∷ ranges) range (inl e) = inl (ap (λ (r : Range). let w : Write = record { range = r; version = version } in w) e)
range_at version (q ∷ ranges) range (inr h) = inr (range_at version ranges range h)

OfPart-from_Has : (parts : List JudgedPart) (w : Write) → Has (writes_of parts) w → OfPart parts w
OfPart-from_Has [] w h = absurd h
OfPart-from_Has (t ∷ parts) w h = by (OfPart-from_Has parts w) (Has-append_cases (writes_at t.version t.part.writes) (writes_of parts) w h)
  where
    by : (Has (writes_of parts) w → OfPart parts w) → Has (writes_at t.version t.part.writes) w ⊎ Has (writes_of parts) w → OfPart (t ∷ parts) w
    by later (inl own) = let found = at_version t.version t.part.writes w own in record { part = t; has = inl refl; version = found.0; range_in = found.1 }
    by later (inr h) = let found = later h in record { part = found.part; has = inr found.has; version = found.version; range_in = found.range_in }

Has-of_part : (parts : List JudgedPart) (u : JudgedPart) (range : Range) → Has parts u → Has u.part.writes range → Has (writes_of parts) (record { range = range; version = u.version })
Has-of_part [] u range h inside = absurd h
Has-of_part (t ∷ parts) u range (inl e) inside =
    Has-append_left (writes_at t.version t.part.writes) (writes_of parts) _
    (rw e (range_at u.version u.part.writes range inside))
Has-of_part (t ∷ parts) u range (inr h) inside = Has-append_right (writes_at t.version t.part.writes) (writes_of parts) _ (Has-of_part parts u range h inside)

-- t conflicts with one of the parts
abbrev pub conflicts_with : (t : JudgedPart) (parts : List JudgedPart) → Bool
conflicts_with t parts = list_any (λ (u : JudgedPart). is_after_snapshot t u && reads_a_write t u) parts

overwritten_from_conflict : (t : JudgedPart) (parts : List JudgedPart) → conflicts_with t parts ≡ true → has_overwritten_read (writes_of parts) t ≡ true
overwritten_from_conflict t parts e =
    let u = Passing-from_list_any (λ (u : JudgedPart). is_after_snapshot t u && reads_a_write t u) parts e in
    let both = and_parts (is_after_snapshot t u.x) (reads_a_write t u.x) u.passes in
    let read = Passing-from_list_any (λ (q : Range). list_any (overlaps q) u.x.part.writes) t.part.reads both.1 in
    let write = Passing-from_list_any (overlaps read.x) u.x.part.writes read.passes in
    let w : Write = record { range = write.x; version = u.x.version } in
    list_any-from_Has (is_overwritten (writes_of parts) t) t.part.reads read.x read.has
    (list_any-from_Has (λ (w : Write). counts_against t w.version && overlaps read.x w.range) (writes_of parts) w (Has-of_part parts u.x write.x u.has write.has)
    (and_from (counts_against t u.x.version) (overlaps read.x write.x) both.0 write.passes))

conflict_from_overwritten : (t : JudgedPart) (parts : List JudgedPart) → has_overwritten_read (writes_of parts) t ≡ true → conflicts_with t parts ≡ true
conflict_from_overwritten t parts e =
    let read = Passing-from_list_any (is_overwritten (writes_of parts) t) t.part.reads e in
    let write = Passing-from_list_any (λ (w : Write). counts_against t w.version && overlaps read.x w.range) (writes_of parts) read.passes in
    let both = and_parts (counts_against t write.x.version) (overlaps read.x write.x.range) write.passes in
    let of = OfPart-from_Has parts write.x write.has in
    list_any-from_Has (λ (u : JudgedPart). is_after_snapshot t u && reads_a_write t u) parts of.part of.has
    (and_from (is_after_snapshot t of.part) (reads_a_write t of.part)
    (ap (counts_against t) (sym of.version) ∙ both.0)
    (list_any-from_Has (λ (q : Range). list_any (overlaps q) of.part.part.writes) t.part.reads read.x read.has
    (list_any-from_Has (overlaps read.x) of.part.part.writes write.x.range of.range_in both.1)))

pub same_truth : (p q : Bool) → (p ≡ true → q ≡ true) → (q ≡ true → p ≡ true) → p ≡ q
same_truth true q to from = sym (to refl)
same_truth false true to from = absurd (cc (from refl))
same_truth false false to from = refl

-- a part conflicts with some parts exactly if it has a read that their writes overwrote
pub conflicts_by_writes : (t : JudgedPart) (parts : List JudgedPart) → has_overwritten_read (writes_of parts) t ≡ conflicts_with t parts
conflicts_by_writes t parts = same_truth (has_overwritten_read (writes_of parts) t) (conflicts_with t parts) (conflict_from_overwritten t parts) (overwritten_from_conflict t parts)

-- ---- the parts that are committed

pub committed_among : (window : ℕ) (before : List JudgedPart) (u : JudgedPart) → Has (committed_after window [] before) u → Has before u
committed_among window before u h = by (committed_after_cases window [] before u h)
  where
    by : Has [] u ⊎ CommittedPart window [] before u → Has before u
    by (inl none) = absurd none
    by (inr at) = rw at.whole (Has-split at.front at.back u)

pub last_committed_up_to : (window version : ℕ) (before : List JudgedPart) (key : Key) → AreUpTo version before → last_committed window before key ≤ version
last_committed_up_to window version before key up_to =
    last_at_up_to version (writes_of (committed_after window [] before)) key
    (λ w has.
    let of = OfPart-from_Has (committed_after window [] before) w has in
    let below : of.part.version ≤ version = up_to of.part (Contains-from_Has before of.part (committed_among window before of.part of.has)) in
    omega (arith, of.version, below))
