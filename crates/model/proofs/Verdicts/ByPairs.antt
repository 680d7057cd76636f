-- The verdict by all pairs: a Conflict exactly where a part that the resolver committed, after the snapshot, wrote what was read.
use Rattle.std.proofs.Common.{◌≡◌, refl, ap, arith, List, [], ◌∷◌, ◌++◌}
use Rattle.std.specs.Prelude.{ℕ, ◌-◌, nat_lt, Bool, true, false, ◌&&◌, ◌⊎◌, ◌↔◌, if◌then◌else◌, Contains}
use Rattle.std.proofs.lemmas.List.Sums.{fold-append}
use Rattle.std.proofs.lemmas.Bool.{and_parts, and_from, ltb-true, lt-ltb}
use Rattle.std.specs.List.{list_any}
use mathlib.Core.Logic.{inl, inr}
use Rattle.system_keys.specs.Keys.{Range, Overlap, overlaps}
use Rattle.model.specs.declared.verdict.Verdict.{Verdict}
use Rattle.model.specs.declared.verdict.Verdict.TheVariants.{Conflict, TooOld, Committed}
use Rattle.model.specs.Verdicts.{JudgedPart, is_committed, has_some, is_too_old, IsTooOld, is_after_snapshot, reads_a_write, verdict_against, with_committed, committed_after, verdict, HasConflict}
use Rattle.system_keys.proofs.KeyLaws.{overlap_iff}
use Rattle.model.proofs.Members.{Has, Has-from_Contains, Contains-from_Has, Has-append_left, Has-append_right, Has-append_cases, Passing, list_any-from_Has, Passing-from_list_any}

-- ---- the parts committed so far

pub committed_from_test : (v : Verdict) → is_committed v ≡ true → v ≡ Committed
committed_from_test Conflict e = absurd (cc)
committed_from_test TooOld e = absurd (cc)
committed_from_test Committed e = refl

-- one part more is among those committed only where its resolver commits it
with_committed_cases : (window : ℕ) (committed : List JudgedPart) (t u : JudgedPart) → Has (with_committed window committed t) u → Has committed u ⊎ ((t ≡ u) × (verdict_against window committed t ≡ Committed))
with_committed_cases window committed t u h = go (is_committed (verdict_against window committed t)) refl h
  where
    last : is_committed (verdict_against window committed t) ≡ true → Has committed u ⊎ Has (t ∷ []) u → Has committed u ⊎ ((t ≡ u) × (verdict_against window committed t ≡ Committed))
    last e (inl there) = inl there
    last e (inr (inl same)) = inr (same, committed_from_test (verdict_against window committed t) e)
    last e (inr (inr none)) = absurd none

    go : (b : Bool) → is_committed (verdict_against window committed t) ≡ b → Has (if b then committed ++ t ∷ [] else committed) u → Has committed u ⊎ ((t ≡ u) × (verdict_against window committed t ≡ Committed))
    go true e k = last e (Has-append_cases committed (t ∷ []) u k)
    go false e k = inl k

with_committed_has : (window : ℕ) (committed : List JudgedPart) (t : JudgedPart) → verdict_against window committed t ≡ Committed → Has (with_committed window committed t) t
with_committed_has window committed t own = rw own (Has-append_right committed (t ∷ []) t (inl refl))

with_committed_keeps : (window : ℕ) (committed : List JudgedPart) (t u : JudgedPart) → Has committed u → Has (with_committed window committed t) u
with_committed_keeps window committed t u h = go (is_committed (verdict_against window committed t))
  where
    go : (b : Bool) → Has (if b then committed ++ t ∷ [] else committed) u
    go true = Has-append_left committed (t ∷ []) u h
    go false = h

-- what was committed stays
committed_after_keeps : (window : ℕ) (committed xs : List JudgedPart) (u : JudgedPart) → Has committed u → Has (committed_after window committed xs) u
committed_after_keeps window committed [] u h = h
committed_after_keeps window committed (t ∷ ts) u h = committed_after_keeps window (with_committed window committed t) ts u (with_committed_keeps window committed t u h)

-- a part that its resolver committed is among those committed
pub committed_after_has : (window : ℕ) (before front back : List JudgedPart) (u : JudgedPart) → before ≡ front ++ u ∷ back → verdict window front u ≡ Committed → Has (committed_after window [] before) u
committed_after_has window before front back u e own =
    let now = committed_after window [] front in
    rw (e, fold-append (with_committed window) [] front (u ∷ back)) (committed_after_keeps window (with_committed window now u) back u (with_committed_has window now u own))

-- a part among those committed stands in the list, and its resolver committed it
pub record CommittedPart (window : ℕ) (committed xs : List JudgedPart) (u : JudgedPart) : Type 0 where
  pub front : List JudgedPart
  pub back : List JudgedPart
  pub whole : xs ≡ front ++ u ∷ back
  pub own : verdict_against window (committed_after window committed front) u ≡ Committed

pub committed_after_cases : (window : ℕ) (committed xs : List JudgedPart) (u : JudgedPart) → Has (committed_after window committed xs) u → Has committed u ⊎ CommittedPart window committed xs u
committed_after_cases window committed [] u h = inl h
committed_after_cases window committed (t ∷ ts) u h = go (committed_after_cases window (with_committed window committed t) ts u h)
  where
    first : Has committed u ⊎ ((t ≡ u) × (verdict_against window committed t ≡ Committed)) → Has committed u ⊎ CommittedPart window committed (t ∷ ts) u
    first (inl there) = inl there
    first (inr (same, own)) = inr (record { front = []; back = ts; whole = ap (λ x. x ∷ ts) same; own = rw (← same) own })

    go : Has (with_committed window committed t) u ⊎ CommittedPart window (with_committed window committed t) ts u → Has committed u ⊎ CommittedPart window committed (t ∷ ts) u
    go (inl there) = first (with_committed_cases window committed t u there)
    go (inr at) = inr (record { front = t ∷ at.front; back = at.back; whole = ap (λ xs. t ∷ xs) at.whole; own = at.own })

-- ---- the three cases

-- the verdict is Conflict where the part is in time and meets a committed one
cases : (old hit : Bool) → ((if old then TooOld else if hit then Conflict else Committed) ≡ Conflict) → (old ≡ false) × (hit ≡ true)
cases true hit e = absurd (cc)
cases false true e = (refl, refl)
cases false false e = absurd (cc)

conflicts : (old hit : Bool) → old ≡ false → hit ≡ true → (if old then TooOld else if hit then Conflict else Committed) ≡ Conflict
conflicts old hit in_time hits = rw (in_time, hits)

-- a read and a write that overlap
record Met (t u : JudgedPart) : Type 0 where
  pub read : Range
  pub write : Range
  pub read_in : Contains t.part.reads read
  pub write_in : Contains u.part.writes write
  pub overlap : Overlap read write

Met-from_test : (t u : JudgedPart) → reads_a_write t u ≡ true → Met t u
Met-from_test t u e =
    let read = Passing-from_list_any (λ (q : Range). list_any (λ (p : Range). overlaps q p) u.part.writes) t.part.reads e in
    let write = Passing-from_list_any (λ (p : Range). overlaps read.x p) u.part.writes read.passes in
    record { read = read.x; write = write.x; read_in = Contains-from_Has t.part.reads read.x read.has; write_in = Contains-from_Has u.part.writes write.x write.has; overlap = (overlap_iff read.x write.x).0 write.passes }

pub reads_a_write-from_Overlap : (t u : JudgedPart) (read write : Range) → Contains t.part.reads read → Contains u.part.writes write → Overlap read write → reads_a_write t u ≡ true
reads_a_write-from_Overlap t u read write read_in write_in overlap =
    list_any-from_Has (λ (q : Range). list_any (λ (p : Range). overlaps q p) u.part.writes) t.part.reads read (Has-from_Contains t.part.reads read read_in)
    (list_any-from_Has (λ (p : Range). overlaps read p) u.part.writes write (Has-from_Contains u.part.writes write write_in) ((overlap_iff read write).1 overlap))

pub verdict-from_HasConflict : (window : ℕ) (before : List JudgedPart) (t : JudgedPart) → HasConflict window before t → verdict window before t ≡ Conflict
verdict-from_HasConflict window before t c =
    conflicts (is_too_old window t) (list_any (λ (u : JudgedPart). is_after_snapshot t u && reads_a_write t u) (committed_after window [] before)) c.in_time
    (list_any-from_Has (λ (u : JudgedPart). is_after_snapshot t u && reads_a_write t u) (committed_after window [] before) c.u (committed_after_has window before c.earlier c.between c.u c.before_is c.committed)
    (and_from (is_after_snapshot t c.u) (reads_a_write t c.u) c.after_snapshot (reads_a_write-from_Overlap t c.u c.read c.write c.read_in c.write_in c.overlap)))

pub HasConflict-from_verdict : (window : ℕ) (before : List JudgedPart) (t : JudgedPart) → verdict window before t ≡ Conflict → HasConflict window before t
HasConflict-from_verdict window before t e =
    let two = cases (is_too_old window t) (list_any (λ (u : JudgedPart). is_after_snapshot t u && reads_a_write t u) (committed_after window [] before)) e in
    let found = Passing-from_list_any (λ (u : JudgedPart). is_after_snapshot t u && reads_a_write t u) (committed_after window [] before) two.1 in
    go two.0 found (and_parts (is_after_snapshot t found.x) (reads_a_write t found.x) found.passes) (committed_after_cases window [] before found.x found.has)
  where
    go : is_too_old window t ≡ false → (found : Passing (λ (u : JudgedPart). is_after_snapshot t u && reads_a_write t u) (committed_after window [] before)) → (is_after_snapshot t found.x ≡ true) × (reads_a_write t found.x ≡ true) → Has [] found.x ⊎ CommittedPart window [] before found.x → HasConflict window before t
    go in_time found both (inl none) = absurd none
    go in_time found both (inr at) =
        let pair = Met-from_test t found.x both.1 in
        record { in_time = in_time; earlier = at.front; u = found.x; between = at.back; before_is = at.whole; committed = at.own; after_snapshot = both.0; read = pair.read; write = pair.write; read_in = pair.read_in; write_in = pair.write_in; overlap = pair.overlap }

-- ---- too old

-- a part is too old where it has a read, and its snapshot and the window together stay below its version
pub too_old_iff : (window : ℕ) (before : List JudgedPart) (t : JudgedPart) → (verdict window before t ≡ TooOld) ↔ IsTooOld window t
too_old_iff window before t = (to, from)
  where
    hit : Bool
    hit = list_any (λ (u : JudgedPart). is_after_snapshot t u && reads_a_write t u) (committed_after window [] before)

    first : (old hits : Bool) → (if old then TooOld else if hits then Conflict else Committed) ≡ TooOld → old ≡ true
    first true hits e = refl
    first false true e = absurd (cc)
    first false false e = absurd (cc)

    some : (ranges : List Range) → has_some ranges ≡ true → (read : Range) × Contains ranges read
    some [] e = absurd (cc)
    some (x ∷ xs) e = (x, Contains-from_Has (x ∷ xs) x (inl refl))

    back : (ranges : List Range) (read : Range) → Contains ranges read → has_some ranges ≡ true
    back [] read there = absurd (Has-from_Contains [] read there)
    back (x ∷ xs) read there = refl

    to : verdict window before t ≡ TooOld → IsTooOld window t
    to e =
        let both = and_parts (has_some t.part.reads) (nat_lt t.part.snapshot (t.version - window)) (first (is_too_old window t) hit e) in
        let read = some t.part.reads both.0 in
        let below = ltb-true t.part.snapshot (t.version - window) both.1 in
        record { read = read.0; read_in = read.1; old = omega arith }

    from : IsTooOld window t → verdict window before t ≡ TooOld
    from o =
        let old : is_too_old window t ≡ true = and_from (has_some t.part.reads) (nat_lt t.part.snapshot (t.version - window)) (back t.part.reads o.read o.read_in) (lt-ltb t.part.snapshot (t.version - window) (let below = o.old in omega arith)) in
        rw old refl

pub verdict_parts : (window : ℕ) (before : List JudgedPart) (t : JudgedPart) → (verdict window before t ≡ Conflict) ↔ HasConflict window before t
verdict_parts window before t = (HasConflict-from_verdict window before t, verdict-from_HasConflict window before t)
