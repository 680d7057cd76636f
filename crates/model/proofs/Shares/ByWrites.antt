-- Shares judged part by part, by writes that have the last committed version at each key.
use Rattle.std.proofs.Common.{◌≡◌, refl, sym, ap, ap₂, subst, ◌∙◌, ℕ, ◌-◌, ◌<◌, ◌≤◌, max, ◌⊎◌, inl, inr, List, [], ◌∷◌, ◌++◌, Bool, true, false, nat_lt, nat_le, if◌then◌else◌, append_assoc, append-nil, arith}
use Rattle.std.specs.Prelude.{IsFalse}
use Rattle.std.specs.List.{list_any, flat_map}
use Rattle.std.proofs.lemmas.Bool.{ltb-false, leb-true, leb-false, and_cases}
use Rattle.std.proofs.lemmas.List.Sums.{fold-append}
use Rattle.system_keys.specs.Keys.{Key, Range, holds}
use Rattle.model.specs.Configs.{Config}
use Rattle.model.specs.declared.part.Part.{Part}
use Rattle.model.specs.declared.verdict.Verdict.{Verdict}
use Rattle.model.specs.declared.verdict.Verdict.TheVariants.{Conflict, TooOld, Committed}
use Rattle.model.specs.Records.{Record}
use Rattle.model.specs.Shares.{share}
use Rattle.model.specs.Verdicts.{JudgedPart, is_committed, has_some, is_too_old, with_committed, committed_after, verdict, judged_at, judged_before, verdicts_after, share_verdicts}
use Rattle.model.specs.Requests.{request_verdicts}
use Rattle.model.specs.WriteHistories.{Write, last_at, writes_at, writes_of, unless_forgotten, ShareAt, all_judged, shares_of_records, IsRisingFrom, last_judged, last_committed, counts_against, is_overwritten, has_overwritten_read, verdict_by_writes, with_writes, verdicts_by_writes, writes_after, ReadsCountedKey, StandsForParts}
use Rattle.model.specs.Laws.Shares.{ConflictIsByLastVersions, LastVersionsDecideTheVerdict}
use Rattle.model.specs.Laws.Shares.{SharesBeginAsParts, WritesGiveTheVerdict, PartsAddTheirWrites}
use Rattle.model.specs.Laws.Shares.{PartsMakeAShare, NewHistoriesStandForNoShares}
use Rattle.model.specs.Laws.Shares.{WritesGiveTheVerdictsOfAShare, SharesAddTheirWrites}
use Rattle.model.specs.Laws.Shares.{ForgettingKeepsTheShares, ForgottenWritesChangeNoVerdict}
use Rattle.model.specs.Laws.Shares.{RecordsAreJudgedAsShares, ShareVerdictsAreAfterShares}
use Rattle.model.specs.Laws.Shares.{RequestsAreJudgedAsShares, RequestVerdictsAreAfterShares}
use Rattle.model.proofs.Members.{Has, Has-from_Contains, Contains-from_Has, Has-append_cases}
use Rattle.model.proofs.Shares.LastVersions.{last_at_append, counts_unforgotten, key_from_overwritten, overwritten_from_key, same_truth, conflicts_by_writes, last_committed_up_to}

-- ---- one verdict

-- the verdict by the writes of the committed parts is the verdict
verdict_by_all : (window : ℕ) (before : List JudgedPart) (t : JudgedPart) → verdict_by_writes window (writes_of (committed_after window [] before)) t ≡ verdict window before t
verdict_by_all window before t =
    ap (λ (b : Bool). if is_too_old window t then TooOld else if b then Conflict else Committed) (conflicts_by_writes t (committed_after window [] before))

decides : (old hit : Bool) → ((if old then TooOld else if hit then Conflict else Committed) ≡ Conflict) → (old ≡ false) × (hit ≡ true)
decides true hit e = absurd (cc)
decides false true e = (refl, refl)
decides false false e = absurd (cc)

conflicts : (old hit : Bool) → old ≡ false → hit ≡ true → (if old then TooOld else if hit then Conflict else Committed) ≡ Conflict
conflicts old hit in_time hits = rw (in_time, hits) refl

pub conflict_by_last : ConflictIsByLastVersions
conflict_by_last window before t above up_to = (to, from)
  where
    ws : List Write
    ws = writes_of (committed_after window [] before)

    to : verdict window before t ≡ Conflict → IsFalse (is_too_old window t) × ReadsCountedKey (last_committed window before) t
    to e =
        let both = decides (is_too_old window t) (has_overwritten_read ws t) (verdict_by_all window before t ∙ e) in
        (both.0, key_from_overwritten ws t (λ key. last_committed_up_to window t.version before key up_to) both.1)

    from : IsFalse (is_too_old window t) × ReadsCountedKey (last_committed window before) t → verdict window before t ≡ Conflict
    from h = sym (verdict_by_all window before t) ∙ conflicts (is_too_old window t) (has_overwritten_read ws t) h.0 (overwritten_from_key ws t above h.1)

-- last versions that count alike at each key decide alike
hit_alike : (a b : List Write) (t : JudgedPart) → 0 < t.version → ((key : Key) → last_at a key ≤ t.version) → ((key : Key) → last_at b key ≤ t.version) → ((key : Key) → counts_against t (last_at a key) ≡ counts_against t (last_at b key)) → has_overwritten_read a t ≡ has_overwritten_read b t
hit_alike a b t above a_up_to b_up_to alike =
    same_truth (has_overwritten_read a t) (has_overwritten_read b t)
    (λ e.
    let h = key_from_overwritten a t a_up_to e in
    overwritten_from_key b t above (record { read = h.read; key = h.key; read_in = h.read_in; inside = h.inside; counted = sym (alike h.key) ∙ h.counted }))
    (λ e.
    let h = key_from_overwritten b t b_up_to e in
    overwritten_from_key a t above (record { read = h.read; key = h.key; read_in = h.read_in; inside = h.inside; counted = alike h.key ∙ h.counted }))

pub last_versions_decide : LastVersionsDecideTheVerdict
last_versions_decide window before others t above up_to up_to_too same =
    sym (verdict_by_all window before t)
    ∙ ap (λ (b : Bool). if is_too_old window t then TooOld else if b then Conflict else Committed)
    (hit_alike (writes_of (committed_after window [] before)) (writes_of (committed_after window [] others)) t above
    (λ key. last_committed_up_to window t.version before key up_to) (λ key. last_committed_up_to window t.version others key up_to_too)
    (λ key. ap (counts_against t) (same key)))
    ∙ verdict_by_all window others t

-- ---- what is forgotten

unforgotten_up_to : (forgotten version n : ℕ) → version ≤ n → unless_forgotten forgotten version ≤ n
unforgotten_up_to forgotten version n h = by (nat_le version forgotten)
  where
    by : (b : Bool) → (if b then 0 else version) ≤ n
    by true = omega arith
    by false = h

no_reads : (test : Range → Bool) (reads : List Range) → has_some reads ≡ false → list_any test reads ≡ false
no_reads test [] none = refl
no_reads test (read ∷ reads) none = absurd (cc)

pub writes_give_verdict : WritesGiveTheVerdict
writes_give_verdict window writes judged forgotten t stands =
    by (is_too_old window t) refl ∙ verdict_by_all window judged t
  where
    ws : List Write
    ws = writes_of (committed_after window [] judged)

    up_to : (key : Key) → last_at ws key ≤ t.version
    up_to key = last_committed_up_to window t.version judged key stands.up_to

    hit : (has_some t.part.reads ≡ false) ⊎ (nat_lt t.part.snapshot (t.version - window) ≡ false) → has_overwritten_read writes t ≡ has_overwritten_read ws t
    hit (inl none) = no_reads (is_overwritten writes t) t.part.reads none ∙ sym (no_reads (is_overwritten ws t) t.part.reads none)
    hit (inr young) =
        hit_alike writes ws t (let below = stands.below in omega (arith, below))
        (λ key. let same = stands.same key in omega (arith, same, unforgotten_up_to forgotten (last_at ws key) t.version (up_to key)))
        up_to
        (λ key.
        ap (counts_against t) (stands.same key)
        ∙ counts_unforgotten window forgotten t (last_at ws key) stands.below stands.in_window (ltb-false t.part.snapshot (t.version - window) young))

    by : (old : Bool) → is_too_old window t ≡ old →
        (if old then TooOld else if has_overwritten_read writes t then Conflict else Committed) ≡ (if old then TooOld else if has_overwritten_read ws t then Conflict else Committed)
    by true is = refl
    by false is = ap (λ (b : Bool). if b then Conflict else Committed) (hit (and_cases (has_some t.part.reads) (nat_lt t.part.snapshot (t.version - window)) is))

-- ---- one more part

own_last : (version : ℕ) (ranges : List Range) (key : Key) → (last_at (writes_at version ranges) key ≡ 0) ⊎ (last_at (writes_at version ranges) key ≡ version)
own_last version [] key = inl refl
own_last version (range ∷ ranges) key = by (holds range key) (own_last version ranges key)
  where
    rest : ℕ
    rest = last_at (writes_at version ranges) key

    by : (b : Bool) → (rest ≡ 0) ⊎ (rest ≡ version) → ((if b then max version rest else rest) ≡ 0) ⊎ ((if b then max version rest else rest) ≡ version)
    by true (inl none) = inr (omega (arith, none))
    by true (inr own) = inr (omega (arith, own))
    by false found = found

forgets_before : (forgotten last own version : ℕ) → forgotten < version → (own ≡ 0) ⊎ (own ≡ version) → max (unless_forgotten forgotten last) own ≡ unless_forgotten forgotten (max last own)
forgets_before forgotten last own version below (inl none) = ap (λ n. max (unless_forgotten forgotten last) n) none ∙ first ∙ ap (unless_forgotten forgotten) second
  where
    first : max (unless_forgotten forgotten last) 0 ≡ unless_forgotten forgotten last
    first = omega arith

    second : last ≡ max last own
    second = omega (arith, none)
forgets_before forgotten last own version below (inr is) = by (nat_le last forgotten) refl (nat_le (max last own) forgotten) refl
  where
    by : (b : Bool) → nat_le last forgotten ≡ b → (c : Bool) → nat_le (max last own) forgotten ≡ c → max (if b then 0 else last) own ≡ (if c then 0 else max last own)
    by true old true too = absurd (let up_to = leb-true (max last own) forgotten too in omega (arith, up_to, is, below))
    by true old false kept = let low = leb-true last forgotten old in omega (arith, low, is, below)
    by false new true too = absurd (let up_to = leb-true (max last own) forgotten too in omega (arith, up_to, is, below))
    by false new false kept = refl

pub parts_add : PartsAddTheirWrites
parts_add window writes next judged forgotten t stands gains =
    record {
      up_to = λ u h. among u (Has-append_cases judged (t ∷ []) u (Has-from_Contains (judged ++ t ∷ []) u h));
      below = stands.below;
      in_window = stands.in_window;
      same = λ key.
          gains key
          ∙ ap (λ (v : Verdict). last_at (if is_committed v then writes ++ writes_at t.version t.part.writes else writes) key) (writes_give_verdict window writes judged forgotten t stands)
          ∙ by key (is_committed (verdict window judged t)) refl
          ∙ ap (λ (parts : List JudgedPart). unless_forgotten forgotten (last_at (writes_of parts) key)) (sym (fold-append (with_committed window) [] judged (t ∷ [])));
    }
  where
    committed : List JudgedPart
    committed = committed_after window [] judged

    among : (u : JudgedPart) → Has judged u ⊎ Has (t ∷ []) u → u.version ≤ t.version
    among u (inl there) = stands.up_to u (Contains-from_Has judged u there)
    among u (inr (inl own)) = let same = ap (λ (p : JudgedPart). p.version) own in omega (arith, same)
    among u (inr (inr none)) = absurd none

    writes_more : (parts : List JudgedPart) → writes_of (parts ++ t ∷ []) ≡ writes_of parts ++ writes_at t.version t.part.writes
    writes_more [] = append-nil (writes_at t.version t.part.writes)
    writes_more (u ∷ parts) = ap (λ (ws : List Write). writes_at u.version u.part.writes ++ ws) (writes_more parts) ∙ sym (append_assoc (writes_at u.version u.part.writes) (writes_of parts) (writes_at t.version t.part.writes))

    by : (key : Key) (b : Bool) → is_committed (verdict window judged t) ≡ b →
        last_at (if b then writes ++ writes_at t.version t.part.writes else writes) key ≡ unless_forgotten forgotten (last_at (writes_of (if b then committed ++ t ∷ [] else committed)) key)
    by key true is =
        let own = last_at (writes_at t.version t.part.writes) key in
        last_at_append writes (writes_at t.version t.part.writes) key
        ∙ ap (λ n. max n own) (stands.same key)
        ∙ forgets_before forgotten (last_at (writes_of committed) key) own t.version stands.below (own_last t.version t.part.writes key)
        ∙ ap (unless_forgotten forgotten) (sym (last_at_append (writes_of committed) (writes_at t.version t.part.writes) key) ∙ ap (λ (ws : List Write). last_at ws key) (sym (writes_more committed)))
    by key false is = stands.same key

-- ---- shares and their parts

-- the parts of one more share
pub all_judged_more : (shares : List ShareAt) (s : ShareAt) → all_judged (shares ++ s ∷ []) ≡ all_judged shares ++ judged_at s.version s.parts
all_judged_more [] s = append-nil (judged_at s.version s.parts)
all_judged_more (u ∷ shares) s = ap (λ (parts : List JudgedPart). judged_at u.version u.parts ++ parts) (all_judged_more shares s) ∙ sym (append_assoc (judged_at u.version u.parts) (all_judged shares) (judged_at s.version s.parts))

last_at_least_first : (version : ℕ) (shares : List ShareAt) → IsRisingFrom version shares → version ≤ last_judged version shares
last_at_least_first version [] rising = omega arith
last_at_least_first version (s ∷ shares) rising = let later = last_at_least_first s.version shares rising.1 in let first = rising.0 in omega (arith, first, later)

version_of_judged : (version : ℕ) (parts : List Part) (u : JudgedPart) → Has (judged_at version parts) u → version ≡ u.version
version_of_judged version [] u h = absurd h
version_of_judged version (part ∷ parts) u (inl e) = ap (λ (x : JudgedPart). x.version) e
version_of_judged version (part ∷ parts) u (inr h) = version_of_judged version parts u h

judged_up_to : (version : ℕ) (shares : List ShareAt) (u : JudgedPart) → IsRisingFrom version shares → Has (all_judged shares) u → u.version ≤ last_judged version shares
judged_up_to version [] u rising h = absurd h
judged_up_to version (s ∷ shares) u rising h = by (judged_up_to s.version shares u rising.1) (Has-append_cases (judged_at s.version s.parts) (all_judged shares) u h)
  where
    by : (Has (all_judged shares) u → u.version ≤ last_judged s.version shares) → Has (judged_at s.version s.parts) u ⊎ Has (all_judged shares) u → u.version ≤ last_judged s.version shares
    by later (inl own) = omega (arith, version_of_judged s.version s.parts u own, last_at_least_first s.version shares rising.1)
    by later (inr there) = later there

pub shares_begin : SharesBeginAsParts
shares_begin history shares forgotten version stands above =
    record {
      up_to = λ u h.
          let up_to = judged_up_to 0 shares u stands.rising (Has-from_Contains (all_judged shares) u h) in
          let last = stands.last in
          omega (arith, up_to, last, above);
      below = let bound = stands.in_window in omega (arith, bound, above);
      in_window = let bound = stands.in_window in omega (arith, bound, above);
      same = stands.same;
    }

rising_more : (version : ℕ) (shares : List ShareAt) (s : ShareAt) → IsRisingFrom version shares → last_judged version shares < s.version → IsRisingFrom version (shares ++ s ∷ [])
rising_more version [] s rising above = (above, tt)
rising_more version (u ∷ shares) s rising above = (rising.0, rising_more u.version shares s rising.1 above)

last_judged_more : (version : ℕ) (shares : List ShareAt) (s : ShareAt) → last_judged version (shares ++ s ∷ []) ≡ s.version
last_judged_more version [] s = refl
last_judged_more version (u ∷ shares) s = last_judged_more u.version shares s

pub parts_make_share : PartsMakeAShare
parts_make_share history next shares s forgotten stands above window last after =
    record {
      rising = rising_more 0 shares s stands.rising (let is = stands.last in omega (arith, is, above));
      last = last ∙ sym (last_judged_more 0 shares s);
      in_window = let bound = after.in_window in omega (arith, bound, last);
      same = λ key. after.same key ∙ ap (λ (parts : List JudgedPart). unless_forgotten forgotten (last_committed next.window parts key)) (sym (all_judged_more shares s));
    }

-- ---- a whole share

-- verdicts by writes, and what the writes stand for afterwards
record AreJudged (window version : ℕ) (writes : List Write) (judged : List JudgedPart) (forgotten : ℕ) (parts : List Part) : Type 0 where
  verdicts : verdicts_by_writes window writes (judged_at version parts) ≡ verdicts_after window judged (judged_at version parts)
  stands : StandsForParts window version (writes_after window writes (judged_at version parts)) (judged ++ judged_at version parts) forgotten

are_judged : (window version : ℕ) (writes : List Write) (judged : List JudgedPart) (forgotten : ℕ) (parts : List Part) → StandsForParts window version writes judged forgotten → AreJudged window version writes judged forgotten parts
are_judged window version writes judged forgotten [] stands = record { verdicts = refl; stands = rw (append-nil judged) stands }
are_judged window version writes judged forgotten (part ∷ parts) stands =
    let t : JudgedPart = record { version = version; part = part } in
    let rest = are_judged window version (with_writes window writes t) (judged ++ t ∷ []) forgotten parts (parts_add window writes (with_writes window writes t) judged forgotten t stands (λ key. refl)) in
    record {
      verdicts = ap₂ (λ v vs. v ∷ vs) (writes_give_verdict window writes judged forgotten t stands) rest.verdicts;
      stands =
          subst (λ (all : List JudgedPart). StandsForParts window version (writes_after window (with_writes window writes t) (judged_at version parts)) all forgotten)
          (append_assoc judged (t ∷ []) (judged_at version parts)) rest.stands;
    }

pub new_stands : NewHistoriesStandForNoShares
new_stands history none last =
    record {
      rising = tt;
      last = last;
      in_window = omega arith;
      same = none;
    }

pub verdicts_of_share : WritesGiveTheVerdictsOfAShare
verdicts_of_share history shares forgotten version parts stands above =
    let judged = are_judged history.window version history.writes (all_judged shares) forgotten parts (shares_begin history shares forgotten version stands above) in
    judged.verdicts

pub shares_add : SharesAddTheirWrites
shares_add history next shares s forgotten stands above window last gains =
    let judged = are_judged history.window s.version history.writes (all_judged shares) forgotten s.parts (shares_begin history shares forgotten s.version stands above) in
    let after = judged.stands in
    parts_make_share history next shares s forgotten stands above window last
    (record {
      up_to = after.up_to;
      below = after.below;
      in_window = let bound = after.in_window in omega (arith, bound, window);
      same = λ key. gains key ∙ after.same key ∙ ap (λ n. unless_forgotten forgotten (last_committed n (all_judged shares ++ judged_at s.version s.parts) key)) (sym window);
    })

-- ---- forgetting more

either : (b : Bool) (n : ℕ) → (if b then n else n) ≡ n
either true n = refl
either false n = refl

none_forgotten : (bound : ℕ) → unless_forgotten bound 0 ≡ 0
none_forgotten bound = either (nat_le 0 bound) 0

forgotten_twice : (bound forgotten version : ℕ) → unless_forgotten bound (unless_forgotten forgotten version) ≡ unless_forgotten (max forgotten bound) version
forgotten_twice bound forgotten version = by (nat_le version forgotten) refl (nat_le version bound) refl (nat_le version (max forgotten bound)) refl
  where
    by : (a : Bool) → nat_le version forgotten ≡ a → (b : Bool) → nat_le version bound ≡ b → (c : Bool) → nat_le version (max forgotten bound) ≡ c →
        unless_forgotten bound (if a then 0 else version) ≡ (if c then 0 else version)
    by true old b is true too = none_forgotten bound
    by true old b is false kept = absurd (let low = leb-true version forgotten old in let high = leb-false version (max forgotten bound) kept in omega (arith, low, high))
    by false new true is true too = rw is refl
    by false new true is false kept = absurd (let low = leb-true version bound is in let high = leb-false version (max forgotten bound) kept in omega (arith, low, high))
    by false new false is true too = absurd (let high = leb-false version forgotten new in let above = leb-false version bound is in let low = leb-true version (max forgotten bound) too in omega (arith, low, high, above))
    by false new false is false kept = rw is refl

pub forgetting_keeps : ForgettingKeepsTheShares
forgetting_keeps history next shares forgotten bound stands in_window window last less =
    record {
      rising = stands.rising;
      last = last ∙ stands.last;
      in_window = let before = stands.in_window in omega (arith, before, in_window, window, last);
      same = λ key.
          less key
          ∙ ap (unless_forgotten bound) (stands.same key)
          ∙ forgotten_twice bound forgotten (last_committed history.window (all_judged shares) key)
          ∙ ap (λ n. unless_forgotten (max forgotten bound) (last_committed n (all_judged shares) key)) (sym window);
    }

pub forgotten_unchanged : ForgottenWritesChangeNoVerdict
forgotten_unchanged history other shares forgotten forgotten_too version parts stands stands_too window above =
    verdicts_of_share history shares forgotten version parts stands above
    ∙ ap (λ n. verdicts_after n (all_judged shares) (judged_at version parts)) window
    ∙ sym (verdicts_of_share other shares forgotten_too version parts stands_too (let is = stands.last in let is_too = stands_too.last in omega (arith, is, is_too, above)))

-- ---- records and requests

judged_records : (config : Config) (r : ℕ) (before : List Record) → flat_map (λ (s : Record). judged_at s.version (share config s r)) before ≡ all_judged (shares_of_records config r before)
judged_records config r [] = refl
judged_records config r (rec ∷ before) = ap (λ (parts : List JudgedPart). judged_at rec.version (share config rec r) ++ parts) (judged_records config r before)

pub records_as_shares : RecordsAreJudgedAsShares
unfolding judged_before
records_as_shares config r before rec =
    append-nil (flat_map (λ (s : Record). judged_at s.version (share config s r)) before) ∙ judged_records config r before

pub verdicts_after_shares : ShareVerdictsAreAfterShares
unfolding share_verdicts
verdicts_after_shares config r before rec =
    ap (λ (parts : List JudgedPart). verdicts_after config.window parts (judged_at rec.version (share config rec r))) (records_as_shares config r before rec)

pub requests_as_shares : RequestsAreJudgedAsShares
requests_as_shares [] = refl
requests_as_shares (q ∷ requests) = ap (λ (parts : List JudgedPart). judged_at q.version q.share ++ parts) (requests_as_shares requests)

pub request_verdicts_after_shares : RequestVerdictsAreAfterShares
unfolding request_verdicts
request_verdicts_after_shares window before q = ap (λ (parts : List JudgedPart). verdicts_after window parts (judged_at q.version q.share)) (requests_as_shares before)
