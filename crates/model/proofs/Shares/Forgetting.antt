-- What a resolver may forget of what it committed, and the verdicts on a list of parts.
use Rattle.std.proofs.Common.{◌≡◌, refl, sym, ap, ◌∙◌, ℕ, suc, ◌-◌, ◌<◌, ◌≤◌, ◌⊎◌, inl, inr, List, [], ◌∷◌, ◌++◌, length, filter, Bool, true, false, ◌&&◌, ◌||◌, cond, nat_eq, nat_lt, if◌then◌else◌, append_assoc, append-nil, arith}
use Rattle.std.specs.List.{list_any}
use Rattle.std.proofs.lemmas.Bool.{ltb-false, le-ltb, lt-ltb, ne_eqb, and_cases, and_left, and_right, or_from}
use Rattle.std.proofs.lemmas.List.{length-map}
use Rattle.std.proofs.lemmas.List.Elements.{filter-append}
use Rattle.system_keys.specs.Keys.{Range, overlaps}
use Rattle.model.specs.Configs.{Config}
use Rattle.model.specs.declared.part.Part.{Part}
use Rattle.model.specs.declared.verdict.Verdict.{Verdict}
use Rattle.model.specs.declared.verdict.Verdict.TheVariants.{Conflict, TooOld, Committed}
use Rattle.model.specs.Records.{Record}
use Rattle.model.specs.Shares.{share}
use Rattle.model.specs.Verdicts.{JudgedPart, is_committed, has_some, is_too_old, is_after_snapshot, reads_a_write, verdict_against, with_committed, verdict, judged_at, judged_before, verdicts_after, share_verdicts}

-- ---- what may be forgotten

-- the parts above the bound
abbrev pub newer_than : ℕ → List JudgedPart → List JudgedPart
newer_than bound parts = filter (λ (u : JudgedPart). nat_lt bound u.version) parts

-- a test that fails on all that is left out
any_kept : {X : Type 0} (test keep : X → Bool) (xs : List X) → ((x : X) → keep x ≡ false → test x ≡ false) → list_any test (filter keep xs) ≡ list_any test xs
any_kept test keep [] fails = refl
any_kept {X} test keep (x ∷ xs) fails = by (keep x) refl (any_kept test keep xs fails)
  where
    by : (t : Bool) → keep x ≡ t → list_any test (filter keep xs) ≡ list_any test xs → list_any test (cond t (x ∷ filter keep xs) (filter keep xs)) ≡ (test x || list_any test xs)
    by true is rest = ap (λ b. test x || b) rest
    by false is rest = rw (fails x is) rest

no_reads : (test : Range → Bool) (reads : List Range) → has_some reads ≡ false → list_any test reads ≡ false
no_reads test [] none = refl
no_reads test (read ∷ reads) none = absurd (cc)

-- no conflict is with a part at or below the bound
not_met_below : (window bound : ℕ) (t u : JudgedPart) → bound < t.version → bound ≤ t.version - window → is_too_old window t ≡ false → nat_lt bound u.version ≡ false → (is_after_snapshot t u && reads_a_write t u) ≡ false
not_met_below window bound t u below behind in_time old = by (and_cases (has_some t.part.reads) (nat_lt t.part.snapshot (t.version - window)) in_time)
  where
    up_to : u.version ≤ bound
    up_to = ltb-false bound u.version old

    by : (has_some t.part.reads ≡ false) ⊎ (nat_lt t.part.snapshot (t.version - window) ≡ false) → (is_after_snapshot t u && reads_a_write t u) ≡ false
    by (inl none) = and_right (is_after_snapshot t u) (reads_a_write t u) (no_reads (λ (read : Range). list_any (λ (write : Range). overlaps read write) u.part.writes) t.part.reads none)
    by (inr young) =
        let snapshot : t.version - window ≤ t.part.snapshot = ltb-false t.part.snapshot (t.version - window) young in
        and_left (is_after_snapshot t u) (reads_a_write t u)
        (or_from (nat_eq u.version t.version) (nat_lt t.part.snapshot u.version) (ne_eqb u.version t.version (λ (same : u.version ≡ t.version). omega (arith, same, up_to, below))) (le-ltb t.part.snapshot u.version (omega (arith, up_to, behind, snapshot))))

pub verdict_of_newer : (window bound : ℕ) (committed : List JudgedPart) (t : JudgedPart) → bound < t.version → bound ≤ t.version - window → verdict_against window (filter (λ (u : JudgedPart). nat_lt bound u.version) committed) t ≡ verdict_against window committed t
verdict_of_newer window bound committed t below behind = by (is_too_old window t) refl
  where
    by : (old : Bool) → is_too_old window t ≡ old →
        (if old then TooOld else if list_any (λ (u : JudgedPart). is_after_snapshot t u && reads_a_write t u) (newer_than bound committed) then Conflict else Committed)
        ≡ (if old then TooOld else if list_any (λ (u : JudgedPart). is_after_snapshot t u && reads_a_write t u) committed then Conflict else Committed)
    by true is = refl
    by false is =
        ap (λ (b : Bool). if b then Conflict else Committed)
        (any_kept (λ (u : JudgedPart). is_after_snapshot t u && reads_a_write t u) (λ (u : JudgedPart). nat_lt bound u.version) committed (λ u old. not_met_below window bound t u below behind is old))

pub committed_of_newer : (window bound : ℕ) (committed : List JudgedPart) (t : JudgedPart) → bound < t.version → bound ≤ t.version - window →
    with_committed window (filter (λ (u : JudgedPart). nat_lt bound u.version) committed) t ≡ filter (λ (u : JudgedPart). nat_lt bound u.version) (with_committed window committed t)
committed_of_newer window bound committed t below behind =
    ap (λ (v : Verdict). if is_committed v then newer_than bound committed ++ t ∷ [] else newer_than bound committed) (verdict_of_newer window bound committed t below behind)
    ∙ by (is_committed (verdict_against window committed t))
  where
    own : filter (λ (u : JudgedPart). nat_lt bound u.version) (t ∷ []) ≡ t ∷ []
    own = let above : nat_lt bound t.version ≡ true = lt-ltb bound t.version below in rw above refl

    by : (b : Bool) → (if b then newer_than bound committed ++ t ∷ [] else newer_than bound committed) ≡ newer_than bound (if b then committed ++ t ∷ [] else committed)
    by true = sym (filter-append (λ (u : JudgedPart). nat_lt bound u.version) committed (t ∷ []) ∙ ap (λ (us : List JudgedPart). newer_than bound committed ++ us) own)
    by false = refl

-- ---- lists of verdicts

pub verdicts_after_append : (window : ℕ) (before ts us : List JudgedPart) → verdicts_after window before (ts ++ us) ≡ verdicts_after window before ts ++ verdicts_after window (before ++ ts) us
verdicts_after_append window before [] us = ap (λ (judged : List JudgedPart). verdicts_after window judged us) (sym (append-nil before))
verdicts_after_append window before (t ∷ ts) us =
    ap (λ (vs : List Verdict). verdict window before t ∷ vs)
    (verdicts_after_append window (before ++ t ∷ []) ts us ∙ ap (λ (judged : List JudgedPart). verdicts_after window (before ++ t ∷ []) ts ++ verdicts_after window judged us) (append_assoc before (t ∷ []) ts))

pub length-verdicts_after : (window : ℕ) (before ts : List JudgedPart) → length (verdicts_after window before ts) ≡ length ts
length-verdicts_after window before [] = refl
length-verdicts_after window before (t ∷ ts) = ap (λ (n : ℕ). suc n) (length-verdicts_after window (before ++ t ∷ []) ts)

pub length-share_verdicts : (config : Config) (r : ℕ) (before : List Record) (rec : Record) → length (share_verdicts config r before rec) ≡ length (share config rec r)
unfolding share_verdicts
length-share_verdicts config r before rec =
    length-verdicts_after config.window (judged_before config r before rec []) (judged_at rec.version (share config rec r)) ∙ length-map (share config rec r) (λ (part : Part). record { version = rec.version; part = part })
