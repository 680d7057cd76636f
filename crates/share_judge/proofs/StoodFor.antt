-- What a judged share and forgotten versions make of a history, seen by its writes.
use Rattle.std.proofs.Common.{◌≡◌, ℕ, ◌-◌, ◌<◌, max, min, refl, sym, ap, ap₂, subst, ◌∙◌, List, Bool, true, false, cond, nat_le, arith}
use Rattle.std.proofs.lemmas.Bool.{leb-true, leb-false}
use Rattle.system_keys.specs.Keys.{Key}
use Rattle.model.specs.declared.part.Part.{Part}
use Rattle.model.specs.declared.verdict.Verdict.{Verdict}
use Rattle.model.specs.Verdicts.{judged_at}
use Rattle.model.specs.WriteHistories.{Write, WriteHistoryView, unless_forgotten, ShareAt, verdicts_by_writes}
use Rattle.model.proofs.Shares.ByWrites.{verdicts_of_share, shares_add, forgetting_keeps}
use Rattle.share_judge.specs.Answers.{AreVerdicts, GainsShare, Forgets}
use Rattle.share_judge.specs.Steps.{Start, AreRising, TellTheSame, last_from, settled, writes_of_starts, kept_writes}
use Rattle.share_judge.specs.Versions.{Versions, AreInOrder, all_now, all_before}
use Rattle.share_judge.specs.Kept.{AreKept}
use Rattle.share_judge.specs.Judged.{IsJudged}
use Rattle.share_judge.proofs.KeptWrites.{last_kept}
use Rattle.share_judge.proofs.Settled.{same_last, same_past}
use Rattle.share_judge.proofs.VersionCalls.{all_begin, swept_settled}

-- a history, seen by its window, its last version, and the steps that it keeps
abbrev pub seen : (window last dropped : ℕ) (starts : List Start) → WriteHistoryView
seen window last dropped starts = record { window = window; last = last; writes = kept_writes dropped starts }

are_verdicts : (history : WriteHistoryView) (s : ShareAt) (verdicts : List Verdict) → history.last < s.version → verdicts ≡ verdicts_by_writes history.window history.writes (judged_at s.version s.parts) → AreVerdicts history s verdicts
are_verdicts history s verdicts above by_writes shares forgotten stands =
    by_writes ∙ verdicts_of_share history shares forgotten s.version s.parts stands above

-- ---- one more share

-- the steps once the share is judged, and starts that tell nothing are taken out
pub kept_next : (window dropped version : ℕ) (kept next new : List Start) (parts : List Part) (verdicts : List Verdict) → dropped < version → AreRising next → AreRising new → TellTheSame next new → IsJudged window dropped version kept parts verdicts next → AreKept version dropped new
kept_next window dropped version kept next new parts verdicts low rising rising_new same judged =
    record {
      rising = rising_new;
      past = same_past next new same ∙ judged.past;
      up_to = λ key. let is = same_last next new rising rising_new same key in let up_to = judged.up_to key in omega (arith, is, up_to);
      dropped_up_to = omega (arith, low);
    }

gains_share : (window last dropped : ℕ) (s : ShareAt) (kept next new : List Start) (verdicts : List Verdict) → AreKept last dropped kept → last < s.version → AreRising next → AreRising new → TellTheSame next new → IsJudged window dropped s.version kept s.parts verdicts next
    → GainsShare (seen window last dropped kept) s (seen window s.version dropped new)
gains_share window last dropped s kept next new verdicts is_kept above rising rising_new same judged shares forgotten stands =
    shares_add (seen window last dropped kept) (seen window s.version dropped new) shares s forgotten stands above refl refl
    (λ key.
    last_kept dropped new key rising_new (same_past next new same ∙ judged.past)
    ∙ ap (unless_forgotten dropped) (same_last next new rising rising_new same key)
    ∙ sym (judged.last key))

-- what tells the same is seen alike
pub same_seen : (window last dropped : ℕ) (old new : List Start) → TellTheSame old new → seen window last dropped new ≡ seen window last dropped old
same_seen window last dropped old new same = ap (λ (starts : List Start). view (writes_of_starts starts)) (same dropped)
  where
    view : List Write → WriteHistoryView
    view ws = record { window = window; last = last; writes = ws }

-- ---- forgetting

forgotten_more : (dropped bound n : ℕ) → unless_forgotten (max dropped bound) n ≡ unless_forgotten bound (unless_forgotten dropped n)
forgotten_more dropped bound n = by (nat_le n dropped) refl (nat_le n bound) refl (nat_le n (max dropped bound)) refl
  where
    none_is : unless_forgotten bound 0 ≡ 0
    none_is = either (nat_le 0 bound)
      where
        either : (t : Bool) → ◌≡◌ {A = ℕ} (cond t 0 0) 0
        either true = refl
        either false = refl

    by : (a : Bool) → nat_le n dropped ≡ a → (b : Bool) → nat_le n bound ≡ b → (c : Bool) → nat_le n (max dropped bound) ≡ c → cond c 0 n ≡ unless_forgotten bound (cond a 0 n)
    by true old b is true too = sym none_is
    by true old b is false kept = absurd (let low = leb-true n dropped old in let high = leb-false n (max dropped bound) kept in omega (arith, low, high))
    by false new true is true too = rw is refl
    by false new true is false kept = absurd (let low = leb-true n bound is in let high = leb-false n (max dropped bound) kept in omega (arith, low, high))
    by false new false is true too = absurd (let high = leb-false n dropped new in let above = leb-false n bound is in let low = leb-true n (max dropped bound) too in omega (arith, low, high, above))
    by false new false is false kept = rw is refl

pub forgets : (history next : WriteHistoryView) (window last dropped more oldest bound : ℕ) (kept : List Start) → seen window last dropped kept ≡ history → next ≡ seen window last more kept → AreKept last dropped kept → more ≡ max dropped bound → bound ≡ min oldest (last - window) → Forgets history oldest next
forgets history next window last dropped more oldest bound kept view next_is is_kept more_is is =
    subst (λ (h : WriteHistoryView). Forgets h oldest next) view
    (subst (λ (h : WriteHistoryView). Forgets (seen window last dropped kept) oldest h) (sym (next_is ∙ ap (λ n. seen window last n kept) more_is)) forgotten_seen)
  where
    forgotten_seen : Forgets (seen window last dropped kept) oldest (seen window last (max dropped bound) kept)
    forgotten_seen shares forgotten stands =
        forgetting_keeps (seen window last dropped kept) (seen window last (max dropped bound) kept) shares forgotten (min oldest (last - window)) stands (omega arith) refl refl
        (λ key.
        last_kept (max dropped bound) kept key is_kept.rising is_kept.past
        ∙ forgotten_more dropped bound (last_from 0 kept key)
        ∙ ap₂ (λ (b : ℕ) (n : ℕ). unless_forgotten b n) is (sym (last_kept dropped kept key is_kept.rising is_kept.past)))

-- a sweep
pub swept_seen : (window last dropped : ℕ) (old new : List Start) → AreRising old → AreRising new → ((key : Key) → last_from 0 new key ≡ unless_forgotten dropped (last_from 0 old key)) → seen window last dropped new ≡ seen window last dropped old
swept_seen window last dropped old new rising rising_new is = ap (λ (starts : List Start). view (writes_of_starts starts)) (swept_settled dropped old new rising rising_new is)
  where
    view : List Write → WriteHistoryView
    view ws = record { window = window; last = last; writes = ws }

-- ---- what the calls show

pub last_below : (history : WriteHistoryView) (window last dropped version : ℕ) (kept : List Start) → seen window last dropped kept ≡ history → history.last < version → last < version
last_below history window last dropped version kept view above = let is = ap (λ (h : WriteHistoryView). h.last) view in omega (arith, is, above)

-- before the share is judged, its version is above all that are kept
pub all_below : (last dropped version : ℕ) (kept : List Start) → AreKept last dropped kept → last < version → (key : Key) → last_from 0 kept key < version
all_below last dropped version kept is_kept above key = let low = is_kept.up_to key in omega (arith, low, above)

pub dropped_below : (last dropped version : ℕ) (kept : List Start) → AreKept last dropped kept → last < version → dropped < version
dropped_below last dropped version kept is_kept above = let low = is_kept.dropped_up_to in omega (arith, low, above)

pub shown_verdicts : (history : WriteHistoryView) (window last dropped version : ℕ) (parts share : List Part) (kept next : List Start) (verdicts given : List Verdict) → seen window last dropped kept ≡ history → parts ≡ share → given ≡ verdicts → history.last < version → IsJudged window dropped version kept parts verdicts next → AreVerdicts history (record { version = version; parts = share }) given
shown_verdicts history window last dropped version parts share kept next verdicts given view share_is given_is above judged =
    subst (λ (h : WriteHistoryView). AreVerdicts h (record { version = version; parts = share }) given) view
    (subst (λ (vs : List Verdict). AreVerdicts (seen window last dropped kept) (record { version = version; parts = share }) vs) (sym given_is)
    (are_verdicts (seen window last dropped kept) (record { version = version; parts = share }) verdicts (last_below history window last dropped version kept view above)
    (subst (λ (ps : List Part). IsJudged window dropped version kept ps verdicts next) share_is judged).verdicts_are))

pub shown_gain : (history : WriteHistoryView) (window last dropped version : ℕ) (parts share : List Part) (kept next new : List Start) (verdicts : List Verdict) → seen window last dropped kept ≡ history → parts ≡ share → AreKept last dropped kept → history.last < version → AreRising next → AreRising new → TellTheSame next new → IsJudged window dropped version kept parts verdicts next
    → GainsShare history (record { version = version; parts = share }) (seen window version dropped new)
shown_gain history window last dropped version parts share kept next new verdicts view share_is is_kept above rising rising_new same judged =
    subst (λ (h : WriteHistoryView). GainsShare h (record { version = version; parts = share }) (seen window version dropped new)) view
    (gains_share window last dropped (record { version = version; parts = share }) kept next new verdicts is_kept (last_below history window last dropped version kept view above) rising rising_new same
    (subst (λ (ps : List Part). IsJudged window dropped version kept ps verdicts next) share_is judged))

-- ---- a share that is taken back

-- what was before it tells what was kept
pub back_same : (version : ℕ) (old judged new : Versions) → AreInOrder old → ((key : Key) → last_from 0 (all_now old) key < version) → TellTheSame (all_before version old) (all_before version judged) → all_now new ≡ all_before version judged → TellTheSame (all_now old) (all_now new)
back_same version old judged new order below same back dropped =
    ap (settled dropped 0) back ∙ same dropped ∙ ap (settled dropped 0) (all_begin version old order below)
