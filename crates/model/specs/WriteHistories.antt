-- What a history of writes stands for: which lists of judged shares, however the history is kept,
-- and whatever of it is forgotten. Release 7.1, the ConflictSet of `SkipList.cpp`.
use Rattle.std.specs.Prelude.{◌≡◌, ℕ, ◌-◌, ◌<◌, ◌≤◌, max, List, [], ◌∷◌, ◌++◌, map, fold, Bool}
use Rattle.std.specs.Prelude.{◌&&◌, ◌||◌, nat_eq, nat_lt, nat_le, if◌then◌else◌, Contains, IsTrue}
use Rattle.std.specs.List.{list_any}
use Rattle.system_keys.specs.Keys.{Key, Range, holds, overlaps}
use Rattle.model.specs.Numbers.{Version, ResolverNumber}
use Rattle.model.specs.Configs.{Config}
use Rattle.model.specs.declared.part.Part.{Part}
use Rattle.model.specs.declared.verdict.Verdict.{Verdict}
use Rattle.model.specs.declared.verdict.Verdict.TheVariants.{Conflict, TooOld, Committed}
use Rattle.model.specs.Records.{Record}
use Rattle.model.specs.Shares.{share}
use Rattle.model.specs.Verdicts.{JudgedPart, is_committed, is_too_old, committed_after, judged_at}
use Rattle.model.specs.Requests.{Request}
use Rattle.model.specs.VersionOrder.{Increase, last_version_or}

-- ---- writes

-- a range that was written at a version
pub record Write : Type 0 where
  pub range : Range
  pub version : Version

-- A history of writes: the window, the version that was judged last, and some writes, which give
-- each key the version at which it was last written.
pub record WriteHistoryView : Type 0 where
  pub window : ℕ
  pub last : Version
  pub writes : List Write

-- the greatest version at which the key was written, or 0 if there is none
abbrev pub last_at : (writes : List Write) (key : Key) → Version
last_at [] key = 0
last_at (w ∷ writes) key =
    if holds w.range key then max w.version (last_at writes key) else last_at writes key

-- these ranges, each written at the version
abbrev pub writes_at : Version → (ranges : List Range) → List Write
writes_at version ranges =
    map (λ (range : Range). record { range = range; version = version }) ranges

-- the writes of some parts, each at the version of its part
abbrev pub writes_of : (parts : List JudgedPart) → List Write
writes_of [] = []
writes_of (t ∷ parts) = writes_at t.version t.part.writes ++ writes_of parts

-- a version, or 0 if it is forgotten: if it is at or below the bound
abbrev pub unless_forgotten : (bound version : Version) → Version
unless_forgotten bound version = if nat_le version bound then 0 else version

-- ---- shares

-- a share that was judged, with the version of its record
pub record ShareAt : Type 0 where
  pub version : Version
  pub parts : List Part

-- the parts of some shares, in the order of judging
abbrev pub all_judged : List ShareAt → List JudgedPart
all_judged [] = []
all_judged (s ∷ shares) = judged_at s.version s.parts ++ all_judged shares

-- the shares of some requests
abbrev pub shares_of : List Request → List ShareAt
shares_of requests = map (λ (q : Request). record { version = q.version; parts = q.share }) requests

-- the shares of resolver r in some records
abbrev pub shares_of_records : Config → ResolverNumber → List Record → List ShareAt
shares_of_records config r records =
    map (λ (rec : Record). record { version = rec.version; parts = share config rec r }) records

-- the versions of the shares are strictly increasing, and all above `version`
abbrev pub IsRisingFrom : (version : Version) (shares : List ShareAt) → Type 0
IsRisingFrom version shares = Increase (λ (s : ShareAt). s.version) version shares

-- the version of the last share, or `version` if there is no share
abbrev pub last_judged : (version : Version) (shares : List ShareAt) → Version
last_judged version shares = last_version_or (λ (s : ShareAt). s.version) version shares

-- the greatest version of a part that its resolver committed and that writes the key, or 0 if there
-- is none
abbrev pub last_committed : (window : ℕ) (judged : List JudgedPart) (key : Key) → Version
last_committed window judged key = last_at (writes_of (committed_after window [] judged)) key

-- The history stands for these shares, with the writes up to version `forgotten` forgotten: at each
-- key it has the last committed version, or 0 if that is forgotten. Only what lies at least the
-- window before the last version is forgotten.
pub record StandsForShares
    (history : WriteHistoryView) (shares : List ShareAt) (forgotten : Version) : Type 0 where
  pub rising : IsRisingFrom 0 shares
  pub last : history.last ≡ last_judged 0 shares
  pub in_window : forgotten ≤ history.last - history.window
  pub same : (key : Key)
      → last_at history.writes key
      ≡ unless_forgotten forgotten (last_committed history.window (all_judged shares) key)

-- ---- judging by writes

-- a write at the version counts against t: it belongs to t's record, or is above t's snapshot
abbrev pub counts_against : (t : JudgedPart) (version : Version) → Bool
counts_against t version = nat_eq version t.version || nat_lt t.part.snapshot version

-- the read overlaps a write that counts against t
abbrev pub is_overwritten : (writes : List Write) (t : JudgedPart) (read : Range) → Bool
is_overwritten writes t read =
    list_any (λ (w : Write). counts_against t w.version && overlaps read w.range) writes

-- some read of t overlaps a write that counts against it
abbrev pub has_overwritten_read : (writes : List Write) (t : JudgedPart) → Bool
has_overwritten_read writes t = list_any (is_overwritten writes t) t.part.reads

-- the verdict on t by the writes of the parts committed before it
abbrev pub verdict_by_writes : (window : ℕ) (writes : List Write) (t : JudgedPart) → Verdict
verdict_by_writes window writes t =
    if is_too_old window t then TooOld
    else if has_overwritten_read writes t then Conflict
    else Committed

-- the writes, and then those of t if it is committed
abbrev pub with_writes : (window : ℕ) (writes : List Write) (t : JudgedPart) → List Write
with_writes window writes t =
    if is_committed (verdict_by_writes window writes t)
    then writes ++ writes_at t.version t.part.writes
    else writes

-- the verdicts on some parts by writes, one after another
abbrev pub verdicts_by_writes :
    (window : ℕ) (writes : List Write) (parts : List JudgedPart) → List Verdict
verdicts_by_writes window writes [] = []
verdicts_by_writes window writes (t ∷ ts) =
    verdict_by_writes window writes t ∷ verdicts_by_writes window (with_writes window writes t) ts

-- the writes, and then those of the parts that are committed, one after another
abbrev pub writes_after :
    (window : ℕ) (writes : List Write) (parts : List JudgedPart) → List Write
writes_after window writes parts = fold (with_writes window) writes parts

-- t reads a key at which the last version counts against it
pub record ReadsCountedKey (last : Key → Version) (t : JudgedPart) : Type 0 where
  pub read : Range
  pub key : Key
  pub read_in : Contains t.part.reads read
  pub inside : IsTrue (holds read key)
  pub counted : IsTrue (counts_against t (last key))

-- no part has a version above this one
abbrev pub AreUpTo : (version : Version) (parts : List JudgedPart) → Type 0
AreUpTo version parts = (t : JudgedPart) → Contains parts t → t.version ≤ version

-- In the midst of the share of a version, the writes stand for the parts judged so far, with the
-- writes up to version `forgotten` forgotten.
pub record StandsForParts
    (window : ℕ) (version : Version) (writes : List Write) (judged : List JudgedPart)
    (forgotten : Version) : Type 0 where
  pub up_to : AreUpTo version judged
  pub below : forgotten < version
  pub in_window : forgotten ≤ version - window
  pub same : (key : Key)
      → last_at writes key ≡ unless_forgotten forgotten (last_committed window judged key)
