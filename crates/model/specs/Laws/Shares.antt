-- Statements of shares: the parts that a resolver judges, and what it may forget of them.
use Rattle.std.specs.Prelude.{◌≡◌, ◌↔◌, ◌<◌, ◌≤◌, ◌-◌, ◌++◌, ℕ, List, [], length, filter, nat_lt}
use Rattle.std.specs.Prelude.{slice_get, Some, IsTrue, max, ◌∷◌, IsFalse}
use Rattle.system_keys.specs.Keys.{Key}
use Rattle.model.specs.Configs.{Config}
use Rattle.model.specs.declared.part.Part.{Part}
use Rattle.model.specs.declared.verdict.Verdict.TheVariants.{Conflict}
use Rattle.model.specs.Transactions.{StampedTransaction}
use Rattle.model.specs.Records.{Record}
use Rattle.model.specs.Shares.{share, part_of, asks}
use Rattle.model.specs.Verdicts.{JudgedPart, verdict, verdict_against, with_committed}
use Rattle.model.specs.Verdicts.{verdicts_after, share_verdicts, verdicts_of_askers, is_too_old}
use Rattle.model.specs.Verdicts.{judged_at, judged_before}
use Rattle.model.specs.Numbers.{Version}
use Rattle.model.specs.Requests.{Request, judged_of, request_verdicts}
use Rattle.model.specs.WriteHistories.{Write, WriteHistoryView, last_at, unless_forgotten, ShareAt}
use Rattle.model.specs.WriteHistories.{all_judged, shares_of, shares_of_records, last_committed}
use Rattle.model.specs.WriteHistories.{StandsForShares, verdict_by_writes, with_writes}
use Rattle.model.specs.WriteHistories.{verdicts_by_writes, writes_after, ReadsCountedKey, AreUpTo}
use Rattle.model.specs.WriteHistories.{StandsForParts}

-- each part of a share is the part of a transaction that asks the resolver, by its number
abbrev pub PartsAreOfAskers : Type 0
PartsAreOfAskers =
    (config : Config) (rec : Record) (resolver place : ℕ) (part : Part)
    → slice_get (share config rec resolver) place ≡ Some part
    → (transaction : StampedTransaction) × (slice_get rec.batch part.number ≡ Some transaction)
    × IsTrue (asks config rec resolver transaction)
    × (part ≡ part_of config rec resolver part.number transaction)

-- the verdicts on a share are those on each transaction that asks the resolver, in order
abbrev pub ShareVerdictsAreOfAskers : Type 0
ShareVerdictsAreOfAskers =
    (config : Config) (resolver : ℕ) (before : List Record) (rec : Record)
    → share_verdicts config resolver before rec
    ≡ verdicts_of_askers config resolver before rec [] rec.batch

-- the verdicts on some parts, and then on others, are those on all of them in a row
abbrev pub VerdictsContinue : Type 0
VerdictsContinue =
    (window : ℕ) (before parts later : List JudgedPart)
    → verdicts_after window before (parts ++ later)
    ≡ verdicts_after window before parts ++ verdicts_after window (before ++ parts) later

-- there is one verdict for each part
abbrev pub OneVerdictAPart : Type 0
OneVerdictAPart =
    (window : ℕ) (before parts : List JudgedPart)
    → length (verdicts_after window before parts) ≡ length parts

-- and so one for each part of a share
abbrev pub OneVerdictAPartOfAShare : Type 0
OneVerdictAPartOfAShare =
    (config : Config) (resolver : ℕ) (before : List Record) (rec : Record)
    → length (share_verdicts config resolver before rec) ≡ length (share config rec resolver)

-- of some parts, those above a version
abbrev pub parts_above : ℕ → List JudgedPart → List JudgedPart
parts_above bound parts = filter (λ (part : JudgedPart). nat_lt bound part.version) parts

-- committed parts may be forgotten up to a bound below the version judged and no less than the
-- window behind it: the verdict is the same
abbrev pub ForgettingKeepsTheVerdict : Type 0
ForgettingKeepsTheVerdict =
    (window bound : ℕ) (committed : List JudgedPart) (part : JudgedPart)
    → bound < part.version → bound ≤ part.version - window
    → verdict_against window (parts_above bound committed) part
    ≡ verdict_against window committed part

-- and so are the parts above the bound that are committed after it
abbrev pub ForgettingKeepsLaterParts : Type 0
ForgettingKeepsLaterParts =
    (window bound : ℕ) (committed : List JudgedPart) (part : JudgedPart)
    → bound < part.version → bound ≤ part.version - window
    → with_committed window (parts_above bound committed) part
    ≡ parts_above bound (with_committed window committed part)

-- the verdict is Conflict exactly if the part is not too old and reads a key at which the last
-- committed version counts against it
abbrev pub ConflictIsByLastVersions : Type 0
ConflictIsByLastVersions =
    (window : ℕ) (before : List JudgedPart) (t : JudgedPart)
    → 0 < t.version → AreUpTo t.version before
    → (verdict window before t ≡ Conflict)
    ↔ (IsFalse (is_too_old window t) × ReadsCountedKey (last_committed window before) t)

-- so the last committed version at each key decides every verdict
abbrev pub LastVersionsDecideTheVerdict : Type 0
LastVersionsDecideTheVerdict =
    (window : ℕ) (before others : List JudgedPart) (t : JudgedPart)
    → 0 < t.version → AreUpTo t.version before → AreUpTo t.version others
    → ((key : Key) → last_committed window before key ≡ last_committed window others key)
    → verdict window before t ≡ verdict window others t

-- writes that stand for some shares stand for their parts, in the midst of the next share
abbrev pub SharesBeginAsParts : Type 0
SharesBeginAsParts =
    (history : WriteHistoryView) (shares : List ShareAt) (forgotten version : Version)
    → StandsForShares history shares forgotten → history.last < version
    → StandsForParts history.window version history.writes (all_judged shares) forgotten

-- the verdict by writes is the verdict after the parts that the writes stand for
abbrev pub WritesGiveTheVerdict : Type 0
WritesGiveTheVerdict =
    (window : ℕ) (writes : List Write) (judged : List JudgedPart) (forgotten : Version)
    (t : JudgedPart)
    → StandsForParts window t.version writes judged forgotten
    → verdict_by_writes window writes t ≡ verdict window judged t

-- writes that at each key have gained those of a committed part stand for one more part
abbrev pub PartsAddTheirWrites : Type 0
PartsAddTheirWrites =
    (window : ℕ) (writes next : List Write) (judged : List JudgedPart) (forgotten : Version)
    (t : JudgedPart)
    → StandsForParts window t.version writes judged forgotten
    → ((key : Key) → last_at next key ≡ last_at (with_writes window writes t) key)
    → StandsForParts window t.version next (judged ++ t ∷ []) forgotten

-- after the last part of a share, the writes stand for one more share
abbrev pub PartsMakeAShare : Type 0
PartsMakeAShare =
    (history next : WriteHistoryView) (shares : List ShareAt) (s : ShareAt) (forgotten : Version)
    → StandsForShares history shares forgotten → history.last < s.version
    → next.window ≡ history.window → next.last ≡ s.version
    → StandsForParts next.window s.version next.writes
    (all_judged shares ++ judged_at s.version s.parts) forgotten
    → StandsForShares next (shares ++ s ∷ []) forgotten

-- a history in which no key was written stands for no shares
abbrev pub NewHistoriesStandForNoShares : Type 0
NewHistoriesStandForNoShares =
    (history : WriteHistoryView)
    → ((key : Key) → last_at history.writes key ≡ 0) → history.last ≡ 0
    → StandsForShares history [] 0

-- the verdicts on a share by writes, one part after another, are its verdicts after the shares that
-- the history stands for
abbrev pub WritesGiveTheVerdictsOfAShare : Type 0
WritesGiveTheVerdictsOfAShare =
    (history : WriteHistoryView) (shares : List ShareAt) (forgotten version : Version) (parts : List Part)
    → StandsForShares history shares forgotten → history.last < version
    → verdicts_by_writes history.window history.writes (judged_at version parts)
    ≡ verdicts_after history.window (all_judged shares) (judged_at version parts)

-- a history that at each key has gained the writes of a share stands for one more share
abbrev pub SharesAddTheirWrites : Type 0
SharesAddTheirWrites =
    (history next : WriteHistoryView) (shares : List ShareAt) (s : ShareAt) (forgotten : Version)
    → StandsForShares history shares forgotten → history.last < s.version
    → next.window ≡ history.window → next.last ≡ s.version
    → ((key : Key)
    → last_at next.writes key
    ≡ last_at (writes_after history.window history.writes (judged_at s.version s.parts)) key)
    → StandsForShares next (shares ++ s ∷ []) forgotten

-- a history that at each key has forgotten the versions up to a bound, at least the window before
-- its last version, stands for the same shares
abbrev pub ForgettingKeepsTheShares : Type 0
ForgettingKeepsTheShares =
    (history next : WriteHistoryView) (shares : List ShareAt) (forgotten bound : Version)
    → StandsForShares history shares forgotten → bound ≤ history.last - history.window
    → next.window ≡ history.window → next.last ≡ history.last
    → ((key : Key)
    → last_at next.writes key ≡ unless_forgotten bound (last_at history.writes key))
    → StandsForShares next shares (max forgotten bound)

-- what two histories have forgotten changes no later verdict: if both stand for the same shares,
-- they give the same verdicts on every next share
abbrev pub ForgottenWritesChangeNoVerdict : Type 0
ForgottenWritesChangeNoVerdict =
    (history other : WriteHistoryView) (shares : List ShareAt) (forgotten forgotten_too version : Version)
    (parts : List Part)
    → StandsForShares history shares forgotten → StandsForShares other shares forgotten_too
    → history.window ≡ other.window → history.last < version
    → verdicts_by_writes history.window history.writes (judged_at version parts)
    ≡ verdicts_by_writes other.window other.writes (judged_at version parts)

-- what a resolver judges before a record is its shares of the records before
abbrev pub RecordsAreJudgedAsShares : Type 0
RecordsAreJudgedAsShares =
    (config : Config) (resolver : ℕ) (before : List Record) (rec : Record)
    → judged_before config resolver before rec []
    ≡ all_judged (shares_of_records config resolver before)

-- so its verdicts on a share are those after its shares of the records before
abbrev pub ShareVerdictsAreAfterShares : Type 0
ShareVerdictsAreAfterShares =
    (config : Config) (resolver : ℕ) (before : List Record) (rec : Record)
    → share_verdicts config resolver before rec
    ≡ verdicts_after config.window (all_judged (shares_of_records config resolver before))
    (judged_at rec.version (share config rec resolver))

-- the parts of some requests are those of their shares
abbrev pub RequestsAreJudgedAsShares : Type 0
RequestsAreJudgedAsShares =
    (requests : List Request) → judged_of requests ≡ all_judged (shares_of requests)

-- so the verdicts on a request are those after the shares of the requests before
abbrev pub RequestVerdictsAreAfterShares : Type 0
RequestVerdictsAreAfterShares =
    (window : ℕ) (before : List Request) (q : Request)
    → request_verdicts window before q
    ≡ verdicts_after window (all_judged (shares_of before)) (judged_at q.version q.share)
