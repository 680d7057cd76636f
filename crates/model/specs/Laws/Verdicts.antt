-- Statements of verdicts: of one transaction, joined, missing, and after later records.
use Rattle.std.specs.Prelude.{◌≡◌, ◌↔◌, ◌<◌, ◌++◌, ℕ, List, length, slice_get, Some, Contains}
use Rattle.std.specs.Prelude.{fold, take}
use Rattle.model.specs.Configs.{Config, IsConfig}
use Rattle.model.specs.declared.verdict.Verdict.{Verdict}
use Rattle.model.specs.declared.verdict.Verdict.TheVariants.{Conflict, TooOld, Committed}
use Rattle.model.specs.Records.{Record, IsHistory}
use Rattle.model.specs.Verdicts.{JudgedPart, joined, verdict, HasConflict, IsTooOld}
use Rattle.model.specs.Serial.{Place, verdict_at_place, HasConflictWith}
use Rattle.model.specs.Metadata.{metadata, after_journal_row}
use Rattle.model.specs.Journal.{history_verdicts, journal}
use Rattle.model.specs.Outcomes.{outcomes}
use Rattle.model.specs.World.{reply_of, finished_batch}

-- the verdict on a part is Conflict exactly if there is a conflict by all pairs of parts
abbrev pub ConflictIsByParts : Type 0
ConflictIsByParts =
    (window : ℕ) (before : List JudgedPart) (part : JudgedPart)
    → (verdict window before part ≡ Conflict) ↔ HasConflict window before part

-- the verdict in a place of a history is Conflict exactly if there is a conflict by all pairs of
-- places
abbrev pub ConflictIsByPlaces : Type 0
ConflictIsByPlaces =
    (config : Config) (resolver : ℕ) (history : List Record) (place : Place history)
    → IsConfig config → IsHistory config history
    → (verdict_at_place config resolver history place ≡ Conflict)
    ↔ HasConflictWith config resolver history place

-- the verdict is Too old exactly if the part has a read, and its snapshot and the window together
-- are below its version
abbrev pub TooOldIsByTheWindow : Type 0
TooOldIsByTheWindow =
    (window : ℕ) (before : List JudgedPart) (part : JudgedPart)
    → (verdict window before part ≡ TooOld) ↔ IsTooOld window part

-- the joined verdict is Conflict exactly if some verdict is
abbrev pub JoinedConflictIsSomeConflict : Type 0
JoinedConflictIsSomeConflict =
    (verdicts : List Verdict) → (joined verdicts ≡ Conflict) ↔ Contains verdicts Conflict

-- the joined verdict is Committed exactly if all verdicts are
abbrev pub JoinedCommittedIsAllCommitted : Type 0
JoinedCommittedIsAllCommitted =
    (verdicts : List Verdict)
    → (joined verdicts ≡ Committed)
    ↔ ((one : Verdict) → Contains verdicts one → one ≡ Committed)

-- later records change no verdict
abbrev pub LaterRecordsKeepVerdicts : Type 0
LaterRecordsKeepVerdicts =
    (config : Config) (history later : List Record) (resolver row number : ℕ)
    → row < length history
    → history_verdicts config (history ++ later) resolver row number
    ≡ history_verdicts config history resolver row number

-- the journal of a longer history begins with the journal of the shorter one
abbrev pub LaterRecordsKeepTheJournal : Type 0
LaterRecordsKeepTheJournal =
    (config : Config) (history later : List Record) → IsHistory config history
    → journal config (history_verdicts config (history ++ later)) (history ++ later)
    ≡ journal config (history_verdicts config history) history
    ++ journal config (history_verdicts config (history ++ later)) later

-- the metadata of a longer history is the metadata of the shorter one after the later rows
abbrev pub LaterRecordsContinueTheMetadata : Type 0
LaterRecordsContinueTheMetadata =
    (config : Config) (history later : List Record) → IsHistory config history
    → metadata (journal config (history_verdicts config (history ++ later)) (history ++ later))
    ≡ fold after_journal_row
    (metadata (journal config (history_verdicts config history) history))
    (journal config (history_verdicts config (history ++ later)) later)

-- later records change no outcome
abbrev pub LaterRecordsKeepOutcomes : Type 0
LaterRecordsKeepOutcomes =
    (config : Config) (history later : List Record) (row : ℕ) (rec : Record)
    → IsHistory config history → slice_get history row ≡ Some rec
    → outcomes config (history_verdicts config (history ++ later)) (take row history) rec
    ≡ outcomes config (history_verdicts config history) (take row history) rec

-- later records change no finished batch
abbrev pub LaterRecordsKeepFinishedBatches : Type 0
LaterRecordsKeepFinishedBatches =
    (config : Config) (history later : List Record) (row : ℕ) (rec : Record)
    → IsHistory config history → slice_get history row ≡ Some rec
    → finished_batch config (history_verdicts config (history ++ later))
    (take row (history ++ later)) rec
    ≡ finished_batch config (history_verdicts config history) (take row history) rec

-- later records change no reply
abbrev pub LaterRecordsKeepReplies : Type 0
LaterRecordsKeepReplies =
    (config : Config) (history later : List Record) (resolver row : ℕ) (rec : Record)
    → IsHistory config history → slice_get history row ≡ Some rec
    → reply_of config (history_verdicts config (history ++ later)) resolver
    (take row (history ++ later)) rec
    ≡ reply_of config (history_verdicts config history) resolver (take row history) rec
