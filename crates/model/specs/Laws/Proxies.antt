-- Statements of what a proxy learns from replies, and of its journal and routing.
use Rattle.std.specs.Prelude.{◌≡◌, ◌<◌, ◌≤◌, ◌++◌, ℕ, suc, List, [], ◌∷◌, filter, take, slice_get}
use Rattle.std.specs.Prelude.{slice_index, slice_set, Some}
use Rattle.model.specs.Configs.{Config, IsConfig}
use Rattle.model.specs.declared.journal.JournalRow.{JournalRow}
use Rattle.model.specs.declared.outcome.Finished.{Finished}
use Rattle.model.specs.Records.{Record, IsHistory, records_of_proxy, last_moves}
use Rattle.model.specs.Shares.{each_below}
use Rattle.model.specs.Journal.{VerdictSource, history_verdicts, journal_row, journal, is_after}
use Rattle.model.specs.World.{World, Finish, FinishedBatch, IsSound, reply_of, finished_after}
use Rattle.model.specs.World.{finished_batch, missing_replies, handle_event, up_to_version}
use Rattle.model.specs.World.{finished_version, proxy_journal, Event}
use Rattle.model.specs.Finishing.{Replies, reply_from, replied_verdicts, AgreeOnRows, AreRepliesBy}
use Rattle.model.specs.Finishing.{rows_by_replies, disagreements, ProxyView, HasFinished, HoldsMoves}
use Rattle.model.specs.Finishing.{MayBegin}

-- the replies of at least one resolver agree on at most one list of rows
abbrev pub RepliesAgreeOnOneListOfRows : Type 0
RepliesAgreeOnOneListOfRows =
    (config : Config) (version : ℕ) (rec : Record) (replies : Replies)
    (rows other : List JournalRow)
    → 1 ≤ config.resolvers
    → AgreeOnRows config version rec replies rows → AgreeOnRows config version rec replies other
    → rows ≡ other

-- replies that agree on some rows disagree at no version
abbrev pub AgreeingRepliesDoNotDisagree : Type 0
AgreeingRepliesDoNotDisagree =
    (config : Config) (version : ℕ) (rec : Record) (replies : Replies) (rows : List JournalRow)
    → 1 ≤ config.resolvers
    → AgreeOnRows config version rec replies rows
    → disagreements config version rec replies ≡ []

-- replies that disagree at no version agree on the rows that they tell
abbrev pub RepliesAgreeOnTheRowsTheyTell : Type 0
RepliesAgreeOnTheRowsTheyTell =
    (config : Config) (version : ℕ) (rec : Record) (replies : Replies)
    → 1 ≤ config.resolvers
    → disagreements config version rec replies ≡ []
    → AgreeOnRows config version rec replies (rows_by_replies config.resolvers replies)

-- the rows that the proxy of a record has not seen, after the records before it
abbrev pub unseen_rows : Config → VerdictSource → List Record → Record → List JournalRow
unseen_rows config verdict_by history rec =
    journal config verdict_by (filter (is_after rec.own_previous) (take rec.row history))

-- the replies to a record of a history that the resolvers give by a source agree on the rows of the
-- journal that its proxy has not seen
abbrev pub TrueRepliesAgree : Type 0
TrueRepliesAgree =
    (config : Config) (verdict_by : VerdictSource) (history : List Record) (rec : Record)
    (replies : Replies)
    → 1 ≤ config.step → IsHistory config history → slice_get history rec.row ≡ Some rec
    → AreRepliesBy config verdict_by (take rec.row history) rec replies
    → AgreeOnRows config rec.own_previous rec replies
    (unseen_rows config verdict_by history rec)

-- the journal of a proxy that is at the version of its record before
abbrev pub journal_up_to : Config → VerdictSource → List Record → ℕ → List JournalRow
journal_up_to config verdict_by history version =
    journal config verdict_by (up_to_version version history)

-- and the record finished by these replies is the record finished by the source
abbrev pub TrueRepliesFinishTheRecord : Type 0
TrueRepliesFinishTheRecord =
    (config : Config) (verdict_by : VerdictSource) (history : List Record) (rec : Record)
    (replies : Replies) (rows : List JournalRow)
    → IsConfig config → IsHistory config history → slice_get history rec.row ≡ Some rec
    → AreRepliesBy config verdict_by (take rec.row history) rec replies
    → AgreeOnRows config rec.own_previous rec replies rows
    → finished_after config (replied_verdicts config rec replies)
    (journal_up_to config verdict_by history rec.own_previous ++ rows) rec
    ≡ finished_batch config verdict_by (take rec.row history) rec

-- and with these rows and its own row, the journal is that of the history up to the record
abbrev pub TrueRepliesGrowTheJournal : Type 0
TrueRepliesGrowTheJournal =
    (config : Config) (verdict_by : VerdictSource) (history : List Record) (rec : Record)
    (replies : Replies) (rows : List JournalRow)
    → IsConfig config → IsHistory config history → slice_get history rec.row ≡ Some rec
    → AreRepliesBy config verdict_by (take rec.row history) rec replies
    → AgreeOnRows config rec.own_previous rec replies rows
    → journal_up_to config verdict_by history rec.own_previous
    ++ rows ++ journal_row config (replied_verdicts config rec replies) rec ∷ []
    ≡ journal_up_to config verdict_by history rec.version

-- a proxy that is at the version of its record before, with the journal of the history up to it
pub record IsBefore
    (verdict_by : VerdictSource) (history : List Record) (v : ProxyView) (rec : Record) :
    Type 0 where
  pub limits : IsConfig v.config
  pub history_is : IsHistory v.config history
  pub there : slice_get history rec.row ≡ Some rec
  pub at : v.version ≡ rec.own_previous
  pub journal_is : v.journal ≡ journal_up_to v.config verdict_by history v.version

-- the proxy is at the version of the record, with the journal of the history up to it, and the
-- record is no longer among those begun
pub record IsAfter
    (verdict_by : VerdictSource) (history : List Record) (v new : ProxyView)
    (rec : Record) (rest : List Record) : Type 0 where
  pub at : new.version ≡ rec.version
  pub begun : new.begun ≡ rest
  pub journal_is : new.journal ≡ journal_up_to v.config verdict_by history new.version

-- so a proxy whose journal is that of the history keeps such a journal when it finishes a record by
-- such replies, and its finished batch is that of the history
abbrev pub TrueRepliesKeepTheProxyInStep : Type 0
TrueRepliesKeepTheProxyInStep =
    (verdict_by : VerdictSource) (history : List Record) (v new : ProxyView) (rec : Record)
    (rest : List Record) (replies : Replies) (finished : Finished)
    → IsBefore verdict_by history v rec → v.begun ≡ rec ∷ rest
    → AreRepliesBy v.config verdict_by (take rec.row history) rec replies
    → HasFinished v new replies finished
    → IsAfter verdict_by history v new rec rest
    × (finished ≡ finished_batch v.config verdict_by (take rec.row history) rec)

-- the replies of a world's resolvers are those by the verdicts of its history
abbrev pub WorldRepliesAreByTheHistory : Type 0
WorldRepliesAreByTheHistory =
    (config : Config) (history : List Record) (rec : Record) (replies : Replies)
    → IsHistory config history → slice_get history rec.row ≡ Some rec
    → ((r : ℕ) → r < config.resolvers
    → reply_from replies r
    ≡ Some (reply_of config (history_verdicts config history) r (take rec.row history) rec))
    → AreRepliesBy config (history_verdicts config history) (take rec.row history) rec replies

-- the record is the earliest of its proxy that is not finished
abbrev pub IsInTurn : World → ℕ → Record → Type 0
IsInTurn world proxy rec =
    slice_get (records_of_proxy proxy world.history) (slice_index world.finished proxy) ≡ Some rec

-- the record is the next that its proxy finishes, every resolver has judged it, and the replies to
-- it are those by the verdicts of the history
pub record MayFinish
    (config : Config) (world : World) (proxy : ℕ) (rec : Record) (replies : Replies) :
    Type 0 where
  pub sound : IsSound config world
  pub there : proxy < config.proxies
  pub turn : IsInTurn world proxy rec
  pub judged : missing_replies world rec.row (each_below config.resolvers) ≡ []
  pub replied :
      AreRepliesBy config (history_verdicts config world.history)
      (take rec.row world.history) rec replies

-- the event that finishes a record does in the world what its proxy does by the replies alone: the
-- proxy has finished one record more, with the same answer
abbrev pub WorldsFinishByReplies : Type 0
WorldsFinishByReplies =
    (config : Config) (world : World) (proxy : ℕ) (rec : Record) (replies : Replies)
    (rows : List JournalRow)
    → IsConfig config → MayFinish config world proxy rec replies
    → AgreeOnRows config (finished_version world proxy) rec replies rows
    → handle_event config world (Finish proxy)
    ≡ record {
      world = record world {
        finished = slice_set world.finished proxy (suc (slice_index world.finished proxy));
      };
      answer =
          FinishedBatch (finished_after config (replied_verdicts config rec replies)
          (proxy_journal config world proxy ++ rows) rec);
    }

-- and the journal of the proxy grows by the rows that the replies tell and by the record's own row
abbrev pub WorldJournalsGrowByReplies : Type 0
WorldJournalsGrowByReplies =
    (config : Config) (world : World) (proxy : ℕ) (rec : Record) (replies : Replies)
    (rows : List JournalRow)
    → IsConfig config → MayFinish config world proxy rec replies
    → AgreeOnRows config (finished_version world proxy) rec replies rows
    → proxy_journal config (handle_event config world (Finish proxy)).world proxy
    ≡ proxy_journal config world proxy
    ++ rows ++ journal_row config (replied_verdicts config rec replies) rec ∷ []

-- the last version that a proxy finished is the one before the record that it finishes next
abbrev pub FinishedVersionIsTheOneBefore : Type 0
FinishedVersionIsTheOneBefore =
    (config : Config) (world : World) (proxy : ℕ) (rec : Record)
    → IsSound config world → IsInTurn world proxy rec
    → finished_version world proxy ≡ rec.own_previous

-- no event but its own finish changes the journal of a proxy
abbrev pub OnlyItsFinishChangesTheJournal : Type 0
OnlyItsFinishChangesTheJournal =
    (config : Config) (world : World) (event : Event) (proxy : ℕ)
    → IsConfig config → IsSound config world → ¬ (event ≡ Finish proxy)
    → proxy_journal config (handle_event config world event).world proxy
    ≡ proxy_journal config world proxy

-- its own finish appends the rows that the proxy has not seen, and the row of the record that it
-- finishes
abbrev pub AFinishAppendsTheUnseenRows : Type 0
AFinishAppendsTheUnseenRows =
    (config : Config) (world : World) (proxy : ℕ) (rec : Record)
    → IsConfig config → IsSound config world → proxy < config.proxies
    → IsInTurn world proxy rec
    → missing_replies world rec.row (each_below config.resolvers) ≡ []
    → proxy_journal config (handle_event config world (Finish proxy)).world proxy
    ≡ proxy_journal config world proxy
    ++ journal config (history_verdicts config world.history)
    (filter (is_after rec.own_previous) (take rec.row world.history))
    ++ journal_row config (history_verdicts config world.history) rec ∷ []

-- A proxy whose map of owners holds the moves of the first `begun` records of a history may begin
-- each record after these, whatever the other proxies did. So it may begin its own records one
-- after another, if it knows the records up to each of them.
abbrev pub ALaterRecordMayBegin : Type 0
ALaterRecordMayBegin =
    (config : Config) (history : List Record) (row begun : ℕ) (rec : Record) (v : ProxyView)
    → IsHistory config history → slice_get history row ≡ Some rec → begun ≤ row
    → v.config ≡ config → HoldsMoves v (last_moves (take begun history))
    → MayBegin v rec
