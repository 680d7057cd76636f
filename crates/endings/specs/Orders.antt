-- Statements: every order of offers and finishes ends in one world. They are of every sound world.
-- Each world that a run of events leads to is sound, by `run_keeps_history_law` of the model.
use Rattle.std.specs.Prelude.{◌≡◌, ◌<◌, ℕ, List, slice_index, Contains, IsTrue, ◌↔◌, ◌≤◌, take}
use Rattle.std.specs.Prelude.{slice_get, Some}
use Rattle.model.specs.Configs.{Config}
use Rattle.model.specs.Numbers.{ProxyNumber}
use Rattle.model.specs.declared.reply.Reply.{Reply}
use Rattle.model.specs.declared.outcome.Finished.{Finished}
use Rattle.model.specs.Records.{Record, records_of_proxy}
use Rattle.model.specs.Journal.{history_verdicts}
use Rattle.model.specs.World.{World, Event, Answer, Judged, FinishedBatch, IsSound, reply_of}
use Rattle.model.specs.World.{finished_batch, answers, world_after, proxy_journal, proxy_metadata}
use Rattle.model.specs.World.{proxy_routing}
use Rattle.endings.specs.Work.{AreWork, is_done, AllFinished, done_world}

-- ---- one world

-- offers and finishes after which all records are finished lead to one world
abbrev pub AllWorkEndsInOneWorld : Type 0
AllWorkEndsInOneWorld =
    (config : Config) (w : World) (events : List Event)
    → IsSound config w → AreWork events → AllFinished config (world_after config w events)
    → world_after config w events ≡ done_world config w

-- after either of two lists of offers and finishes all records are finished
pub record BothFinish (config : Config) (w : World) (events others : List Event) : Type 0 where
  pub sound : IsSound config w
  pub work : AreWork events
  pub other_work : AreWork others
  pub finished : AllFinished config (world_after config w events)
  pub other_finished : AllFinished config (world_after config w others)

-- both lists lead to the same world
abbrev pub EveryOrderEndsAlike : Type 0
EveryOrderEndsAlike =
    (config : Config) (w : World) (events others : List Event)
    → BothFinish config w events others
    → world_after config w events ≡ world_after config w others

-- so each proxy has the same journal, the same metadata and the same routing
abbrev pub EachProxyEndsAlike : Type 0
EachProxyEndsAlike =
    (config : Config) (w : World) (events others : List Event) (p : ProxyNumber)
    → BothFinish config w events others
    → (proxy_journal config (world_after config w events) p
    ≡ proxy_journal config (world_after config w others) p)
    × (proxy_metadata config (world_after config w events) p
    ≡ proxy_metadata config (world_after config w others) p)
    × (proxy_routing config (world_after config w events) p
    ≡ proxy_routing config (world_after config w others) p)

-- ---- the same batches, the same replies

-- the finished batch of a record that its proxy has not finished in w, by the history
pub record IsUnfinishedBatch (config : Config) (w : World) (finished : Finished) : Type 0 where
  pub rec : Record
  pub proxy : rec.proxy < config.proxies
  pub place : ℕ
  pub at : slice_get (records_of_proxy rec.proxy w.history) place ≡ Some rec
  pub unfinished : slice_index w.finished rec.proxy ≤ place
  pub batch :
      finished ≡ finished_batch config (history_verdicts config w.history)
      (take rec.row w.history) rec

-- the batches that finish are exactly those of the unfinished records, with the outcomes, tags and
-- private copies that the history gives them
abbrev pub TheUnfinishedBatchesFinish : Type 0
TheUnfinishedBatchesFinish =
    (config : Config) (w : World) (events : List Event) (finished : Finished)
    → IsSound config w → AreWork events → AllFinished config (world_after config w events)
    → Contains (answers config w events) (FinishedBatch finished) ↔ IsUnfinishedBatch config w finished

-- so a batch that finishes in one of two orders, finishes in the other too
abbrev pub TheSameBatchesFinish : Type 0
TheSameBatchesFinish =
    (config : Config) (w : World) (events others : List Event) (finished : Finished)
    → BothFinish config w events others
    → Contains (answers config w events) (FinishedBatch finished)
    → Contains (answers config w others) (FinishedBatch finished)

-- the reply of a resolver to a row that it has not judged in w, by the history
pub record IsUnjudgedReply (config : Config) (w : World) (reply : Reply) : Type 0 where
  pub rec : Record
  pub resolver : reply.resolver < config.resolvers
  pub at : slice_get w.history reply.row ≡ Some rec
  pub unjudged : slice_index w.judged_counts reply.resolver ≤ reply.row
  pub is :
      reply ≡ reply_of config (history_verdicts config w.history) reply.resolver
      (take reply.row w.history) rec

-- the replies of resolvers that judge are exactly those to the unjudged rows
abbrev pub TheUnjudgedRowsAreJudged : Type 0
TheUnjudgedRowsAreJudged =
    (config : Config) (w : World) (events : List Event) (reply : Reply)
    → IsSound config w → AreWork events → AllFinished config (world_after config w events)
    → Contains (answers config w events) (Judged reply) ↔ IsUnjudgedReply config w reply

-- so a reply that is given in one of two orders, is given in the other too
abbrev pub TheSameRepliesAreGiven : Type 0
TheSameRepliesAreGiven =
    (config : Config) (w : World) (events others : List Event) (reply : Reply)
    → BothFinish config w events others
    → Contains (answers config w events) (Judged reply)
    → Contains (answers config w others) (Judged reply)

-- and nothing is done twice: no two answers to a list of events are the same reply of a resolver that
-- judges, or the same finished batch
abbrev pub EachIsDoneOnce : Type 0
EachIsDoneOnce =
    (config : Config) (w : World) (events : List Event) (i j : ℕ) (answer : Answer)
    → IsSound config w → AreWork events → IsTrue (is_done answer)
    → slice_get (answers config w events) i ≡ Some answer
    → slice_get (answers config w events) j ≡ Some answer
    → i ≡ j

-- any two lists of offers and finishes can be continued to the same world
abbrev pub AnyTwoOrdersMeet : Type 0
AnyTwoOrdersMeet =
    (config : Config) (w : World) (events others : List Event)
    → IsSound config w → AreWork events → AreWork others
    → (more other_more : List Event) × AreWork more × AreWork other_more
    × (world_after config (world_after config w events) more
    ≡ world_after config (world_after config w others) other_more)
