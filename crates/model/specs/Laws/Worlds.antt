-- Statements of a cluster without threads, and of the parts that carry out its events.
use Rattle.std.specs.Prelude.{◌≡◌, ◌<◌, ◌++◌, ℕ, List, [], ◌∷◌, take, slice_get, slice_index, Some}
use Rattle.std.specs.Prelude.{Contains, suc, ◌+◌, map, length, slice_set, None}
use Rattle.system_keys.specs.Keys.{Range}
use Rattle.model.specs.Configs.{Config, IsConfig, version_limit}
use Rattle.model.specs.declared.outcome.Finished.{Finished}
use Rattle.model.specs.declared.reply.Reply.{Reply}
use Rattle.model.specs.Records.{Record, IsHistory, last_version}
use Rattle.model.specs.Shares.{each_below}
use Rattle.model.specs.Journal.{history_verdicts, reply_row}
use Rattle.model.specs.Serial.{IsSerial}
use Rattle.model.specs.World.{World, Event, Finish, Judged, Again, FinishedBatch, IsSound}
use Rattle.model.specs.World.{initial_world, reply_of, finished_batch, missing_replies}
use Rattle.model.specs.World.{handle_event, answers, world_after, finished_version, Sequence}
use Rattle.model.specs.World.{MoveRange, Offer, Sequenced, Refused, Refusal, OutOfTurn}
use Rattle.model.specs.World.{MissingReply, next_record, remembered_by}
use Rattle.model.specs.Stamps.{AdmittedTransaction}
use Rattle.model.specs.Requests.{Request, request}
use Rattle.model.specs.Offers.{answer_to, kept_replies, reply_at, sent_request, judged_requests}
use Rattle.model.specs.Offers.{world_answer}
use Rattle.model.specs.ResolverMemory.{ResolverView, StandsForRequests}
use Rattle.model.specs.Finishing.{ProxyView, Replies, reply_from, MayBegin, HasBegun, HasFinished}
use Rattle.model.specs.Finishing.{unreplied, disagreements}
use Rattle.model.specs.Turns.{AreInStep, IsResolverOf, IsNewResolver, IsNewProxy}

-- each event keeps a world sound
abbrev pub EventsKeepSoundness : Type 0
EventsKeepSoundness =
    (config : Config) (world : World) (event : Event)
    → IsSound config world → IsSound config (handle_event config world event).world

-- every run leads to a sound world
abbrev pub RunsAreSound : Type 0
RunsAreSound =
    (config : Config) (events : List Event)
    → IsSound config (world_after config (initial_world config) events)

-- the records after a run
abbrev pub final_history : Config → List Event → List Record
final_history config events = (world_after config (initial_world config) events).history

-- the records after every run are a history
abbrev pub RunsLeaveAHistory : Type 0
RunsLeaveAHistory =
    (config : Config) (events : List Event) → IsHistory config (final_history config events)

-- and so they obey the rule of commit
abbrev pub RunsAreSerial : Type 0
RunsAreSerial =
    (config : Config) (events : List Event)
    → IsConfig config → IsSerial config (final_history config events)

-- the answers to some events, and then to others, are those to all of them in a row
abbrev pub AnswersContinue : Type 0
AnswersContinue =
    (config : Config) (world : World) (events later : List Event)
    → answers config world (events ++ later)
    ≡ answers config world events ++ answers config (world_after config world events) later

-- and so is the world after them
abbrev pub WorldsContinue : Type 0
WorldsContinue =
    (config : Config) (world : World) (events later : List Event)
    → world_after config world (events ++ later)
    ≡ world_after config (world_after config world events) later

-- a finished batch belongs to its row of the history
abbrev pub IsFinishedIn : Config → List Record → Finished → Type 0
IsFinishedIn config history finished =
    (rec : Record) × (slice_get history finished.row ≡ Some rec)
    × (finished ≡ finished_batch config (history_verdicts config history)
    (take finished.row history) rec)

-- each finished batch of a run belongs to its row of the final history
abbrev pub CompletedBatchesAreOfTheHistory : Type 0
CompletedBatchesAreOfTheHistory =
    (config : Config) (events : List Event) (finished : Finished)
    → Contains (answers config (initial_world config) events) (FinishedBatch finished)
    → IsFinishedIn config (final_history config events) finished

-- a reply belongs to its row of the history
abbrev pub IsReplyIn : Config → List Record → Reply → Type 0
IsReplyIn config history reply =
    (rec : Record) × (slice_get history reply.row ≡ Some rec)
    × (reply ≡ reply_of config (history_verdicts config history) reply.resolver
    (take reply.row history) rec)

-- and so is each reply
abbrev pub JudgedRepliesAreOfTheHistory : Type 0
JudgedRepliesAreOfTheHistory =
    (config : Config) (events : List Event) (reply : Reply)
    → Contains (answers config (initial_world config) events) (Judged reply)
    → IsReplyIn config (final_history config events) reply

-- and each reply that is given again
abbrev pub RepeatedRepliesAreOfTheHistory : Type 0
RepeatedRepliesAreOfTheHistory =
    (config : Config) (events : List Event) (reply : Reply)
    → Contains (answers config (initial_world config) events) (Again reply)
    → IsReplyIn config (final_history config events) reply

-- a refused event changes nothing
abbrev pub RefusedEventsChangeNothing : Type 0
RefusedEventsChangeNothing =
    (config : Config) (w : World) (event : Event) (refusal : Refusal)
    → (handle_event config w event).answer ≡ Refused refusal
    → (handle_event config w event).world ≡ w

-- new resolvers and new proxies are in step with the world before the first event
abbrev pub NewPartsAreInStep : Type 0
NewPartsAreInStep =
    (config : Config) (resolvers : List ResolverView) (proxies : List ProxyView)
    → IsConfig config
    → length resolvers ≡ config.resolvers → length proxies ≡ config.proxies
    → ((r : ℕ) (v : ResolverView) → slice_get resolvers r ≡ Some v → IsNewResolver config r v)
    → ((p : ℕ) (v : ProxyView) → slice_get proxies p ≡ Some v → IsNewProxy config p v)
    → AreInStep config (initial_world config) resolvers proxies []

-- a move changes no part
abbrev pub AMoveKeepsThePartsInStep : Type 0
AMoveKeepsThePartsInStep =
    (config : Config) (w : World) (range : Range) (dest : ℕ) (resolvers : List ResolverView)
    (proxies : List ProxyView) (requests : List (List Request))
    → AreInStep config w resolvers proxies requests
    → AreInStep config (handle_event config w (MoveRange range dest)).world resolvers
    proxies requests

-- the batch is not refused
abbrev pub TheBatchGetsItsRecord : Type 0
TheBatchGetsItsRecord =
    (config : Config) (w : World) (p : ℕ) (batch : List AdmittedTransaction)
    → p < config.proxies → last_version w.history + config.step < version_limit
    → handle_event config w (Sequence p batch)
    ≡ record {
      world = record w {
        history = w.history ++ next_record config w p batch ∷ [];
        received = w.received ++ finished_version w p ∷ [];
      };
      answer = Sequenced (length w.history) (last_version w.history + config.step);
    }

-- the cluster may sequence a batch of this proxy, of which it keeps this
pub record MaySequence
    (config : Config) (w : World) (p : ℕ) (v : ProxyView) (resolvers : List ResolverView)
    (proxies : List ProxyView) (requests : List (List Request)) : Type 0 where
  pub parts : AreInStep config w resolvers proxies requests
  pub there : p < config.proxies
  pub proxy_is : slice_get proxies p ≡ Some v
  pub limit : last_version w.history + config.step < version_limit

-- its proxy may begin the next record
abbrev pub TheNextRecordMayBegin : Type 0
TheNextRecordMayBegin =
    (config : Config) (w : World) (p : ℕ) (v : ProxyView) (resolvers : List ResolverView)
    (proxies : List ProxyView) (requests : List (List Request)) (batch : List AdmittedTransaction)
    → MaySequence config w p v resolvers proxies requests
    → MayBegin v (next_record config w p batch)

-- once its proxy has begun the record, the parts are in step with the requests that it sent
abbrev pub ABegunRecordKeepsThePartsInStep : Type 0
ABegunRecordKeepsThePartsInStep =
    (config : Config) (w : World) (p : ℕ) (v new : ProxyView) (resolvers : List ResolverView)
    (proxies : List ProxyView) (requests : List (List Request)) (batch : List AdmittedTransaction)
    → MaySequence config w p v resolvers proxies requests
    → HasBegun v new (next_record config w p batch)
    → AreInStep config (handle_event config w (Sequence p batch)).world resolvers
    (slice_set proxies p new)
    (requests ++ map (request config (next_record config w p batch) v.version)
    (each_below config.resolvers) ∷ [])

-- the request for this row goes to this resolver
pub record IsOffered
    (config : Config) (w : World) (row r : ℕ) (rec : Record) (v : ResolverView)
    (resolvers : List ResolverView) (proxies : List ProxyView) (requests : List (List Request)) :
    Type 0 where
  pub parts : AreInStep config w resolvers proxies requests
  pub there : r < config.resolvers
  pub resolver_is : slice_get resolvers r ≡ Some v
  pub record_is : slice_get w.history row ≡ Some rec

-- the resolver answers as the world does
abbrev pub AResolverAnswersAsTheWorld : Type 0
AResolverAnswersAsTheWorld =
    (config : Config) (w : World) (row r : ℕ) (rec : Record) (v : ResolverView)
    (resolvers : List ResolverView) (proxies : List ProxyView) (requests : List (List Request))
    → IsOffered config w row r rec v resolvers proxies requests
    → StandsForRequests v (judged_requests config w r)
    × (world_answer (answer_to v.number (length v.proxies) v.written.window
    (judged_requests config w r) (sent_request config w r rec))
    ≡ Some (handle_event config w (Offer row r)).answer)

-- the row that it judges is the one after those that it has judged
abbrev pub AJudgedRowIsTheNext : Type 0
AJudgedRowIsTheNext =
    (config : Config) (w : World) (row r : ℕ) (rec : Record) (v : ResolverView)
    (resolvers : List ResolverView) (proxies : List ProxyView) (requests : List (List Request))
    (reply : Reply)
    → IsOffered config w row r rec v resolvers proxies requests
    → (handle_event config w (Offer row r)).answer ≡ Judged reply
    → (handle_event config w (Offer row r)).world
    ≡ record w { judged_counts = slice_set w.judged_counts r (row + 1) }

-- a resolver that has judged the request is the new one of the world, which has judged the row
abbrev pub AJudgedRequestKeepsThePartsInStep : Type 0
AJudgedRequestKeepsThePartsInStep =
    (config : Config) (w : World) (row r : ℕ) (rec : Record) (v new : ResolverView)
    (resolvers : List ResolverView) (proxies : List ProxyView) (requests : List (List Request))
    (reply : Reply)
    → IsOffered config w row r rec v resolvers proxies requests
    → (handle_event config w (Offer row r)).answer ≡ Judged reply
    → new.number ≡ v.number → length new.proxies ≡ length v.proxies
    → new.written.window ≡ v.written.window
    → StandsForRequests new (judged_requests config w r ++ sent_request config w r rec ∷ [])
    → AreInStep config (handle_event config w (Offer row r)).world (slice_set resolvers r new)
    proxies requests

-- a resolver keeps the rows of the records that the world remembers for it, as it replies them
abbrev pub AResolverKeepsTheRowsOfTheRemembered : Type 0
AResolverKeepsTheRowsOfTheRemembered =
    (config : Config) (w : World) (r : ℕ) (v : ResolverView)
    → IsSound config w → IsResolverOf config w r v
    → v.rows ≡ map (reply_row (history_verdicts config w.history) r) (remembered_by config w r)

-- a proxy that has begun no record finishes out of turn
abbrev pub AProxyWithoutRecordIsOutOfTurn : Type 0
AProxyWithoutRecordIsOutOfTurn =
    (config : Config) (w : World) (p : ℕ) (v : ProxyView) (resolvers : List ResolverView)
    (proxies : List ProxyView) (requests : List (List Request))
    → AreInStep config w resolvers proxies requests → p < config.proxies
    → slice_get proxies p ≡ Some v → v.begun ≡ []
    → (handle_event config w (Finish p)).answer ≡ Refused (OutOfTurn None)

-- the proxy has begun this record first of those that it has not finished
pub record IsAwaited
    (config : Config) (w : World) (p : ℕ) (rec : Record) (rest : List Record) (v : ProxyView)
    (resolvers : List ResolverView) (proxies : List ProxyView) (requests : List (List Request)) :
    Type 0 where
  pub parts : AreInStep config w resolvers proxies requests
  pub there : p < config.proxies
  pub proxy_is : slice_get proxies p ≡ Some v
  pub begun : v.begun ≡ rec ∷ rest

-- the first resolver that has not judged the awaited record is missing
abbrev pub AMissingReplyIsNamed : Type 0
AMissingReplyIsNamed =
    (config : Config) (w : World) (p : ℕ) (rec : Record) (rest : List Record) (v : ProxyView)
    (resolvers : List ResolverView) (proxies : List ProxyView) (requests : List (List Request))
    (missing : ℕ) (others : List ℕ)
    → IsAwaited config w p rec rest v resolvers proxies requests
    → missing_replies w rec.row (each_below config.resolvers) ≡ missing ∷ others
    → (handle_event config w (Finish p)).answer ≡ Refused (MissingReply missing)

-- each resolver keeps the reply to the awaited record that it has judged
abbrev pub RepliesAreKeptUntilTheFinish : Type 0
RepliesAreKeptUntilTheFinish =
    (config : Config) (w : World) (p : ℕ) (rec : Record) (rest : List Record) (v : ProxyView)
    (resolvers : List ResolverView) (proxies : List ProxyView) (requests : List (List Request))
    (r : ℕ) (memory : ResolverView)
    → IsAwaited config w p rec rest v resolvers proxies requests
    → slice_get resolvers r ≡ Some memory → rec.row < slice_index w.judged_counts r
    → reply_at rec.version (kept_replies memory.written.window (judged_requests config w r) p)
    ≡ Some (reply_of config (history_verdicts config w.history) r (take rec.row w.history) rec)

-- and the world does not refuse the event
abbrev pub AnAwaitedRecordMayBeFinished : Type 0
AnAwaitedRecordMayBeFinished =
    (config : Config) (w : World) (p : ℕ) (rec : Record) (rest : List Record) (v : ProxyView)
    (resolvers : List ResolverView) (proxies : List ProxyView) (requests : List (List Request))
    → IsAwaited config w p rec rest v resolvers proxies requests
    → missing_replies w rec.row (each_below config.resolvers) ≡ []
    → (finished : Finished)
    × ((handle_event config w (Finish p)).answer ≡ FinishedBatch finished)

-- the replies are those of the world's resolvers to the awaited record
pub record AreOfTheWorld
    (config : Config) (w : World) (rec : Record) (replies : Replies) : Type 0 where
  pub judged : missing_replies w rec.row (each_below config.resolvers) ≡ []
  pub each :
      (r : ℕ) → r < config.resolvers
      → reply_from replies r
      ≡ Some (reply_of config (history_verdicts config w.history) r (take rec.row w.history) rec)

-- the proxy does not refuse them
abbrev pub RepliesOfTheWorldHaveNoFault : Type 0
RepliesOfTheWorldHaveNoFault =
    (config : Config) (w : World) (p : ℕ) (rec : Record) (rest : List Record) (v : ProxyView)
    (resolvers : List ResolverView) (proxies : List ProxyView) (requests : List (List Request))
    (replies : Replies)
    → IsAwaited config w p rec rest v resolvers proxies requests
    → AreOfTheWorld config w rec replies
    → (unreplied v.config.resolvers replies ≡ [])
    × (disagreements v.config v.version rec replies ≡ [])

-- a proxy that has finished the record by them answers as the world does
abbrev pub AProxyFinishesAsTheWorld : Type 0
AProxyFinishesAsTheWorld =
    (config : Config) (w : World) (p : ℕ) (rec : Record) (rest : List Record) (v new : ProxyView)
    (resolvers : List ResolverView) (proxies : List ProxyView) (requests : List (List Request))
    (replies : Replies) (finished : Finished)
    → IsAwaited config w p rec rest v resolvers proxies requests
    → AreOfTheWorld config w rec replies → HasFinished v new replies finished
    → handle_event config w (Finish p)
    ≡ record {
      world = record w { finished = slice_set w.finished p (suc (slice_index w.finished p)) };
      answer = FinishedBatch finished;
    }

-- and is the new one of the world
abbrev pub AFinishKeepsThePartsInStep : Type 0
AFinishKeepsThePartsInStep =
    (config : Config) (w : World) (p : ℕ) (rec : Record) (rest : List Record) (v new : ProxyView)
    (resolvers : List ResolverView) (proxies : List ProxyView) (requests : List (List Request))
    (replies : Replies) (finished : Finished)
    → IsAwaited config w p rec rest v resolvers proxies requests
    → AreOfTheWorld config w rec replies → HasFinished v new replies finished
    → AreInStep config (handle_event config w (Finish p)).world resolvers
    (slice_set proxies p new) requests
