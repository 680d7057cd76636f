-- Statements: nothing gets stuck. They are of every sound world. Each world that a run of events
-- leads to is sound, by `run_keeps_history_law` of the model.
use Rattle.std.specs.Prelude.{◌≡◌, ◌<◌, ◌+◌, suc, ◌⊎◌, List, ◌++◌, length, filter, slice_index}
use Rattle.std.specs.Prelude.{IsTrue, IsFalse}
use Rattle.std.specs.List.{list_all}
use Rattle.model.specs.Numbers.{ProxyNumber, ResolverNumber}
use Rattle.model.specs.Configs.{Config}
use Rattle.model.specs.declared.reply.Reply.{Reply}
use Rattle.model.specs.declared.outcome.Finished.{Finished}
use Rattle.model.specs.World.{World, Event, Offer, Finish, Judged, FinishedBatch, Refused}
use Rattle.model.specs.World.{MissingReply, IsSound, initial_world, handle_event, answers}
use Rattle.model.specs.World.{world_after}
use Rattle.endings.specs.Work.{is_work, AreWork, is_done, work_left, HasUnfinished, AllFinished}

-- ---- some event is always done

-- resolver r judges its next row if that is offered to it
abbrev pub CanJudge : Config → World → ResolverNumber → Type 0
CanJudge config w r =
    (reply : Reply)
    × ((handle_event config w (Offer (slice_index w.judged_counts r) r)).answer ≡ Judged reply)

-- a resolver that has not judged every row judges the next one that is offered to it
abbrev pub TheNextRowIsJudged : Type 0
TheNextRowIsJudged =
    (config : Config) (w : World) (r : ResolverNumber)
    → IsSound config w → r < config.resolvers → slice_index w.judged_counts r < length w.history
    → CanJudge config w r

-- A proxy with an unfinished record finishes it, or is refused with the number of a resolver whose
-- reply is missing. That resolver can judge its next row.
abbrev pub AProxyWaitsForAResolverThatCanJudge : Type 0
AProxyWaitsForAResolverThatCanJudge =
    (config : Config) (w : World) (p : ProxyNumber)
    → IsSound config w → p < config.proxies → HasUnfinished w p
    → ((finished : Finished) × ((handle_event config w (Finish p)).answer ≡ FinishedBatch finished))
    ⊎ ((r : ResolverNumber) × (r < config.resolvers)
    × ((handle_event config w (Finish p)).answer ≡ Refused (MissingReply r))
    × CanJudge config w r)

-- so while some record is unfinished, some offer or finish is done
abbrev pub NothingIsStuck : Type 0
NothingIsStuck =
    (config : Config) (w : World) (p : ProxyNumber)
    → IsSound config w → p < config.proxies → HasUnfinished w p
    → (event : Event) × IsTrue (is_work event)
    × IsTrue (is_done (handle_event config w event).answer)

-- ---- each takes one from the work that is left

-- each offer or finish that is done takes one from the work that is left
abbrev pub EachStepTakesOne : Type 0
EachStepTakesOne =
    (config : Config) (w : World) (event : Event)
    → IsSound config w → IsTrue (is_work event)
    → IsTrue (is_done (handle_event config w event).answer)
    → work_left config w ≡ suc (work_left config (handle_event config w event).world)

-- any other changes nothing
abbrev pub OthersChangeNothing : Type 0
OthersChangeNothing =
    (config : Config) (w : World) (event : Event)
    → IsSound config w → IsTrue (is_work event)
    → IsFalse (is_done (handle_event config w event).answer)
    → (handle_event config w event).world ≡ w

-- so of a list of offers and finishes as many are done as the work that is left gets less
abbrev pub AsManyAreDoneAsWorkIsLess : Type 0
AsManyAreDoneAsWorkIsLess =
    (config : Config) (w : World) (events : List Event)
    → IsSound config w → AreWork events
    → length (filter is_done (answers config w events))
    + work_left config (world_after config w events)
    ≡ work_left config w

-- if no work is left, all records are finished
abbrev pub NothingLeftIsAllFinished : Type 0
NothingLeftIsAllFinished =
    (config : Config) (w : World)
    → IsSound config w → work_left config w ≡ 0 → AllFinished config w

-- and the reverse: then all rows are judged too
abbrev pub AllFinishedLeavesNothing : Type 0
AllFinishedLeavesNothing =
    (config : Config) (w : World)
    → IsSound config w → AllFinished config w → work_left config w ≡ 0

-- ---- all can be finished

-- some list of offers and finishes, each of them done and as many as work is left, finishes all
-- records
abbrev pub AllCanBeFinished : Type 0
AllCanBeFinished =
    (config : Config) (w : World)
    → IsSound config w
    → (events : List Event) × AreWork events × (length events ≡ work_left config w)
    × IsTrue (list_all is_done (answers config w events))
    × AllFinished config (world_after config w events)

-- so whatever events came, offers and finishes after them can finish all records
abbrev pub EveryRunCanBeFinished : Type 0
EveryRunCanBeFinished =
    (config : Config) (events : List Event)
    → (more : List Event) × AreWork more
    × AllFinished config (world_after config (initial_world config) (events ++ more))
