-- What is left to do, as events in a fixed order, and statements: each of them is done, and after them
-- all records are finished. A cluster that carries them out ends a run.
use Rattle.std.specs.Prelude.{◌≡◌, Bool, IsTrue, List, ◌++◌, map, filter, flat_map, length, nat_lt}
use Rattle.std.specs.List.{list_all}
use Rattle.model.specs.Numbers.{RowNumber, ResolverNumber}
use Rattle.model.specs.Configs.{Config, IsConfig}
use Rattle.model.specs.Records.{Record}
use Rattle.model.specs.Shares.{each_below}
use Rattle.model.specs.World.{World, Event, Offer, Finish, IsSound, finished_version, missing_replies}
use Rattle.model.specs.World.{answers, world_after}
use Rattle.endings.specs.Work.{AreWork, is_done, work_left, AllFinished}

-- ---- the events

-- the offers of a row to the resolvers that have not judged it, in order
abbrev pub offers_left_of_row : Config → World → RowNumber → List Event
offers_left_of_row config w row =
    map (λ (r : ResolverNumber). Offer row r) (missing_replies w row (each_below config.resolvers))

-- these offers of every row, row by row
abbrev pub offers_left : Config → World → List Event
offers_left config w = flat_map (offers_left_of_row config w) (each_below (length w.history))

-- the proxy of the record has not come to its version
abbrev pub is_unfinished : World → Record → Bool
is_unfinished w rec = nat_lt (finished_version w rec.proxy) rec.version

-- a finish for each unfinished record, row by row
abbrev pub finishes_left : World → List Event
finishes_left w = map (λ (rec : Record). Finish rec.proxy) (filter (is_unfinished w) w.history)

-- what is left: first the offers, and then the finishes
abbrev pub events_left : Config → World → List Event
events_left config w = offers_left config w ++ finishes_left w

-- ---- they finish all

-- they are offers and finishes
abbrev pub TheEventsLeftAreWork : Type 0
TheEventsLeftAreWork = (config : Config) (w : World) → AreWork (events_left config w)

-- each is done, one after another
abbrev pub TheEventsLeftAreDone : Type 0
TheEventsLeftAreDone =
    (config : Config) (w : World)
    → IsConfig config → IsSound config w
    → IsTrue (list_all is_done (answers config w (events_left config w)))

-- after them all records are finished
abbrev pub TheEventsLeftFinishAll : Type 0
TheEventsLeftFinishAll =
    (config : Config) (w : World)
    → IsConfig config → IsSound config w
    → AllFinished config (world_after config w (events_left config w))

-- they are as many as work is left, so no list of events finishes all records sooner
abbrev pub AsManyEventsAreLeftAsWork : Type 0
AsManyEventsAreLeftAsWork =
    (config : Config) (w : World)
    → IsConfig config → IsSound config w
    → length (events_left config w) ≡ work_left config w
