-- Statements: fair schedules finish all records, and how long they take. A schedule is fair if each
-- event that can be done comes then or later. No more is asked: events may come in any order, be
-- repeated and be refused.
use Rattle.std.specs.Prelude.{◌≡◌, ◌<◌, ◌≤◌, ℕ, zero, suc, List, [], ◌∷◌, ◌++◌, map, flat_map, length}
use Rattle.std.specs.Prelude.{Contains, IsTrue, ⊤}
use Rattle.model.specs.Numbers.{RowNumber, ProxyNumber, ResolverNumber}
use Rattle.model.specs.Configs.{Config}
use Rattle.model.specs.Shares.{each_below}
use Rattle.model.specs.World.{World, Event, Offer, Finish, IsSound, handle_event, world_after}
use Rattle.endings.specs.Work.{is_work, AreWork, is_done, work_left, AllFinished}

-- this offer or finish is done if it comes now
abbrev pub CanBeDone : Config → World → Event → Type 0
CanBeDone config w event =
    IsTrue (is_work event) × IsTrue (is_done (handle_event config w event).answer)

-- ---- segments

-- the events of all segments, one segment after another
abbrev pub joined : List (List Event) → List Event
joined [] = []
joined (segment ∷ segments) = segment ++ joined segments

-- the segment has offers and finishes alone, and each that can be done when it begins
pub record IsFairSegment (config : Config) (w : World) (segment : List Event) : Type 0 where
  pub work : AreWork segment
  pub comes : (event : Event) → CanBeDone config w event → Contains segment event

-- each of these segments is fair in the world in which it begins
abbrev pub AreFair : Config → World → List (List Event) → Type 0
AreFair config w [] = ⊤
AreFair config w (segment ∷ segments) =
    IsFairSegment config w segment × AreFair config (world_after config w segment) segments

-- as many fair segments as work is left finish all records
abbrev pub FairSegmentsFinishByWork : Type 0
FairSegmentsFinishByWork =
    (config : Config) (w : World) (segments : List (List Event))
    → IsSound config w → AreFair config w segments → work_left config w ≤ length segments
    → AllFinished config (world_after config w (joined segments))

-- and so does one segment more than there are rows, whatever the numbers of proxies and resolvers
abbrev pub FairSegmentsFinishByRows : Type 0
FairSegmentsFinishByRows =
    (config : Config) (w : World) (segments : List (List Event))
    → IsSound config w → AreFair config w segments → length w.history < length segments
    → AllFinished config (world_after config w (joined segments))

-- ---- rounds

-- the offers of a row to each resolver, in order
abbrev pub offers_of_row : Config → RowNumber → List Event
offers_of_row config row = map (λ (r : ResolverNumber). Offer row r) (each_below config.resolvers)

-- A round over this many rows: every offer, row by row, and then a finish by each proxy. No other
-- offer or finish can be done, as the cluster has no other row, resolver or proxy.
abbrev pub round : Config → (rows : ℕ) → List Event
round config rows =
    flat_map (offers_of_row config) (each_below rows)
    ++ map (λ (p : ProxyNumber). Finish p) (each_below config.proxies)

-- this many rounds
abbrev pub rounds : Config → (rows n : ℕ) → List (List Event)
rounds config rows zero = []
rounds config rows (suc n) = round config rows ∷ rounds config rows n

-- rounds over the rows of a world are fair segments
abbrev pub RoundsAreFair : Type 0
RoundsAreFair =
    (config : Config) (w : World) (n : ℕ)
    → IsSound config w → AreFair config w (rounds config (length w.history) n)

-- so as many rounds as work is left finish all records
abbrev pub RoundsFinishByWork : Type 0
RoundsFinishByWork =
    (config : Config) (w : World)
    → IsSound config w
    → AllFinished config
    (world_after config w (joined (rounds config (length w.history) (work_left config w))))

-- and so does one round more than there are rows
abbrev pub RoundsFinishByRows : Type 0
RoundsFinishByRows =
    (config : Config) (w : World)
    → IsSound config w
    → AllFinished config
    (world_after config w (joined (rounds config (length w.history) (suc (length w.history)))))

-- ---- schedules without end

-- an event for each moment, from moment 0 on
abbrev pub Schedule : Type 0
Schedule = (moment : ℕ) → Event

-- the events of the first n moments
abbrev pub first_events : Schedule → (n : ℕ) → List Event
first_events schedule n = map schedule (each_below n)

-- the schedule has offers and finishes alone, and each that can be done at some moment comes then or
-- later
pub record IsFair (config : Config) (w : World) (schedule : Schedule) : Type 0 where
  pub work : (n : ℕ) → IsTrue (is_work (schedule n))
  pub comes :
      (n : ℕ) (event : Event)
      → CanBeDone config (world_after config w (first_events schedule n)) event
      → (later : ℕ) × (n ≤ later) × (schedule later ≡ event)

-- at some moment of a fair schedule all records are finished
abbrev pub FairSchedulesFinishAll : Type 0
FairSchedulesFinishAll =
    (config : Config) (w : World) (schedule : Schedule)
    → IsSound config w → IsFair config w schedule
    → (n : ℕ) × AllFinished config (world_after config w (first_events schedule n))

-- and there is such a schedule from every sound world
abbrev pub SomeScheduleIsFair : Type 0
SomeScheduleIsFair = (config : Config) (w : World) → IsSound config w → (schedule : Schedule) × IsFair config w schedule
