-- What is left to do in a world once its batches are sequenced: each resolver judges each row, and
-- each proxy finishes each of its records. Offers and finishes are the events that do it.
use Rattle.std.specs.Prelude.{◌≡◌, ℕ, zero, suc, ◌+◌, ◌-◌, ◌<◌, List, map, length, replicate}
use Rattle.std.specs.Prelude.{Bool, true, false, IsTrue, slice_index}
use Rattle.std.specs.List.{list_all}
use Rattle.model.specs.Numbers.{ResolverNumber, ProxyNumber}
use Rattle.model.specs.Configs.{Config}
use Rattle.model.specs.Records.{records_of_proxy}
use Rattle.model.specs.Shares.{each_below}
use Rattle.model.specs.World.{World, Event, Sequence, MoveRange, Offer, Finish, Answer, Sequenced}
use Rattle.model.specs.World.{Moved, Judged, Again, FinishedBatch, Refused}

-- ---- the events that do it

-- the event is an offer or a finish
abbrev pub is_work : Event → Bool
is_work (Sequence p batch) = false
is_work (MoveRange range dest) = false
is_work (Offer row r) = true
is_work (Finish p) = true

-- all these events are offers and finishes, in any order, repeated and refused ones too
abbrev pub AreWork : List Event → Type 0
AreWork events = IsTrue (list_all is_work events)

-- the answer says that a resolver judged a row, or that a proxy finished a record
abbrev pub is_done : Answer → Bool
is_done (Sequenced row version) = false
is_done (Moved date) = false
is_done (Judged reply) = true
is_done (Again reply) = false
is_done (FinishedBatch finished) = true
is_done (Refused refusal) = false

-- ---- what is left

-- how many records proxy p has
abbrev pub record_count : World → ProxyNumber → ℕ
record_count w p = length (records_of_proxy p w.history)

-- how many rows resolver r has not judged
abbrev pub rows_left : World → ResolverNumber → ℕ
rows_left w r = length w.history - slice_index w.judged_counts r

-- how many of its records proxy p has not finished
abbrev pub records_left : World → ProxyNumber → ℕ
records_left w p = record_count w p - slice_index w.finished p

-- f 0 + f 1 + .. + f (n - 1)
abbrev pub sum_below : (f : ℕ → ℕ) (n : ℕ) → ℕ
sum_below f zero = 0
sum_below f (suc n) = sum_below f n + f n

-- how much work is left: the rows that each resolver has not judged, and the records that each proxy
-- has not finished
abbrev pub work_left : Config → World → ℕ
work_left config w =
    sum_below (rows_left w) config.resolvers + sum_below (records_left w) config.proxies

-- proxy p has a record that it has not finished
abbrev pub HasUnfinished : World → ProxyNumber → Type 0
HasUnfinished w p = slice_index w.finished p < record_count w p

-- each proxy of the cluster has finished all its records
abbrev pub AllFinished : Config → World → Type 0
AllFinished config w =
    (p : ProxyNumber) → p < config.proxies → slice_index w.finished p ≡ record_count w p

-- the world in which each resolver has judged all rows of w, and each proxy has finished all its
-- records
abbrev pub done_world : Config → World → World
done_world config w =
    record w {
      judged_counts = replicate config.resolvers (length w.history);
      finished = map (record_count w) (each_below config.proxies);
    }
