-- Statements: how far apart proxies can be. Each proxy knows the first rows of one journal, that of
-- the whole history, and lacks the others. What a resolver remembers is bounded by the slowest proxy.
use Rattle.std.specs.Prelude.{◌≡◌, ◌<◌, ◌≤◌, ◌+◌, ◌*◌, ◌++◌, ℕ, List, suc, fold, take, drop, length}
use Rattle.std.specs.Prelude.{[], slice_get, slice_index, Some}
use Rattle.model.specs.Configs.{Config, IsConfig, version_limit}
use Rattle.model.specs.Numbers.{ProxyNumber, ResolverNumber}
use Rattle.model.specs.declared.outcome.Finished.{Finished}
use Rattle.model.specs.Records.{Record, last_version, records_of_proxy}
use Rattle.model.specs.Journal.{history_verdicts, journal}
use Rattle.model.specs.Metadata.{after_journal_row}
use Rattle.model.specs.World.{World, Event, Finish, FinishedBatch, IsSound, initial_world, handle_event}
use Rattle.model.specs.World.{world_after, finished_version, rows_up_to, proxy_journal}
use Rattle.model.specs.World.{proxy_metadata, remembered_by}
use Rattle.endings.specs.Work.{records_left, AllFinished}

-- ---- what a proxy knows

-- how many rows proxy p knows: those up to its version
abbrev pub rows_known : World → ProxyNumber → ℕ
rows_known w p = rows_up_to (finished_version w p) w.history

-- a proxy that has finished no record knows no row
abbrev pub NothingFinishedNothingKnown : Type 0
NothingFinishedNothingKnown =
    (config : Config) (w : World) (p : ProxyNumber)
    → IsConfig config → IsSound config w → slice_index w.finished p ≡ 0 → rows_known w p ≡ 0

-- any other knows each row up to the row of the last record that it finished, and no further one
abbrev pub AProxyKnowsUpToItsLastRecord : Type 0
AProxyKnowsUpToItsLastRecord =
    (config : Config) (w : World) (p : ProxyNumber) (done : ℕ) (rec : Record)
    → IsConfig config → IsSound config w → slice_index w.finished p ≡ suc done
    → slice_get (records_of_proxy p w.history) done ≡ Some rec
    → rows_known w p ≡ suc rec.row

-- of two proxies, the one at the later version knows at least as many rows
abbrev pub TheLaterVersionKnowsMore : Type 0
TheLaterVersionKnowsMore =
    (w : World) (p q : ProxyNumber)
    → finished_version w p ≤ finished_version w q → rows_known w p ≤ rows_known w q

-- so a proxy that finishes a record then knows each row up to that record's
abbrev pub AFinishCatchesUp : Type 0
AFinishCatchesUp =
    (config : Config) (w : World) (p : ProxyNumber) (finished : Finished)
    → IsConfig config → IsSound config w
    → (handle_event config w (Finish p)).answer ≡ FinishedBatch finished
    → rows_known (handle_event config w (Finish p)).world p ≡ suc finished.row

-- ---- one journal

-- the journal of a proxy is a prefix of the journal of the whole history: the rows that it knows
abbrev pub EachJournalIsAPrefix : Type 0
EachJournalIsAPrefix =
    (config : Config) (w : World) (p : ProxyNumber)
    → IsConfig config → IsSound config w
    → proxy_journal config w p
    ≡ take (rows_known w p) (journal config (history_verdicts config w.history) w.history)

-- so of two proxies, the one ahead has the journal of the other, and then the rows between
abbrev pub TheOneAheadHasTheJournalOfTheOther : Type 0
TheOneAheadHasTheJournalOfTheOther =
    (config : Config) (w : World) (p q : ProxyNumber)
    → IsConfig config → IsSound config w → rows_known w p ≤ rows_known w q
    → proxy_journal config w q
    ≡ proxy_journal config w p ++ drop (rows_known w p) (proxy_journal config w q)

-- its metadata is the other's metadata, changed by the rows between
abbrev pub TheOneAheadHasTheMetadataOfTheOther : Type 0
TheOneAheadHasTheMetadataOfTheOther =
    (config : Config) (w : World) (p q : ProxyNumber)
    → IsConfig config → IsSound config w → rows_known w p ≤ rows_known w q
    → proxy_metadata config w q
    ≡ fold after_journal_row (proxy_metadata config w p)
    (drop (rows_known w p) (proxy_journal config w q))

-- ---- what a proxy lacks

-- of the rows that a proxy lacks, as many are its own as it has records unfinished
abbrev pub ItLacksItsUnfinishedRecords : Type 0
ItLacksItsUnfinishedRecords =
    (config : Config) (w : World) (p : ProxyNumber)
    → IsConfig config → IsSound config w
    → length (records_of_proxy p (drop (rows_known w p) w.history)) ≡ records_left w p

-- so once all records are finished, it lacks only records of other proxies
abbrev pub OnceFinishedItLacksOnlyOthers : Type 0
OnceFinishedItLacksOnlyOthers =
    (config : Config) (w : World) (p : ProxyNumber)
    → IsConfig config → IsSound config w → p < config.proxies → AllFinished config w
    → records_of_proxy p (drop (rows_known w p) w.history) ≡ []

-- There is no other bound. One proxy may know as many rows as versions allow, and another none of
-- them, though all records are finished.
abbrev pub TheyMayBeAnyRowsApart : Type 0
TheyMayBeAnyRowsApart =
    (config : Config) (n : ℕ)
    → IsConfig config → 2 ≤ config.proxies → n * config.step < version_limit
    → (events : List Event)
    × AllFinished config (world_after config (initial_world config) events)
    × (rows_known (world_after config (initial_world config) events) 0 ≡ 0)
    × (rows_known (world_after config (initial_world config) events) 1 ≡ n)

-- ---- what a resolver remembers

-- the records that resolver r has judged
abbrev pub judged_by : World → ResolverNumber → List Record
judged_by w r = take (slice_index w.judged_counts r) w.history

-- how many of the rows that resolver r has judged proxy p has reached with its requests: those up to
-- its last one among them
abbrev pub rows_reached : World → ResolverNumber → ProxyNumber → ℕ
rows_reached w r p = rows_up_to (last_version (records_of_proxy p (judged_by w r))) (judged_by w r)

-- of all proxies of the cluster, p has the least number
abbrev pub IsSlowest : Config → (rows : ProxyNumber → ℕ) → (p : ProxyNumber) → Type 0
IsSlowest config rows p =
    (p < config.proxies) × ((q : ProxyNumber) → q < config.proxies → rows p ≤ rows q)

-- whatever these numbers are, some proxy has the least
abbrev pub SomeProxyIsSlowest : Type 0
SomeProxyIsSlowest =
    (config : Config) (rows : ProxyNumber → ℕ) → 0 < config.proxies
    → (p : ProxyNumber) × IsSlowest config rows p

-- a resolver remembers the rows that it has judged, without those that the slowest proxy has reached
abbrev pub RememberedRowsFollowTheSlowest : Type 0
RememberedRowsFollowTheSlowest =
    (config : Config) (w : World) (r : ResolverNumber) (p : ProxyNumber)
    → IsConfig config → IsSound config w → r < config.resolvers
    → IsSlowest config (rows_reached w r) p
    → remembered_by config w r ≡ drop (rows_reached w r p) (judged_by w r)

-- a proxy has reached each row that it knows, at every resolver
abbrev pub FinishedRowsWereReached : Type 0
FinishedRowsWereReached =
    (config : Config) (w : World) (r : ResolverNumber) (p : ProxyNumber)
    → IsConfig config → IsSound config w → r < config.resolvers → p < config.proxies
    → rows_known w p ≤ rows_reached w r p

-- so what a resolver remembers, and what the slowest proxy knows, are together at most the rows that
-- the resolver has judged
abbrev pub TheSlowestBoundsWhatIsRemembered : Type 0
TheSlowestBoundsWhatIsRemembered =
    (config : Config) (w : World) (r : ResolverNumber) (p : ProxyNumber)
    → IsConfig config → IsSound config w → r < config.resolvers → IsSlowest config (rows_known w) p
    → length (remembered_by config w r) + rows_known w p ≤ slice_index w.judged_counts r
