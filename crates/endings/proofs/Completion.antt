-- A world in which all records are finished has nothing left; offers and finishes lead to it, and whatever their order to the same one.
use Rattle.std.proofs.Common.{◌≡◌, refl, sym, ap, subst, ℕ, zero, suc, ◌<◌, ◌⊎◌, inl, inr, List, [], ◌∷◌, length, Bool, true, ◌&&◌, nat_eq, slice_get, slice_index, Some, arith}
use Rattle.std.proofs.lemmas.Bool.{cases_order, eq-eqb}
use Rattle.std.proofs.lemmas.Option.{slice_get_within}
use Rattle.std.specs.List.{list_all}
use Rattle.model.specs.Configs.{Config}
use Rattle.model.specs.Records.{Record, records_of_proxy}
use Rattle.model.specs.World.{World, Event, Offer, IsSound, initial_world, handle_event, answers, world_after}
use Rattle.model.proofs.History.Growth.{index_there}
use Rattle.model.proofs.History.Chain.{element_at}
use Rattle.model.proofs.Resolvers.Offers.{judged_within}
use Rattle.model.proofs.Verdicts.Places.{row_at}
use Rattle.model.proofs.Worlds.Histories.{happens_sound, run_sound}
use Rattle.model.proofs.Worlds.Runs.{world_after_append}
use Rattle.endings.specs.Work.{is_work, AreWork, is_done, rows_left, records_left, sum_below, work_left, AllFinished}
use Rattle.endings.specs.Progress.{AllFinishedLeavesNothing, AllCanBeFinished, EveryRunCanBeFinished}
use Rattle.endings.proofs.OwnRecords.{kept_at}
use Rattle.endings.proofs.Sums.{none_summed, sum_some}
use Rattle.endings.proofs.Progress.{next_is_judged, not_stuck, takes_one, nothing_left}

-- ---- all rows are judged once all records are finished

pub all_judged : (config : Config) (w : World) → IsSound config w → AllFinished config w → (r : ℕ) → r < config.resolvers → slice_index w.judged_counts r ≡ length w.history
all_judged config w sound all r there = by (cases_order (slice_index w.judged_counts r) (length w.history))
  where
    own : slice_get w.judged_counts r ≡ Some (slice_index w.judged_counts r)
    own = index_there w.judged_counts r (omega (arith, there, sound.judged_counts))

    -- the row that the resolver has not judged is of an unfinished record
    past : slice_index w.judged_counts r < length w.history → ⊥
    past more =
        let found = element_at w.history (slice_index w.judged_counts r) more in
        let rec : Record = found.0 in
        let follows = sound.sequencer.history (slice_index w.judged_counts r) rec found.1 in
        let p_there : rec.proxy < config.proxies = follows.proxy in
        let place = kept_at (λ (s : Record). nat_eq s.proxy rec.proxy) w.history (slice_index w.judged_counts r) rec found.1 (eq-eqb rec.proxy rec.proxy refl) in
        let done : slice_get w.finished rec.proxy ≡ Some (slice_index w.finished rec.proxy) = index_there w.finished rec.proxy (omega (arith, p_there, sound.finished)) in
        let before : place.0 < slice_index w.finished rec.proxy = omega (arith, all rec.proxy p_there, slice_get_within (records_of_proxy rec.proxy w.history) place.0 rec place.1) in
        let judged : rec.row < slice_index w.judged_counts r = sound.judged_first rec.proxy (slice_index w.finished rec.proxy) place.0 r (slice_index w.judged_counts r) rec done before place.1 own in
        omega (arith, judged, row_at config w.history (slice_index w.judged_counts r) rec sound.sequencer.history found.1)

    by : (slice_index w.judged_counts r ≡ length w.history) ⊎ ((slice_index w.judged_counts r < length w.history) ⊎ (length w.history < slice_index w.judged_counts r)) → slice_index w.judged_counts r ≡ length w.history
    by (inl same) = same
    by (inr (inl fewer)) = absurd (past fewer)
    by (inr (inr more)) = absurd (omega (arith, more, judged_within config w r sound there))

pub none_left : AllFinishedLeavesNothing
none_left config w sound all =
    let rows = none_summed (rows_left w) config.resolvers (λ r there. omega (arith, all_judged config w sound all r there)) in
    let records = none_summed (records_left w) config.proxies (λ p there. omega (arith, all p there)) in
    omega (arith, rows, records)

-- ---- all can be finished

pub some_step : (config : Config) (w : World) → IsSound config w → 0 < work_left config w → (event : Event) × (is_work event ≡ true) × (is_done (handle_event config w event).answer ≡ true)
some_step config w sound some = by (cases_order 0 (sum_below (rows_left w) config.resolvers))
  where
    judges : (r : ℕ) × (r < config.resolvers) × (0 < rows_left w r) → (event : Event) × (is_work event ≡ true) × (is_done (handle_event config w event).answer ≡ true)
    judges found = (Offer (slice_index w.judged_counts found.0) found.0, refl, ap is_done (next_is_judged config w found.0 sound found.1 (omega (arith, found.2))).1)

    finishes : (p : ℕ) × (p < config.proxies) × (0 < records_left w p) → (event : Event) × (is_work event ≡ true) × (is_done (handle_event config w event).answer ≡ true)
    finishes found = not_stuck config w found.0 sound found.1 (omega (arith, found.2))

    by : (0 ≡ sum_below (rows_left w) config.resolvers) ⊎ ((0 < sum_below (rows_left w) config.resolvers) ⊎ (sum_below (rows_left w) config.resolvers < 0)) → (event : Event) × (is_work event ≡ true) × (is_done (handle_event config w event).answer ≡ true)
    by (inl none) = finishes (sum_some (records_left w) config.proxies (omega (arith, some, none)))
    by (inr (inl rows)) = judges (sum_some (rows_left w) config.resolvers rows)
    by (inr (inr past)) = absurd (omega (arith, past))

pub both_so : (a b : Bool) → a ≡ true → b ≡ true → (a && b) ≡ true
both_so a b first second = rw (first, second) refl

abbrev pub CanFinish : Config → World → ℕ → Type 0
CanFinish config w n = (events : List Event) × AreWork events × (length events ≡ n) × (list_all is_done (answers config w events) ≡ true) × AllFinished config (world_after config w events)

-- a step more
one_more : (config : Config) (w : World) (n : ℕ) (event : Event) → is_work event ≡ true → is_done (handle_event config w event).answer ≡ true → CanFinish config (handle_event config w event).world n → CanFinish config w (suc n)
unfolding answers world_after
one_more config w n event work done (events, works, count, all_done, finished) = (
  event ∷ events,
  both_so (is_work event) (list_all is_work events) work works,
  ap (λ (k : ℕ). suc k) count,
  both_so (is_done (handle_event config w event).answer) (list_all is_done (answers config (handle_event config w event).world events)) done all_done,
  finished,
)

finish_in : (config : Config) (n : ℕ) (w : World) → IsSound config w → work_left config w ≡ n → CanFinish config w n
unfolding answers world_after
finish_in config zero w sound left = ([], refl, refl, refl, nothing_left config w sound left)
finish_in config (suc n) w sound left =
    let step = some_step config w sound (omega (arith, left)) in
    let fewer : work_left config (handle_event config w step.0).world ≡ n = omega (arith, left, takes_one config w step.0 sound step.1 step.2) in
    one_more config w n step.0 step.1 step.2 (finish_in config n (handle_event config w step.0).world (happens_sound config w step.0 sound) fewer)

pub can_finish : AllCanBeFinished
can_finish config w sound = finish_in config (work_left config w) w sound refl

-- ---- runs

pub run_can_finish : EveryRunCanBeFinished
run_can_finish config events =
    let rest = can_finish config (world_after config (initial_world config) events) (run_sound config events) in
    (rest.0, rest.1, subst (AllFinished config) (sym (world_after_append config (initial_world config) events rest.0)) rest.4)
