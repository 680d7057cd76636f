-- Fair segments and fair schedules take work away until none is left.
use Rattle.std.proofs.Common.{◌≡◌, refl, sym, ap, ◌∙◌, subst, ℕ, zero, suc, ◌+◌, ◌-◌, ◌<◌, ◌≤◌, ◌⊎◌, inl, inr, List, [], ◌∷◌, length, Bool, true, false, arith}
use Rattle.std.proofs.lemmas.Bool.{cases_order}
use Rattle.std.proofs.lemmas.List.{map-append}
use Rattle.model.specs.Configs.{Config}
use Rattle.model.specs.Shares.{each_below}
use Rattle.model.specs.World.{World, Event, IsSound, handle_event, world_after}
use Rattle.model.proofs.Members.{Has, Has-from_Contains}
use Rattle.model.proofs.Worlds.Histories.{happens_sound, world_after_sound}
use Rattle.model.proofs.Worlds.Runs.{world_after_append}
use Rattle.endings.specs.Work.{is_work, AreWork, is_done, work_left, AllFinished}
use Rattle.endings.specs.Fairness.{CanBeDone, joined, IsFairSegment, FairSegmentsFinishByWork, Schedule, first_events, IsFair, FairSchedulesFinishAll}
use Rattle.endings.proofs.Progress.{takes_one, others_nothing, nothing_left}
use Rattle.endings.proofs.Completion.{some_step}
use Rattle.endings.proofs.Orders.{first_work, as_many_done}

-- ---- segments

-- offers and finishes never make more work
never_more : (config : Config) (w : World) (events : List Event) → IsSound config w → AreWork events → work_left config (world_after config w events) ≤ work_left config w
never_more config w events sound work = let count = as_many_done config w events sound work in omega (arith, count)

-- an event that can be done now takes work away wherever it comes, unless another one has
takes_some : (config : Config) (w : World) (events : List Event) (event : Event) → IsSound config w → AreWork events → Has events event → CanBeDone config w event → work_left config (world_after config w events) < work_left config w
unfolding world_after
takes_some config w [] event sound work has can = absurd has
takes_some config w (first ∷ events) event sound work has can = by (is_done (handle_event config w first).answer) refl has (λ later now. takes_some config (handle_event config w first).world events event (happens_sound config w first sound) (first_work first events work).1 later now)
  where
    next : World
    next = (handle_event config w first).world

    works : (is_work first ≡ true) × AreWork events
    works = first_work first events work

    next_sound : IsSound config next
    next_sound = happens_sound config w first sound

    by : (t : Bool) → is_done (handle_event config w first).answer ≡ t → Has (first ∷ events) event → (Has events event → CanBeDone config next event → work_left config (world_after config next events) < work_left config next) → work_left config (world_after config next events) < work_left config w
    by true done has rest = omega (arith, takes_one config w first sound works.0 done, never_more config next events next_sound works.1)
    by false undone (inl same) rest = absurd (cc (sym undone ∙ ap (λ (e : Event). is_done (handle_event config w e).answer) same ∙ can.1))
    by false undone (inr later) rest =
        let kept : next ≡ w = others_nothing config w first sound works.0 undone in
        let fewer = rest later (subst (λ (x : World). CanBeDone config x event) (sym kept) can) in
        omega (arith, fewer, ap (work_left config) kept)

-- a fair segment takes some work away, if there is any
segment_takes : (config : Config) (w : World) (segment : List Event) (n : ℕ) → IsSound config w → IsFairSegment config w segment → work_left config w ≤ suc n → work_left config (world_after config w segment) ≤ n
segment_takes config w segment n sound fair bound = by (cases_order 0 (work_left config w))
  where
    by : (0 ≡ work_left config w) ⊎ ((0 < work_left config w) ⊎ (work_left config w < 0)) → work_left config (world_after config w segment) ≤ n
    by (inl none) = omega (arith, none, never_more config w segment sound fair.work)
    by (inr (inl some)) =
        let step = some_step config w sound some in
        let takes = takes_some config w segment step.0 sound fair.work (Has-from_Contains segment step.0 (fair.comes step.0 (step.1, step.2))) (step.1, step.2) in
        omega (arith, takes, bound)
    by (inr (inr past)) = absurd (omega (arith, past))

pub finish_by_work : FairSegmentsFinishByWork
unfolding world_after
finish_by_work config w [] sound fair bound = nothing_left config w sound (omega (arith, bound))
finish_by_work config w (segment ∷ segments) sound fair bound =
    let next : World = world_after config w segment in
    subst (AllFinished config) (sym (world_after_append config w segment (joined segments)))
    (finish_by_work config next segments (world_after_sound config w segment sound) fair.1 (segment_takes config w segment (length segments) sound fair.0 (omega (arith, bound))))

-- ---- schedules

-- the world before moment n
abbrev before : Config → World → Schedule → ℕ → World
before config w schedule n = world_after config w (first_events schedule n)

before_sound : (config : Config) (w : World) (schedule : Schedule) (n : ℕ) → IsSound config w → IsSound config (before config w schedule n)
before_sound config w schedule n sound = world_after_sound config w (first_events schedule n) sound

-- the world after one event
after_one : (config : Config) (w : World) (event : Event) → world_after config w (event ∷ []) ≡ (handle_event config w event).world
unfolding world_after
after_one config w event = refl

before_next : (config : Config) (w : World) (schedule : Schedule) (n : ℕ) → before config w schedule (suc n) ≡ (handle_event config (before config w schedule n) (schedule n)).world
before_next config w schedule n =
    ap (world_after config w) (map-append schedule (each_below n) (n ∷ []))
    ∙ world_after_append config w (first_events schedule n) (schedule n ∷ [])
    ∙ after_one config (before config w schedule n) (schedule n)

-- work is less at some moment
abbrev Less : Config → World → Schedule → ℕ → Type 0
Less config w schedule n = (m : ℕ) × (work_left config (before config w schedule m) < work_left config (before config w schedule n))

-- if the event that comes at moment n is done, work is less at the next
less_next : (config : Config) (w : World) (schedule : Schedule) (n : ℕ) → IsSound config w → IsFair config w schedule → is_done (handle_event config (before config w schedule n) (schedule n)).answer ≡ true → Less config w schedule n
less_next config w schedule n sound fair done =
    let takes = takes_one config (before config w schedule n) (schedule n) (before_sound config w schedule n sound) (fair.work n) done in
    (suc n, omega (arith, takes, ap (work_left config) (before_next config w schedule n)))

-- an event that can be done at moment n, and comes this number of moments later, makes it less
less_later : (config : Config) (w : World) (schedule : Schedule) (event : Event) (d n m : ℕ) → IsSound config w → IsFair config w schedule → CanBeDone config (before config w schedule n) event → m ≡ n + d → schedule m ≡ event → Less config w schedule n
less_later config w schedule event zero n m sound fair can is at =
    let same : n ≡ m = omega (arith, is) in
    let now : schedule n ≡ event = ap schedule same ∙ at in
    less_next config w schedule n sound fair (ap (λ (e : Event). is_done (handle_event config (before config w schedule n) e).answer) now ∙ can.1)
less_later config w schedule event (suc d) n m sound fair can is at = by (is_done (handle_event config (before config w schedule n) (schedule n)).answer) refl (λ now. less_later config w schedule event d (suc n) m sound fair now (omega (arith, is)) at)
  where
    by : (t : Bool) → is_done (handle_event config (before config w schedule n) (schedule n)).answer ≡ t → (CanBeDone config (before config w schedule (suc n)) event → Less config w schedule (suc n)) → Less config w schedule n
    by true done rest = less_next config w schedule n sound fair done
    by false undone rest =
        let kept : before config w schedule (suc n) ≡ before config w schedule n = before_next config w schedule n ∙ others_nothing config (before config w schedule n) (schedule n) (before_sound config w schedule n sound) (fair.work n) undone in
        let less = rest (subst (λ (x : World). CanBeDone config x event) (sym kept) can) in
        (less.0, omega (arith, less.1, ap (work_left config) kept))

less_work : (config : Config) (w : World) (schedule : Schedule) (n : ℕ) → IsSound config w → IsFair config w schedule → 0 < work_left config (before config w schedule n) → Less config w schedule n
less_work config w schedule n sound fair some =
    let step = some_step config (before config w schedule n) (before_sound config w schedule n sound) some in
    let comes = fair.comes n step.0 (step.1, step.2) in
    less_later config w schedule step.0 (comes.0 - n) n comes.0 sound fair (step.1, step.2) (omega (arith, comes.1)) comes.2

finish_from : (config : Config) (w : World) (schedule : Schedule) (bound n : ℕ) → IsSound config w → IsFair config w schedule → work_left config (before config w schedule n) ≤ bound → (m : ℕ) × AllFinished config (before config w schedule m)
finish_from config w schedule zero n sound fair below = (n, nothing_left config (before config w schedule n) (before_sound config w schedule n sound) (omega (arith, below)))
finish_from config w schedule (suc bound) n sound fair below = by (cases_order 0 (work_left config (before config w schedule n))) (λ k fewer. finish_from config w schedule bound k sound fair fewer)
  where
    by : (0 ≡ work_left config (before config w schedule n)) ⊎ ((0 < work_left config (before config w schedule n)) ⊎ (work_left config (before config w schedule n) < 0)) → ((k : ℕ) → work_left config (before config w schedule k) ≤ bound → (m : ℕ) × AllFinished config (before config w schedule m)) → (m : ℕ) × AllFinished config (before config w schedule m)
    by (inl none) rest = (n, nothing_left config (before config w schedule n) (before_sound config w schedule n sound) (sym none))
    by (inr (inl some)) rest = let less = less_work config w schedule n sound fair some in rest less.0 (omega (arith, less.1, below))
    by (inr (inr past)) rest = absurd (omega (arith, past))

pub fair_finish : FairSchedulesFinishAll
fair_finish config w schedule sound fair = finish_from config w schedule (work_left config (before config w schedule 0)) 0 sound fair (omega arith)
