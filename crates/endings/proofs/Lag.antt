-- A finish brings a proxy up to its record, and without one it may be any number of rows behind.
use Rattle.std.proofs.Common.{◌≡◌, refl, sym, ap, ◌∙◌, subst, ℕ, zero, suc, ◌+◌, ◌*◌, ◌<◌, ◌≤◌, List, [], ◌∷◌, ◌++◌, length, take, drop, Bool, true, false, cond, nat_eq, nat_le, if◌then◌else◌, slice_get, slice_index, slice_set, Option, Some, None, take-append-drop, length-append, arith}
use Rattle.std.proofs.lemmas.Bool.{leb-false}
use Rattle.std.proofs.lemmas.List.{length-take-le, take_all}
use Rattle.model.specs.Configs.{Config, IsConfig, version_limit}
use Rattle.model.specs.declared.outcome.Finished.{Finished}
use Rattle.model.specs.Records.{Record, last_version, records_of_proxy}
use Rattle.model.specs.Shares.{each_below}
use Rattle.model.specs.Journal.{history_verdicts}
use Rattle.model.specs.World as world
use Rattle.model.specs.World.{World, Event, Sequence, Finish, Handled, FinishedBatch, IsSound, initial_world, next_record, handle_event, finished_after, finished_batch, finish_record, handle_finish, missing_replies, refuse, world_after, up_to_version, finished_version}
use Rattle.std.proofs.Math.Nat.{suc-mul}
use Rattle.model.proofs.History.Chain.{version_before}
use Rattle.model.proofs.History.Growth.{records_of_proxy-append}
use Rattle.model.proofs.Worlds.Histories.{happens_sound, run_sound, world_after_sound}
use Rattle.model.proofs.Worlds.InStep.{sequence_is}
use Rattle.model.proofs.Worlds.Runs.{finish_is, set_same, world_after_append}
use Rattle.endings.specs.Work.{work_left, AllFinished}
use Rattle.endings.specs.Distances.{rows_known, AFinishCatchesUp, TheyMayBeAnyRowsApart}
use Rattle.endings.proofs.Distances.{none_known, known_up_to, known_within, lacks_others}
use Rattle.endings.proofs.Completion.{CanFinish, can_finish}
use Rattle.endings.proofs.Orders.{work_keeps}

-- ---- a finish

-- what the answer to a finish tells
record HasFinishedBy (config : Config) (w : World) (p : ℕ) (f : Finished) : Type 0 where
  there : p < config.proxies
  rec : Record
  turn : slice_get (records_of_proxy p w.history) (slice_index w.finished p) ≡ Some rec
  none : missing_replies w rec.row (each_below config.resolvers) ≡ []
  row : f.row ≡ rec.row

told_finished : (config : Config) (w : World) (p : ℕ) (f : Finished) → (handle_event config w (Finish p)).answer ≡ FinishedBatch f → HasFinishedBy config w p f
unfolding handle_event finished_after
told_finished config w p f told = by (nat_le config.proxies p) refl told
  where
    waits : (rec : Record) (waiting : List ℕ) → p < config.proxies → slice_get (records_of_proxy p w.history) (slice_index w.finished p) ≡ Some rec → missing_replies w rec.row (each_below config.resolvers) ≡ waiting → (finish_record config w p rec waiting).answer ≡ FinishedBatch f → HasFinishedBy config w p f
    waits rec (r ∷ rs) there turn is answer = absurd (cc)
    waits rec [] there turn is answer =
        let same : f ≡ finished_batch config (history_verdicts config w.history) (take rec.row w.history) rec = cc in
        record { there = there; rec = rec; turn = turn; none = is; row = ap (λ (x : Finished). x.row) same }

    found_is : (found : Option Record) → p < config.proxies → slice_get (records_of_proxy p w.history) (slice_index w.finished p) ≡ found → (handle_finish config w p found).answer ≡ FinishedBatch f → HasFinishedBy config w p f
    found_is None there turn answer = absurd (cc)
    found_is (Some rec) there turn answer = waits rec (missing_replies w rec.row (each_below config.resolvers)) there turn refl answer

    by : (t : Bool) → nat_le config.proxies p ≡ t → (if t then refuse w world.NoSuchProxy else handle_finish config w p (slice_get (records_of_proxy p w.history) (slice_index w.finished p))).answer ≡ FinishedBatch f → HasFinishedBy config w p f
    by true unknown answer = absurd (cc)
    by false known answer = found_is (slice_get (records_of_proxy p w.history) (slice_index w.finished p)) (leb-false config.proxies p known) refl answer

pub catches_up : AFinishCatchesUp
catches_up config w p f limits sound told =
    let is = told_finished config w p f told in
    let next : World = record w { finished = slice_set w.finished p (suc (slice_index w.finished p)) } in
    let world_is : (handle_event config w (Finish p)).world ≡ next = ap (λ (handled : Handled). handled.world) (finish_is config w p is.rec is.there is.turn is.none) in
    let next_sound : IsSound config next = subst (IsSound config) world_is (happens_sound config w (Finish p) sound) in
    let count : slice_index next.finished p ≡ suc (slice_index w.finished p) = set_same w.finished p (suc (slice_index w.finished p)) (omega (arith, is.there, sound.finished)) in
    ap (λ (x : World). rows_known x p) world_is ∙ known_up_to config next p (slice_index w.finished p) is.rec limits next_sound count is.turn ∙ ap (λ (row : ℕ). suc row) (sym is.row)

-- ---- any number of rows apart

-- the world after one event
after_one : (config : Config) (w : World) (event : Event) → (world_after config w (event ∷ [])).history ≡ (handle_event config w event).world.history
unfolding world_after
after_one config w event = refl

-- proxy 1 has all n records of a world that some events lead to
record OnlyOne (config : Config) (n : ℕ) : Type 0 where
  events : List Event
  rows : length (world_after config (initial_world config) events).history ≡ n
  own : records_of_proxy 1 (world_after config (initial_world config) events).history ≡ (world_after config (initial_world config) events).history
  other : records_of_proxy 0 (world_after config (initial_world config) events).history ≡ []

-- one record more of proxy 1
one_record : (config : Config) (n : ℕ) → 2 ≤ config.proxies → suc n * config.step < version_limit → OnlyOne config n → OnlyOne config (suc n)
one_record config n two below so_far = record {
  events = so_far.events ++ Sequence 1 [] ∷ [];
  rows = ap length history ∙ length-append w.history (rec ∷ []) ∙ ap (λ (k : ℕ). k + 1) so_far.rows ∙ omega arith;
  own = ap (records_of_proxy 1) history ∙ records_of_proxy-append 1 w.history (rec ∷ []) ∙ ap (λ (h : List Record). h ++ rec ∷ []) so_far.own ∙ sym history;
  other = ap (records_of_proxy 0) history ∙ records_of_proxy-append 0 w.history (rec ∷ []) ∙ ap (λ (h : List Record). h ++ []) so_far.other;
}
  where
    w : World
    w = world_after config (initial_world config) so_far.events

    rec : Record
    rec = next_record config w 1 []

    last : last_version w.history ≡ n * config.step
    last =
        ap last_version (sym (take_all (length w.history) w.history (omega arith)))
        ∙ version_before config w.history (length w.history) (run_sound config so_far.events).sequencer.history (omega arith)
        ∙ ap (λ (k : ℕ). k * config.step) so_far.rows

    more : suc n * config.step ≡ n * config.step + config.step
    more = suc-mul n config.step

    history : (world_after config (initial_world config) (so_far.events ++ Sequence 1 [] ∷ [])).history ≡ w.history ++ rec ∷ []
    history =
        ap (λ (x : World). x.history) (world_after_append config (initial_world config) so_far.events (Sequence 1 [] ∷ []))
        ∙ after_one config w (Sequence 1 [])
        ∙ ap (λ (handled : Handled). handled.world.history) (sequence_is config w 1 [] (omega (arith, two)) (omega (arith, last, more, below)))

only_one : (config : Config) (n : ℕ) → 2 ≤ config.proxies → n * config.step < version_limit → OnlyOne config n
unfolding world_after
only_one config zero two below = record { events = []; rows = refl; own = refl; other = refl }
only_one config (suc n) two below =
    let more : suc n * config.step ≡ n * config.step + config.step = suc-mul n config.step in
    one_record config n two below (only_one config n two (omega (arith, more, below)))

own_fewer : (p : ℕ) (h : List Record) → length (records_of_proxy p h) ≤ length h
own_fewer p [] = omega arith
own_fewer p (rec ∷ h) = by (nat_eq rec.proxy p) (own_fewer p h)
  where
    by : (t : Bool) → length (records_of_proxy p h) ≤ length h → length (cond t (rec ∷ records_of_proxy p h) (records_of_proxy p h)) ≤ suc (length h)
    by true rest = omega (arith, rest)
    by false rest = omega (arith, rest)

-- a proxy that has all the records knows all rows once it has finished
all_known : (config : Config) (w : World) (p : ℕ) → IsConfig config → IsSound config w → p < config.proxies → AllFinished config w → records_of_proxy p w.history ≡ w.history → rows_known w p ≡ length w.history
all_known config w p limits sound there all own =
    let n : ℕ = rows_known w p in
    let within = known_within config w p limits sound in
    let parts : length w.history ≡ length (records_of_proxy p (take n w.history)) + length (records_of_proxy p (drop n w.history)) =
    ap length (sym own) ∙ ap (λ (h : List Record). length (records_of_proxy p h)) (sym (take-append-drop n w.history)) ∙ ap length (records_of_proxy-append p (take n w.history) (drop n w.history)) ∙ length-append (records_of_proxy p (take n w.history)) (records_of_proxy p (drop n w.history)) in
    let lacks : length (records_of_proxy p (drop n w.history)) ≡ 0 = ap length (lacks_others config w p limits sound there all) in
    let few = own_fewer p (take n w.history) in
    omega (arith, parts, lacks, few, length-take-le n w.history within, within)

pub any_rows_apart : TheyMayBeAnyRowsApart
any_rows_apart config n limits two below = (
  front.events ++ rest.0,
  subst (AllFinished config) (sym both) rest.4,
  ap (λ (x : World). rows_known x 0) both ∙ none_known config end 0 limits end_sound (rest.4 0 (omega (arith, two)) ∙ ap (λ (h : List Record). length (records_of_proxy 0 h)) same ∙ ap length front.other),
  ap (λ (x : World). rows_known x 1) both ∙ all_known config end 1 limits end_sound (omega (arith, two)) rest.4 (ap (records_of_proxy 1) same ∙ front.own ∙ sym same) ∙ ap length same ∙ front.rows,
)
  where
    front : OnlyOne config n
    front = only_one config n two below

    w : World
    w = world_after config (initial_world config) front.events

    sound : IsSound config w
    sound = run_sound config front.events

    rest : CanFinish config w (work_left config w)
    rest = can_finish config w sound

    end : World
    end = world_after config w rest.0

    end_sound : IsSound config end
    end_sound = world_after_sound config w rest.0 sound

    both : world_after config (initial_world config) (front.events ++ rest.0) ≡ end
    both = world_after_append config (initial_world config) front.events rest.0

    same : end.history ≡ w.history
    same = (work_keeps config w rest.0 sound rest.1).history
