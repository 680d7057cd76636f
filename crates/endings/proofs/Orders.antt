-- Whatever the order of offers and finishes, they come to the same end.
use Rattle.std.proofs.Common.{◌≡◌, refl, sym, ap, ◌∙◌, ℕ, ◌+◌, ◌<◌, inl, inr, List, [], ◌∷◌, map, length, filter, replicate, Bool, true, false, cond, ◌&&◌, get_or, option_map, arith}
use Rattle.std.proofs.lemmas.List.{length-map, length-replicate, get_or-replicate}
use Rattle.std.proofs.lemmas.Grind.{same_number_lists}
use Rattle.std.proofs.lemmas.Option.{slice_get-map, get_or_from_slice_get}
use Rattle.std.specs.List.{list_all}
use Rattle.model.specs.Configs.{Config}
use Rattle.model.specs.Records.{Record, records_of_proxy}
use Rattle.model.specs.Shares.{each_below}
use Rattle.model.specs.World.{World, Event, Answer, IsSound, handle_event, answers, world_after, proxy_journal, proxy_metadata, proxy_routing}
use Rattle.model.proofs.Journals.ReplyRows.{length-each_below, slice_get-each_below}
use Rattle.model.proofs.Worlds.Histories.{happens_sound, world_after_sound}
use Rattle.endings.specs.Work.{is_work, AreWork, is_done, record_count, work_left, AllFinished, done_world}
use Rattle.endings.specs.Progress.{AsManyAreDoneAsWorkIsLess}
use Rattle.endings.specs.Orders.{AllWorkEndsInOneWorld, EveryOrderEndsAlike, EachProxyEndsAlike, AnyTwoOrdersMeet}
use Rattle.endings.proofs.Steps.{Did, work_did}
use Rattle.endings.proofs.Progress.{takes_one, others_nothing}
use Rattle.endings.proofs.Completion.{all_judged, can_finish}

-- ---- what offers and finishes leave

pub both_true : (a b : Bool) → (a && b) ≡ true → (a ≡ true) × (b ≡ true)
both_true true b both = (refl, both)
both_true false b both = absurd (cc)

pub first_work : (event : Event) (events : List Event) → AreWork (event ∷ events) → (is_work event ≡ true) × AreWork events
first_work event events work = both_true (is_work event) (list_all is_work events) work

-- the history, the moves and the received versions stay
pub record Keeps (w v : World) : Type 0 where
  pub history : v.history ≡ w.history
  pub moves : v.moves ≡ w.moves
  pub received : v.received ≡ w.received

pub event_keeps : (config : Config) (w : World) (event : Event) → IsSound config w → is_work event ≡ true → Keeps w (handle_event config w event).world
event_keeps config w event sound work = by (work_did config w event sound work)
  where
    as_in : (v : World) → v.history ≡ w.history → v.moves ≡ w.moves → v.received ≡ w.received → (handle_event config w event).world ≡ v → Keeps w (handle_event config w event).world
    as_in v history moves received is = record {
      history = ap (λ (x : World). x.history) is ∙ history;
      moves = ap (λ (x : World). x.moves) is ∙ moves;
      received = ap (λ (x : World). x.received) is ∙ received;
    }

    by : Did config w (handle_event config w event) → Keeps w (handle_event config w event).world
    by (inl did) = as_in _ refl refl refl did.world
    by (inr (inl did)) = as_in _ refl refl refl did.world
    by (inr (inr none)) = as_in _ refl refl refl none.world

pub work_keeps : (config : Config) (w : World) (events : List Event) → IsSound config w → AreWork events → Keeps w (world_after config w events)
unfolding world_after
work_keeps config w [] sound work = record { history = refl; moves = refl; received = refl }
work_keeps config w (event ∷ events) sound work =
    let both = first_work event events work in
    let one = event_keeps config w event sound both.0 in
    let rest = work_keeps config (handle_event config w event).world events (happens_sound config w event sound) both.1 in
    record { history = rest.history ∙ one.history; moves = rest.moves ∙ one.moves; received = rest.received ∙ one.received }

-- what is left falls by one more where the first event is done
first_counted : (config : Config) (w : World) (event : Event) (later : List Answer) (left : ℕ) → IsSound config w → is_work event ≡ true → length (filter is_done later) + left ≡ work_left config (handle_event config w event).world
    → length (filter is_done ((handle_event config w event).answer ∷ later)) + left ≡ work_left config w
first_counted config w event later left sound work rest = by (is_done (handle_event config w event).answer) refl
  where
    by : (t : Bool) → is_done (handle_event config w event).answer ≡ t → length (cond t ((handle_event config w event).answer ∷ filter is_done later) (filter is_done later)) + left ≡ work_left config w
    by true done = omega (arith, rest, takes_one config w event sound work done)
    by false undone = rest ∙ ap (work_left config) (others_nothing config w event sound work undone)

-- what is left falls by as many as are done
pub as_many_done : AsManyAreDoneAsWorkIsLess
unfolding answers world_after
as_many_done config w [] sound work = omega arith
as_many_done config w (event ∷ events) sound work =
    let works = first_work event events work in
    let next : World = (handle_event config w event).world in
    first_counted config w event (answers config next events) (work_left config (world_after config next events)) sound works.0 (as_many_done config next events (happens_sound config w event sound) works.1)

-- ---- one world

counts_are : (config : Config) (v : World) (n : ℕ) → IsSound config v → AllFinished config v → length v.history ≡ n → v.judged_counts ≡ replicate config.resolvers n
counts_are config v n sound all rows =
    same_number_lists v.judged_counts (replicate config.resolvers n) (sound.judged_counts ∙ sym (length-replicate config.resolvers n))
    (λ r within.
    let there : r < config.resolvers = omega (arith, within, sound.judged_counts) in
    all_judged config v sound all r there ∙ rows ∙ sym (get_or-replicate config.resolvers r n 0 there))

number_mapped : (f : ℕ → ℕ) (n k : ℕ) → k < n → get_or (map f (each_below n)) k 0 ≡ f k
number_mapped f n k below =
    get_or_from_slice_get (map f (each_below n)) k (f k) 0 (slice_get-map f (each_below n) k ∙ ap (option_map f) (slice_get-each_below n k below))

finished_are : (config : Config) (w v : World) → IsSound config v → AllFinished config v → v.history ≡ w.history → v.finished ≡ map (record_count w) (each_below config.proxies)
finished_are config w v sound all history =
    same_number_lists v.finished (map (record_count w) (each_below config.proxies)) (sound.finished ∙ sym (length-map (each_below config.proxies) (record_count w) ∙ length-each_below config.proxies))
    (λ p within.
    let there : p < config.proxies = omega (arith, within, sound.finished) in
    all p there ∙ ap (λ (h : List Record). length (records_of_proxy p h)) history ∙ sym (number_mapped (record_count w) config.proxies p there))

end_is : (config : Config) (w v : World) → IsSound config v → AllFinished config v → Keeps w v → v ≡ done_world config w
end_is config w v sound all keeps =
    let counts = counts_are config v (length w.history) sound all (ap length keeps.history) in
    let finished = finished_are config w v sound all keeps.history in
    λ i. record { history = keeps.history i; moves = keeps.moves i; received = keeps.received i; judged_counts = counts i; finished = finished i }

pub one_world : AllWorkEndsInOneWorld
one_world config w events sound work all = end_is config w (world_after config w events) (world_after_sound config w events sound) all (work_keeps config w events sound work)

pub ends_alike : EveryOrderEndsAlike
ends_alike config w events others both = one_world config w events both.sound both.work both.finished ∙ sym (one_world config w others both.sound both.other_work both.other_finished)

pub proxy_ends_alike : EachProxyEndsAlike
proxy_ends_alike config w events others p both =
    let same = ends_alike config w events others both in
    (ap (λ (x : World). proxy_journal config x p) same, ap (λ (x : World). proxy_metadata config x p) same, ap (λ (x : World). proxy_routing config x p) same)

pub orders_meet : AnyTwoOrdersMeet
orders_meet config w events others sound work other_work =
    let one = goes_on events work in
    let other = goes_on others other_work in
    (one.0, other.0, one.1, other.1, one.2 ∙ sym other.2)
  where
    goes_on : (es : List Event) → AreWork es → (more : List Event) × AreWork more × (world_after config (world_after config w es) more ≡ done_world config w)
    goes_on es are =
        let v : World = world_after config w es in
        let v_sound = world_after_sound config w es sound in
        let more = can_finish config v v_sound in
        let first = work_keeps config w es sound are in
        let then = work_keeps config v more.0 v_sound more.1 in
        (more.0, more.1, end_is config w (world_after config v more.0) (world_after_sound config v more.0 v_sound) more.4 (record { history = then.history ∙ first.history; moves = then.moves ∙ first.moves; received = then.received ∙ first.received }))
