-- Nothing is ever stuck, and each step takes one from what is left.
use Rattle.std.proofs.Common.{◌≡◌, refl, sym, ap, ◌∙◌, subst, ℕ, zero, suc, ◌-◌, ◌<◌, ◌≤◌, ◌⊎◌, inl, inr, List, [], ◌∷◌, length, take, true, false, nat_le, nat_lt, slice_get, slice_index, slice_set, Some, arith}
use Rattle.std.proofs.lemmas.Bool.{lt-leb, le-ltb, leb-true}
use Rattle.std.proofs.lemmas.Option.{slice_get_within}
use Rattle.model.specs.Configs.{Config}
use Rattle.model.specs.declared.outcome.Finished.{Finished}
use Rattle.model.specs.Records.{Record, records_of_proxy}
use Rattle.model.specs.Shares.{each_below}
use Rattle.model.specs.Journal.{history_verdicts}
use Rattle.model.specs.World.{World, Event, Offer, Finish, Handled, Judged, FinishedBatch, Refused, MissingReply, IsSound, reply_of, handle_offer_at, finished_batch, missing_replies, handle_event}
use Rattle.model.proofs.Members.{Has, Has-from_filter, Has-append_cases}
use Rattle.model.proofs.History.Chain.{element_at}
use Rattle.model.proofs.Resolvers.Offers.{offer_is}
use Rattle.model.proofs.Verdicts.Places.{row_at}
use Rattle.model.proofs.Worlds.Runs.{own_place, finish_is, finished_within, set_other, set_same}
use Rattle.endings.specs.Work.{is_work, is_done, record_count, rows_left, records_left, work_left}
use Rattle.endings.specs.Progress.{CanJudge, TheNextRowIsJudged, AProxyWaitsForAResolverThatCanJudge, NothingIsStuck, EachStepTakesOne, OthersChangeNothing, NothingLeftIsAllFinished}
use Rattle.endings.proofs.Sums.{sum_less, sum_none}
use Rattle.endings.proofs.Steps.{HasJudged, HasCompleted, Did, work_did}

-- ---- nothing is ever stuck

judged_next : (w : World) (n r : ℕ) (rec : Record) (config : Config) → n ≡ rec.row → (handle_offer_at w n r (reply_of config (history_verdicts config w.history) r (take n w.history) rec)).answer ≡ Judged (reply_of config (history_verdicts config w.history) r (take n w.history) rec)
judged_next w n r rec config is = let early : nat_lt n rec.row ≡ false = le-ltb n rec.row (omega arith) in let again : nat_lt rec.row n ≡ false = le-ltb rec.row n (omega arith) in rw (early, again) refl

pub next_is_judged : TheNextRowIsJudged
next_is_judged config w r sound there more =
    let found = element_at w.history (slice_index w.judged_counts r) more in (
      reply_of config (history_verdicts config w.history) r (take (slice_index w.judged_counts r) w.history) found.0,
      ap (λ (handled : Handled). handled.answer) (offer_is config w (slice_index w.judged_counts r) r found.0 there found.1)
          ∙ judged_next w (slice_index w.judged_counts r) r found.0 config (sym (row_at config w.history (slice_index w.judged_counts r) found.0 sound.sequencer.history found.1)),
    )

-- ---- the answer to a finish

finish_waits : (config : Config) (w : World) (p : ℕ) (rec : Record) (r : ℕ) (rs : List ℕ) → p < config.proxies → slice_get (records_of_proxy p w.history) (slice_index w.finished p) ≡ Some rec → missing_replies w rec.row (each_below config.resolvers) ≡ r ∷ rs → (handle_event config w (Finish p)).answer ≡ Refused (MissingReply r)
unfolding handle_event
finish_waits config w p rec r rs there turn some = let known : nat_le config.proxies p ≡ false = lt-leb config.proxies p there in rw (known, turn, some) refl

-- a number of the list of all below n is below n
pub within_below : (n r : ℕ) → Has (each_below n) r → r < n
within_below zero r has = absurd has
within_below (suc n) r has = by (Has-append_cases (each_below n) (n ∷ []) r has) (λ (front : Has (each_below n) r). within_below n r front)
  where
    by : Has (each_below n) r ⊎ Has (n ∷ []) r → (Has (each_below n) r → r < n) → r < suc n
    by (inl front) sooner = omega (arith, sooner front)
    by (inr (inl last)) sooner = omega (arith, last)
    by (inr (inr none)) sooner = absurd none

-- a resolver of which the reply is missing is one of the cluster, and has not judged the row
missing_one : (config : Config) (w : World) (row r : ℕ) (rs : List ℕ) → missing_replies w row (each_below config.resolvers) ≡ r ∷ rs → (r < config.resolvers) × (slice_index w.judged_counts r ≤ row)
missing_one config w row r rs some =
    let here : Has (missing_replies w row (each_below config.resolvers)) r = subst (λ (ms : List ℕ). Has ms r) (sym some) (inl refl) in
    let found = Has-from_filter (λ (s : ℕ). nat_le (slice_index w.judged_counts s) row) (each_below config.resolvers) r here in
    (within_below config.resolvers r found.0, leb-true (slice_index w.judged_counts r) row found.1)

pub row_within : (config : Config) (w : World) (p k : ℕ) (rec : Record) → IsSound config w → slice_get (records_of_proxy p w.history) k ≡ Some rec → rec.row < length w.history
row_within config w p k rec sound at =
    let place = own_place p w.history k rec at in
    omega (arith, row_at config w.history place.i rec sound.sequencer.history place.at, slice_get_within w.history place.i rec place.at)

pub waits : AProxyWaitsForAResolverThatCanJudge
waits config w p sound there unfinished = by (missing_replies w next.0.row (each_below config.resolvers)) refl
  where
    next : (rec : Record) × (slice_get (records_of_proxy p w.history) (slice_index w.finished p) ≡ Some rec)
    next = element_at (records_of_proxy p w.history) (slice_index w.finished p) unfinished

    by : (waiting : List ℕ) → missing_replies w next.0.row (each_below config.resolvers) ≡ waiting →
        ((finished : Finished) × ((handle_event config w (Finish p)).answer ≡ FinishedBatch finished))
        ⊎ ((r : ℕ) × (r < config.resolvers) × ((handle_event config w (Finish p)).answer ≡ Refused (MissingReply r)) × CanJudge config w r)
    by [] none = inl (finished_batch config (history_verdicts config w.history) (take next.0.row w.history) next.0, ap (λ (handled : Handled). handled.answer) (finish_is config w p next.0 there next.1 none))
    by (r ∷ rs) some =
        let missing = missing_one config w next.0.row r rs some in
        let within = row_within config w p (slice_index w.finished p) next.0 sound next.1 in
        inr (r, missing.0, finish_waits config w p next.0 r rs there next.1 some, next_is_judged config w r sound missing.0 (omega (arith, missing.1, within)))

pub not_stuck : NothingIsStuck
not_stuck config w p sound there unfinished = by (waits config w p sound there unfinished)
  where
    by : ((finished : Finished) × ((handle_event config w (Finish p)).answer ≡ FinishedBatch finished)) ⊎ ((r : ℕ) × (r < config.resolvers) × ((handle_event config w (Finish p)).answer ≡ Refused (MissingReply r)) × CanJudge config w r) →
        (event : Event) × (is_work event ≡ true) × (is_done (handle_event config w event).answer ≡ true)
    by (inl done) = (Finish p, refl, ap is_done done.1)
    by (inr found) = (Offer (slice_index w.judged_counts found.0) found.0, refl, ap is_done found.3.1)

-- ---- what is left

left_by_judged : (config : Config) (w : World) (handled : Handled) → IsSound config w → HasJudged config w handled → work_left config w ≡ suc (work_left config handled.world)
left_by_judged config w handled sound did = by ∙ ap (λ (x : World). suc (work_left config x)) (sym did.world)
  where
    next : World
    next = record w { judged_counts = slice_set w.judged_counts did.r (suc (slice_index w.judged_counts did.r)) }

    by : work_left config w ≡ suc (work_left config next)
    by =
        let own = set_same w.judged_counts did.r (suc (slice_index w.judged_counts did.r)) (omega (arith, did.there, sound.judged_counts)) in
        let one = sum_less (rows_left w) (rows_left next) config.resolvers did.r did.there (omega (arith, own, did.more))
        (λ s below apart. ap (λ (k : ℕ). length w.history - k) (sym (set_other w.judged_counts did.r (suc (slice_index w.judged_counts did.r)) s apart))) in
        omega (arith, one)

left_by_completed : (config : Config) (w : World) (handled : Handled) → IsSound config w → HasCompleted config w handled → work_left config w ≡ suc (work_left config handled.world)
left_by_completed config w handled sound did = by ∙ ap (λ (x : World). suc (work_left config x)) (sym did.world)
  where
    next : World
    next = record w { finished = slice_set w.finished did.p (suc (slice_index w.finished did.p)) }

    by : work_left config w ≡ suc (work_left config next)
    by =
        let own = set_same w.finished did.p (suc (slice_index w.finished did.p)) (omega (arith, did.there, sound.finished)) in
        let more = slice_get_within (records_of_proxy did.p w.history) (slice_index w.finished did.p) did.rec did.turn in
        let one = sum_less (records_left w) (records_left next) config.proxies did.p did.there (omega (arith, own, more))
        (λ q below apart. ap (λ (k : ℕ). record_count w q - k) (sym (set_other w.finished did.p (suc (slice_index w.finished did.p)) q apart))) in
        omega (arith, one)

pub takes_one : EachStepTakesOne
takes_one config w event sound work done = by (work_did config w event sound work)
  where
    by : Did config w (handle_event config w event) → work_left config w ≡ suc (work_left config (handle_event config w event).world)
    by (inl judged) = left_by_judged config w (handle_event config w event) sound judged
    by (inr (inl completed)) = left_by_completed config w (handle_event config w event) sound completed
    by (inr (inr none)) = absurd (cc (sym none.answer ∙ done))

pub others_nothing : OthersChangeNothing
others_nothing config w event sound work undone = by (work_did config w event sound work)
  where
    by : Did config w (handle_event config w event) → (handle_event config w event).world ≡ w
    by (inl judged) = absurd (cc (sym (ap is_done judged.answer) ∙ undone))
    by (inr (inl completed)) = absurd (cc (sym (ap is_done completed.answer) ∙ undone))
    by (inr (inr none)) = none.world

pub nothing_left : NothingLeftIsAllFinished
nothing_left config w sound none p there =
    let own : records_left w p ≡ 0 = sum_none (records_left w) config.proxies p (omega (arith, none)) there in
    omega (arith, own, finished_within config w p sound)
