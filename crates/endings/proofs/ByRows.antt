-- After n fair segments each resolver has judged the first n rows, and the records of the rows before the last of these are finished.
use Rattle.std.proofs.Common.{◌≡◌, refl, sym, ap, ◌∙◌, subst, ℕ, zero, suc, ◌<◌, ◌≤◌, ◌+◌, ◌⊎◌, inl, inr, List, [], ◌∷◌, length, take, true, false, nat_le, nat_lt, slice_get, slice_index, slice_set, Some, arith}
use Rattle.std.proofs.lemmas.Bool.{cases_order, le-ltb, lt-leb}
use Rattle.std.proofs.lemmas.Option.{slice_get_within}
use Rattle.model.specs.Configs.{Config}
use Rattle.model.specs.declared.reply.Reply.{Reply}
use Rattle.model.specs.Records.{Record, IsHistory, records_of_proxy}
use Rattle.model.specs.Shares.{each_below}
use Rattle.model.specs.Journal.{history_verdicts}
use Rattle.model.specs.World.{World, Event, Offer, Finish, Handled, IsSound, reply_of, handle_offer_at, missing_replies, handle_event, world_after}
use Rattle.model.proofs.Members.{Has, Has-from_Contains}
use Rattle.model.proofs.History.Chain.{element_at, filter_no}
use Rattle.model.proofs.Resolvers.Offers.{offer_is}
use Rattle.model.proofs.Verdicts.Places.{row_at}
use Rattle.model.proofs.Worlds.Histories.{world_after_sound}
use Rattle.model.proofs.Worlds.Runs.{own_place, finish_is, finished_within, set_same, world_after_append}
use Rattle.endings.specs.Work.{is_work, is_done, record_count, AllFinished}
use Rattle.endings.specs.Fairness.{CanBeDone, joined, IsFairSegment, AreFair, FairSegmentsFinishByRows}
use Rattle.endings.proofs.Progress.{next_is_judged, within_below}
use Rattle.endings.proofs.Orders.{work_keeps}
use Rattle.endings.proofs.OwnRecords.{own_rises}
use Rattle.endings.proofs.Counters.{Counters, Works, first_is, rest_works, event_rises, rises, has_at}
use Rattle.endings.proofs.Replies.{judged_rows}
use Rattle.endings.proofs.Batches.{finished_records}

-- ---- an event that raises a counter

-- wherever an event comes that raises counter i from n, the counter is past n afterwards
comes : (config : Config) (h : List Record) (c : Counters config h) (i n : ℕ) (event : Event) (fits : World → Type 0)
    → ((u : World) (first : Event) → IsSound config u → u.history ≡ h → is_work first ≡ true → fits u → fits (handle_event config u first).world)
    → ((u : World) → IsSound config u → u.history ≡ h → fits u → n ≤ c.count u i → n < c.count (handle_event config u event).world i)
    → (w : World) (events : List Event) → Works config h w events → fits w → n ≤ c.count w i → Has events event → n < c.count (world_after config w events) i
unfolding world_after
comes config h c i n event fits stays raises w [] works fit low has = absurd has
comes config h c i n event fits stays raises w (first ∷ events) works fit low (inl same) =
    let now : n < c.count (handle_event config w first).world i = subst (λ (e : Event). n < c.count (handle_event config w e).world i) (sym same) (raises w works.sound works.history fit low) in
    let more = rises config h c (handle_event config w first).world events i (rest_works config h w first events works) in
    omega (arith, now, more)
comes config h c i n event fits stays raises w (first ∷ events) works fit low (inr later) =
    let work = first_is config h w first events works in
    comes config h c i n event fits stays raises (handle_event config w first).world events (rest_works config h w first events works) (stays w first works.sound works.history work fit) (omega (arith, low, event_rises config h c w first i works.sound works.history work)) later

-- ---- offers

pub judged_world : (w : World) (n r : ℕ) (reply : Reply) → n ≡ reply.row → (handle_offer_at w n r reply).world ≡ record w { judged_counts = slice_set w.judged_counts r (suc n) }
judged_world w n r reply is = let early : nat_lt n reply.row ≡ false = le-ltb n reply.row (omega (arith, is)) in let again : nat_lt reply.row n ≡ false = le-ltb reply.row n (omega (arith, is)) in rw (early, again) refl

-- the offer of the next row makes the resolver judge it
offer_counts : (config : Config) (u : World) (row r : ℕ) → IsSound config u → r < config.resolvers → row < length u.history → row ≡ slice_index u.judged_counts r → row < slice_index (handle_event config u (Offer row r)).world.judged_counts r
offer_counts config u row r sound there within next =
    let found = element_at u.history row within in
    let reply : Reply = reply_of config (history_verdicts config u.history) r (take row u.history) found.0 in
    let is : slice_index u.judged_counts r ≡ reply.row = sym next ∙ sym (row_at config u.history row found.0 sound.sequencer.history found.1) in
    let world : (handle_event config u (Offer row r)).world ≡ record u { judged_counts = slice_set u.judged_counts r (suc (slice_index u.judged_counts r)) } =
    ap (λ (handled : Handled). handled.world) (offer_is config u row r found.0 there found.1) ∙ judged_world u (slice_index u.judged_counts r) r reply is in
    let count : slice_index (handle_event config u (Offer row r)).world.judged_counts r ≡ suc (slice_index u.judged_counts r) =
    ap (λ (x : World). slice_index x.judged_counts r) world ∙ set_same u.judged_counts r (suc (slice_index u.judged_counts r)) (omega (arith, there, sound.judged_counts)) in
    omega (arith, count, next)

offer_raises : (config : Config) (h : List Record) (history : IsHistory config h) (row r : ℕ) → r < config.resolvers → row < length h → (u : World) → IsSound config u → u.history ≡ h → row ≤ slice_index u.judged_counts r → row < slice_index (handle_event config u (Offer row r)).world.judged_counts r
offer_raises config h history row r there within u sound same low = by (cases_order row (slice_index u.judged_counts r))
  where
    by : (row ≡ slice_index u.judged_counts r) ⊎ ((row < slice_index u.judged_counts r) ⊎ (slice_index u.judged_counts r < row)) → row < slice_index (handle_event config u (Offer row r)).world.judged_counts r
    by (inl next) = offer_counts config u row r sound there (omega (arith, within, ap length same)) next
    by (inr (inl before)) = omega (arith, before, event_rises config h (judged_rows config h history) u (Offer row r) r sound same refl)
    by (inr (inr past)) = absurd (omega (arith, past, low))

pub can_offer : (config : Config) (w : World) (row r : ℕ) → IsSound config w → r < config.resolvers → row < length w.history → row ≡ slice_index w.judged_counts r → CanBeDone config w (Offer row r)
can_offer config w row r sound there within next =
    let judged = next_is_judged config w r sound there (omega (arith, within, next)) in
    (refl, ap (λ (n : ℕ). is_done (handle_event config w (Offer n r)).answer) next ∙ ap is_done judged.1)

-- ---- finishes

-- every resolver has judged the row
abbrev pub AllJudged : Config → ℕ → World → Type 0
AllJudged config row w = (r : ℕ) → r < config.resolvers → row < slice_index w.judged_counts r

pub none_missing : (config : Config) (w : World) (row : ℕ) → AllJudged config row w → missing_replies w row (each_below config.resolvers) ≡ []
none_missing config w row judged = filter_no (λ (r : ℕ). nat_le (slice_index w.judged_counts r) row) (each_below config.resolvers) (λ k r at. lt-leb (slice_index w.judged_counts r) row (judged r (within_below config.resolvers r (has_at (each_below config.resolvers) k r at))))

judged_stays : (config : Config) (h : List Record) (history : IsHistory config h) (row : ℕ) (u : World) (first : Event) → IsSound config u → u.history ≡ h → is_work first ≡ true → AllJudged config row u → AllJudged config row (handle_event config u first).world
judged_stays config h history row u first sound same work judged r there = omega (arith, judged r there, event_rises config h (judged_rows config h history) u first r sound same work)

-- the finish of the record whose turn it is
finish_counts : (config : Config) (u : World) (p : ℕ) (rec : Record) → IsSound config u → p < config.proxies → slice_get (records_of_proxy p u.history) (slice_index u.finished p) ≡ Some rec → AllJudged config rec.row u → slice_index u.finished p < slice_index (handle_event config u (Finish p)).world.finished p
finish_counts config u p rec sound there turn judged =
    let count : slice_index (handle_event config u (Finish p)).world.finished p ≡ suc (slice_index u.finished p) =
    ap (λ (handled : Handled). slice_index handled.world.finished p) (finish_is config u p rec there turn (none_missing config u rec.row judged)) ∙ set_same u.finished p (suc (slice_index u.finished p)) (omega (arith, there, sound.finished)) in
    omega (arith, count)

finish_raises : (config : Config) (h : List Record) (history : IsHistory config h) (p k : ℕ) (rec : Record) → p < config.proxies → slice_get (records_of_proxy p h) k ≡ Some rec → (u : World) → IsSound config u → u.history ≡ h → AllJudged config rec.row u → k ≤ slice_index u.finished p → k < slice_index (handle_event config u (Finish p)).world.finished p
finish_raises config h history p k rec there at u sound same judged low = by (cases_order k (slice_index u.finished p))
  where
    by : (k ≡ slice_index u.finished p) ⊎ ((k < slice_index u.finished p) ⊎ (slice_index u.finished p < k)) → k < slice_index (handle_event config u (Finish p)).world.finished p
    by (inl turn) = omega (arith, turn, finish_counts config u p rec sound there ((λ i. slice_get (records_of_proxy p (same i)) (sym turn i)) ∙ at) judged)
    by (inr (inl before)) = omega (arith, before, event_rises config h (finished_records config h history) u (Finish p) p sound same refl)
    by (inr (inr past)) = absurd (omega (arith, past, low))

pub can_finish_now : (config : Config) (w : World) (p : ℕ) (rec : Record) → p < config.proxies → slice_get (records_of_proxy p w.history) (slice_index w.finished p) ≡ Some rec → AllJudged config rec.row w → CanBeDone config w (Finish p)
can_finish_now config w p rec there turn judged = (refl, ap (λ (handled : Handled). is_done handled.answer) (finish_is config w p rec there turn (none_missing config w rec.row judged)))

-- ---- so far after n segments

-- the first n rows are judged by all, and the records of the rows before the last of these are finished
record SoFar (config : Config) (h : List Record) (n : ℕ) (w : World) : Type 0 where
  judged : (r row : ℕ) → r < config.resolvers → row < length h → row < n → row < slice_index w.judged_counts r
  finished : (p k : ℕ) (rec : Record) → p < config.proxies → slice_get (records_of_proxy p h) k ≡ Some rec → suc rec.row < n → k < slice_index w.finished p

-- a fair segment in a world of the history
record Fairly (config : Config) (h : List Record) (w : World) (segment : List Event) : Type 0 where
  history : IsHistory config h
  sound : IsSound config w
  same : w.history ≡ h
  fair : IsFairSegment config w segment

works_of : (config : Config) (h : List Record) (w : World) (segment : List Event) → Fairly config h w segment → Works config h w segment
works_of config h w segment it = record { sound = it.sound; history = it.same; work = it.fair.work }

judged_next : (config : Config) (h : List Record) (n : ℕ) (w : World) (segment : List Event) → Fairly config h w segment → SoFar config h n w → (r row : ℕ) → r < config.resolvers → row < length h → row < suc n → row < slice_index (world_after config w segment).judged_counts r
judged_next config h n w segment it so_far r row there within below = by (cases_order row (slice_index w.judged_counts r))
  where
    works : Works config h w segment
    works = works_of config h w segment it

    kept : slice_index w.judged_counts r ≤ slice_index (world_after config w segment).judged_counts r
    kept = rises config h (judged_rows config h it.history) w segment r works

    by : (row ≡ slice_index w.judged_counts r) ⊎ ((row < slice_index w.judged_counts r) ⊎ (slice_index w.judged_counts r < row)) → row < slice_index (world_after config w segment).judged_counts r
    by (inl next) =
        let can = can_offer config w row r it.sound there (omega (arith, within, ap length it.same)) next in
        comes config h (judged_rows config h it.history) r row (Offer row r) (λ u. Unit {0}) (λ u first sound same work fits. fits) (λ u sound same fits low. offer_raises config h it.history row r there within u sound same low)
        w segment works tt (omega (arith, next)) (Has-from_Contains segment (Offer row r) (it.fair.comes (Offer row r) can))
    by (inr (inl before)) = omega (arith, before, kept)
    -- (then the number of rows judged would itself be a row that is judged)
    by (inr (inr past)) = absurd (let sooner = so_far.judged r (slice_index w.judged_counts r) there (omega (arith, past, within)) (omega (arith, past, below)) in omega (arith, sooner))

-- the earlier records of the proxy are finished
sooner : (config : Config) (h : List Record) (n : ℕ) (w : World) (p k : ℕ) (rec : Record) → IsHistory config h → SoFar config h n w → p < config.proxies → slice_get (records_of_proxy p h) k ≡ Some rec → rec.row < n → k ≤ slice_index w.finished p
sooner config h n w p zero rec history so_far there at below = omega arith
sooner config h n w p (suc k) rec history so_far there at below =
    let before = element_at (records_of_proxy p h) k (omega (arith, slice_get_within (records_of_proxy p h) (suc k) rec at)) in
    let a = own_place p h k before.0 before.1 in
    let b = own_place p h (suc k) rec at in
    let order : a.i < b.i = own_rises p h k (suc k) before.0 rec (omega arith) at a b in
    let row : before.0.row < rec.row = omega (arith, order, row_at config h a.i before.0 history a.at, row_at config h b.i rec history b.at) in
    let done = so_far.finished p k before.0 there before.1 (omega (arith, row, below)) in
    omega (arith, done)

finished_next : (config : Config) (h : List Record) (n : ℕ) (w : World) (segment : List Event) → Fairly config h w segment → SoFar config h n w → (p k : ℕ) (rec : Record) → p < config.proxies → slice_get (records_of_proxy p h) k ≡ Some rec → rec.row < n → k < slice_index (world_after config w segment).finished p
finished_next config h n w segment it so_far p k rec there at below = by (cases_order k (slice_index w.finished p))
  where
    works : Works config h w segment
    works = works_of config h w segment it

    kept : slice_index w.finished p ≤ slice_index (world_after config w segment).finished p
    kept = rises config h (finished_records config h it.history) w segment p works

    within : rec.row < length h
    within = let place = own_place p h k rec at in omega (arith, row_at config h place.i rec it.history place.at, slice_get_within h place.i rec place.at)

    judged : AllJudged config rec.row w
    judged r r_there = so_far.judged r rec.row r_there within below

    by : (k ≡ slice_index w.finished p) ⊎ ((k < slice_index w.finished p) ⊎ (slice_index w.finished p < k)) → k < slice_index (world_after config w segment).finished p
    by (inl turn) =
        let can = can_finish_now config w p rec there ((λ i. slice_get (records_of_proxy p (it.same i)) (sym turn i)) ∙ at) judged in
        comes config h (finished_records config h it.history) p k (Finish p) (AllJudged config rec.row) (judged_stays config h it.history rec.row) (λ u sound same fits low. finish_raises config h it.history p k rec there at u sound same fits low)
        w segment works judged (omega (arith, turn)) (Has-from_Contains segment (Finish p) (it.fair.comes (Finish p) can))
    by (inr (inl before)) = omega (arith, before, kept)
    by (inr (inr past)) = absurd (omega (arith, past, sooner config h n w p k rec it.history so_far there at below))

-- ---- all segments

all_from : (config : Config) (h : List Record) (n : ℕ) (w : World) → IsSound config w → w.history ≡ h → length h < n → SoFar config h n w → AllFinished config w
all_from config h n w sound same enough so_far p there = by (cases_order (slice_index w.finished p) (record_count w p))
  where
    left : slice_index w.finished p < record_count w p → ⊥
    left unfinished =
        let next = element_at (records_of_proxy p w.history) (slice_index w.finished p) unfinished in
        let at : slice_get (records_of_proxy p h) (slice_index w.finished p) ≡ Some next.0 = ap (λ (g : List Record). slice_get (records_of_proxy p g) (slice_index w.finished p)) (sym same) ∙ next.1 in
        let place = own_place p w.history (slice_index w.finished p) next.0 next.1 in
        let row : next.0.row < length h = omega (arith, row_at config w.history place.i next.0 sound.sequencer.history place.at, slice_get_within w.history place.i next.0 place.at, ap length same) in
        let done = so_far.finished p (slice_index w.finished p) next.0 there at (omega (arith, row, enough)) in
        omega (arith, done)

    by : (slice_index w.finished p ≡ record_count w p) ⊎ ((slice_index w.finished p < record_count w p) ⊎ (record_count w p < slice_index w.finished p)) → slice_index w.finished p ≡ record_count w p
    by (inl all) = all
    by (inr (inl unfinished)) = absurd (left unfinished)
    by (inr (inr past)) = absurd (omega (arith, past, finished_within config w p sound))

finish_after : (config : Config) (h : List Record) (n : ℕ) (w : World) (segments : List (List Event)) → IsHistory config h → IsSound config w → w.history ≡ h → AreFair config w segments → SoFar config h n w → length h < length segments + n → AllFinished config (world_after config w (joined segments))
unfolding world_after
finish_after config h n w [] history sound same fair so_far enough = all_from config h n w sound same (omega (arith, enough)) so_far
finish_after config h n w (segment ∷ segments) history sound same fair so_far enough =
    let it : Fairly config h w segment = record { history = history; sound = sound; same = same; fair = fair.0 } in
    let next : World = world_after config w segment in
    subst (AllFinished config) (sym (world_after_append config w segment (joined segments)))
    (finish_after config h (suc n) next segments history (world_after_sound config w segment sound) ((work_keeps config w segment sound fair.0.work).history ∙ same) fair.1
    (record {
      judged = judged_next config h n w segment it so_far;
      finished = λ p k rec there at below. finished_next config h n w segment it so_far p k rec there at (omega (arith, below));
    }) (omega (arith, enough)))

pub finish_by_rows : FairSegmentsFinishByRows
finish_by_rows config w segments sound fair enough =
    finish_after config w.history 0 w segments sound.sequencer.history sound refl fair
    (record {
      judged = λ r row there within below. absurd (omega (arith, below));
      finished = λ p k rec there at below. absurd (omega (arith, below));
    }) (omega (arith, enough))
