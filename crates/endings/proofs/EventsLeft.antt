-- The events left, in their fixed order: each is done, and after them all records are finished.
use Rattle.std.proofs.Common.{◌≡◌, refl, sym, ap, ◌∙◌, subst, ℕ, zero, suc, ◌+◌, ◌-◌, ◌<◌, ◌≤◌, ◌⊎◌, inl, inr, List, [], ◌∷◌, ◌++◌, map, length, take, filter, Bool, true, false, cond, nat_eq, nat_le, nat_lt, slice_get, slice_index, slice_set, Some, append-nil, leb-false, arith}
use Rattle.std.specs.Prelude.{flat_map}
use Rattle.std.proofs.lemmas.Bool.{cases_lt, cases_eq, leb-true, ltb-true, ltb-false, eqb-true, eqb-false, eq-eqb}
use Rattle.std.proofs.lemmas.Grind.{flat_map-append}
use Rattle.std.proofs.lemmas.List.{map-append, length-take-le}
use Rattle.std.proofs.lemmas.List.Elements.{filter-append}
use Rattle.std.proofs.lemmas.List.Folds.{list_all-append}
use Rattle.std.specs.List.{list_all}
use Rattle.model.specs.Configs.{Config, IsConfig}
use Rattle.model.specs.Records.{Record, records_of_proxy}
use Rattle.model.specs.Shares.{each_below}
use Rattle.model.specs.Journal.{history_verdicts}
use Rattle.model.specs.World.{World, Event, Offer, Finish, Handled, IsSound, reply_of, finished_version, up_to_version, missing_replies, handle_event, answers, world_after}
use Rattle.model.proofs.Members.{Has, Has-from_filter}
use Rattle.model.proofs.History.Chain.{element_at}
use Rattle.model.proofs.Resolvers.Offers.{offer_is, judged_within}
use Rattle.model.proofs.Verdicts.Places.{row_at}
use Rattle.model.proofs.Worlds.Histories.{happens_sound, world_after_sound}
use Rattle.model.proofs.Worlds.Runs.{answers_append, world_after_append, finish_is, finished_within, set_other, set_same}
use Rattle.endings.specs.Work.{AreWork, is_done, records_left, AllFinished}
use Rattle.endings.specs.EventsLeft.{offers_left_of_row, offers_left, is_unfinished, finishes_left, events_left, TheEventsLeftAreWork, TheEventsLeftAreDone, TheEventsLeftFinishAll, AsManyEventsAreLeftAsWork}
use Rattle.endings.proofs.Progress.{row_within}
use Rattle.endings.proofs.Completion.{none_left}
use Rattle.endings.proofs.Orders.{both_true, as_many_done}
use Rattle.endings.proofs.Distances.{known}
use Rattle.endings.proofs.ByRows.{judged_world, AllJudged, none_missing, can_offer, can_finish_now}
use Rattle.endings.proofs.Rounds.{append_work, mapped_work}

-- ---- they are offers and finishes

offers_work : (config : Config) (w : World) (rows : List ℕ) → AreWork (flat_map (offers_left_of_row config w) rows)
offers_work config w [] = refl
offers_work config w (row ∷ rows) = append_work (offers_left_of_row config w row) (flat_map (offers_left_of_row config w) rows) (mapped_work (λ (r : ℕ). Offer row r) (missing_replies w row (each_below config.resolvers)) (λ r. refl)) (offers_work config w rows)

finishes_work : (recs : List Record) → AreWork (map (λ (rec : Record). Finish rec.proxy) recs)
finishes_work [] = refl
finishes_work (rec ∷ recs) = finishes_work recs

pub left_work : TheEventsLeftAreWork
left_work config w = append_work (offers_left config w) (finishes_left w) (offers_work config w (each_below (length w.history))) (finishes_work (filter (is_unfinished w) w.history))

-- ---- events that are all done

-- each of these events is done, and the world after them is such a one
record Does (config : Config) (w : World) (events : List Event) (After : World → Type 0) : Type 0 where
  done : list_all is_done (answers config w events) ≡ true
  after : After (world_after config w events)

does_none : (config : Config) (w : World) (After : World → Type 0) → After w → Does config w [] After
unfolding answers world_after
does_none config w After here = record { done = refl; after = here }

does_one : (config : Config) (w : World) (event : Event) (After : World → Type 0) → is_done (handle_event config w event).answer ≡ true → After (handle_event config w event).world → Does config w (event ∷ []) After
unfolding answers world_after
does_one config w event After done here = record { done = rw done refl; after = here }

does_both : (config : Config) (w : World) (xs ys : List Event) (Between After : World → Type 0) → Does config w xs Between → ((v : World) → Between v → Does config v ys After) → Does config w (xs ++ ys) After
does_both config w xs ys Between After first then =
    let second = then (world_after config w xs) first.after in
    record {
      done = ap (list_all is_done) (answers_append config w xs ys) ∙ list_all-append is_done (answers config w xs) (answers config (world_after config w xs) ys) ∙ (let one = first.done in let other = second.done in rw (one, other) refl);
      after = subst After (sym (world_after_append config w xs ys)) second.after;
    }

does_same : (config : Config) (w : World) (xs ys : List Event) (After : World → Type 0) → xs ≡ ys → Does config w xs After → Does config w ys After
does_same config w xs ys After same does = subst (λ (es : List Event). Does config w es After) same does

-- ---- the offers

-- In world v, reached from w, the rows before row i are judged by all resolvers, and row i by those below
-- k. Each other row is judged as in w.
record Offered (config : Config) (w : World) (i k : ℕ) (v : World) : Type 0 where
  sound : IsSound config v
  history : v.history ≡ w.history
  finished : v.finished ≡ w.finished
  judged : (r : ℕ) → r < k → r < config.resolvers → slice_index w.judged_counts r ≤ i → slice_index v.judged_counts r ≡ suc i
  waiting : (r : ℕ) → k ≤ r → r < config.resolvers → slice_index w.judged_counts r ≤ i → slice_index v.judged_counts r ≡ i
  ahead : (r : ℕ) → r < config.resolvers → i < slice_index w.judged_counts r → slice_index v.judged_counts r ≡ slice_index w.judged_counts r

offered_none : (config : Config) (w : World) → IsSound config w → Offered config w 0 0 w
offered_none config w sound = record {
  sound = sound;
  history = refl;
  finished = refl;
  judged = λ r below there low. absurd (omega (arith, below));
  waiting = λ r from there low. omega (arith, low);
  ahead = λ r there high. refl;
}

-- a row is judged by all: the next one
offered_row : (config : Config) (w : World) (i : ℕ) (v : World) → Offered config w i config.resolvers v → Offered config w (suc i) 0 v
offered_row config w i v so_far = record {
  sound = so_far.sound;
  history = so_far.history;
  finished = so_far.finished;
  judged = λ r below there low. absurd (omega (arith, below));
  waiting = λ r from there low. by r there low (cases_lt i (slice_index w.judged_counts r));
  ahead = λ r there high. so_far.ahead r there (omega (arith, high));
}
  where
    by : (r : ℕ) → r < config.resolvers → slice_index w.judged_counts r ≤ suc i → (i < slice_index w.judged_counts r) ⊎ (slice_index w.judged_counts r ≤ i) → slice_index v.judged_counts r ≡ suc i
    by r there low (inl high) = let is = so_far.ahead r there high in omega (arith, is, high, low)
    by r there low (inr fewer) = so_far.judged r there there fewer

-- resolver k judges the row
offered_next : (config : Config) (w : World) (i k : ℕ) (v : World) → i < length w.history → k < config.resolvers → slice_index w.judged_counts k ≤ i → Offered config w i k v → Does config v (Offer i k ∷ []) (Offered config w i (suc k))
offered_next config w i k v within there low so_far =
    does_one config v (Offer i k) (Offered config w i (suc k)) (can_offer config v i k so_far.sound there here (sym own)).1 (record {
      sound = happens_sound config v (Offer i k) so_far.sound;
      history = ap (λ (x : World). x.history) world ∙ so_far.history;
      finished = ap (λ (x : World). x.finished) world ∙ so_far.finished;
      judged = λ r below r_there r_low. one_more r r_there r_low (cases_eq r k) below;
      waiting = λ r from r_there r_low. other r (λ same. absurd (omega (arith, same, from))) ∙ so_far.waiting r (omega (arith, from)) r_there r_low;
      ahead = λ r r_there high. other r (λ same. absurd (let at : slice_index w.judged_counts r ≡ slice_index w.judged_counts k = ap (slice_index w.judged_counts) same in omega (arith, at, high, low))) ∙ so_far.ahead r r_there high;
    })
  where
    own : slice_index v.judged_counts k ≡ i
    own = so_far.waiting k (omega arith) there low

    here : i < length v.history
    here = omega (arith, within, ap length so_far.history)

    next : World
    next = record v { judged_counts = slice_set v.judged_counts k (suc (slice_index v.judged_counts k)) }

    world : (handle_event config v (Offer i k)).world ≡ next
    world =
        let found = element_at v.history i here in
        ap (λ (handled : Handled). handled.world) (offer_is config v i k found.0 there found.1)
        ∙ judged_world v (slice_index v.judged_counts k) k (reply_of config (history_verdicts config v.history) k (take i v.history) found.0) (own ∙ sym (row_at config v.history i found.0 so_far.sound.sequencer.history found.1))

    other : (r : ℕ) → (r ≡ k → ⊥) → slice_index (handle_event config v (Offer i k)).world.judged_counts r ≡ slice_index v.judged_counts r
    other r apart = ap (λ (x : World). slice_index x.judged_counts r) world ∙ set_other v.judged_counts k (suc (slice_index v.judged_counts k)) r apart

    one_more : (r : ℕ) → r < config.resolvers → slice_index w.judged_counts r ≤ i → (r ≡ k) ⊎ (r ≡ k → ⊥) → r < suc k → slice_index (handle_event config v (Offer i k)).world.judged_counts r ≡ suc i
    one_more r r_there r_low (inl same) below =
        ap (slice_index (handle_event config v (Offer i k)).world.judged_counts) same
        ∙ ap (λ (x : World). slice_index x.judged_counts k) world
        ∙ set_same v.judged_counts k (suc (slice_index v.judged_counts k)) (omega (arith, there, so_far.sound.judged_counts))
        ∙ ap (λ (n : ℕ). suc n) own
    one_more r r_there r_low (inr apart) below = other r apart ∙ so_far.judged r (omega (arith, below, apart)) r_there r_low

-- a resolver that has judged the row is passed over
offered_over : (config : Config) (w : World) (i k : ℕ) (v : World) → i < slice_index w.judged_counts k → Offered config w i k v → Offered config w i (suc k) v
offered_over config w i k v high so_far = record {
  sound = so_far.sound;
  history = so_far.history;
  finished = so_far.finished;
  judged = λ r below there low. so_far.judged r (by r low (cases_eq r k) below) there low;
  waiting = λ r from there low. so_far.waiting r (omega (arith, from)) there low;
  ahead = so_far.ahead;
}
  where
    by : (r : ℕ) → slice_index w.judged_counts r ≤ i → (r ≡ k) ⊎ (r ≡ k → ⊥) → r < suc k → r < k
    by r low (inl same) below = absurd (let at : slice_index w.judged_counts r ≡ slice_index w.judged_counts k = ap (slice_index w.judged_counts) same in omega (arith, at, high, low))
    by r low (inr apart) below = omega (arith, below, apart)

-- the offer to resolver k, if it has not judged the row
offer_last : (config : Config) (w : World) (i k : ℕ) (v : World) → i < length w.history → k < config.resolvers → Offered config w i k v → Does config v (map (λ (r : ℕ). Offer i r) (missing_replies w i (k ∷ []))) (Offered config w i (suc k))
offer_last config w i k v within there so_far = by (nat_le (slice_index w.judged_counts k) i) refl
  where
    by : (t : Bool) → nat_le (slice_index w.judged_counts k) i ≡ t → Does config v (map (λ (r : ℕ). Offer i r) (cond t (k ∷ []) [])) (Offered config w i (suc k))
    by true low = offered_next config w i k v within there (leb-true (slice_index w.judged_counts k) i low) so_far
    by false high = does_none config v (Offered config w i (suc k)) (offered_over config w i k v (leb-false (slice_index w.judged_counts k) i high) so_far)

row_up_to : (config : Config) (w : World) (i k : ℕ) (v : World) → i < length w.history → k ≤ config.resolvers → Offered config w i 0 v → Does config v (map (λ (r : ℕ). Offer i r) (missing_replies w i (each_below k))) (Offered config w i k)
row_up_to config w i zero v within below so_far = does_none config v (Offered config w i 0) so_far
row_up_to config w i (suc k) v within below so_far =
    does_same config v (map (λ (r : ℕ). Offer i r) (missing_replies w i (each_below k)) ++ map (λ (r : ℕ). Offer i r) (missing_replies w i (k ∷ []))) (map (λ (r : ℕ). Offer i r) (missing_replies w i (each_below (suc k)))) (Offered config w i (suc k))
    (sym (map-append (λ (r : ℕ). Offer i r) (missing_replies w i (each_below k)) (missing_replies w i (k ∷ []))) ∙ ap (map (λ (r : ℕ). Offer i r)) (sym (filter-append (λ (r : ℕ). nat_le (slice_index w.judged_counts r) i) (each_below k) (k ∷ []))))
    (does_both config v (map (λ (r : ℕ). Offer i r) (missing_replies w i (each_below k))) (map (λ (r : ℕ). Offer i r) (missing_replies w i (k ∷ []))) (Offered config w i k) (Offered config w i (suc k))
    (row_up_to config w i k v within (omega (arith, below)) so_far) (λ x now. offer_last config w i k x within (omega (arith, below)) now))

one_row : (config : Config) (w : World) (i : ℕ) (v : World) → i < length w.history → Offered config w i 0 v → Does config v (flat_map (offers_left_of_row config w) (i ∷ [])) (Offered config w (suc i) 0)
one_row config w i v within so_far =
    let row = row_up_to config w i config.resolvers v within (omega arith) so_far in
    does_same config v (offers_left_of_row config w i) (flat_map (offers_left_of_row config w) (i ∷ [])) (Offered config w (suc i) 0) (sym (append-nil (offers_left_of_row config w i)))
    (record { done = row.done; after = offered_row config w i (world_after config v (offers_left_of_row config w i)) row.after })

rows_up_to : (config : Config) (w : World) (i : ℕ) → i ≤ length w.history → IsSound config w → Does config w (flat_map (offers_left_of_row config w) (each_below i)) (Offered config w i 0)
rows_up_to config w zero within sound = does_none config w (Offered config w 0 0) (offered_none config w sound)
rows_up_to config w (suc i) within sound =
    does_same config w (flat_map (offers_left_of_row config w) (each_below i) ++ flat_map (offers_left_of_row config w) (i ∷ [])) (flat_map (offers_left_of_row config w) (each_below (suc i))) (Offered config w (suc i) 0)
    (sym (flat_map-append (offers_left_of_row config w) (each_below i) (i ∷ [])))
    (does_both config w (flat_map (offers_left_of_row config w) (each_below i)) (flat_map (offers_left_of_row config w) (i ∷ [])) (Offered config w i 0) (Offered config w (suc i) 0)
    (rows_up_to config w i (omega (arith, within)) sound) (λ v now. one_row config w i v within now))

-- ---- the finishes

-- a world of the history in which each resolver has judged every row
record IsJudged (config : Config) (v : World) : Type 0 where
  sound : IsSound config v
  all : (r : ℕ) → r < config.resolvers → slice_index v.judged_counts r ≡ length v.history

all_offered : (config : Config) (w v : World) → IsSound config w → Offered config w (length w.history) 0 v → IsJudged config v
all_offered config w v sound so_far = record {
  sound = so_far.sound;
  all = λ r there. so_far.waiting r (omega arith) there (judged_within config w r sound there) ∙ ap length (sym so_far.history);
}

-- as many records of each proxy are unfinished as are listed
abbrev AreUnfinished : Config → World → List Record → Type 0
AreUnfinished config v recs = (p : ℕ) → p < config.proxies → records_left v p ≡ length (records_of_proxy p recs)

finish_one : (config : Config) (v : World) (rec : Record) (recs : List Record) → IsJudged config v → rec.proxy < config.proxies → AreUnfinished config v (rec ∷ recs)
    → Does config v (Finish rec.proxy ∷ []) (λ x. IsJudged config x × AreUnfinished config x recs)
finish_one config v rec recs judged there left = does_one config v (Finish rec.proxy) (λ x. IsJudged config x × AreUnfinished config x recs) done (record { sound = happens_sound config v (Finish rec.proxy) judged.sound; all = counts }, still)
  where
    own : length (records_of_proxy rec.proxy (rec ∷ recs)) ≡ suc (length (records_of_proxy rec.proxy recs))
    own = let mine : nat_eq rec.proxy rec.proxy ≡ true = eq-eqb rec.proxy rec.proxy refl in rw mine refl

    first : (next : Record) × (slice_get (records_of_proxy rec.proxy v.history) (slice_index v.finished rec.proxy) ≡ Some next)
    first = element_at (records_of_proxy rec.proxy v.history) (slice_index v.finished rec.proxy) (let many = left rec.proxy there in omega (arith, many, own))

    all : AllJudged config first.0.row v
    all r r_there = let within = row_within config v rec.proxy (slice_index v.finished rec.proxy) first.0 judged.sound first.1 in let count = judged.all r r_there in omega (arith, within, count)

    done : is_done (handle_event config v (Finish rec.proxy)).answer ≡ true
    done = (can_finish_now config v rec.proxy first.0 there first.1 all).1

    world : (handle_event config v (Finish rec.proxy)).world ≡ record v { finished = slice_set v.finished rec.proxy (suc (slice_index v.finished rec.proxy)) }
    world = ap (λ (handled : Handled). handled.world) (finish_is config v rec.proxy first.0 there first.1 (none_missing config v first.0.row all))

    counts : (r : ℕ) → r < config.resolvers → slice_index (handle_event config v (Finish rec.proxy)).world.judged_counts r ≡ length (handle_event config v (Finish rec.proxy)).world.history
    counts r r_there = ap (λ (x : World). slice_index x.judged_counts r) world ∙ judged.all r r_there ∙ ap (λ (x : World). length x.history) (sym world)

    by : (q : ℕ) → q < config.proxies → (t : Bool) → nat_eq rec.proxy q ≡ t → records_left v q ≡ length (cond t (rec ∷ records_of_proxy q recs) (records_of_proxy q recs)) → records_left (record v { finished = slice_set v.finished rec.proxy (suc (slice_index v.finished rec.proxy)) }) q ≡ length (records_of_proxy q recs)
    by q q_there true mine many =
        let same : rec.proxy ≡ q = eqb-true rec.proxy q mine in
        let count : slice_index (slice_set v.finished rec.proxy (suc (slice_index v.finished rec.proxy))) q ≡ suc (slice_index v.finished q) =
        ap (slice_index (slice_set v.finished rec.proxy (suc (slice_index v.finished rec.proxy)))) (sym same) ∙ set_same v.finished rec.proxy (suc (slice_index v.finished rec.proxy)) (omega (arith, there, judged.sound.finished)) ∙ ap (λ (p : ℕ). suc (slice_index v.finished p)) same in
        omega (arith, count, many)
    by q q_there false others many =
        let count : slice_index (slice_set v.finished rec.proxy (suc (slice_index v.finished rec.proxy))) q ≡ slice_index v.finished q =
        set_other v.finished rec.proxy (suc (slice_index v.finished rec.proxy)) q (λ same. absurd (eqb-false rec.proxy q others (sym same))) in
        omega (arith, count, many)

    still : AreUnfinished config (handle_event config v (Finish rec.proxy)).world recs
    still q q_there = ap (λ (x : World). records_left x q) world ∙ by q q_there (nat_eq rec.proxy q) refl (left q q_there)

finish_each : (config : Config) (v : World) (recs : List Record) → ((rec : Record) → Has recs rec → rec.proxy < config.proxies) → IsJudged config v → AreUnfinished config v recs → Does config v (map (λ (rec : Record). Finish rec.proxy) recs) (AllFinished config)
finish_each config v [] there judged left = does_none config v (AllFinished config) (λ p p_there. omega (arith, left p p_there, finished_within config v p judged.sound))
finish_each config v (rec ∷ recs) there judged left =
    does_both config v (Finish rec.proxy ∷ []) (map (λ (other : Record). Finish other.proxy) recs) (λ x. IsJudged config x × AreUnfinished config x recs) (AllFinished config)
    (finish_one config v rec recs judged (there rec (inl refl)) left)
    (λ x now. finish_each config x recs (λ other has. there other (inr has)) now.0 now.1)

-- ---- the records that are unfinished by their versions

-- of the records of a proxy, those up to a version and those after it
split_own : (w : World) (p : ℕ) (h : List Record) → length (records_of_proxy p h) ≡ length (records_of_proxy p (up_to_version (finished_version w p) h)) + length (records_of_proxy p (filter (is_unfinished w) h))
split_own w p [] = refl
split_own w p (rec ∷ h) = by (nat_eq rec.proxy p) refl (nat_le rec.version (finished_version w p)) refl (nat_lt (finished_version w rec.proxy) rec.version) refl (split_own w p h)
  where
    early : List Record
    early = up_to_version (finished_version w p) h

    late : List Record
    late = filter (is_unfinished w) h

    version_is : nat_eq rec.proxy p ≡ true → finished_version w rec.proxy ≡ finished_version w p
    version_is mine = ap (finished_version w) (eqb-true rec.proxy p mine)

    by : (s : Bool) → nat_eq rec.proxy p ≡ s → (t : Bool) → nat_le rec.version (finished_version w p) ≡ t → (u : Bool) → nat_lt (finished_version w rec.proxy) rec.version ≡ u
        → length (records_of_proxy p h) ≡ length (records_of_proxy p early) + length (records_of_proxy p late)
        → length (cond s (rec ∷ records_of_proxy p h) (records_of_proxy p h)) ≡ length (records_of_proxy p (cond t (rec ∷ early) early)) + length (records_of_proxy p (cond u (rec ∷ late) late))
    by false other true below true above rest = rw other rest
    by false other true below false upto rest = rw other rest
    by false other false after true above rest = rw other rest
    by false other false after false upto rest = rest
    by true mine true below true above rest = absurd (let low : rec.version ≤ finished_version w p = leb-true rec.version (finished_version w p) below in let high : finished_version w rec.proxy < rec.version = ltb-true (finished_version w rec.proxy) rec.version above in omega (arith, version_is mine, low, high))
    by true mine true below false upto rest = rw mine (omega (arith, rest))
    by true mine false after true above rest = rw mine (omega (arith, rest))
    by true mine false after false upto rest = absurd (let high : finished_version w p < rec.version = leb-false rec.version (finished_version w p) after in let low : rec.version ≤ finished_version w rec.proxy = ltb-false (finished_version w rec.proxy) rec.version upto in omega (arith, version_is mine, low, high))

unfinished_are : (config : Config) (w v : World) → IsConfig config → IsSound config w → v.history ≡ w.history → v.finished ≡ w.finished → AreUnfinished config v (filter (is_unfinished w) w.history)
unfinished_are config w v limits sound history finished p there =
    let knows = known config w p limits sound in
    let up_to : length (records_of_proxy p (up_to_version (finished_version w p) w.history)) ≡ slice_index w.finished p =
    ap (λ (h : List Record). length (records_of_proxy p h)) knows.up_to ∙ ap length knows.own ∙ length-take-le (slice_index w.finished p) (records_of_proxy p w.history) (finished_within config w p sound) in
    let same : records_left v p ≡ records_left w p = λ i. length (records_of_proxy p (history i)) - slice_index (finished i) p in
    same ∙ omega (arith, split_own w p w.history, up_to)

-- ---- both

-- where an element of a list stands
place_of : {X : Type 0} (xs : List X) (x : X) → Has xs x → (i : ℕ) × (slice_get xs i ≡ Some x)
place_of [] x has = absurd has
place_of {X} (y ∷ ys) x (inl same) = (0, ap (λ (z : X). Some z) same)
place_of (y ∷ ys) x (inr later) = let found = place_of ys x later in (suc found.0, found.1)

left_does : (config : Config) (w : World) → IsConfig config → IsSound config w → Does config w (events_left config w) (AllFinished config)
left_does config w limits sound =
    does_both config w (offers_left config w) (finishes_left w) (Offered config w (length w.history) 0) (AllFinished config)
    (rows_up_to config w (length w.history) (omega arith) sound)
    (λ v so_far. finish_each config v (filter (is_unfinished w) w.history) proxies (all_offered config w v sound so_far) (unfinished_are config w v limits sound so_far.history so_far.finished))
  where
    proxies : (rec : Record) → Has (filter (is_unfinished w) w.history) rec → rec.proxy < config.proxies
    proxies rec has =
        let place = place_of w.history rec (Has-from_filter (is_unfinished w) w.history rec has).0 in
        (sound.sequencer.history place.0 rec place.1).proxy

pub left_done : TheEventsLeftAreDone
left_done config w limits sound = (left_does config w limits sound).done

pub left_finish : TheEventsLeftFinishAll
left_finish config w limits sound = (left_does config w limits sound).after

pub answers_counted : (config : Config) (w : World) (events : List Event) → length (answers config w events) ≡ length events
unfolding answers
answers_counted config w [] = refl
answers_counted config w (event ∷ events) = ap (λ (n : ℕ). suc n) (answers_counted config (handle_event config w event).world events)

all_kept : {X : Type 0} (test : X → Bool) (xs : List X) → list_all test xs ≡ true → length (filter test xs) ≡ length xs
all_kept test [] all = refl
all_kept {X} test (x ∷ xs) all = let both = both_true (test x) (list_all test xs) all in let one = both.0 in rw one (ap (λ (n : ℕ). suc n) (all_kept test xs both.1))

pub left_count : AsManyEventsAreLeftAsWork
left_count config w limits sound =
    let events : List Event = events_left config w in
    let does = left_does config w limits sound in
    let counted = as_many_done config w events sound (left_work config w) in
    let none = none_left config (world_after config w events) (world_after_sound config w events sound) does.after in
    let kept = all_kept is_done (answers config w events) does.done in
    omega (arith, counted, none, kept, answers_counted config w events)
