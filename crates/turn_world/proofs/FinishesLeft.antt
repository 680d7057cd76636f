-- The finishes that are left, as events, and a run that carries out what is left.
use Rattle.std.proofs.Common.{◌≡◌, refl, sym, ap, ◌∙◌, subst, ℕ, zero, suc, ◌<◌, ◌≤◌, inl, inr, List, [], ◌∷◌, ◌++◌, map, filter, take, length, true, false, slice_get, slice_index, Option, Some, None, length-append, append-nil, arith}
use Rattle.std.specs.Prelude.{Result, Ok, Err, IsOk, IsTrue, IsFalse, MatchResult, All, flat_map}
use Rattle.std.specs.List.{list_all}
use Rattle.std.proofs.lemmas.Bool.{lt-ltb, le-ltb}
use Rattle.std.proofs.lemmas.List.{map-append, length-map}
use Rattle.std.proofs.lemmas.List.Elements.{All-nil, All-cons, filter-append}
use Rattle.model.specs.Configs.{Config, IsConfig}
use Rattle.model.specs.Records.{Record, IsHistory}
use Rattle.model.specs.Requests.{Request}
use Rattle.model.specs.ResolverMemory.{ResolverView}
use Rattle.model.specs.Finishing.{ProxyView}
use Rattle.model.specs.Offers.{sent_request}
use Rattle.model.specs.Shares.{each_below}
use Rattle.model.specs.World as world
use Rattle.model.specs.World.{World, IsSound, finished_version, missing_replies, answers}
use Rattle.model.specs.Turns.{TurnCluster}
use Rattle.model.proofs.History.Chain.{element_at}
use Rattle.model.proofs.Members.{Has, Has-filter, Has-map}
use Rattle.model.proofs.Resolvers.Requests.{take_suc}
use Rattle.endings.specs.Work.{is_done, AllFinished}
use Rattle.endings.specs.EventsLeft.{offers_left, is_unfinished, finishes_left, events_left}
use Rattle.endings.proofs.Orders.{both_true, one_world}
use Rattle.endings.proofs.EventsLeft.{left_work, left_done, left_finish, left_count, answers_counted}
use Rattle.turn_world.specs.Events.{event_of, fault_of}
use Rattle.turn_world.specs.Kept.{IsKept, records_of}
use Rattle.turn_world.specs.KeptRequests.{HasNumbersOf}
use Rattle.turn_world.specs.Ending.{HasFinishedAll, offers_missing}
use Rattle.turn_world.specs.Steps.{HasCarriedOut, HasStopped, told_by, told_refusal}
use Rattle.turn_world.specs.declared.answer.Answer.{Answer}
use Rattle.turn_world.specs.declared.event.Event.{Event}
use Rattle.turn_world.specs.declared.event.Event.TheVariants as events
use Rattle.turn_world.specs.declared.kept_record.KeptRecord.{KeptRecord}
use Rattle.turn_world.specs.declared.refusal.Refusal.{Refusal}
use Rattle.turn_world.specs.declared.stopped.Stopped.{Stopped}
use Rattle.turn_world.proofs.EventRuns.{none_carried_out}
use Rattle.turn_world.proofs.EventsLeft.{AreWith, with_one, has_length}
use Rattle.turn_world.proofs.RowNumbers.{HasRecordNumbers, sent_numbers}

-- ---- the record of a row

-- the history has a record for each row that is kept
pub rows_are : (config : Config) (rows : List KeptRecord) (w : World) (now : TurnCluster) → w.history ≡ records_of rows → (record { config = config; world = w }) ≡ now → length now.world.history ≡ length rows
rows_are config rows w now is view = ap (λ (t : TurnCluster). length t.world.history) (sym view) ∙ ap length is ∙ length-map rows (λ (row : KeptRecord). row.rec.known)

-- the record of a row, by the numbers of the request for it
pub record KnownRow (now : TurnCluster) (row : ℕ) (q : Request) : Type 0 where
  pub rec : Record
  pub at : slice_get now.world.history row ≡ Some rec
  pub proxy : q.proxy ≡ rec.proxy
  pub version : q.version ≡ rec.version
  pub there : q.proxy < now.config.proxies

pub known_row : (config : Config) (w : World) (now : TurnCluster) (row : ℕ) (q : Request) (resolvers : List ResolverView) (proxies : List ProxyView) (requests : List (List Request)) (last : ℕ) → (record { config = config; world = w }) ≡ now → IsKept config w resolvers proxies requests last → row < length now.world.history
    → ((rec : Record) → slice_get now.world.history row ≡ Some rec → HasNumbersOf (sent_request now.config now.world 0 rec) q) → KnownRow now row q
known_row config w now row q resolvers proxies requests last view keeps within numbers =
    record {
      rec = found.0;
      at = found.1;
      proxy = own.proxy ∙ sent.proxy;
      version = own.version ∙ sent.version;
      there = omega (arith, own.proxy ∙ sent.proxy, (history row found.0 found.1).proxy);
    }
  where
    found : (rec : Record) × (slice_get now.world.history row ≡ Some rec)
    found = element_at now.world.history row within

    own : HasNumbersOf (sent_request now.config now.world 0 found.0) q
    own = numbers found.0 found.1

    sent : HasRecordNumbers found.0 (slice_index now.world.received found.0.row) 0 (sent_request now.config now.world 0 found.0)
    sent = sent_numbers now.config now.world 0 found.0

    history : IsHistory now.config now.world.history
    history = subst (λ (t : TurnCluster). IsHistory t.config t.world.history) view keeps.parts.sound.sequencer.history

-- the version of a proxy is the one that it has finished
pub version_is : (config : Config) (w : World) (now : TurnCluster) (p : ℕ) (v : ProxyView) (resolvers : List ResolverView) (proxies : List ProxyView) (requests : List (List Request)) (last : ℕ) → (record { config = config; world = w }) ≡ now → IsKept config w resolvers proxies requests last → slice_get proxies p ≡ Some v → v.version ≡ finished_version now.world p
version_is config w now p v resolvers proxies requests last view keeps at = (keeps.parts.each_proxy p v at).version ∙ ap (λ (t : TurnCluster). finished_version t.world p) view

same_record : (h : List Record) (row : ℕ) (one rec : Record) → slice_get h row ≡ Some one → slice_get h row ≡ Some rec → one ≡ rec
same_record h row one rec at other = let both : Some one ≡ Some rec = sym at ∙ other in cc

-- a proxy of which the version is below that of the record has not finished it
pub told_unfinished : (now : TurnCluster) (row : ℕ) (q : Request) (p version own : ℕ) → KnownRow now row q → p ≡ q.proxy → version ≡ finished_version now.world p → own ≡ q.version → version < own → (rec : Record) → slice_get now.world.history row ≡ Some rec → (p ≡ rec.proxy) × IsTrue (is_unfinished now.world rec)
told_unfinished now row q p version own known p_is version_is own_is below rec at =
    let same : known.rec ≡ rec = same_record now.world.history row known.rec rec known.at at in
    let proxy_is : p ≡ rec.proxy = p_is ∙ known.proxy ∙ ap (λ (r : Record). r.proxy) same in
    let finished : version ≡ finished_version now.world rec.proxy = version_is ∙ ap (finished_version now.world) proxy_is in
    let own_version : own ≡ rec.version = own_is ∙ known.version ∙ ap (λ (r : Record). r.version) same in
    (proxy_is, lt-ltb (finished_version now.world rec.proxy) rec.version (omega (arith, finished, own_version, below)))

pub told_finished : (now : TurnCluster) (row : ℕ) (q : Request) (p version own : ℕ) → KnownRow now row q → p ≡ q.proxy → version ≡ finished_version now.world p → own ≡ q.version → own ≤ version → (rec : Record) → slice_get now.world.history row ≡ Some rec → IsFalse (is_unfinished now.world rec)
told_finished now row q p version own known p_is version_is own_is above rec at =
    let same : known.rec ≡ rec = same_record now.world.history row known.rec rec known.at at in
    let proxy_is : p ≡ rec.proxy = p_is ∙ known.proxy ∙ ap (λ (r : Record). r.proxy) same in
    let finished : version ≡ finished_version now.world rec.proxy = version_is ∙ ap (finished_version now.world) proxy_is in
    let own_version : own ≡ rec.version = own_is ∙ known.version ∙ ap (λ (r : Record). r.version) same in
    le-ltb (finished_version now.world rec.proxy) rec.version (omega (arith, finished, own_version, above))

-- ---- the finishes of the first rows

abbrev pub finishes_of : World → List Record → List world.Event
finishes_of w recs = map (λ (rec : Record). world.Finish rec.proxy) (filter (is_unfinished w) recs)

next_finishes : (w : World) (row m : ℕ) (rec : Record) → m ≡ suc row → slice_get w.history row ≡ Some rec → finishes_of w (take m w.history) ≡ finishes_of w (take row w.history) ++ finishes_of w (rec ∷ [])
next_finishes w row m rec next at =
    ap (λ (n : ℕ). finishes_of w (take n w.history)) next
    ∙ ap (finishes_of w) (sym (take_suc w.history row rec at))
    ∙ ap (map (λ (r : Record). world.Finish r.proxy)) (filter-append (is_unfinished w) (take row w.history) (rec ∷ []))
    ∙ map-append (λ (r : Record). world.Finish r.proxy) (filter (is_unfinished w) (take row w.history)) (filter (is_unfinished w) (rec ∷ []))

pub one_finish : (w : World) (before : List world.Event) (row m : ℕ) (rec : Record) (all pushed : List Event) (event : Event) (p : ℕ) → m ≡ suc row → slice_get w.history row ≡ Some rec → event ≡ events.Finish p → pushed ≡ all ++ event ∷ [] → (p ≡ rec.proxy) × IsTrue (is_unfinished w rec) → AreWith before (finishes_of w (take row w.history)) all → AreWith before (finishes_of w (take m w.history)) pushed
one_finish w before row m rec all pushed event p next at event_is is (proxy_is, left) so_far =
    subst (λ (es : List world.Event). AreWith before es pushed) (sym more) (with_one before (finishes_of w (take row w.history)) all pushed event is so_far)
  where
    one : finishes_of w (rec ∷ []) ≡ world.Finish rec.proxy ∷ []
    one = let is : is_unfinished w rec ≡ true = left in rw is refl

    more : finishes_of w (take m w.history) ≡ finishes_of w (take row w.history) ++ event_of event ∷ []
    more = next_finishes w row m rec next at ∙ ap (λ (es : List world.Event). finishes_of w (take row w.history) ++ es) (one ∙ ap (λ (q : ℕ). world.Finish q ∷ []) (sym proxy_is) ∙ ap (λ (e : Event). event_of e ∷ []) (sym event_is))

pub no_finish : (w : World) (before : List world.Event) (row m : ℕ) (rec : Record) (all : List Event) → m ≡ suc row → slice_get w.history row ≡ Some rec → IsFalse (is_unfinished w rec) → AreWith before (finishes_of w (take row w.history)) all → AreWith before (finishes_of w (take m w.history)) all
no_finish w before row m rec all next at done so_far = subst (λ (es : List world.Event). AreWith before es all) (sym same) so_far
  where
    none : finishes_of w (rec ∷ []) ≡ []
    none = let is : is_unfinished w rec ≡ false = done in rw is refl

    same : finishes_of w (take m w.history) ≡ finishes_of w (take row w.history)
    same = next_finishes w row m rec next at ∙ ap (λ (es : List world.Event). finishes_of w (take row w.history) ++ es) none ∙ append-nil (finishes_of w (take row w.history))

has_record : (h : List Record) (row : ℕ) (rec : Record) → slice_get h row ≡ Some rec → Has h rec
has_record [] row rec at = absurd (cc)
has_record (x ∷ h) zero rec at = inl (let same : x ≡ rec = cc in same)
has_record (x ∷ h) (suc row) rec at = inr (has_record h row rec at)

-- an unfinished record is to be finished
pub finish_due : (w : World) (row : ℕ) (rec : Record) → slice_get w.history row ≡ Some rec → IsTrue (is_unfinished w rec) → 0 < length (finishes_left w)
finish_due w row rec at left =
    has_length (finishes_left w) (world.Finish rec.proxy)
    (Has-map (λ (r : Record). world.Finish r.proxy) (filter (is_unfinished w) w.history) rec (Has-filter (is_unfinished w) w.history rec (has_record w.history row rec at) left))

-- ---- all that is left

offers_are : (config : Config) (w : World) → IsSound config w → offers_missing w.judged_counts (length w.history) ≡ offers_left config w
offers_are config w sound = ap (λ (n : ℕ). flat_map (λ (row : ℕ). map (λ (r : ℕ). world.Offer row r) (missing_replies w row (each_below n))) (each_below (length w.history))) sound.judged_counts

-- the offers and then the finishes are listed
pub all_listed : (now : TurnCluster) (nothing offered all : List Event) (counts : List ℕ) (rows : ℕ) → IsSound now.config now.world → nothing ≡ [] → counts ≡ now.world.judged_counts → rows ≡ length now.world.history → map event_of offered ≡ map event_of nothing ++ offers_missing counts rows → map event_of all ≡ map event_of offered ++ finishes_left now.world
    → map event_of all ≡ events_left now.config now.world
all_listed now nothing offered all counts rows sound none counts_are rows_is first then =
    then ∙ ap (λ (es : List world.Event). es ++ finishes_left now.world)
    (first ∙ (λ i. map event_of (none i) ++ offers_missing (counts_are i) (rows_is i)) ∙ offers_are now.config now.world sound)

pub offer_left : (now : TurnCluster) (counts : List ℕ) (rows : ℕ) → IsSound now.config now.world → counts ≡ now.world.judged_counts → rows ≡ length now.world.history → 0 < length (offers_missing counts rows) → 0 < length (events_left now.config now.world)
offer_left now counts rows sound counts_are rows_is some =
    let same = ap length ((λ i. offers_missing (counts_are i) (rows_is i)) ∙ offers_are now.config now.world sound) in
    omega (arith, some, same, length-append (offers_left now.config now.world) (finishes_left now.world))

pub finish_left : (now : TurnCluster) → 0 < length (finishes_left now.world) → 0 < length (events_left now.config now.world)
finish_left now some = omega (arith, some, length-append (offers_left now.config now.world) (finishes_left now.world))

-- ---- a run that is ended

never_refused : (fault : Option world.Refusal) (answer : world.Answer) → told_refusal fault ≡ Some answer → is_done answer ≡ true → ⊥
never_refused None answer same done = absurd (cc)
never_refused (Some why) answer same done =
    let refused : world.Refused why ≡ answer = cc in
    let never : is_done (world.Refused why) ≡ true = ap is_done refused ∙ done in
    absurd (cc)

ok_of : (result : Result Answer Refusal) (answer : world.Answer) → told_by result ≡ Some answer → is_done answer ≡ true → IsOk result
ok_of (Ok told) answer is done = refl
ok_of (Err refusal) answer is done = absurd (never_refused (fault_of refusal) answer is done)

all_ok : (results : List (Result Answer Refusal)) (told : List world.Answer) → map told_by results ≡ map (λ (answer : world.Answer). Some answer) told → list_all is_done told ≡ true → All IsOk results
all_ok [] told are done = All-nil IsOk
all_ok (result ∷ results) [] are done = absurd (cc)
all_ok (result ∷ results) (answer ∷ told) are done =
    let both = both_true (is_done answer) (list_all is_done told) done in
    let first : told_by result ≡ Some answer = cc in
    let rest : map told_by results ≡ map (λ (a : world.Answer). Some a) told = cc in
    All-cons IsOk result results (ok_of result answer first both.0) (all_ok results told rest both.1)

pub finished_all : (before after : TurnCluster) (given : List world.Event) (results : List (Result Answer Refusal)) → IsConfig before.config → IsSound before.config before.world → given ≡ events_left before.config before.world → HasCarriedOut before after given results → HasFinishedAll before after results
finished_all before after given results limits sound is ran = record {
  carried_out = carried_out;
  none_refused = all_ok results (answers config w left) carried_out.results_are (left_done config w limits sound);
  done = left_done config w limits sound;
  count = sym (length-map results told_by) ∙ ap length carried_out.results_are ∙ length-map (answers config w left) (λ (answer : world.Answer). Some answer) ∙ answers_counted config w left ∙ left_count config w limits sound;
  finished = subst (λ (t : TurnCluster). AllFinished t.config t.world) (sym carried_out.after_is) (left_finish config w limits sound);
  world_is = ap (λ (t : TurnCluster). t.world) carried_out.after_is ∙ one_world config w left sound (left_work config w) (left_finish config w limits sound);
}
  where
    config : Config
    config = before.config

    w : World
    w = before.world

    left : List world.Event
    left = events_left config w

    carried_out : HasCarriedOut before after left results
    carried_out = subst (λ (es : List world.Event). HasCarriedOut before after es results) is ran

-- a run that stopped before its first event, since there was no memory to list what is left
pub stopped_at_once : (now : TurnCluster) (stopped : Stopped) → 0 < length (events_left now.config now.world) → stopped.carried_out ≡ 0 → stopped.answers.items ≡ [] → HasStopped now now (events_left now.config now.world) stopped
stopped_at_once now stopped some none empty =
    record {
      within = omega (arith, some, none);
      count = ap length empty ∙ sym none;
      carried_out = subst (λ (n : ℕ). HasCarriedOut now now (take n (events_left now.config now.world)) stopped.answers.items) (sym none) (subst (HasCarriedOut now now []) (sym empty) (none_carried_out now));
      next = λ some. absurd (omega (arith, some, none));
    }

-- what follows of either result
pub match_both : {A B : Type 0} (result : Result A B) (P more : A → Type 0) (Q other : B → Type 0) → ((a : A) → P a → more a) → ((b : B) → Q b → other b) → MatchResult result P Q → MatchResult result more other
match_both (Ok a) P more Q other first second is = first a is
match_both (Err b) P more Q other first second is = second b is
