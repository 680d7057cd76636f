-- Runs of events, one after another.
use Rattle.std.proofs.Common.{◌≡◌, refl, sym, ap, ◌∙◌, subst, ℕ, suc, ◌<◌, List, [], ◌∷◌, ◌++◌, map, take, length, get_or, slice_get, false, true, is_none, Option, Some, None, option_map, arith}
use Rattle.std.specs.Prelude.{Result, Ok, Err, IsOk}
use Rattle.std.proofs.lemmas.List.{map-append, length-map}
use Rattle.std.proofs.lemmas.Option.{slice_get-map}
use Rattle.system_keys.specs.AsSpecified.{IsFaultOf}
use Rattle.model.specs.World.{World, answers, world_after, handle_event}
use Rattle.model.specs.World as world
use Rattle.model.specs.Turns.{TurnCluster, success_or_refusal, answer_to_event, after_event}
use Rattle.model.proofs.Worlds.Offers.{refused_unchanged}
use Rattle.model.proofs.Resolvers.Requests.{take_suc}
use Rattle.model.proofs.Worlds.Runs.{answers_append, world_after_append}
use Rattle.turn_world.specs.Events.{event_of, event_answer_of, fault_of}
use Rattle.turn_world.specs.Steps.{AnswersEvent, HasCarriedOut, HasStopped, told_by, told_refusal}
use Rattle.turn_world.specs.declared.answer.Answer.{Answer}
use Rattle.turn_world.specs.declared.event.Event.{Event}
use Rattle.turn_world.specs.declared.refusal.Refusal.{Refusal}
use Rattle.turn_world.specs.declared.refusal.Refusal.TheVariants as refusals
use Rattle.turn_world.specs.declared.stopped.Stopped.{Stopped}
use Rattle.turn_world.proofs.OfferedParts.{got}

-- ---- one event

succeeded : (answer told : world.Answer) → success_or_refusal answer ≡ Ok told → answer ≡ told
succeeded (world.Sequenced row version) told is = cc
succeeded (world.Moved date) told is = cc
succeeded (world.Judged reply) told is = cc
succeeded (world.Again reply) told is = cc
succeeded (world.FinishedBatch finished) told is = cc
succeeded (world.Refused why) told is = absurd (cc)

refused : (answer : world.Answer) (why : world.Refusal) → success_or_refusal answer ≡ Err why → answer ≡ world.Refused why
refused (world.Sequenced row version) why is = absurd (cc)
refused (world.Moved date) why is = absurd (cc)
refused (world.Judged reply) why is = absurd (cc)
refused (world.Again reply) why is = absurd (cc)
refused (world.FinishedBatch finished) why is = absurd (cc)
refused (world.Refused other) why is = cc

pub answered_one : (before after : TurnCluster) (event : world.Event) (answer : Answer) → AnswersEvent before event (Ok answer) → after ≡ after_event before event → HasCarriedOut before after (event ∷ []) (Ok answer ∷ [])
unfolding answers world_after
answered_one before after event answer is after_is =
    record {
      results_are = ap (λ (told : world.Answer). Some told ∷ []) (sym (succeeded (handle_event before.config before.world event).answer (event_answer_of answer) is));
      after_is = after_is;
    }

-- every refusal is one of the definition, but out of memory
pub is_refusal : (refusal : Refusal) → (refusal ≡ refusals.OutOfMemory → ⊥) → false ≡ is_none (fault_of refusal)
is_refusal refusals.NoSuchResolver other = refl
is_refusal (refusals.Early version) other = refl
is_refusal (refusals.GivenUp acknowledged) other = refl
is_refusal refusals.NoSuchProxy other = refl
is_refusal refusals.WrongResolver other = refl
is_refusal refusals.NoSuchRow other = refl
is_refusal (refusals.OutOfTurn expected) other = refl
is_refusal (refusals.MissingReply resolver) other = refl
is_refusal refusals.VersionsEnd other = refl
is_refusal refusals.OutOfMemory other = absurd (other refl)

-- what is not None is some value
value_of : {X : Type 0} (found : Option X) → false ≡ is_none found → (x : X) × (found ≡ Some x)
value_of None there = absurd (cc)
value_of (Some x) there = (x, refl)

pub refused_one : (before after : TurnCluster) (event : world.Event) (refusal : Refusal) → false ≡ is_none (fault_of refusal) → AnswersEvent before event (Err refusal) → after ≡ before → HasCarriedOut before after (event ∷ []) (Err refusal ∷ [])
unfolding answers world_after
refused_one before after event refusal other is after_is =
    let why = value_of (fault_of refusal) other in
    let told : answer_to_event before event ≡ Err why.0 = subst (λ f. IsFaultOf f (answer_to_event before event)) why.1 is in
    let said = refused (handle_event before.config before.world event).answer why.0 told in
    record {
      results_are = ap (λ f. told_refusal f ∷ []) why.1 ∙ ap (λ (answer : world.Answer). Some answer ∷ []) (sym said);
      after_is = after_is ∙ ap (λ (w : World). record before { world = w }) (sym (refused_unchanged before.config before.world event why.0 said));
    }

-- ---- several events

pub none_carried_out : (now : TurnCluster) → HasCarriedOut now now [] []
unfolding answers world_after
none_carried_out now = record { results_are = refl; after_is = refl }

pub one_after_another : (first second third : TurnCluster) (xs ys : List world.Event) (done more : List (Result Answer Refusal)) → HasCarriedOut first second xs done → HasCarriedOut second third ys more → HasCarriedOut first third (xs ++ ys) (done ++ more)
one_after_another first second third xs ys done more one other =
    record {
      results_are = map-append told_by done more ∙ (λ i. one.results_are i ++ next.results_are i) ∙ sym (map-append (λ (answer : world.Answer). Some answer) (answers first.config first.world xs) (answers first.config between ys)) ∙ ap (map (λ (answer : world.Answer). Some answer)) (sym (answers_append first.config first.world xs ys));
      after_is = next.after_is ∙ ap (λ (w : World). record first { world = w }) (sym (world_after_append first.config first.world xs ys));
    }
  where
    between : World
    between = world_after first.config first.world xs

    next : HasCarriedOut (record first { world = between }) third ys more
    next = subst (λ (t : TurnCluster). HasCarriedOut t third ys more) one.after_is other

event_at : (events : List Event) (i : ℕ) (event : Event) → i < length events → event ≡ get_or events i event → slice_get (map event_of events) i ≡ Some (event_of event)
event_at events i event within is = slice_get-map event_of events i ∙ ap (option_map event_of) (got events i event within is)

pub one_more : (first second third : TurnCluster) (events : List Event) (i m : ℕ) (event : Event) (done all : List (Result Answer Refusal)) (told : Result Answer Refusal) → m ≡ suc i → i < length events → event ≡ get_or events i event → all ≡ done ++ told ∷ [] → HasCarriedOut first second (take i (map event_of events)) done → HasCarriedOut second third (event_of event ∷ []) (told ∷ []) → HasCarriedOut first third (take m (map event_of events)) all
one_more first second third events i m event done all told next within is more one other =
    let taken = take_suc (map event_of events) i (event_of event) (event_at events i event within is) ∙ ap (λ (n : ℕ). take n (map event_of events)) (sym next) in
    subst (λ xs. HasCarriedOut first third xs all) taken
    (subst (HasCarriedOut first third (take i (map event_of events) ++ event_of event ∷ [])) (sym more)
    (one_after_another first second third (take i (map event_of events)) (event_of event ∷ []) done (told ∷ []) one other))

-- ---- a run that stops

differ : false ≡ true → ⊥
differ same = absurd (cc)

some_events : (events : List Event) → (length events ≡ 0 → false ≡ true) → 0 < length (map event_of events)
some_events [] some = absurd (differ (some refl))
some_events (event ∷ events) some = omega arith

pub stopped_at_first : (now : TurnCluster) (events : List Event) (stopped : Stopped) → (length events ≡ 0 → false ≡ true) → stopped.carried_out ≡ 0 → stopped.answers.items ≡ [] → HasStopped now now (map event_of events) stopped
stopped_at_first now events stopped some none empty =
    record {
      within = let there = some_events events some in omega (arith, there, none);
      count = ap length empty ∙ sym none;
      carried_out = subst (λ (n : ℕ). HasCarriedOut now now (take n (map event_of events)) stopped.answers.items) (sym none) (subst (HasCarriedOut now now []) (sym empty) (none_carried_out now));
      next = λ some. absurd (omega (arith, some, none));
    }

pub stopped_at : (first now same : TurnCluster) (events : List Event) (event : Event) (done : List (Result Answer Refusal)) (stopped : Stopped) → same ≡ now → stopped.answers.items ≡ done → length done ≡ stopped.carried_out → stopped.carried_out < length events → event ≡ get_or events stopped.carried_out event → IsOk (answer_to_event now (event_of event)) → HasCarriedOut first now (take stopped.carried_out (map event_of events)) done → HasStopped first same (map event_of events) stopped
stopped_at first now same events event done stopped unchanged are count within is not_refused so_far =
    subst (λ (t : TurnCluster). HasStopped first t (map event_of events) stopped) (sym unchanged)
    (record {
      within = let many = length-map events event_of in omega (arith, within, many);
      count = ap length are ∙ count;
      carried_out = subst (HasCarriedOut first now (take stopped.carried_out (map event_of events))) (sym are) so_far;
      next = λ some. (event_of event, event_at events stopped.carried_out event within is, not_refused);
    })
