-- The lines of events, by what they returned.
use Rattle.std.proofs.Common.{◌≡◌, ◌∙◌, ◌++◌, ◌∷◌, [], ℕ, List, map, length, refl, sym, ap, ap₂, false, is_none, append_assoc}
use Rattle.std.specs.Prelude.{Some, None, IsSome, Ok, Err}
use Rattle.model.specs.Turns.{TurnCluster, after_event}
use Rattle.model.specs.World as world
use Rattle.model.specs.World.{World, answers, handle_event, world_after}
use Rattle.turn_world.specs.Events.{event_answer_of, event_of, fault_of, refusal_number}
use Rattle.turn_world.specs.Steps.{AnswersEvent, told_refusal}
use Rattle.turn_world.specs.declared.answer.Answer.{Answer}
use Rattle.turn_world.specs.declared.event.Event.{Event}
use Rattle.turn_world.specs.declared.refusal.Refusal.{Refusal}
use Rattle.turn_world.specs.declared.refusal.Refusal.TheVariants as refusals
use Rattle.turn_world.proofs.EventRuns.{answered_one, refused_one}
use Rattle.turns_run.specs.Lines.{event_text, events_text, refusal_line, refusal_of}

-- a refusal with a number is one of the definition
refusal_is : (refusal : Refusal) → IsSome (refusal_number refusal) → (why : world.Refusal) × (fault_of refusal ≡ Some why) × (refusal_of why ≡ refusal)
refusal_is refusals.NoSuchResolver numbered = (world.NoSuchResolver, refl, refl)
refusal_is (refusals.Early version) numbered = (world.Early version, refl, refl)
refusal_is (refusals.GivenUp acknowledged) numbered = (world.GivenUp acknowledged, refl, refl)
refusal_is refusals.NoSuchProxy numbered = (world.NoSuchProxy, refl, refl)
refusal_is refusals.WrongResolver numbered = (world.WrongResolver, refl, refl)
refusal_is refusals.NoSuchRow numbered = (world.NoSuchRow, refl, refl)
refusal_is (refusals.OutOfTurn expected) numbered = (world.OutOfTurn expected, refl, refl)
refusal_is (refusals.MissingReply resolver) numbered = (world.MissingReply resolver, refl, refl)
refusal_is refusals.VersionsEnd numbered = (world.VersionsEnd, refl, refl)
refusal_is refusals.OutOfMemory numbered = let none : IsSome {T = ℕ} None = numbered in cc

-- the definition's answer to an event that was answered
pub answered : (before : TurnCluster) (event : world.Event) (answer : Answer) → AnswersEvent before event (Ok answer)
    → (handle_event before.config before.world event).answer ≡ event_answer_of answer
unfolding answers
answered before event answer is =
    let run = answered_one before (after_event before event) event answer is refl in
    let told : Some (event_answer_of answer) ∷ [] ≡ Some (handle_event before.config before.world event).answer ∷ [] = run.results_are in
    cc

-- the lines of an event that was refused, which changes nothing
pub refused : (before : TurnCluster) (event : world.Event) (refusal : Refusal) → IsSome (refusal_number refusal) → AnswersEvent before event (Err refusal)
    → (event_text event (handle_event before.config before.world event).answer ≡ refusal_line refusal) × (before ≡ after_event before event)
unfolding answers world_after
refused before event refusal numbered is =
    let why = refusal_is refusal numbered in
    let there : false ≡ is_none (fault_of refusal) = sym (ap is_none why.1) in
    let run = refused_one before before event refusal there is refl in
    let told : told_refusal (fault_of refusal) ∷ [] ≡ Some (handle_event before.config before.world event).answer ∷ [] = run.results_are in
    let same : told_refusal (fault_of refusal) ≡ Some (world.Refused why.0) = ap told_refusal why.1 in
    let answer : (handle_event before.config before.world event).answer ≡ world.Refused why.0 = cc in
    (ap (event_text event) answer ∙ ap refusal_line why.2, run.after_is)

-- what is still to be printed and carried out, after one more event
pub after_one : (first now next : TurnCluster) (event : Event) (left rest : List Event) (text more all : List ℕ) (ends : World)
    → left ≡ event ∷ rest
    → more ≡ text ++ event_text (event_of event) (handle_event now.config now.world (event_of event)).answer
    → next ≡ after_event now (event_of event)
    → now.config ≡ first.config
    → text ++ events_text (map event_of left) (answers first.config now.world (map event_of left)) ≡ all
    → world_after first.config now.world (map event_of left) ≡ ends
    → (next.config ≡ first.config)
    × (more ++ events_text (map event_of rest) (answers first.config next.world (map event_of rest)) ≡ all)
    × (world_after first.config next.world (map event_of rest) ≡ ends)
unfolding answers world_after
after_one first now next event left rest text more all ends split grown after config printed made =
    let handled = handle_event first.config now.world (event_of event) in
    let line = event_text (event_of event) handled.answer in
    let lines = events_text (map event_of rest) (answers first.config handled.world (map event_of rest)) in
    let text_is : text ++ (line ++ lines) ≡ all = rw split at printed in
    let world_is : world_after first.config handled.world (map event_of rest) ≡ ends = rw split at made in
    let more_is : more ≡ text ++ line = rw config at grown in
    let next_config : next.config ≡ first.config = ap (λ (c : TurnCluster). c.config) after ∙ config in
    let next_world : next.world ≡ handled.world = rw config at (ap (λ (c : TurnCluster). c.world) after) in (
      next_config,
      rw (next_world, more_is) (append_assoc text line lines ∙ text_is),
      rw next_world world_is,
    )

-- the cluster after the last event
pub after_all : (first now : TurnCluster) (left : List Event) (ends : World) → length left ≡ 0 → now.config ≡ first.config
    → world_after first.config now.world (map event_of left) ≡ ends → now ≡ record { config = first.config; world = ends }
unfolding world_after
after_all first now [] ends none config made = ap₂ (λ config world. let c : TurnCluster = record { config = config; world = world } in c) config made
after_all first now (event ∷ left) ends none config made = cc
