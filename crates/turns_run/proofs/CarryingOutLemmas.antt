-- Events that are carried out as their tokens come.
use Rattle.std.proofs.Common.{◌≡◌, ◌∙◌, ◌++◌, ◌∷◌, [], ℕ, List, map, refl, sym, ap, ap₂, append_assoc}
use Rattle.std.specs.Prelude.{Ok, Some}
use Rattle.std.proofs.lemmas.List.{append-nil}
use Rattle.model.specs.Turns.{TurnCluster, after_event}
use Rattle.model.specs.Configs.{Config}
use Rattle.model.specs.World.{answers, handle_event, initial_world, world_after}
use Rattle.serde_json.specs.Data.{Data}
use Rattle.system_keys.specs.Keys.{Key}
use Rattle.scripts.specs.Outputs.{done}
use Rattle.scripts.specs.Scripts.{checked_raw}
use Rattle.scripts.specs.Values.{value_of}
use Rattle.scripts.specs.Checks.{each_checked}
use Rattle.turn_world.specs.Events.{event_of}
use Rattle.turn_world.specs.declared.event.Event.{Event}
use Rattle.turns_run.specs.Lines.{event_text, events_text}
use Rattle.turns_run.specs.Checks.{checked_event, checked_script}
use Rattle.turns_run.specs.Scripts.{script_of}
use Rattle.turns_run.specs.Shapes.{script_shape}
use Rattle.turns_run.specs.Text.{printed_text, proxies_text, turns_text}
use Rattle.turns_run.specs.declared.script.TurnsScript.{TurnsScript}
use Rattle.turns_run.specs.CarryingOut.{AreCarriedOut, AreCarriedOutFrom}
use Rattle.turns_run.specs.declared.script.RawEvent.{RawEvent}
use Rattle.turns_run.proofs.AnswerLemmas.{after_all, after_one}

-- the events so far were carried out and printed: whatever events follow, the same is left to do
pub record SoFarCarriedOut (events : List Event) (old : List ℕ) (before : TurnCluster) (new : List ℕ) (now : TurnCluster) : Type 0 where
  pub config : now.config ≡ before.config
  pub printed : (rest : List Event) → new ++ events_text (map event_of rest) (answers before.config now.world (map event_of rest))
      ≡ old ++ events_text (map event_of (events ++ rest)) (answers before.config before.world (map event_of (events ++ rest)))
  pub carried_out : (rest : List Event) → world_after before.config now.world (map event_of rest) ≡ world_after before.config before.world (map event_of (events ++ rest))

pub carry_out_start : (old : List ℕ) (before : TurnCluster) → SoFarCarriedOut [] old before old before
carry_out_start old before = record { config = refl; printed = λ rest. refl; carried_out = λ rest. refl }

pub carry_out_turn : (events : List Event) (old : List ℕ) (before : TurnCluster) (new : List ℕ) (now : TurnCluster) (event : Event) (more : List ℕ) (next : TurnCluster)
    → SoFarCarriedOut events old before new now
    → more ≡ new ++ event_text (event_of event) (handle_event now.config now.world (event_of event)).answer
    → next ≡ after_event now (event_of event)
    → SoFarCarriedOut (events ++ event ∷ []) old before more next
carry_out_turn events old before new now event more next so_far grown after =
    let turn = λ (rest : List Event). after_one before now next event (event ∷ rest) rest new more _ _ refl grown after so_far.config (so_far.printed (event ∷ rest)) (so_far.carried_out (event ∷ rest)) in
    let split = λ (rest : List Event). append_assoc events (event ∷ []) rest in
    record {
      config = (turn []).0;
      printed = λ rest. rw (split rest) (turn rest).1;
      carried_out = λ rest. rw (split rest) (turn rest).2;
    }

pub carry_out_end : (events : List Event) (old : List ℕ) (before : TurnCluster) (new : List ℕ) (now : TurnCluster)
    → SoFarCarriedOut events old before new now → AreCarriedOutFrom events old before new now
unfolding answers world_after
carry_out_end events old before new now so_far =
    let all : events ++ [] ≡ events = append-nil events in
    record {
      printed = sym (append-nil new) ∙ rw all at (so_far.printed []);
      carried_out = after_all before now [] (world_after before.config before.world (map event_of events)) refl so_far.config (rw all at (so_far.carried_out []));
    }

-- the events of a list, carried out by a new cluster
pub carried_out_from_start : (raws : List RawEvent) (events : List Event) (old : List ℕ) (config : Config) (before : TurnCluster) (new : List ℕ) (after : TurnCluster)
    → old ≡ [] → before ≡ record { config = config; world = initial_world config } → each_checked checked_event raws ≡ Ok events → AreCarriedOutFrom events old before new after
    → AreCarriedOut raws new after
carried_out_from_start raws events old config before new after empty first checked carried_out =
    let given = map event_of events in
    let printed : new ≡ events_text given (answers config (initial_world config) given) = rw (empty, first) at carried_out.printed in
    let left : after ≡ record { config = config; world = world_after config (initial_world config) given } = rw first at carried_out.carried_out in
    let same : after.config ≡ config = ap (λ (c : TurnCluster). c.config) left in
    let as_of = λ (k : Config). let c : TurnCluster = record { config = k; world = world_after k (initial_world k) given } in c in
    (events, checked, printed ∙ sym (ap (λ (k : Config). events_text given (answers k (initial_world k) given)) same), left ∙ sym (ap as_of same))

-- the text of a script whose events were carried out by a new cluster
pub text_of_script : (d : Data) (config : Config) (raws : List RawEvent) (ask : List Key) (old text : List ℕ) (after : TurnCluster)
    → script_shape d ≡ Some (record { config = config; events = raws; ask = ask }) → AreCarriedOut raws old after → after.config ≡ config → text ≡ old ++ proxies_text config after.world ask
    → (script : TurnsScript) × (checked_raw checked_script (script_shape d) ≡ Ok script) × (text ≡ printed_text script)
text_of_script d config raws ask old text after shape carried_out same ended =
    let given = map event_of carried_out.0 in
    let printed : old ≡ events_text given (answers config (initial_world config) given) = rw same at carried_out.2 in
    let left : after.world ≡ world_after config (initial_world config) given = rw same at (ap (λ (c : TurnCluster). c.world) carried_out.3) in (
      record { config = config; events = carried_out.0; ask = ask },
      rw (shape, carried_out.1) refl,
      ended ∙ ap₂ (λ lines w. lines ++ proxies_text config w ask) printed left,
    )

pub text_of_bytes : (bytes : List ℕ) (d : Data) (text : List ℕ)
    → value_of bytes ≡ Some d → (script : TurnsScript) × (checked_raw checked_script (script_shape d) ≡ Ok script) × (text ≡ printed_text script)
    → turns_text bytes ≡ done text
unfolding turns_text script_of
text_of_bytes bytes d text value is = rw (value, is.1) (ap done (sym is.2))
