-- A session to which a turns script is given line by line.
use Rattle.std.proofs.Common.{◌≡◌, ◌≤◌, ◌+◌, ◌∙◌, ℕ, zero, suc, List, [], ◌∷◌, ◌++◌, map, refl, sym, ap, ap₂, arith}
use Rattle.std.specs.Prelude.{Some, None, Ok, nat_le, false}
use Rattle.std.specs.List.{flat_map}
use Rattle.std.proofs.lemmas.Bool.{lt-leb}
use Rattle.std.proofs.lemmas.Grind.{flat_map-append}
use Rattle.std.proofs.lemmas.List.{map-append}
use Rattle.std.proofs.lemmas.List.Folds.{flat_map-map}
use Rattle.model.specs.Configs.{Config}
use Rattle.model.specs.Shares.{each_below}
use Rattle.model.specs.Turns.{TurnCluster, after_event}
use Rattle.model.specs.World.{answers, initial_world, world_after}
use Rattle.system_keys.specs.Keys.{Key}
use Rattle.scripts.specs.Outputs.{done, output_for}
use Rattle.sessions.specs.Answers.{answers_to}
use Rattle.sessions.specs.Lines.{lines_of}
use Rattle.turn_world.specs.Events.{event_of}
use Rattle.turn_world.specs.declared.event.Event.{Event}
use Rattle.turns_run.specs.Lines.{events_text}
use Rattle.turns_run.specs.Scripts.{script_of}
use Rattle.turns_run.specs.Text.{printed_text, proxy_text, turns_text}
use Rattle.turns_run.specs.declared.script.TurnsScript.{TurnsScript}
use Rattle.session_run.specs.Lines.{line_of}
use Rattle.session_run.specs.Session.{with_empty_line, carried_out_text, cluster_text, session_rules, session_text, show_text}
use Rattle.session_run.specs.TurnsScripts.{AnswersScript, AsksForScript, asks_event, asks_show}
use Rattle.session_run.specs.declared.line.Line.TheVariants as lines

abbrev joined : List (List ℕ) → List ℕ
joined parts = flat_map (λ part. part) parts

-- ---- events

abbrev event_parts : TurnCluster → List Event → List (List ℕ)
event_parts now [] = []
event_parts now (event ∷ events) = carried_out_text now (event_of event) ∷ event_parts (after_event now (event_of event)) events

abbrev after_events : TurnCluster → List Event → TurnCluster
after_events now [] = now
after_events now (event ∷ events) = after_events (after_event now (event_of event)) events

event_parts-text : (now : TurnCluster) (events : List Event) → joined (event_parts now events) ≡ events_text (map event_of events) (answers now.config now.world (map event_of events))
unfolding answers
event_parts-text now [] = refl
event_parts-text now (event ∷ events) =
    ap (λ text. carried_out_text now (event_of event) ++ text) (event_parts-text (after_event now (event_of event)) events)

after_events-is : (now : TurnCluster) (events : List Event) → after_events now events ≡ record { config = now.config; world = world_after now.config now.world (map event_of events) }
unfolding world_after
after_events-is now [] = refl
after_events-is now (event ∷ events) = after_events-is (after_event now (event_of event)) events

events_answered : (now : TurnCluster) (events : List Event) (given rest : List (List ℕ)) → map line_of given ≡ map asks_event events
    → answers_to session_rules (Some now) (given ++ rest) ≡ map with_empty_line (event_parts now events) ++ answers_to session_rules (Some (after_events now events)) rest
events_answered now [] [] rest same = refl
events_answered now [] (line ∷ given) rest same = cc
events_answered now (event ∷ events) [] rest same = cc
events_answered now (event ∷ events) (line ∷ given) rest same =
    let first : line_of line ≡ Ok (lines.Event event) = cc in
    let others : map line_of given ≡ map asks_event events = cc in
    rw first (ap (λ l. with_empty_line (carried_out_text now (event_of event)) ∷ l) (events_answered (after_event now (event_of event)) events given rest others))

-- ---- proxies

abbrev show_parts : TurnCluster → List Key → List ℕ → List (List ℕ)
show_parts now ask numbers = map (λ p. show_text now p ask) numbers

shows_answered : (now : TurnCluster) (script : TurnsScript) (numbers : List ℕ) (given : List (List ℕ)) → map line_of given ≡ map (asks_show script) numbers
    → answers_to session_rules (Some now) given ≡ map with_empty_line (show_parts now script.ask numbers)
shows_answered now script [] [] same = refl
shows_answered now script [] (line ∷ given) same = cc
shows_answered now script (p ∷ numbers) [] same = cc
shows_answered now script (p ∷ numbers) (line ∷ given) same =
    let first : line_of line ≡ asks_show script p = cc in
    let others : map line_of given ≡ map (asks_show script) numbers = cc in
    rw first (ap (λ l. with_empty_line (show_text now p script.ask) ∷ l) (shows_answered now script numbers given others))

shows_text : (config : Config) (now : TurnCluster) (ask : List Key) (n : ℕ) → now.config ≡ config → n ≤ config.proxies
    → joined (show_parts now ask (each_below n)) ≡ flat_map (proxy_text config now.world ask) (each_below n)
shows_text config now ask zero same within = refl
shows_text config now ask (suc n) same within =
    let below : nat_le now.config.proxies n ≡ false = rw same (lt-leb config.proxies n (omega (arith, within))) in
    let one : show_text now n ask ≡ proxy_text config now.world ask n = rw (below, same) refl in
    let before = shows_text config now ask n same (omega (arith, within)) in
    let last : joined (show_text now n ask ∷ []) ≡ flat_map (proxy_text config now.world ask) (n ∷ []) = ap (λ text. text ++ []) one in
    let split : show_parts now ask (each_below n ++ n ∷ []) ≡ show_parts now ask (each_below n) ++ show_text now n ask ∷ [] = map-append (λ p. show_text now p ask) (each_below n) (n ∷ []) in
    ap joined split ∙ flat_map-append (λ part. part) (show_parts now ask (each_below n)) (show_text now n ask ∷ [])
    ∙ ap₂ (λ text more. text ++ more) before last
    ∙ sym (flat_map-append (proxy_text config now.world ask) (each_below n) (n ∷ []))

-- ---- a whole script

pub script_answered : (script : TurnsScript) (lines_given : List (List ℕ)) → AsksForScript script lines_given → AnswersScript script lines_given
script_answered script lines_given asks =
    let start : TurnCluster = record { config = script.config; world = initial_world script.config } in
    let given = map event_of script.events in
    let ends : TurnCluster = record { config = script.config; world = world_after script.config (initial_world script.config) given } in
    let events = event_parts start script.events in
    let numbers = each_below script.config.proxies in
    let shows = show_parts ends script.ask numbers in
    let carried : after_events start script.events ≡ ends = after_events-is start script.events in
    let shown : answers_to session_rules (Some ends) asks.shows ≡ map with_empty_line shows = shows_answered ends script numbers asks.shows asks.shows_each in
    let answered : answers_to session_rules (Some start) (asks.events ++ asks.shows) ≡ map with_empty_line events ++ map with_empty_line shows =
    events_answered start script.events asks.events asks.shows asks.carries_out
    ∙ ap (λ (c : TurnCluster). map with_empty_line events ++ answers_to session_rules (Some c) asks.shows) carried
    ∙ ap (λ l. map with_empty_line events ++ l) shown in
    let first : answers_to session_rules None (asks.first ∷ (asks.events ++ asks.shows)) ≡ with_empty_line cluster_text ∷ answers_to session_rules (Some start) (asks.events ++ asks.shows) =
    rw asks.begins refl in
    record {
      parts = events ++ shows;
      text = flat_map-append (λ part. part) events shows ∙ ap₂ (λ text more. text ++ more) (event_parts-text start script.events) (shows_text script.config ends script.ask script.config.proxies refl (omega arith));
      answers = ap (answers_to session_rules None) asks.all ∙ first ∙ ap (λ l. with_empty_line cluster_text ∷ l) (answered ∙ sym (map-append with_empty_line events shows));
    }

pub lines_answered : (script : TurnsScript) (first : List ℕ) (events shows : List (List ℕ)) → line_of first ≡ Ok (lines.Cluster script.config)
    → map line_of events ≡ map (λ event. Ok (lines.Event event)) script.events
    → map line_of shows ≡ map (λ p. Ok (lines.Show (record { proxy = p; ask = script.ask }))) (each_below script.config.proxies)
    → AnswersScript script (first ∷ (events ++ shows))
lines_answered script first events shows begins carries_out shows_each =
    script_answered script (first ∷ (events ++ shows)) (record { first = first; events = events; shows = shows; all = refl; begins = begins; carries_out = carries_out; shows_each = shows_each })

-- ---- the same of bytes

text_of_script : (bytes : List ℕ) (script : TurnsScript) → script_of bytes ≡ Ok script → (turns_text bytes).text ≡ printed_text script
unfolding turns_text
text_of_script bytes script is = rw is refl

pub session_is_turns : (bytes given : List ℕ) (script : TurnsScript) → script_of bytes ≡ Ok script → AsksForScript script (lines_of given)
    → (parts : List (List ℕ)) × ((turns_text bytes).text ≡ flat_map (λ part. part) parts) × (session_text given ≡ flat_map with_empty_line (cluster_text ∷ parts))
session_is_turns bytes given script is asks =
    let told = script_answered script (lines_of given) asks in (
      told.parts,
      text_of_script bytes script is ∙ sym told.text,
      ap joined told.answers ∙ flat_map-map (λ part. part) with_empty_line (cluster_text ∷ told.parts),
    )
