-- A session to which a turns script is given line by line (this project's profile).
use Rattle.std.specs.Prelude.{◌≡◌, ℕ, List, ◌∷◌, ◌++◌, map, flat_map, None, Ok, Result}
use Rattle.model.specs.Shares.{each_below}
use Rattle.scripts.specs.declared.script_fault.ScriptFault.{ScriptFault}
use Rattle.sessions.specs.Answers.{answers_to}
use Rattle.sessions.specs.Lines.{lines_of}
use Rattle.turn_world.specs.declared.event.Event.{Event}
use Rattle.turns_run.specs.Scripts.{script_of}
use Rattle.turns_run.specs.Text.{printed_text, turns_text}
use Rattle.turns_run.specs.declared.script.TurnsScript.{TurnsScript}
use Rattle.session_run.specs.Lines.{line_of}
use Rattle.session_run.specs.Session.{with_empty_line, cluster_text, session_rules, session_text}
use Rattle.session_run.specs.declared.line.Line.{Line}
use Rattle.session_run.specs.declared.line.Line.TheVariants as lines

abbrev pub asks_event : Event → Result Line ScriptFault
asks_event event = Ok (lines.Event event)

abbrev pub asks_show : TurnsScript → ℕ → Result Line ScriptFault
asks_show script p = Ok (lines.Show (record { proxy = p; ask = script.ask }))

-- the lines begin the cluster of the script, carry out its events one after another, and then show
-- each proxy with the keys that the script asks
pub record AsksForScript (script : TurnsScript) (lines_given : List (List ℕ)) : Type 0 where
  pub first : List ℕ
  pub events : List (List ℕ)
  pub shows : List (List ℕ)
  pub all : lines_given ≡ first ∷ (events ++ shows)
  pub begins : line_of first ≡ Ok (lines.Cluster script.config)
  pub carries_out : map line_of events ≡ map asks_event script.events
  pub shows_each : map line_of shows ≡ map (asks_show script) (each_below script.config.proxies)

-- the answers are `cluster` and then the parts of the text of the script, in order, each ended by an
-- empty line
pub record AnswersScript (script : TurnsScript) (lines_given : List (List ℕ)) : Type 0 where
  pub parts : List (List ℕ)
  pub text : flat_map (λ part. part) parts ≡ printed_text script
  pub answers : answers_to session_rules None lines_given
      ≡ map with_empty_line (cluster_text ∷ parts)

-- a turns script that is given line by line is answered with its text
abbrev pub LinesGiveTurns : Type 0
LinesGiveTurns =
    (script : TurnsScript) (lines_given : List (List ℕ)) → AsksForScript script lines_given
    → AnswersScript script lines_given

-- lines of which the first begins the cluster of a script, the next carry out its events and the last show each
-- proxy are answered with its text
abbrev pub LinesInOrderGiveTurns : Type 0
LinesInOrderGiveTurns =
    (script : TurnsScript) (first : List ℕ) (events shows : List (List ℕ))
    → line_of first ≡ Ok (lines.Cluster script.config)
    → map line_of events ≡ map (λ event. Ok (lines.Event event)) script.events
    → map line_of shows
    ≡ map (λ p. Ok (lines.Show (record { proxy = p; ask = script.ask }))) (each_below script.config.proxies)
    → AnswersScript script (first ∷ (events ++ shows))

-- The same of bytes: the text of a session is that of turns in parts, an empty line after each, behind the answer to
-- the cluster.
abbrev pub SessionGivesTurns : Type 0
SessionGivesTurns =
    (bytes given : List ℕ) (script : TurnsScript) → script_of bytes ≡ Ok script
    → AsksForScript script (lines_of given)
    → (parts : List (List ℕ)) × ((turns_text bytes).text ≡ flat_map (λ part. part) parts)
    × (session_text given ≡ flat_map with_empty_line (cluster_text ∷ parts))
