-- What a session answers to each line, and what it keeps after it (this project's profile).
use Rattle.std.specs.Prelude.{ℕ, List, [], ◌∷◌, ◌++◌, codes, nat_le, if◌then◌else◌}
use Rattle.std.specs.Prelude.{Option, Some, None, option_map, Result, Ok, Err}
use Rattle.model.specs.Numbers.{ProxyNumber}
use Rattle.model.specs.Turns.{TurnCluster, after_event}
use Rattle.model.specs.World.{Event, handle_event, initial_world}
use Rattle.system_keys.specs.Keys.{Key}
use Rattle.scripts.specs.Outputs.{refused_output}
use Rattle.scripts.specs.Lines.{line, refused_line}
use Rattle.scripts.specs.declared.script_fault.ScriptFault.{ScriptFault}
use Rattle.sessions.specs.Answers.{Answers, Rules, text_of_lines}
use Rattle.sessions.specs.Lines.{lines_of}
use Rattle.turn_world.specs.Events.{event_of}
use Rattle.turn_world.specs.declared.refusal.Refusal.TheVariants as refusals
use Rattle.turns_run.specs.Lines.{event_text, refusal_line}
use Rattle.turns_run.specs.Text.{proxy_text}
use Rattle.session_run.specs.Lines.{line_of}
use Rattle.session_run.specs.declared.line.Line.{Line}
use Rattle.session_run.specs.declared.line.Line.TheVariants as lines

-- the cluster that a line has begun, with all that was carried out since
abbrev pub State : Type 0
State = Option TurnCluster

-- an answer ends with an empty line
abbrev pub with_empty_line : List ℕ → List ℕ
with_empty_line text = text ++ 10 ∷ []

-- ---- the lines of an answer

-- a cluster was begun
abbrev pub cluster_text : List ℕ
cluster_text = line (codes "cluster")

-- an event or a show that comes before any cluster
abbrev pub no_cluster_text : List ℕ
no_cluster_text = refused_line 72 (codes "NoCluster")

-- an event: the lines that it has in a turns script
abbrev pub carried_out_text : TurnCluster → Event → List ℕ
carried_out_text cluster event =
    event_text event (handle_event cluster.config cluster.world event).answer

-- a proxy, with the tags of the asked keys: the lines that it has at the end of a turns script
abbrev pub show_text : TurnCluster → ProxyNumber → List Key → List ℕ
show_text cluster p ask =
    if nat_le cluster.config.proxies p then refusal_line refusals.NoSuchProxy
    else proxy_text cluster.config cluster.world ask p

-- ---- what a line comes to

-- what the cluster says, if there is one
abbrev pub of_cluster : State → (TurnCluster → List ℕ) → List ℕ
of_cluster None text = no_cluster_text
of_cluster (Some cluster) text = text cluster

abbrev pub line_text : State → Line → List ℕ
line_text state (lines.Cluster config) = cluster_text
line_text state (lines.Event event) =
    of_cluster state (λ cluster. carried_out_text cluster (event_of event))
line_text state (lines.Show show) =
    of_cluster state (λ cluster. show_text cluster show.proxy show.ask)

abbrev pub after_line : State → Line → State
after_line state (lines.Cluster config) =
    Some (record { config = config; world = initial_world config })
after_line state (lines.Event event) =
    option_map (λ (cluster : TurnCluster). after_event cluster (event_of event)) state
after_line state (lines.Show show) = state

-- a line with a fault is refused, and changes nothing
abbrev pub read_text : State → Result Line ScriptFault → List ℕ
read_text state (Ok asked) = line_text state asked
read_text state (Err fault) = (refused_output fault).text

abbrev pub after_read : State → Result Line ScriptFault → State
after_read state (Ok asked) = after_line state asked
after_read state (Err fault) = state

-- how a session answers lines
abbrev pub session_rules : Rules State
session_rules =
    record {
      answer = λ state bytes. with_empty_line (read_text state (line_of bytes));
      after = λ state bytes. after_read state (line_of bytes);
    }

-- the text of a whole session, if no allocation fails
abbrev pub session_text : List ℕ → List ℕ
session_text bytes = text_of_lines session_rules None (lines_of bytes)

-- it answers all lines, and leaves some state
abbrev pub TextAnswersLines : Type 0
TextAnswersLines =
    (bytes : List ℕ)
    → (now : State) × Answers session_rules None (lines_of bytes) (session_text bytes) now
