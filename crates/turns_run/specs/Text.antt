-- What the bytes of a turns script come to: a text, and how the run ends (this project's profile).
use Rattle.std.specs.Prelude.{ℕ, List, ◌++◌, map, flat_map, Option}
use Rattle.model.specs.Configs.{Config}
use Rattle.model.specs.Numbers.{ProxyNumber}
use Rattle.model.specs.Shares.{each_below}
use Rattle.model.specs.World.{World, answers, initial_world, world_after}
use Rattle.model.specs.World.{finished_version, proxy_metadata}
use Rattle.model.specs.World as world
use Rattle.system_keys.specs.Keys.{Key}
use Rattle.scripts.specs.Outputs.{OutputView, output_for}
use Rattle.scripts.specs.Runs.{WritesTextOf}
use Rattle.scripts.specs.declared.status.RunStatus.{RunStatus}
use Rattle.cluster_lines.specs.MetadataLines.{metadata_text, proxy_line}
use Rattle.turn_world.specs.Events.{event_of}
use Rattle.turns_run.specs.declared.script.TurnsScript.{TurnsScript}
use Rattle.turns_run.specs.Lines.{events_text}
use Rattle.turns_run.specs.Scripts.{script_of}

-- the events of the script, in the model's words
abbrev pub events_of : TurnsScript → List world.Event
events_of script = map event_of script.events

-- a proxy of the world: its number, its routing at its version, and the tags of the asked keys
abbrev pub proxy_text : Config → World → List Key → ProxyNumber → List ℕ
proxy_text config w ask p =
    proxy_line p ++ metadata_text (finished_version w p) (proxy_metadata config w p) ask

-- each proxy of the world, in order
abbrev pub proxies_text : Config → World → List Key → List ℕ
proxies_text config w ask = flat_map (proxy_text config w ask) (each_below config.proxies)

-- the events of the script with their answers, and then each proxy, as the events left it
abbrev pub printed_text : TurnsScript → List ℕ
printed_text script =
    let before = initial_world script.config in
    let events = events_of script in
    events_text events (answers script.config before events)
    ++ proxies_text script.config (world_after script.config before events) script.ask

-- the text and the status of the script that the bytes are, or of its first fault
unfoldable pub turns_text : List ℕ → OutputView
turns_text bytes = output_for printed_text (script_of bytes)

-- the run writes the text that `turns_text` gives the input, or a beginning of it
abbrev pub TakesTurns : Option (List ℕ) → Option (List ℕ) → Option (List ℕ) → RunStatus → Type 0
TakesTurns = WritesTextOf turns_text
