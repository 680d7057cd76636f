-- What is printed of a cluster that carried out events.
use Rattle.std.proofs.Common.{◌≡◌, ◌++◌, ◌+◌, ◌∷◌, [], ◌∙◌, ℕ, List, map, sym, ap, ap₂, add-one, append_assoc}
use Rattle.std.specs.List.{flat_map}
use Rattle.std.proofs.lemmas.Grind.{flat_map-append}
use Rattle.std.proofs.lemmas.List.{append-nil}
use Rattle.system_keys.specs.Keys.{Key}
use Rattle.model.specs.Configs.{Config}
use Rattle.model.specs.Finishing.{ProxyView}
use Rattle.model.specs.Metadata.{metadata}
use Rattle.model.specs.Shares.{each_below}
use Rattle.model.specs.Turns.{TurnCluster, IsProxyOf}
use Rattle.model.specs.World.{World, answers, initial_world, world_after}
use Rattle.cluster_lines.specs.MetadataLines.{metadata_text, proxy_line}
use Rattle.turn_world.specs.Events.{event_of}
use Rattle.turns_run.specs.declared.script.TurnsScript.{TurnsScript}
use Rattle.turns_run.specs.Lines.{events_text}
use Rattle.turns_run.specs.Text.{printed_text, proxies_text, proxy_text}

-- a proxy of the world is printed as the world says
proxy_text-is : (config : Config) (w : World) (ask : List Key) (p : ℕ) (v : ProxyView) → IsProxyOf config w p v
    → proxy_line p ++ metadata_text v.version (metadata v.journal) ask ≡ proxy_text config w ask p
proxy_text-is config w ask p v is = ap₂ (λ version journal. proxy_line p ++ metadata_text version (metadata journal) ask) is.version is.journal

-- one more proxy is printed
pub one_more_proxy : (config : Config) (w : World) (ask : List Key) (p : ℕ) (v : ProxyView) (start before after : List ℕ)
    → IsProxyOf config w p v → before ≡ start ++ flat_map (proxy_text config w ask) (each_below p)
    → after ≡ before ++ (proxy_line p ++ metadata_text v.version (metadata v.journal) ask)
    → after ≡ start ++ flat_map (proxy_text config w ask) (each_below (p + 1))
one_more_proxy config w ask p v start before after is printed more =
    let f = proxy_text config w ask in
    let one : flat_map f (p ∷ []) ≡ f p = append-nil (f p) in
    let grown : flat_map f (each_below (p + 1)) ≡ flat_map f (each_below p) ++ f p =
    rw add-one (flat_map-append f (each_below p) (p ∷ []) ∙ ap (λ text. flat_map f (each_below p) ++ text) one) in
    more ∙ ap₂ (λ text line. text ++ line) printed (proxy_text-is config w ask p v is)
    ∙ append_assoc start (flat_map f (each_below p)) (f p) ∙ ap (λ text. start ++ text) (sym grown)

-- the events were carried out and printed, and then the proxies
pub printed_text-is : (script : TurnsScript) (before after : TurnCluster) (start between new : List ℕ)
    → before ≡ record { config = script.config; world = initial_world script.config }
    → between ≡ start ++ events_text (map event_of script.events) (answers before.config before.world (map event_of script.events))
    → after ≡ record before { world = world_after before.config before.world (map event_of script.events) }
    → new ≡ between ++ proxies_text script.config after.world script.ask
    → new ≡ start ++ printed_text script
printed_text-is script before after start between new first events carried proxies =
    let given = map event_of script.events in
    let lines : between ≡ start ++ events_text given (answers script.config (initial_world script.config) given) = rw first at events in
    let world : after.world ≡ world_after script.config (initial_world script.config) given = ap (λ (c : TurnCluster). c.world) (rw first at carried) in
    proxies ∙ ap₂ (λ text w. text ++ proxies_text script.config w script.ask) lines world
    ∙ append_assoc start (events_text given (answers script.config (initial_world script.config) given)) (proxies_text script.config (world_after script.config (initial_world script.config) given) script.ask)
