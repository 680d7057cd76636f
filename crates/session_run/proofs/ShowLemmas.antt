-- A proxy that is shown.
use Rattle.std.proofs.Common.{◌≡◌, ◌<◌, ◌≤◌, ◌++◌, ℕ, List, ap₂, true, false, nat_le, refl}
use Rattle.std.proofs.lemmas.Bool.{le-leb, lt-leb}
use Rattle.system_keys.specs.Keys.{Key}
use Rattle.model.specs.Finishing.{ProxyView}
use Rattle.model.specs.Metadata.{metadata}
use Rattle.model.specs.Turns.{TurnCluster, IsProxyOf}
use Rattle.cluster_lines.specs.MetadataLines.{metadata_text, proxy_line}
use Rattle.turn_world.specs.declared.refusal.Refusal.TheVariants as refusals
use Rattle.turns_run.specs.Lines.{refusal_line}
use Rattle.session_run.specs.Session.{show_text}

pub shown_missing : (cluster : TurnCluster) (p : ℕ) (ask : List Key) → cluster.config.proxies ≤ p → refusal_line refusals.NoSuchProxy ≡ show_text cluster p ask
shown_missing cluster p ask missing = let past : nat_le cluster.config.proxies p ≡ true = le-leb cluster.config.proxies p missing in rw past refl

pub shown_proxy : (cluster : TurnCluster) (p : ℕ) (v : ProxyView) (ask : List Key) → p < cluster.config.proxies → IsProxyOf cluster.config cluster.world p v
    → proxy_line p ++ metadata_text v.version (metadata v.journal) ask ≡ show_text cluster p ask
shown_proxy cluster p v ask there is =
    let within : nat_le cluster.config.proxies p ≡ false = lt-leb cluster.config.proxies p there in
    rw within (ap₂ (λ version journal. proxy_line p ++ metadata_text version (metadata journal) ask) is.version is.journal)
