-- The metadata of two proxies of a cluster without threads.
use Rattle.std.specs.Prelude.{◌≡◌, ◌⊎◌, ◌<◌, ◌≤◌}
use Rattle.model.specs.Numbers.{ProxyNumber}
use Rattle.model.specs.Metadata.{Entries}
use Rattle.model.specs.Turns.{TurnCluster}
use Rattle.model.specs.World.{finished_version, proxy_metadata}

-- the cluster has both proxies, they are at one version, and this is the metadata of each
pub record AreAtOneVersion
    (cluster : TurnCluster) (first second : ProxyNumber) (mine theirs : Entries) : Type 0 where
  pub first_there : first < cluster.config.proxies
  pub second_there : second < cluster.config.proxies
  pub one_version : finished_version cluster.world first ≡ finished_version cluster.world second
  pub mine_is : mine ≡ proxy_metadata cluster.config cluster.world first
  pub theirs_is : theirs ≡ proxy_metadata cluster.config cluster.world second

-- the cluster lacks one of the proxies, or their versions differ
abbrev pub AreNotAtOneVersion : TurnCluster → (first second : ProxyNumber) → Type 0
AreNotAtOneVersion cluster first second =
    (cluster.config.proxies ≤ first) ⊎ ((cluster.config.proxies ≤ second)
    ⊎ (finished_version cluster.world first ≡ finished_version cluster.world second → ⊥))
