-- What the guards of all proxies and of all resolvers of a cluster show, when all are locked.
use Rattle.std.specs.Prelude.{◌≡◌, ℕ, List, length, slice_get, Some}
use Rattle.model.specs.Configs.{Config}
use Rattle.model.specs.Numbers.{ProxyNumber, ResolverNumber}
use Rattle.locked_cluster.specs.Proxies.{LockedProxyView, IsLockedProxy}
use Rattle.locked_resolvers.specs.Resolvers.{LockedResolverView, IsLockedResolver}

-- the locks of the proxies of these numbers keep these, in their order
abbrev pub AreProxiesKept : Config → (numbers : List ProxyNumber) → List LockedProxyView → Type 0
AreProxiesKept config numbers proxies =
    (place : ℕ) (v : LockedProxyView) → slice_get proxies place ≡ Some v
    → IsLockedProxy config v × (slice_get numbers place ≡ Some v.proxy.number)

-- the locks of the resolvers of these numbers keep these, in their order
abbrev pub AreResolversKept :
    Config → (numbers : List ResolverNumber) → List LockedResolverView → Type 0
AreResolversKept config numbers resolvers =
    (place : ℕ) (w : LockedResolverView) → slice_get resolvers place ≡ Some w
    → IsLockedResolver config w × (slice_get numbers place ≡ Some w.memory.number)

-- all proxies of the cluster as their locks keep them, each at the place of its number
pub record AreLockedProxies (config : Config) (proxies : List LockedProxyView) : Type 0 where
  pub count : length proxies ≡ config.proxies
  pub each :
      (place : ℕ) (v : LockedProxyView) → slice_get proxies place ≡ Some v
      → IsLockedProxy config v × (v.proxy.number ≡ place)

-- all resolvers of the cluster as their locks keep them, each at the place of its number
pub record AreLockedResolvers (config : Config) (resolvers : List LockedResolverView) :
    Type 0 where
  pub count : length resolvers ≡ config.resolvers
  pub each :
      (place : ℕ) (w : LockedResolverView) → slice_get resolvers place ≡ Some w
      → IsLockedResolver config w × (w.memory.number ≡ place)
