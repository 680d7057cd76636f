-- The numbers that configure a cluster, and their limits.
-- *Profile*: all of it. Release 7.1 sets these numbers by knobs and by its configuration.
use Rattle.std.specs.Prelude.{ℕ, ◌-◌, ◌^◌, ◌<◌, ◌≤◌, Bool, ◌&&◌, nat_le}
use Rattle.model.specs.Numbers.{Version}

-- How many proxies and resolvers the cluster has, how many versions a snapshot may lie before the
-- version of its batch, and how many versions lie from one batch to the next.
pub record Config : Type 0 where
  pub proxies : ℕ
  pub resolvers : ℕ
  pub window : ℕ
  pub step : ℕ

-- the most proxies of a cluster
abbrev pub proxies_limit : ℕ
proxies_limit = 64

-- the most resolvers of a cluster
abbrev pub resolvers_limit : ℕ
resolvers_limit = 64

-- the greatest window of a cluster
abbrev pub window_limit : ℕ
window_limit = 1000000000

-- each version is below this limit
abbrev pub version_limit : Version
version_limit = 2 ^ 63

-- each number of the cluster is within its limits
pub record IsConfig (config : Config) : Type 0 where
  pub proxies : (1 ≤ config.proxies) × (config.proxies ≤ proxies_limit)
  pub resolvers : (1 ≤ config.resolvers) × (config.resolvers ≤ resolvers_limit)
  pub window : (1 ≤ config.window) × (config.window ≤ window_limit)
  pub step : (1 ≤ config.step) × (config.step < version_limit)

-- the number is from 1 up to the limit
abbrev pub is_from_one_to : (limit n : ℕ) → Bool
is_from_one_to limit n = nat_le 1 n && nat_le n limit

-- the greatest step: with it, the first version is already the greatest
abbrev pub step_limit : ℕ
step_limit = version_limit - 1

-- the test of `IsConfig`
abbrev pub is_config : Config → Bool
is_config config =
    is_from_one_to proxies_limit config.proxies
    && is_from_one_to resolvers_limit config.resolvers
    && is_from_one_to window_limit config.window
    && is_from_one_to step_limit config.step
