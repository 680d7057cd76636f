-- The numbers of a cluster, as they are read.
use Rattle.std.proofs.Common.{◌≡◌, ◌≤◌, ◌<◌, ℕ, Bool, true, false, ◌&&◌, refl, arith, nat_le, if◌then◌else◌}
use Rattle.std.specs.Prelude.{Option, Some, None}
use Rattle.std.specs.Cmp.Derive.{both_true}
use Rattle.std.proofs.lemmas.Bool.{leb-true, le-leb}
use Rattle.model.specs.Configs.{Config, IsConfig, is_config, is_from_one_to, proxies_limit, resolvers_limit, window_limit, step_limit, version_limit}
use Rattle.cluster_scripts.specs.Shapes.{config_within}

both_of : (a b : Bool) → (a && b) ≡ true → (a ≡ true) × (b ≡ true)
both_of true b is = (refl, is)
both_of false b is = let none : false ≡ true = is in cc

within : (limit n : ℕ) → is_from_one_to limit n ≡ true → (1 ≤ n) × (n ≤ limit)
within limit n is =
    let (above, below) = both_of (nat_le 1 n) (nat_le n limit) is in
    (leb-true 1 n above, leb-true n limit below)

is_within : (limit n : ℕ) → 1 ≤ n → n ≤ limit → is_from_one_to limit n ≡ true
is_within limit n above below = both_true (le-leb 1 n above) (le-leb n limit below)

below_step : (n : ℕ) → n ≤ step_limit → n < version_limit
below_step n below = omega (arith, below)

to_step : (n : ℕ) → n < version_limit → n ≤ step_limit
to_step n below = omega (arith, below)

-- the test gives true of numbers within the limits
test_within : (config : Config) → IsConfig config → is_config config ≡ true
test_within config is =
    both_true (both_true (both_true
    (is_within proxies_limit config.proxies is.proxies.0 is.proxies.1)
    (is_within resolvers_limit config.resolvers is.resolvers.0 is.resolvers.1))
    (is_within window_limit config.window is.window.0 is.window.1))
    (is_within step_limit config.step is.step.0 (to_step config.step is.step.1))

-- and of no others
within_test : (config : Config) → is_config config ≡ true → IsConfig config
within_test config is =
    let (but_step, step) = both_of _ (is_from_one_to step_limit config.step) is in
    let (but_window, window) = both_of _ (is_from_one_to window_limit config.window) but_step in
    let (proxies, resolvers) = both_of (is_from_one_to proxies_limit config.proxies) (is_from_one_to resolvers_limit config.resolvers) but_window in
    let (above, below) = within step_limit config.step step in
    record {
      proxies = within proxies_limit config.proxies proxies;
      resolvers = within resolvers_limit config.resolvers resolvers;
      window = within window_limit config.window window;
      step = (above, below_step config.step below);
    }

pub within_limits : (config : Config) → IsConfig config → config_within config ≡ Some config
within_limits config is = rw (test_within config is) refl

pub outside_limits : (config : Config) → (IsConfig config → ⊥) → config_within config ≡ None
outside_limits config other = by (is_config config) refl
  where
    by : (b : Bool) → is_config config ≡ b → ◌≡◌ {A = Option Config} (if b then Some config else None) None
    by true is = absurd (other (within_test config is))
    by false is = refl
