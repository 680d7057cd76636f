-- How far resolvers have come, and the order in which they stand.
use Rattle.std.specs.Prelude.{◌≡◌, ℕ, ◌<◌, ◌≤◌, List, slice_get, Some}
use Rattle.model.specs.Numbers.{ResolverNumber, Version}
use Rattle.locked_resolvers.specs.Resolvers.{LockedResolverView}

-- the resolvers stand in the order of their numbers, from 0
abbrev pub AreInOrder : List LockedResolverView → Type 0
AreInOrder resolvers =
    (place : ℕ) (resolver : LockedResolverView) → slice_get resolvers place ≡ Some resolver
    → resolver.memory.number ≡ place

-- each of the resolvers has reached the version
abbrev pub AreAtLeast : Version → List LockedResolverView → Type 0
AreAtLeast version resolvers =
    (place : ℕ) (resolver : LockedResolverView) → slice_get resolvers place ≡ Some resolver
    → version ≤ resolver.memory.version

-- one of the resolvers has this number, and has not come to the version
pub record HasBehind
    (version : Version) (resolvers : List LockedResolverView) (number : ResolverNumber) :
    Type 0 where
  pub place : ℕ
  pub resolver : LockedResolverView
  pub there : slice_get resolvers place ≡ Some resolver
  pub number_is : resolver.memory.number ≡ number
  pub below : resolver.memory.version < version
