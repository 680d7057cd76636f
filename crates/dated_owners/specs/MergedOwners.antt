-- Lists of owners by which walks visit the same resolvers.
use Rattle.std.specs.Prelude.{◌≡◌, ℕ, List, [], ◌∷◌, Bool, false, nat_eq}
use Rattle.model.specs.Owners.{is_last, walk_visits}
use Rattle.dated_owners.specs.declared.later_owners.LaterOwner.{LaterOwner}
use Rattle.dated_owners.specs.LaterOwners.{with_first}

-- walks over both, back to any bound, visit the same resolvers, and both have the same last owner
pub record WalkAlike (later other : List LaterOwner) : Type 0 where
  pub visits : (bound r : ℕ)
      → walk_visits bound r (with_first later) ≡ walk_visits bound r (with_first other)
  pub last : (r : ℕ) → is_last r (with_first later) ≡ is_last r (with_first other)

-- the owners of a piece once they are merged: no owners stay none
pub record IsMerged (before after : List LaterOwner) : Type 0 where
  pub walks : WalkAlike before after
  pub none : before ≡ [] → after ≡ []

-- all owners have the date
abbrev pub AreDated : (date : ℕ) → List LaterOwner → Type 0
AreDated date [] = Unit {0}
AreDated date (o ∷ later) = (o.date ≡ date) × AreDated date later

-- there is a first owner, and it has the date
abbrev pub begins_dated : (date : ℕ) → List LaterOwner → Bool
begins_dated date [] = false
begins_dated date (o ∷ later) = nat_eq o.date date
