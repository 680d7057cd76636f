-- Which owners of a key are asked: the last one, or those that a walk visits.
use Rattle.std.specs.Prelude.{ℕ, List, Bool, filter}
use Rattle.system_keys.specs.Keys.{Range}
use Rattle.model.specs.declared.moves.Move.{Move}
use Rattle.model.specs.Owners.{Owner, is_last, walk_visits, some_key}
use Rattle.model.specs.Shares.{each_below}
use Rattle.dated_owners.specs.declared.later_owners.LaterOwner.{LaterOwner}
use Rattle.dated_owners.specs.declared.walks.Walk.{Walk}
use Rattle.dated_owners.specs.declared.walks.Walk.TheVariants.{LastOwner, BackTo}
use Rattle.dated_owners.specs.LaterOwners.{with_first}

-- the resolver is asked as one of these owners
abbrev pub takes : (walk : Walk) (r : ℕ) (owners : List Owner) → Bool
takes LastOwner r owners = is_last r owners
takes (BackTo bound) r owners = walk_visits bound r owners

-- the same of the owners after the first one
abbrev pub takes_later : (walk : Walk) (r : ℕ) (later : List LaterOwner) → Bool
takes_later walk r later = takes walk r (with_first later)

-- the resolvers that are asked about some key of a range, in rising order
abbrev pub asked_resolvers : (resolvers : ℕ) (moves : List Move) (walk : Walk) (range : Range)
    → List ℕ
asked_resolvers resolvers moves walk range =
    filter (λ r. some_key moves (takes walk r) range) (each_below resolvers)
