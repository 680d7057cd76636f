-- The owners of a key after the first one, which is always resolver 0 from version 0 on.
use Rattle.std.specs.Prelude.{ℕ, List, [], ◌∷◌, map, Bool, true, false, ◌&&◌, ◌||◌}
use Rattle.std.specs.Prelude.{nat_eq, nat_lt, if◌then◌else◌}
use Rattle.model.specs.Owners.{Owner}
use Rattle.dated_owners.specs.declared.later_owners.LaterOwner.{LaterOwner}

abbrev pub owner_from : LaterOwner → Owner
owner_from o = record { date = o.date; resolver = o.resolver }

-- the first owner, and then these
abbrev pub with_first : (later : List LaterOwner) → List Owner
with_first later = record { date = 0; resolver = 0 } ∷ map owner_from later

-- it is the first owner over again
abbrev pub is_initial_owner : LaterOwner → Bool
is_initial_owner o = nat_eq o.date 0 && nat_eq o.resolver 0

-- No walk needs the first of these owners: it is dated below `oldest`, and so is the next one, or
-- it is the first owner of all keys over again.
abbrev pub is_first_needless : (oldest : ℕ) → List LaterOwner → Bool
is_first_needless oldest [] = false
is_first_needless oldest (o ∷ []) = nat_lt o.date oldest && is_initial_owner o
is_first_needless oldest (o ∷ p ∷ later) =
    nat_lt o.date oldest && (is_initial_owner o || nat_lt p.date oldest)

-- the owners without those at the front that no walk needs
abbrev pub needed : (oldest : ℕ) → List LaterOwner → List LaterOwner
needed oldest [] = []
needed oldest (o ∷ later) =
    if is_first_needless oldest (o ∷ later) then needed oldest later else o ∷ later

abbrev pub is_same_owner : (o p : LaterOwner) → Bool
is_same_owner o p = nat_eq o.date p.date && nat_eq o.resolver p.resolver

-- the two lists are equal
abbrev pub are_same_owners : (later other : List LaterOwner) → Bool
are_same_owners [] [] = true
are_same_owners [] (p ∷ other) = false
are_same_owners (o ∷ later) [] = false
are_same_owners (o ∷ later) (p ∷ other) = is_same_owner o p && are_same_owners later other
