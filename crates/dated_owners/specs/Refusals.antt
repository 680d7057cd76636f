-- Which moves a map of owners refuses, and the numbers and names of refusals (this project's
-- profile).
use Rattle.std.specs.Prelude.{ℕ, List, codes, Option, Some, None, nat_le, nat_lt}
use Rattle.std.specs.Prelude.{if◌then◌else◌}
use Rattle.model.specs.OwnerMaps.{OwnerMapView}
use Rattle.dated_owners.specs.declared.refusal.Refusal.{Refusal}
use Rattle.dated_owners.specs.declared.refusal.Refusal.TheVariants.{NoSuchResolver, DateGoesBack}
use Rattle.dated_owners.specs.declared.refusal.Refusal.TheVariants.{OutOfMemory}

-- the number that is printed; `OutOfMemory` has none, and is never printed
abbrev pub refusal_number : Refusal → Option ℕ
refusal_number NoSuchResolver = Some 20
refusal_number DateGoesBack = Some 21
refusal_number OutOfMemory = None

abbrev pub refusal_name : Refusal → List ℕ
refusal_name NoSuchResolver = codes "NoSuchResolver"
refusal_name DateGoesBack = codes "DateGoesBack"
refusal_name OutOfMemory = codes "OutOfMemory"

-- the fault that a refusal names; `OutOfMemory` names none
abbrev pub refusal_fault : Refusal → Option Refusal
refusal_fault OutOfMemory = None
refusal_fault refusal = Some refusal

-- the first fault of a move at this date to this resolver; a date equal to the last one is none
abbrev pub move_fault : (map : OwnerMapView) (date dest : ℕ) → Option Refusal
move_fault map date dest =
    if nat_le map.resolvers dest then Some NoSuchResolver
    else if nat_lt date map.last_date then Some DateGoesBack
    else None
