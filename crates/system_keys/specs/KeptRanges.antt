-- How a range keeps the key at which it begins.
use Rattle.std.specs.Prelude.{◌≤◌, length, take, ⊤}
use Rattle.system_keys.specs.Keys.{Key}
use Rattle.system_keys.specs.declared.range.Begin.{Begin}
use Rattle.system_keys.specs.declared.range.Begin.TheVariants.{Front, Other}

-- the key at which a range with this end begins
abbrev pub begin_of : Begin → (end : Key) → Key
begin_of (Front n) end = take n end
begin_of (Other begin) end = begin

-- the end is long enough for a begin that is a part of it
abbrev pub HasFront : Begin → (end : Key) → Type 0
HasFront (Front n) end = n ≤ length end
HasFront (Other begin) end = ⊤
