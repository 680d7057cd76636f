-- Which changes are state mutations: those that go to every commit proxy (release 7.1).
use Rattle.std.specs.Prelude.{[], ◌∷◌, nat_eq, Bool, false, ◌&&◌, not}
use Rattle.std.specs.List.{starts_with}
use Rattle.system_keys.specs.declared.change.Change.{Change}
use Rattle.system_keys.specs.declared.change.Change.TheVariants.{Set, Clear}
use Rattle.system_keys.specs.Keys.{Key, Range, is_key_below}
use Rattle.system_keys.specs.Families.{system_prefix, non_metadata_prefix}

-- the whole range lies inside `[\xff\x02, \xff\x03)`, the system keys that are no metadata
abbrev pub is_inside_non_metadata : Range → Bool
is_inside_non_metadata range =
    not (is_key_below range.begin non_metadata_prefix)
    && not (is_key_below (255 ∷ 3 ∷ []) range.end)

-- the key has more than one byte and starts with `\xff`
abbrev pub is_past_system_prefix : Key → Bool
is_past_system_prefix [] = false
is_past_system_prefix (x ∷ []) = false
is_past_system_prefix (x ∷ y ∷ rest) = nat_eq x 255

-- the change touches system keys, and not only those that are no metadata
abbrev pub is_state : Change → Bool
is_state (Set key value) =
    starts_with nat_eq key system_prefix && not (starts_with nat_eq key non_metadata_prefix)
is_state (Clear range) = is_past_system_prefix range.end && not (is_inside_non_metadata range)
