-- The limits of keys and values, and the faults of a range and of a change (this project's
-- profile).
use Rattle.std.specs.Prelude.{ℕ, List, [], ◌∷◌, length, not, ◌||◌, nat_lt, if◌then◌else◌, Option}
use Rattle.std.specs.Prelude.{Some, None}
use Rattle.system_keys.specs.declared.refusal.Refusal.{Refusal}
use Rattle.system_keys.specs.declared.refusal.Refusal.TheVariants.{KeyTooLong, ValueTooLong}
use Rattle.system_keys.specs.declared.refusal.Refusal.TheVariants.{KeyOutside, EmptyRange, BadRow}
use Rattle.system_keys.specs.Families.{kind_of}
use Rattle.system_keys.specs.Locations.{is_row_value}
use Rattle.system_keys.specs.Keys.{Key, is_key_below, is_key_up_to}

-- the end of the key space, `\xff\xff` (release 7.1)
abbrev pub key_space_end : Key
key_space_end = 255 ∷ 255 ∷ []

-- the greatest length in bytes of a key, and of the begin of a range
abbrev pub key_limit : ℕ
key_limit = 10000

-- the greatest length in bytes of the end of a range
abbrev pub end_limit : ℕ
end_limit = 10001

-- the greatest length in bytes of a value, before its versionstamp is filled in
abbrev pub value_limit : ℕ
value_limit = 100000

-- the first fault of a range from `begin` up to `end`, in the order of the numbers
abbrev pub range_fault : Key → Key → Option Refusal
range_fault begin end =
    if nat_lt key_limit (length begin) || nat_lt end_limit (length end) then Some KeyTooLong
    else if not (is_key_up_to end key_space_end) || not (is_key_below begin key_space_end)
    then Some KeyOutside
    else if not (is_key_below begin end) then Some EmptyRange
    else None

-- the first fault of a Set of `key` to `value`, in the order of the numbers
abbrev pub set_fault : Key → List ℕ → Option Refusal
set_fault key value =
    if nat_lt key_limit (length key) then Some KeyTooLong
    else if nat_lt value_limit (length value) then Some ValueTooLong
    else if not (is_key_below key key_space_end) then Some KeyOutside
    else if not (is_row_value (kind_of key) value) then Some BadRow
    else None
