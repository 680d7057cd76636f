-- Entries that a map lends, and those of a keyServers row.
use Rattle.std.specs.Prelude.{ℕ, List, Bool, ◌&&◌}
use Rattle.std.specs.Borrow.{Bor}
use Rattle.system_keys.specs.Keys.{Key, Range}
use Rattle.model.specs.Metadata.{Entry, is_key_servers, behind_prefix}
use Rattle.model.specs.Metadata.{is_entry_up_to, is_entry_inside}

-- an entry of the map that is lent
abbrev pub lent_entry : Bor Key × Bor (List ℕ) → Entry
lent_entry entry = (entry.0.now, entry.1.now)

-- the entry is a keyServers row, at or before the key
abbrev pub is_serving_up_to : Key → Entry → Bool
is_serving_up_to key entry = is_key_servers entry && is_entry_up_to key (behind_prefix entry)

-- the entry is a keyServers row, after the begin of the range and before its end
abbrev pub is_serving_inside : Range → Entry → Bool
is_serving_inside range entry = is_key_servers entry && is_entry_inside range (behind_prefix entry)
