-- The value of a keyServers row, in its two forms: it names storage servers, or it lists tags. One
-- spelling of each form, and no value of both (this project's profile).
use Rattle.std.specs.Prelude.{◌≡◌, ℕ, List, ◌∷◌, Bool, true, ◌&&◌, nat_eq, if◌then◌else◌}
use Rattle.std.specs.Prelude.{Option, Some, None, Result, Ok, is_ok}
use Rattle.system_keys.specs.declared.refusal.RowFault.{RowFault}
use Rattle.system_keys.specs.declared.kind.RowKind.{RowKind}
use Rattle.system_keys.specs.declared.kind.RowKind.TheVariants as kinds
use Rattle.system_keys.specs.declared.location.Location.{Location}
use Rattle.system_keys.specs.declared.location.Location.TheVariants.{Servers, Tags}
use Rattle.system_keys.specs.Rows.{HaveSpelling, key_servers_value, servers_at, tag_at, ◌>>=◌}
use Rattle.system_keys.specs.ListedTags.{listed_tags_value, listed_tags_fault, listed_tags_at}

-- the value of a keyServers row
abbrev pub location_value : Location → List ℕ
location_value (Servers servers) = key_servers_value servers
location_value (Tags tags) = listed_tags_value tags

-- the location has a value
abbrev pub HasValue : Location → Type 0
HasValue (Servers servers) = HaveSpelling servers
HasValue (Tags tags) = listed_tags_fault tags ≡ None

-- The bytes behind the two zero bytes with which a list of tags begins. Two zero bytes alone are the
-- servers of two empty lists, so at least one byte stands behind them.
abbrev pub after_two_zeros : List ℕ → Option (List ℕ)
after_two_zeros (first ∷ second ∷ byte ∷ bytes) =
    if nat_eq first 0 && nat_eq second 0 then Some (byte ∷ bytes) else None
after_two_zeros _ = None

-- the location of a value, by the bytes behind its two zero bytes, if it begins with them
abbrev pub location_by : Option (List ℕ) → List ℕ → Result Location RowFault
location_by (Some lists) bytes = listed_tags_at lists >>= λ tags. Ok (Tags tags)
location_by None bytes = servers_at bytes >>= λ servers. Ok (Servers servers)

-- the location that a keyServers value gives, or its first fault
abbrev pub location_at : List ℕ → Result Location RowFault
location_at bytes = location_by (after_two_zeros bytes) bytes

-- the value decodes, where rows of this kind have a form
abbrev pub is_row_value : RowKind → List ℕ → Bool
is_row_value kinds.KeyServers value = is_ok (location_at value)
is_row_value kinds.ServerTag value = is_ok (tag_at value)
is_row_value _ value = true
