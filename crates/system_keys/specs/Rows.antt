-- The values of the kept rows: one spelling of each, and reading it from the front with the first
-- fault met (this project's profile).
use Rattle.std.specs.Prelude.{◌≡◌, ℕ, ◌<◌, slice_index, zero, suc, ◌+◌, ◌*◌, ◌/◌, ◌%◌, List, []}
use Rattle.std.specs.Prelude.{◌∷◌, ◌++◌, length, take, drop, Bool, true, false, ◌&&◌, nat_lt}
use Rattle.std.specs.Prelude.{nat_eq, if◌then◌else◌, Option, Some, None, Result, Ok, Err}
use Rattle.std.specs.List.{flat_map, list_all}
use Rattle.std.specs.Option.{option_or}
use Rattle.system_keys.specs.declared.refusal.RowFault.{RowFault}
use Rattle.system_keys.specs.declared.refusal.RowFault.TheVariants as faults
use Rattle.system_keys.specs.declared.teams.TeamsFault.{TeamsFault}
use Rattle.system_keys.specs.declared.teams.TeamsFault.TheVariants.{NotRising, TooManyServers}
use Rattle.system_keys.specs.declared.tag.Tag.{Tag}
use Rattle.system_keys.specs.Keys.{is_key_below}
use Rattle.system_keys.specs.Families.{server_id_length}

-- each number is a byte
abbrev pub AreBytes : List ℕ → Type 0
AreBytes bytes = (i : ℕ) → slice_index bytes i < 256

-- a server id is its 16 bytes
abbrev pub Id : Type 0
Id = List ℕ

-- the storage servers of a range of keys: those that have it, and those that it moves to (release
-- 7.1)
pub record Servers : Type 0 where
  pub sources : List Id
  pub destinations : List Id

-- ---- the spelling

-- a count byte, and that many ids
abbrev pub counted_ids : List Id → List ℕ
counted_ids ids = length ids ∷ flat_map (λ (id : Id). id) ids

-- the value of a keyServers row that names servers
abbrev pub key_servers_value : Servers → List ℕ
key_servers_value servers = counted_ids servers.sources ++ counted_ids servers.destinations

-- the value of a serverTag row: a locality byte, and two bytes of the id, the high one first
abbrev pub tag_value : Tag → List ℕ
tag_value tag = tag.locality ∷ tag.id / 256 ∷ tag.id % 256 ∷ []

-- ---- what may be spelled

-- the id is above the one before it, if there is one
abbrev pub is_id_above : Option Id → Id → Bool
is_id_above None id = true
is_id_above (Some before) id = is_key_below before id

-- each id is above the one before it
abbrev pub are_ids_rising : Option Id → List Id → Bool
are_ids_rising before [] = true
are_ids_rising before (id ∷ ids) = is_id_above before id && are_ids_rising (Some id) ids

-- each id has 16 bytes
abbrev pub are_ids : List Id → Bool
are_ids ids = list_all (λ (id : Id). nat_eq (length id) server_id_length) ids

-- what a count byte can count
abbrev pub servers_limit : ℕ
servers_limit = 255

-- why a list of ids has no spelling: a count byte can't count it, or it does not rise
abbrev pub id_list_fault : List Id → Option TeamsFault
id_list_fault ids =
    if nat_lt servers_limit (length ids) then Some TooManyServers
    else if are_ids_rising None ids then None
    else Some NotRising

-- why two lists have no spelling: the sources are looked at first
abbrev pub servers_fault : Servers → Option TeamsFault
servers_fault servers = option_or (id_list_fault servers.sources) (id_list_fault servers.destinations)

-- two lists that have a spelling: each rises and is short enough, and its ids have 16 bytes
pub record HaveSpelling (servers : Servers) : Type 0 where
  pub without_fault : servers_fault servers ≡ None
  pub sources : are_ids servers.sources ≡ true
  pub destinations : are_ids servers.destinations ≡ true

-- ---- reading

-- what is read behind a value, unless its reading met a fault
infixl 10 ◌>>=◌
abbrev pub ◌>>=◌ : {A B : Type 0} → Result A RowFault → (A → Result B RowFault) → Result B RowFault
(Ok x) >>= f = f x
(Err fault) >>= f = Err fault

-- an id in front of those that are read after it
abbrev pub with_first : Id → List Id × List ℕ → List Id × List ℕ
with_first id read = (id ∷ read.0, read.1)

-- n ids after the one before, and the bytes behind them; an id is compared as soon as its bytes are
-- there
unfoldable pub ids_at : ℕ → Option Id → List ℕ → Result (List Id × List ℕ) RowFault
ids_at zero before bytes = Ok ([], bytes)
ids_at (suc n) before bytes =
    if nat_lt (length bytes) server_id_length then Err faults.Truncated
    else if is_id_above before (take server_id_length bytes) then
    ids_at n (Some (take server_id_length bytes)) (drop server_id_length bytes)
    >>= (λ read. Ok (with_first (take server_id_length bytes) read))
    else Err faults.NotRising

-- a count byte, and that many ids
abbrev pub counted_ids_at : List ℕ → Result (List Id × List ℕ) RowFault
counted_ids_at [] = Err faults.Truncated
counted_ids_at (count ∷ bytes) = ids_at count None bytes

-- nothing stands behind the value
abbrev pub at_end : {A : Type 0} → A → List ℕ → Result A RowFault
at_end x [] = Ok x
at_end x (byte ∷ bytes) = Err faults.Trailing

-- n ids from the front, whatever they are
abbrev pub ids_in : ℕ → List ℕ → List Id
ids_in zero bytes = []
ids_in (suc n) bytes = take server_id_length bytes ∷ ids_in n (drop server_id_length bytes)

-- as many ids as the count byte says
abbrev pub ids_listed : List ℕ → List Id
ids_listed [] = []
ids_listed (count ∷ bytes) = ids_in count bytes

-- the servers of a value that is read as one that names servers, or its first fault
abbrev pub servers_at : List ℕ → Result Servers RowFault
servers_at bytes =
    counted_ids_at bytes >>= λ sources.
    counted_ids_at sources.1 >>= λ destinations.
    at_end (record { sources = sources.0; destinations = destinations.0 }) destinations.1

-- a tag by its three bytes: the locality, and the id, the high byte first
abbrev pub tag_from : (locality high low : ℕ) → Tag
tag_from locality high low = record { locality = locality; id = 256 * high + low }

-- the tag of a serverTag value, or its first fault
abbrev pub tag_at : List ℕ → Result Tag RowFault
tag_at (locality ∷ high ∷ low ∷ []) = Ok (tag_from locality high low)
tag_at (locality ∷ high ∷ low ∷ byte ∷ bytes) = Err faults.Trailing
tag_at _ = Err faults.Truncated

-- the faults that the value of a row can have
abbrev pub is_of_rows : RowFault → Bool
is_of_rows faults.Truncated = true
is_of_rows faults.NotRising = true
is_of_rows faults.Trailing = true
is_of_rows _ = false
