-- Runs of hidden keyServers rows. A row is hidden if its key is among the hidden keys; a run is what
-- a look-up may jump over. Keys stand here whole, with the prefix of keyServers keys.
use Rattle.std.specs.Prelude.{◌≡◌, List, true, false, ◌&&◌, Bool}
use Rattle.std.specs.List.{AllByRecursion}
use Rattle.system_keys.specs.Keys.{Key, Range, is_key_below}
use Rattle.system_keys.specs.Families.{key_servers_family, is_in}
use Rattle.model.specs.Metadata.{Entry, Entries, is_key_servers}
use Rattle.metadata.specs.MapEntries.{is_serving_inside}
use Rattle.metadata.specs.Overwrites.{is_listed, has_entry}

-- a run of keys: its first key and its last
abbrev pub Run : Type 0
Run = Key × Key

-- The first key of the run begins with the prefix of keyServers keys, and each entry from its first
-- to its last key, both with them, is hidden.
pub record IsHiddenRun (hidden : List Key) (entries : Entries) (run : Run) : Type 0 where
  pub own : is_in key_servers_family run.0 ≡ true
  pub hides :
      (key : Key) → has_entry entries key ≡ true → is_key_below key run.0 ≡ false
      → is_key_below run.1 key ≡ false → is_listed hidden key ≡ true

-- each of the runs is a hidden run
abbrev pub AreHiddenRuns : (hidden : List Key) → Entries → List Run → Type 0
AreHiddenRuns hidden entries runs = AllByRecursion (IsHiddenRun hidden entries) runs

-- the entry is a keyServers row before the key
abbrev pub is_serving_before : Key → Entry → Bool
is_serving_before key entry = is_key_servers entry && is_key_below entry.0 key

-- the entry is a keyServers row inside the range (of keys without the prefix) and after the key
abbrev pub is_serving_after : Key → Range → Entry → Bool
is_serving_after key range entry = is_serving_inside range entry && is_key_below key entry.0
