-- Entries that give the same tags to servers.
use Rattle.std.specs.Prelude.{◌≡◌, true}
use Rattle.system_keys.specs.Keys.{Key}
use Rattle.model.specs.Metadata.{Entries, entry_value}
use Rattle.metadata.specs.CachedTags.{names_server}

-- both entries have the same value at the key of each serverTag row
abbrev pub HaveSameServers : Entries → Entries → Type 0
HaveSameServers old new =
    (key : Key) → names_server key ≡ true → entry_value new key ≡ entry_value old key
