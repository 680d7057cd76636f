-- Keys of entries, by where they stand to the keyServers keys.
use Rattle.std.specs.Prelude.{◌++◌, if◌then◌else◌}
use Rattle.system_keys.specs.Keys.{Key, is_key_below}
use Rattle.system_keys.specs.Families.{key_servers_family, is_in}
use Rattle.metadata.specs.declared.entry_key.KeyClass.{KeyClass}
use Rattle.metadata.specs.declared.entry_key.KeyClass.TheVariants as classes

-- whether a key is one of the keyServers keys, or is before or after all of them
abbrev pub class_of : Key → KeyClass
class_of key =
    if is_in key_servers_family key then classes.KeyServers
    else if is_key_below key key_servers_family.prefix then classes.Before
    else classes.After

-- the key of a class: that of a keyServers entry is what follows their prefix
abbrev pub whole_key : KeyClass → Key → Key
whole_key classes.Before rest = rest
whole_key classes.KeyServers rest = key_servers_family.prefix ++ rest
whole_key classes.After rest = rest
