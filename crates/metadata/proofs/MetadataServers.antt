-- The servers that a metadata lists, when entries are put over it and taken back, and when some are removed.
use Rattle.std.proofs.Common.{◌≡◌, sym, ap, ◌∙◌, ℕ, List, [], ◌++◌, if◌then◌else◌, Bool, true, false, ◌&&◌, Option, Some, None, inr}
use Rattle.std.specs.Option.{is_some, option_or}
use Rattle.system_keys.specs.Keys.{Key}
use Rattle.system_keys.specs.Families.{server_tag_family}
use Rattle.system_keys.specs.Rows.{Id}
use Rattle.model.specs.Metadata.{Entries, entry_value, server_tags}
use Rattle.metadata.specs.Overwrites.{is_listed, has_entry, entries_without, IsPutOver}
use Rattle.metadata.specs.CachedTags.{names_server, may_tag_some}
use Rattle.metadata.specs.ServerTables.{ServerTags, TaggedServers, AreServers, AreServerKeys, AreRefreshed, GiveTags, HasPlaces, ServersTakeBack}
use Rattle.metadata.proofs.CachedTags.{begins, removed_same_tag}
use Rattle.metadata.proofs.EntriesLeft.{value_without, without_none}
use Rattle.metadata.proofs.ServerTables.{listed_tag, row_there, there_mapped, servers_refreshed}

abbrev key_of : Id → Key
key_of id = server_tag_family.prefix ++ id

-- ---- entries that are put over others

not_put : (named has : Bool) → named ≡ true → false ≡ (named && has) → has ≡ false
not_put true has n h = sym h
not_put false has n h = absurd (cc)

is_there : (named has : Bool) → true ≡ (named && has) → has ≡ true
is_there true has h = sym h
is_there false has h = absurd (cc)

same_over : (put was now : Option (List ℕ)) → is_some put ≡ false → now ≡ option_or put was → was ≡ now
same_over None was now none over = sym over
same_over (Some value) was now none over = absurd (cc)

some_over : (put was now : Option (List ℕ)) → is_some put ≡ true → now ≡ option_or put was → is_some now ≡ true
some_over None was now there over = absurd (cc)
some_over (Some value) was now there over = ap is_some over

-- only the rows at the keys change, and each is there
pub servers_take_back : (keys : List Key) (puts old new : Entries) → AreServerKeys keys puts → IsPutOver puts old new → ServersTakeBack keys (entry_value old) (entry_value new)
servers_take_back keys puts old new are over = record {
  there = λ key listed. some_over (entry_value puts key) (entry_value old key) (entry_value new key) (is_there (names_server key) (has_entry puts key) (sym listed ∙ are key)) (over key);
  others = λ key named out. same_over (entry_value puts key) (entry_value old key) (entry_value new key) (not_put (names_server key) (has_entry puts key) named (sym out ∙ are key)) (over key);
}

-- the servers, after the rows at the keys are read anew
pub servers_put_over : (keys : List Key) (puts old new : Entries) (before after : ServerTags) → AreServerKeys keys puts → IsPutOver puts old new → AreRefreshed keys (entry_value new) before after → AreServers before (entry_value old) → AreServers after (entry_value new)
servers_put_over keys puts old new before after are over refreshed servers =
    servers_refreshed keys (entry_value old) (entry_value new) before after (λ id size out. (servers_take_back keys puts old new are over).others (key_of id) (begins id) out) refreshed servers

-- ---- and taken back

pub places_taken_back : (keys : List Key) (before now after : Entries) (table : TaggedServers) → ServersTakeBack keys (entry_value before) (entry_value now) → AreServers table.tags (entry_value now) → HasPlaces table keys (entry_value after)
places_taken_back keys before now after table takes are = inr (λ id size listed has. row_there table.tags now id size are ∙ takes.there (key_of id) listed)

pub servers_taken_back : (keys : List Key) (before now after : Entries) (old new : ServerTags) → ServersTakeBack keys (entry_value before) (entry_value now) → after ≡ before → AreRefreshed keys (entry_value after) old new → AreServers old (entry_value now) → AreServers new (entry_value after)
servers_taken_back keys before now after old new takes same refreshed are =
    servers_refreshed keys (entry_value now) (entry_value after) old new (λ id size out. sym (takes.others (key_of id) (begins id) out) ∙ ap (λ (rows : Entries). entry_value rows (key_of id)) (sym same)) refreshed are

-- ---- entries that are removed

value_left : (keys : List Key) (entries left : Entries) (key : Key) (t : Bool) → is_listed keys key ≡ t → left ≡ entries_without keys entries → entry_value left key ≡ (if t then None else entry_value entries key)
value_left keys entries left key t is same =
    ap (λ (rows : Entries). entry_value rows key) same ∙ value_without keys entries key ∙ ap (λ (l : Bool). if l then None else entry_value entries key) is

pub places_left : (keys : List Key) (entries left : Entries) (table : TaggedServers) → left ≡ entries_without keys entries → HasPlaces table keys (entry_value left)
places_left keys entries left table same = inr (λ id size listed has.
    let two : true ≡ false = sym has ∙ there_mapped (entry_value left (key_of id)) ∙ ap is_some (value_left keys entries left (key_of id) true listed same) in absurd (cc))

pub servers_left : (keys : List Key) (entries left : Entries) (old new : ServerTags) → left ≡ entries_without keys entries → AreRefreshed keys (entry_value left) old new → AreServers old (entry_value entries) → AreServers new (entry_value left)
servers_left keys entries left old new same refreshed are =
    servers_refreshed keys (entry_value entries) (entry_value left) old new (λ id size out. sym (value_left keys entries left (key_of id) false out same)) refreshed are

-- ---- the tags that are listed

-- the servers give the tags of all entries
pub servers_give_tags : (entries : Entries) (servers : ServerTags) → AreServers servers (entry_value entries) → GiveTags servers entries
unfolding server_tags
servers_give_tags entries servers are id size = listed_tag servers entries id size are

-- the tags of the servers are still listed, if no hidden entry may give one
pub removed_give_tags : (keys : List Key) (entries : Entries) (servers : ServerTags) → may_tag_some entries keys ≡ false → AreServers servers (entry_value entries) → GiveTags servers (entries_without keys entries)
unfolding server_tags
removed_give_tags keys entries servers none are id size = listed_tag servers entries id size are ∙ removed_same_tag keys entries id none

-- and if no entry is hidden
pub all_give_tags : (hidden : List Key) (entries : Entries) (servers : ServerTags) → hidden ≡ [] → AreServers servers (entry_value entries) → GiveTags servers (entries_without hidden entries)
unfolding server_tags
all_give_tags hidden entries servers none are id size = listed_tag servers entries id size are ∙ ap (λ (rows : Entries). server_tags rows id) (sym (without_none hidden entries none))
