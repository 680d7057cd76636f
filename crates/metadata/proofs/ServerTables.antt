-- What the calls of the server table do to what stands beside each server.
use Rattle.std.proofs.Common.{◌≡◌, refl, sym, ap, ◌∙◌, subst, ℕ, ◌+◌, ◌<◌, ◌≤◌, length, drop, List, [], ◌∷◌, ◌++◌, Bool, true, false, cond, if◌then◌else◌, ◌||◌, ◌&&◌, Option, Some, None, Result, Ok, Err, IsOk, OnOk, OnErr, ◌⊎◌, inl, inr, arith}
use Rattle.std.specs.Prelude.{bytes_eq, option_map, option_to_list}
use Rattle.std.specs.Option.{is_some, option_flatten}
use Rattle.std.specs.Result.{result_ok}
use Rattle.std.specs.Cmp.Lexicographic.{bytes_decides}
use Rattle.system_keys.specs.declared.tag.Tag.{Tag}
use Rattle.system_keys.specs.Keys.{Key}
use Rattle.system_keys.specs.Families.{server_tag_family, server_id_length}
use Rattle.system_keys.specs.Rows.{Id, tag_at}
use Rattle.system_keys.specs.declared.refusal.RowFault.{RowFault}
use Rattle.model.specs.Metadata.{Entry, Entries, entry_value, one_tag, tag_of}
use Rattle.metadata.specs.Overwrites.{is_same_key, is_listed, has_entry}
use Rattle.metadata.specs.CachedTags.{Values, names_server, tag_by}
use Rattle.metadata.specs.ServerTables.{ServerTags, TaggedServers, decoded_tag, server_at, server_by, tag_listed, AreServers, AreServerKeys, AreRefreshed, HasPlaces}
use Rattle.metadata.proofs.KeyValues.{same_key, same_itself}

abbrev key_of : Id → Key
key_of id = server_tag_family.prefix ++ id

-- the tag beside a server, if it is listed and has one
abbrev pub beside : Option (Option Tag) → List Tag
beside None = []
beside (Some tag) = option_to_list tag

-- ---- one key

alone : (s : Bool) → (s || false) ≡ s
alone true = refl
alone false = refl

-- the key is of no server
pub none_refreshed : (key : Key) (values : Values) (old : ServerTags) → ((id : Id) → length id ≡ server_id_length → key ≡ server_tag_family.prefix ++ id → false ≡ true) → AreRefreshed (key ∷ []) values old old
none_refreshed key values old none id size = by (is_same_key (key_of id) key) refl
  where
    by : (s : Bool) → is_same_key (key_of id) key ≡ s → server_at old id ≡ (if s || false then server_by values id else server_at old id)
    by true same = let two : false ≡ true = none id size (sym (same_key (key_of id) key same)) in absurd (cc)
    by false apart = refl

-- what stands beside one server changes to what its row gives
one_refreshed : (key : Key) (values : Values) (id : Id) (old new : ServerTags) (w : Option (Option Tag)) → key ≡ key_of id → w ≡ server_by values id → ((q : Id) → server_at new q ≡ cond (bytes_eq id q) w (server_at old q)) → AreRefreshed (key ∷ []) values old new
one_refreshed key values id old new w own is put other size = put other ∙ by (bytes_eq id other) refl (is_same_key (key_of other) key) refl
  where
    by : (b : Bool) → bytes_eq id other ≡ b → (s : Bool) → is_same_key (key_of other) key ≡ s → cond b w (server_at old other) ≡ (if s || false then server_by values other else server_at old other)
    by true same true h = is ∙ ap (server_by values) ((bytes_decides id other).0 same)
    by true same false h =
        let at : key_of other ≡ key = ap key_of (sym ((bytes_decides id other).0 same)) ∙ sym own in
        let two : true ≡ false = sym (same_itself key) ∙ ap (λ (k : Key). is_same_key k key) (sym at) ∙ h in absurd (cc)
    by false apart true h =
        let at : id ≡ other = ap (drop 12) (sym own ∙ sym (same_key (key_of other) key h)) in
        let two : true ≡ false = sym ((bytes_decides id other).1 at) ∙ apart in absurd (cc)
    by false apart false h = refl

-- an insertion with a place succeeds
put_in : {X Y : Type 0} {P : Type 0} (r : Result X Y) (s : ℕ) (found : Option (Option Tag)) → (0 < s → IsOk r) → OnErr r (found ≡ None) → (1 ≤ s) ⊎ (is_some found ≡ true) → OnOk r P → P
put_in (Ok x) s found succeeds absent place p = p
put_in (Err e) s found succeeds absent (inl room) p = let two : false ≡ true = succeeds room in absurd (cc)
put_in (Err e) s found succeeds absent (inr there) p = let two : false ≡ true = sym (ap is_some absent) ∙ there in absurd (cc)

pub row_put : {X Y : Type 0} (r : Result X Y) (key : Key) (values : Values) (id : Id) (table : TaggedServers) (es new : ServerTags) (s : ℕ) (tag : Option Tag) → es ≡ table.tags → s ≡ table.room → key ≡ server_tag_family.prefix ++ id → length id ≡ server_id_length → Some tag ≡ server_by values id
    → HasPlaces table (key ∷ []) values → (0 < s → IsOk r) → OnErr r (server_at es id ≡ None) → OnOk r ((q : Id) → server_at new q ≡ cond (bytes_eq id q) (Some tag) (server_at es q)) → AreRefreshed (key ∷ []) values table.tags new
row_put r key values id table es new s tag tags room own size is places succeeds absent put =
    one_refreshed key values id table.tags new (Some tag) own is (λ q. put_in r s (server_at es id) succeeds absent (place places) put q ∙ ap (λ (servers : ServerTags). cond (bytes_eq id q) (Some tag) (server_at servers q)) tags)
  where
    listed : is_listed (key ∷ []) (key_of id) ≡ true
    listed = alone (is_same_key (key_of id) key) ∙ ap (is_same_key (key_of id)) own ∙ same_itself (key_of id)

    place : HasPlaces table (key ∷ []) values → (1 ≤ s) ⊎ (is_some (server_at es id) ≡ true)
    place (inl h) = inl (omega (arith, h, room))
    place (inr there) = inr (ap (λ (servers : ServerTags). is_some (server_at servers id)) tags ∙ there id size listed (ap is_some (sym is)))

pub row_taken : (key : Key) (values : Values) (id : Id) (table : TaggedServers) (es new : ServerTags) → es ≡ table.tags → key ≡ server_tag_family.prefix ++ id → None ≡ server_by values id → ((q : Id) → server_at new q ≡ cond (bytes_eq id q) None (server_at es q)) → AreRefreshed (key ∷ []) values table.tags new
row_taken key values id table es new tags own is taken = one_refreshed key values id table.tags new None own is (λ q. taken q ∙ ap (λ (servers : ServerTags). cond (bytes_eq id q) None (server_at servers q)) tags)

-- ---- several keys

-- the rows at the keys that are left are still to be read, and can be
pub record AreRefreshing (keys : List Key) (left : List Key) (values : Values) (old : ServerTags) (now : TaggedServers) : Type 0 where
  pub places : HasPlaces now left values
  pub same :
      (id : Id) → length id ≡ server_id_length
      → (if is_listed left (server_tag_family.prefix ++ id) then server_by values id else server_at now.tags id) ≡ (if is_listed keys (server_tag_family.prefix ++ id) then server_by values id else server_at old id)

or_left : (s l : Bool) → (s || false) ≡ true → (s || l) ≡ true
or_left true l h = refl
or_left false l h = absurd (cc)

or_right : (s l : Bool) → l ≡ true → (s || l) ≡ true
or_right true l h = refl
or_right false l h = h

pub first_place : (table : TaggedServers) (k : Key) (left : List Key) (values : Values) → HasPlaces table (k ∷ left) values → HasPlaces table (k ∷ []) values
first_place table k left values (inl h) = inl (omega (arith, h))
first_place table k left values (inr there) = inr (λ id size listed has. there id size (or_left (is_same_key (key_of id) k) (is_listed left (key_of id)) listed) has)

one_more : (s l : Bool) (row old : Option (Option Tag)) → (if l then row else (if s || false then row else old)) ≡ (if s || l then row else old)
one_more true true row old = refl
one_more true false row old = refl
one_more false l row old = refl

still : (s : Bool) (row old : Option (Option Tag)) → is_some row ≡ true → is_some old ≡ true → is_some (if s || false then row else old) ≡ true
still true row old has there = has
still false row old has there = there

pub refreshing_next : (keys : List Key) (k : Key) (left : List Key) (values : Values) (old : ServerTags) (before after : TaggedServers) → AreRefreshed (k ∷ []) values before.tags after.tags → before.room ≤ after.room + 1 → AreRefreshing keys (k ∷ left) values old before → AreRefreshing keys left values old after
refreshing_next keys k left values old before after one room so_far = record {
  places = by so_far.places;
  same = λ id size.
      ap (λ (found : Option (Option Tag)). if is_listed left (key_of id) then server_by values id else found) (one id size)
      ∙ one_more (is_same_key (key_of id) k) (is_listed left (key_of id)) (server_by values id) (server_at before.tags id)
      ∙ so_far.same id size;
}
  where
    by : HasPlaces before (k ∷ left) values → HasPlaces after left values
    by (inl h) = inl (omega (arith, h, room))
    by (inr there) = inr (λ id size listed has.
        ap is_some (one id size)
        ∙ still (is_same_key (key_of id) k) (server_by values id) (server_at before.tags id) has (there id size (or_right (is_same_key (key_of id) k) (is_listed left (key_of id)) listed) has))

pub refreshing_first : (keys : List Key) (left : List Key) (values : Values) (now : TaggedServers) → left ≡ keys → HasPlaces now keys values → AreRefreshing keys left values now.tags now
refreshing_first keys left values now all places = record {
  places = subst (λ (list : List Key). HasPlaces now list values) (sym all) places;
  same = λ id size. ap (λ (list : List Key). if is_listed list (key_of id) then server_by values id else server_at now.tags id) all;
}

pub all_refreshed : (keys : List Key) (values : Values) (old : ServerTags) (now : TaggedServers) → AreRefreshing keys [] values old now → AreRefreshed keys values old now.tags
all_refreshed keys values old now done = done.same

-- ---- the servers of all entries

-- the rows at the other keys are those before
pub servers_refreshed : (keys : List Key) (before after : Values) (old new : ServerTags) → ((id : Id) → length id ≡ server_id_length → is_listed keys (server_tag_family.prefix ++ id) ≡ false → before (server_tag_family.prefix ++ id) ≡ after (server_tag_family.prefix ++ id))
    → AreRefreshed keys after old new → AreServers old before → AreServers new after
servers_refreshed keys before after old new others refreshed are id size = refreshed id size ∙ by (is_listed keys (key_of id)) refl
  where
    by : (l : Bool) → is_listed keys (key_of id) ≡ l → (if l then server_by after id else server_at old id) ≡ server_by after id
    by true listed = refl
    by false out = are id size ∙ ap (λ (found : Option (List ℕ)). option_map decoded_tag found) (others id size out)

no_row : (named has : Bool) (id : Id) (entries : Entries) → named ≡ true → has_entry entries (key_of id) ≡ has → false ≡ (named && has) → has ≡ false
no_row true true id entries n is none = sym none
no_row true false id entries n is none = refl
no_row false has id entries n is none = absurd (cc)

nothing : (found : Option (List ℕ)) → is_some found ≡ false → None ≡ found
nothing None h = refl
nothing (Some value) h = absurd (cc)

-- the table of some entries, which lists no servers before
pub servers_made : (keys : List Key) (entries : Entries) (old new : ServerTags) → old ≡ [] → AreServerKeys keys entries → AreRefreshed keys (entry_value entries) old new → AreServers new (entry_value entries)
servers_made keys entries old new none are refreshed =
    servers_refreshed keys (λ key. None) (entry_value entries) old new (λ id size out. nothing (entry_value entries (key_of id)) (no_row true (has_entry entries (key_of id)) id entries refl refl (sym out ∙ are (key_of id)))) refreshed
    (λ id size. ap (λ (servers : ServerTags). server_at servers id) none)

-- ---- the keys of the serverTag rows

-- the keys so far, and those of the rows that are left, are all
abbrev pub AreKeysSoFar : (rows left : Entries) (keys : List Key) → Type 0
AreKeysSoFar rows left keys = (key : Key) → ((names_server key && has_entry left key) || is_listed keys key) ≡ (names_server key && has_entry rows key)

pub next_key : (rows : Entries) (e : Entry) (left : Entries) (keys next : List Key) → names_server e.0 ≡ true → ((other : Key) → is_listed next other ≡ (is_same_key other e.0 || is_listed keys other)) → AreKeysSoFar rows (e ∷ left) keys → AreKeysSoFar rows left next
next_key rows e left keys next named one so_far key =
    ap (λ (t : Bool). (names_server key && has_entry left key) || t) (one key)
    ∙ by (is_same_key key e.0) refl (names_server key) refl (entry_value left key) (is_listed keys key)
    ∙ so_far key
  where
    by : (s : Bool) → is_same_key key e.0 ≡ s → (n : Bool) → names_server key ≡ n → (found : Option (List ℕ)) (l : Bool) → ((n && is_some found) || (s || l)) ≡ ((n && is_some (cond s (Some e.1) found)) || l)
    by true same true is None l = refl
    by true same true is (Some value) l = refl
    by true same false is found l = let two : false ≡ true = sym is ∙ ap names_server (same_key key e.0 same) ∙ named in absurd (cc)
    by false apart n is found l = refl

pub key_passed : (rows : Entries) (e : Entry) (left : Entries) (keys : List Key) → names_server e.0 ≡ false → AreKeysSoFar rows (e ∷ left) keys → AreKeysSoFar rows left keys
key_passed rows e left keys other so_far key = by (is_same_key key e.0) refl (names_server key) refl (entry_value left key) ∙ so_far key
  where
    by : (s : Bool) → is_same_key key e.0 ≡ s → (n : Bool) → names_server key ≡ n → (found : Option (List ℕ)) → ((n && is_some found) || is_listed keys key) ≡ ((n && is_some (cond s (Some e.1) found)) || is_listed keys key)
    by true same true is found = let two : true ≡ false = sym is ∙ ap names_server (same_key key e.0 same) ∙ other in absurd (cc)
    by true same false is found = refl
    by false apart n is found = refl

none_kept : (n : Bool) (l : Bool) → ((n && false) || l) ≡ l
none_kept true l = refl
none_kept false l = refl

pub all_keys : (rows : Entries) (keys : List Key) → AreKeysSoFar rows [] keys → AreServerKeys keys rows
all_keys rows keys done key = sym (none_kept (names_server key) (is_listed keys key)) ∙ done key

-- ---- the tag of a server

from_result : (r : Result Tag RowFault) → option_to_list (result_ok r) ≡ one_tag r
from_result (Ok tag) = refl
from_result (Err fault) = refl

row_tag : (found : Option (List ℕ)) → beside (option_map decoded_tag found) ≡ tag_of found
row_tag None = refl
row_tag (Some value) = from_result (tag_at value)

-- the tag listed for a server is that of its row
pub listed_tag : (servers : ServerTags) (entries : Entries) (id : Id) → length id ≡ server_id_length → AreServers servers (entry_value entries) → tag_listed servers id ≡ tag_by (entry_value entries) id
listed_tag servers entries id size are = flat (server_at servers id) ∙ ap beside (are id size) ∙ row_tag (entry_value entries (key_of id))
  where
    flat : (found : Option (Option Tag)) → option_to_list (option_flatten found) ≡ beside found
    flat None = refl
    flat (Some tag) = refl

pub there_mapped : (found : Option (List ℕ)) → is_some (option_map decoded_tag found) ≡ is_some found
there_mapped None = refl
there_mapped (Some value) = refl

-- a server is listed exactly if it has a row
pub row_there : (servers : ServerTags) (entries : Entries) (id : Id) → length id ≡ server_id_length → AreServers servers (entry_value entries) → is_some (server_at servers id) ≡ has_entry entries (server_tag_family.prefix ++ id)
row_there servers entries id size are = ap is_some (are id size) ∙ there_mapped (entry_value entries (key_of id))
