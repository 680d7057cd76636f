-- Entries that are set one after another, none of them of a serverTag.
use Rattle.std.proofs.Common.{◌≡◌, refl, sym, ap, ◌∙◌, ℕ, ◌+◌, ◌<◌, length, drop, get_or, add-one, List, [], ◌∷◌, ◌++◌, Bool, true, false, if◌then◌else◌, fold, Some, option_map}
use Rattle.std.proofs.Math.Seq.{drop-cons}
use Rattle.std.specs.BTreeMap.{insert_entry}
use Rattle.system_keys.specs.declared.change.Change.TheVariants.{Set}
use Rattle.system_keys.specs.Keys.{Key}
use Rattle.system_keys.specs.Families.{server_tag_family, is_kept_key}
use Rattle.model.specs.Metadata.{Entries, IsInOrder, AreKept, entry_value, after_change}
use Rattle.metadata.specs.Overwrites.{is_same_key, is_listed, TakesBack}
use Rattle.metadata.specs.CachedTags.{names_server, may_tag_some}
use Rattle.metadata.specs.SameServers.{HaveSameServers}
use Rattle.metadata.specs.ServerTables.{ServerTags, AreServers, decoded_tag}
use Rattle.metadata.specs.Started.{Started, IsStarted}
use Rattle.metadata.proofs.CachedTags.{begins}
use Rattle.metadata.proofs.EntriesLeft.{without_none}
use Rattle.metadata.proofs.KeyValues.{key_cmp, same_key, value_put}

-- ---- the servers

pub same_servers_on : (old now new : Entries) → HaveSameServers old now → HaveSameServers now new → HaveSameServers old new
same_servers_on old now new one two = λ key named. two key named ∙ one key named

apart : (key other : Key) → names_server other ≡ false → names_server key ≡ true → is_same_key key other ≡ false
apart key other out named = by (is_same_key key other) refl
  where
    by : (t : Bool) → is_same_key key other ≡ t → is_same_key key other ≡ false
    by true same = let two : true ≡ false = sym named ∙ ap names_server (same_key key other same) ∙ out in absurd (cc)
    by false other_key = other_key

-- one that is put at another key leaves the serverTag entries
pub other_put : (old new : Entries) (key : Key) (value : List ℕ) → names_server key ≡ false → new ≡ insert_entry key_cmp old key value → HaveSameServers old new
other_put old new key value out put = λ other named.
    ap (λ (rows : Entries). entry_value rows other) put
    ∙ value_put old key other value
    ∙ ap (λ (t : Bool). if t then Some value else entry_value old other) (apart other key out named)

-- entries with the same servers have the same table of them
pub servers_stay : (old new : Entries) (servers : ServerTags) → HaveSameServers old new → AreServers servers (entry_value old) → AreServers servers (entry_value new)
servers_stay old new servers same are id size = are id size ∙ ap (option_map decoded_tag) (sym (same (server_tag_family.prefix ++ id) (begins id)))

-- ---- one after another

-- a Set of a kept key puts its entry
pub set_put : (old new : Entries) (key : Key) (value : List ℕ) → is_kept_key key ≡ true → new ≡ insert_entry key_cmp old key value → new ≡ after_change old (Set key value)
set_put old new key value kept put = put ∙ ap (λ (t : Bool). if t then insert_entry key_cmp old key value else old) (sym kept)

-- what is left to do, after one more is done
pub one_done : {X : Type 0} (step : Entries → X → Entries) (xs : List X) (x : X) (i : ℕ) (now next total : Entries) → i < length xs → x ≡ get_or xs i x → next ≡ step now x → fold step now (drop i xs) ≡ total → fold step next (drop (i + 1) xs) ≡ total
one_done step xs x i now next total within at done so_far =
    let split : drop i xs ≡ get_or xs i x ∷ drop (i + 1) xs = rw (add-one, drop-cons xs i x) in
    ap (λ (entries : Entries). fold step entries (drop (i + 1) xs)) (done ∙ ap (step now) at) ∙ ap (fold step now) (sym split) ∙ so_far

-- ---- what is started at once

-- nothing is left to remove
pub started_at_once : (started : Started) (before after now : Entries) → started.removed ≡ [] → started.servers ≡ [] → now ≡ after → TakesBack started.displaced before now → IsInOrder before → AreKept before → HaveSameServers before now → IsStarted started before after now
started_at_once started before after now none no_servers is takes order kept same = record {
  left = without_none started.removed now none ∙ is;
  takes = takes;
  order = order;
  kept = kept;
  servers = record {
    there = λ key listed. let two : false ≡ true = sym (ap (λ (keys : List Key). is_listed keys key) no_servers) ∙ listed in absurd (cc);
    others = λ key named out. sym (same key named);
  };
  blank_server_tags = ap (may_tag_some now) none;
}
