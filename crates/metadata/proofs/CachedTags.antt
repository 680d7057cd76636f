-- The tags of servers stay when entries that may give none are removed, and what is blanked gives none.
use Rattle.std.proofs.Common.{◌≡◌, refl, sym, ap, ◌∙◌, ℕ, List, [], ◌∷◌, ◌++◌, Bool, true, false, if◌then◌else◌, ◌&&◌, ◌||◌, Option, Some, None, not}
use Rattle.std.specs.Option.{is_some, option_or}
use Rattle.system_keys.specs.Keys.{Key}
use Rattle.system_keys.specs.Families.{server_tag_family, is_kept_key}
use Rattle.system_keys.specs.Rows.{Id}
use Rattle.model.specs.Metadata.{Entry, Entries, IsInOrder, entry_value, is_filled, tag_of, AreKept}
use Rattle.model.proofs.Members.{Contains-from_Has}
use Rattle.model.proofs.Metadata.Entries.{filter_in_order}
use Rattle.metadata.specs.Overwrites.{is_same_key, is_listed, has_entry, entries_without, IsPutOver, IsOverwritten}
use Rattle.metadata.specs.CachedTags.{tag_by, names_server, may_tag, may_tag_some, IsBlanked}
use Rattle.metadata.proofs.KeyValues.{same_key, same_itself, same_entries}
use Rattle.metadata.proofs.EntriesLeft.{value_without, value_kept}

pub begins : (id : Id) → names_server (server_tag_family.prefix ++ id) ≡ true
begins id = refl

either : (a b : Bool) → (a || b) ≡ false → (a ≡ false) × (b ≡ false)
either true b h = absurd (cc)
either false b h = (refl, h)

or_right : (a b : Bool) → b ≡ true → (a || b) ≡ true
or_right true b h = refl
or_right false b h = h

-- ---- entries that are removed

listed_may_tag : (entries : Entries) (keys : List Key) (key : Key) → may_tag_some entries keys ≡ false → is_listed keys key ≡ true → may_tag entries key ≡ false
listed_may_tag entries [] key none listed = absurd (cc)
listed_may_tag entries (k ∷ keys) key none listed = by (is_same_key key k) refl listed (listed_may_tag entries keys key (either (may_tag entries k) (may_tag_some entries keys) none).1)
  where
    by : (e : Bool) → is_same_key key k ≡ e → (e || is_listed keys key) ≡ true → (is_listed keys key ≡ true → may_tag entries key ≡ false) → may_tag entries key ≡ false
    by true same l later = ap (may_tag entries) (same_key key k same) ∙ (either (may_tag entries k) (may_tag_some entries keys) none).0
    by false other l later = later l

-- entries that may give no tag are removed, and each server keeps its tag
pub removed_same_tag : (keys : List Key) (entries : Entries) (id : Id) → may_tag_some entries keys ≡ false → tag_by (entry_value entries) id ≡ tag_by (entry_value (entries_without keys entries)) id
removed_same_tag keys entries id none =
    by (is_listed keys key) refl (entry_value entries key) refl ∙ ap tag_of (sym (value_without keys entries key))
  where
    key : Key
    key = server_tag_family.prefix ++ id

    by : (l : Bool) → is_listed keys key ≡ l → (found : Option (List ℕ)) → entry_value entries key ≡ found → tag_of found ≡ tag_of (if l then None else found)
    by false out found is = refl
    by true listed None is = refl
    by true listed (Some []) is = refl
    by true listed (Some (byte ∷ bytes)) is =
        let two : true ≡ false = sym (rw (begins id, is) refl) ∙ listed_may_tag entries keys key none listed in absurd (cc)

-- ---- entries that are blanked before they are removed

pub none_may_tag : (entries : Entries) (keys : List Key) → ((key : Key) → is_listed keys key ≡ true → may_tag entries key ≡ false) → may_tag_some entries keys ≡ false
none_may_tag entries [] all = refl
none_may_tag entries (key ∷ keys) all = rw (all key (rw (same_itself key) refl)) (none_may_tag entries keys (λ k listed. all k (or_right (is_same_key k key) (is_listed keys k) listed)))

-- what is blanked gives no tag
pub blanked_no_tag : (keys : List Key) (before puts old new : Entries) → IsBlanked keys before puts → IsPutOver puts old new → AreKept new → may_tag_some new keys ≡ false
blanked_no_tag keys before puts old new blanked over kept = none_may_tag new keys (λ key listed. by key listed (names_server key) refl (is_kept_key key) refl (has_entry new key) refl)
  where
    no_value : (found : Option (List ℕ)) → is_some found ≡ false → is_filled found ≡ false
    no_value None h = refl
    no_value (Some value) h = absurd (cc)

    by : (key : Key) → is_listed keys key ≡ true → (n : Bool) → names_server key ≡ n → (k : Bool) → is_kept_key key ≡ k → (h : Bool) → has_entry new key ≡ h → (n && is_filled (entry_value new key)) ≡ false
    by key listed false n k is h there = refl
    by key listed true n true is h there =
        let blank_server_tags : entry_value puts key ≡ Some [] = blanked key ∙ rw (listed, n, is) refl in
        ap is_filled (over key ∙ ap (λ (put : Option (List ℕ)). option_or put (entry_value old key)) blank_server_tags)
    by key listed true n false is true there =
        let two : false ≡ true = sym is ∙ value_kept new key (λ row has. kept row (Contains-from_Has new row has)) there in absurd (cc)
    by key listed true n false is false there = no_value (entry_value new key) there

kept_over : (put was now : Option (List ℕ)) (cleared : Bool) → now ≡ option_or put was → false ≡ (not (is_some put) && cleared) → now ≡ option_or put (if cleared then None else was)
kept_over (Some put) was now cleared n r = n
kept_over None was now false n r = n
kept_over None was now true n r = absurd (cc)

left_over : (put blank_server_tags was now : Option (List ℕ)) (counts cleared removed : Bool) → blank_server_tags ≡ (if counts && removed then Some [] else put) → now ≡ option_or blank_server_tags was → removed ≡ (not (is_some put) && cleared)
    → (if removed then None else now) ≡ option_or put (if cleared then None else was)
left_over (Some put) blank_server_tags was now counts cleared true b n r = absurd (cc)
left_over None blank_server_tags was now counts false true b n r = absurd (cc)
left_over None blank_server_tags was now counts true true b n r = refl
left_over put blank_server_tags was now true cleared false b n r = kept_over put was now cleared (n ∙ ap (λ (found : Option (List ℕ)). option_or found was) b) r
left_over put blank_server_tags was now false cleared false b n r = kept_over put was now cleared (n ∙ ap (λ (found : Option (List ℕ)). option_or found was) b) r

-- what is put, the rest blanked before it is removed, gives the entries after both
pub left_blanked : (cleared removed : List Key) (before puts old now after : Entries) → IsInOrder now → IsInOrder after → IsBlanked removed before puts → IsPutOver puts old now
    → ((key : Key) → is_listed removed key ≡ (not (has_entry before key) && is_listed cleared key)) → IsOverwritten cleared before old after → entries_without removed now ≡ after
left_blanked cleared removed before puts old now after s t blanked over hides is =
    same_entries (entries_without removed now) after (filter_in_order (λ (row : Entry). not (is_listed removed row.0)) now s) t (λ key.
    value_without removed now key
    ∙ left_over (entry_value before key) (entry_value puts key) (entry_value old key) (entry_value now key) (names_server key && is_kept_key key) (is_listed cleared key) (is_listed removed key) (blanked key) (over key) (hides key)
    ∙ sym (is key))
