-- A loop over keys that blanks those of serverTag entries.
use Rattle.std.proofs.Common.{◌≡◌, refl, ap, ◌∙◌, ℕ, List, [], ◌∷◌, Bool, true, false, if◌then◌else◌, ◌&&◌, ◌||◌, Option, Some}
use Rattle.std.specs.BTreeMap.{insert_entry}
use Rattle.system_keys.specs.Keys.{Key}
use Rattle.system_keys.specs.Families.{is_kept_key}
use Rattle.model.specs.Metadata.{Entries, entry_value}
use Rattle.metadata.specs.Overwrites.{is_same_key, is_listed}
use Rattle.metadata.specs.CachedTags.{names_server, IsBlanked}
use Rattle.metadata.proofs.KeyValues.{key_cmp, same_key, value_put}

abbrev pub is_blank_key : Key → Bool
is_blank_key key = names_server key && is_kept_key key

abbrev pub AreBlanking : (keys : List Key) (left : List Key) (old now : Entries) → Type 0
AreBlanking keys left old now =
    (key : Key) → (if is_blank_key key && is_listed left key then Some [] else entry_value now key) ≡ (if is_blank_key key && is_listed keys key then Some [] else entry_value old key)

one_more : (c s l : Bool) (found : Option (List ℕ)) → (if c && l then Some [] else (if c && s then Some [] else found)) ≡ (if c && (s || l) then Some [] else found)
one_more true true true found = refl
one_more true true false found = refl
one_more true false l found = refl
one_more false s l found = refl

pub blanking_next : (keys : List Key) (k : Key) (left : List Key) (old before after : Entries) → ((key : Key) → entry_value after key ≡ (if is_blank_key key && is_same_key key k then Some [] else entry_value before key))
    → AreBlanking keys (k ∷ left) old before → AreBlanking keys left old after
blanking_next keys k left old before after one so_far = λ key.
    ap (λ (found : Option (List ℕ)). if is_blank_key key && is_listed left key then Some [] else found) (one key)
    ∙ one_more (is_blank_key key) (is_same_key key k) (is_listed left key) (entry_value before key)
    ∙ so_far key

none_left : (c : Bool) (found : Option (List ℕ)) → found ≡ (if c && false then Some [] else found)
none_left true found = refl
none_left false found = refl

pub all_blanked : (keys : List Key) (old now : Entries) → AreBlanking keys [] old now → IsBlanked keys old now
all_blanked keys old now done = λ key. none_left (is_blank_key key) (entry_value now key) ∙ done key

-- a Set of the key
pub blanked_key : (old new : Entries) (key : Key) (value : List ℕ) → names_server key ≡ true → new ≡ (if is_kept_key key then insert_entry key_cmp old key value else old)
    → (other : Key) → entry_value new other ≡ (if is_blank_key other && is_same_key other key then Some value else entry_value old other)
blanked_key old new key value server is other = ap (λ (rows : Entries). entry_value rows other) is ∙ by (is_kept_key key) refl (is_same_key other key) refl
  where
    counts : (s : Bool) → is_same_key other key ≡ s → s ≡ true → is_blank_key other ≡ is_kept_key key
    counts true same h = ap is_blank_key (same_key other key same) ∙ rw server refl
    counts false other_is h = absurd (cc)

    nothing : (c : Bool) → entry_value old other ≡ (if c && false then Some value else entry_value old other)
    nothing true = refl
    nothing false = refl

    by : (k : Bool) → is_kept_key key ≡ k → (s : Bool) → is_same_key other key ≡ s → entry_value (if k then insert_entry key_cmp old key value else old) other ≡ (if is_blank_key other && s then Some value else entry_value old other)
    by true kept true same =
        let c : is_blank_key other ≡ true = counts true same refl ∙ kept in
        value_put old key other value ∙ rw (same, c) refl
    by true kept false apart = value_put old key other value ∙ ap (λ (s : Bool). if s then Some value else entry_value old other) apart ∙ nothing (is_blank_key other)
    by false out true same =
        let c : is_blank_key other ≡ false = counts true same refl ∙ out in rw c refl
    by false out false apart = nothing (is_blank_key other)

-- a key of no server
pub other_key : (old : Entries) (key : Key) (value : List ℕ) → names_server key ≡ false → (other : Key) → entry_value old other ≡ (if is_blank_key other && is_same_key other key then Some value else entry_value old other)
other_key old key value none other = by (is_same_key other key) refl
  where
    nothing : (c : Bool) → entry_value old other ≡ (if c && false then Some value else entry_value old other)
    nothing true = refl
    nothing false = refl

    by : (s : Bool) → is_same_key other key ≡ s → entry_value old other ≡ (if is_blank_key other && s then Some value else entry_value old other)
    by false apart = nothing (is_blank_key other)
    by true same =
        let c : is_blank_key other ≡ false = ap is_blank_key (same_key other key same) ∙ rw none refl in rw c refl
