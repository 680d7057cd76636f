-- The tags of a change rise without repeats, and are those of the rows that it meets: of the servers
-- that they name, and those that they list.
use Rattle.std.proofs.Common.{◌≡◌, ◌⊎◌, inl, inr, refl, sym, ap, ◌∙◌, subst, ℕ, List, [], ◌∷◌, ◌++◌, Ok, fold, flat_map, Contains, Ordering, Less, Equal, Greater, nat_cmp, is_eq, eqb-true}
use Rattle.std.specs.List.{AllByRecursion}
use Rattle.std.specs.List.Sorted.{IsStrictlySortedBy}
use Rattle.std.specs.BTreeSet.{insert_key}
use Rattle.std.specs.Cmp.{IsTotalOrder, on_total, then_total, nat_cmp_total, unsigned_ties}
use Rattle.std.specs.Ordering.{ordering_reverse, ordering_then, match_ordering}
use Rattle.system_keys.specs.declared.change.Change.{Change}
use Rattle.system_keys.specs.declared.location.Location.TheVariants as locations
use Rattle.system_keys.specs.declared.tag.Tag.{Tag}
use Rattle.system_keys.specs.Rows.{Servers}
use Rattle.system_keys.specs.ListedTags.{ListedTags}
use Rattle.system_keys.specs.Locations.{location_at}
use Rattle.model.specs.Metadata.{Entry, Entries, sorted_tags, tags, entry_tags, server_tags, all_servers, servers_of, all_listed, listed_tags, touched_entries, key_servers_entries}
use Rattle.system_keys.specs.ListedTags.{tag_cmp}
use Rattle.model.specs.Routes.{NamesServerOf, HasTag}
use Rattle.model.proofs.Members.{Has, Has-from_Contains, Contains-from_Has, Has-append_left, Has-append_right, Has-append_cases}
use Rattle.model.proofs.Metadata.Entries.{fold_keeps}
use Rattle.std.proofs.lemmas.List.{append-nil}

tag_total : IsTotalOrder tag_cmp
tag_total = then_total (on_total (λ (t : Tag). t.locality) nat_cmp_total) (on_total (λ (t : Tag). t.id) nat_cmp_total)

-- ---- rising

-- each tag of the list is after this one
abbrev Behind : Tag → List Tag → Type 0
Behind t ts = AllByRecursion (λ (other : Tag). tag_cmp t other ≡ Less) ts

behind_trans : (s t : Tag) (ts : List Tag) → tag_cmp s t ≡ Less → Behind t ts → Behind s ts
behind_trans s t [] h all = tt
behind_trans s t (u ∷ ts) h all = (tag_total.trans s t u h all.0, behind_trans s t ts h all.1)

turned : (s t : Tag) → tag_cmp s t ≡ Greater → tag_cmp t s ≡ Less
turned s t h = tag_total.antisymm t s ∙ ap ordering_reverse h

behind_insert : (s : Tag) (ts : List Tag) (t : Tag) → tag_cmp s t ≡ Less → Behind s ts → Behind s (insert_key tag_cmp ts t)
behind_insert s [] t h all = (h, tt)
behind_insert s (u ∷ ts) t h all = by (tag_cmp t u) (behind_insert s ts t h all.1)
  where
    by : (r : Ordering) → Behind s (insert_key tag_cmp ts t) → Behind s (match_ordering r (t ∷ u ∷ ts) (u ∷ ts) (u ∷ insert_key tag_cmp ts t))
    by Less rest = (h, all)
    by Equal rest = all
    by Greater rest = (all.0, rest)

insert_rises : (ts : List Tag) (t : Tag) → IsStrictlySortedBy tag_cmp ts → IsStrictlySortedBy tag_cmp (insert_key tag_cmp ts t)
unfolding IsStrictlySortedBy
insert_rises [] t s = (tt, tt)
insert_rises (u ∷ ts) t s = by (tag_cmp t u) refl (insert_rises ts t s.1)
  where
    by : (r : Ordering) → tag_cmp t u ≡ r → IsStrictlySortedBy tag_cmp (insert_key tag_cmp ts t) → IsStrictlySortedBy tag_cmp (match_ordering r (t ∷ u ∷ ts) (u ∷ ts) (u ∷ insert_key tag_cmp ts t))
    by Less h rest = ((h, behind_trans t u ts h s.0), s)
    by Equal h rest = s
    by Greater h rest = (behind_insert u ts t (turned t u h) s.0, rest)

pub tags_rise : (rows : Entries) (change : Change) → IsStrictlySortedBy tag_cmp (tags rows change)
unfolding tags IsStrictlySortedBy
tags_rise rows change = fold_keeps (IsStrictlySortedBy tag_cmp) (insert_key tag_cmp) insert_rises [] (flat_map (entry_tags rows) (touched_entries (key_servers_entries rows) change)) tt

-- ---- and no others

first_tied : (r s : Ordering) → ordering_then r s ≡ Equal → r ≡ Equal
first_tied Less s h = absurd (cc)
first_tied Equal s h = refl
first_tied Greater s h = absurd (cc)

second_tied : (r s : Ordering) → ordering_then r s ≡ Equal → s ≡ Equal
second_tied Less s h = absurd (cc)
second_tied Equal s h = h
second_tied Greater s h = absurd (cc)

tied_numbers : (a b : ℕ) → nat_cmp a b ≡ Equal → a ≡ b
tied_numbers a b h = eqb-true a b (unsigned_ties a b ∙ ap is_eq h)

tied_tags : (s t : Tag) → tag_cmp s t ≡ Equal → s ≡ t
tied_tags s t h =
    let same_locality : s.locality ≡ t.locality = tied_numbers s.locality t.locality (first_tied (nat_cmp s.locality t.locality) (nat_cmp s.id t.id) h) in
    let same_id : s.id ≡ t.id = tied_numbers s.id t.id (second_tied (nat_cmp s.locality t.locality) (nat_cmp s.id t.id) h) in
    λ i. record { locality = same_locality i; id = same_id i }

Has-from_insert : (ts : List Tag) (t x : Tag) → Has (insert_key tag_cmp ts t) x → (t ≡ x) ⊎ Has ts x
Has-from_insert [] t x (inl e) = inl e
Has-from_insert [] t x (inr h) = absurd h
Has-from_insert (u ∷ ts) t x h = by (tag_cmp t u) (Has-from_insert ts t x) h
  where
    later : (t ≡ x) ⊎ Has ts x → (t ≡ x) ⊎ Has (u ∷ ts) x
    later (inl e) = inl e
    later (inr k) = inr (inr k)

    by : (r : Ordering) → (Has (insert_key tag_cmp ts t) x → (t ≡ x) ⊎ Has ts x) → Has (match_ordering r (t ∷ u ∷ ts) (u ∷ ts) (u ∷ insert_key tag_cmp ts t)) x → (t ≡ x) ⊎ Has (u ∷ ts) x
    by Less rest h = h
    by Equal rest h = inr h
    by Greater rest (inl e) = inr (inl e)
    by Greater rest (inr h) = later (rest h)

Has-insert : (ts : List Tag) (t x : Tag) → (t ≡ x) ⊎ Has ts x → Has (insert_key tag_cmp ts t) x
Has-insert [] t x (inl e) = inl e
Has-insert [] t x (inr h) = absurd h
Has-insert (u ∷ ts) t x h = by (tag_cmp t u) refl (Has-insert ts t x) h
  where
    by : (r : Ordering) → tag_cmp t u ≡ r → ((t ≡ x) ⊎ Has ts x → Has (insert_key tag_cmp ts t) x) → (t ≡ x) ⊎ Has (u ∷ ts) x → Has (match_ordering r (t ∷ u ∷ ts) (u ∷ ts) (u ∷ insert_key tag_cmp ts t)) x
    by Less tie rest h = h
    by Equal tie rest (inl e) = inl (sym (tied_tags t u tie) ∙ e)
    by Equal tie rest (inr h) = h
    by Greater tie rest (inl e) = inr (rest (inl e))
    by Greater tie rest (inr (inl e)) = inl e
    by Greater tie rest (inr (inr h)) = inr (rest (inr h))

Has-from_fold : (done ts : List Tag) (x : Tag) → Has (fold (insert_key tag_cmp) done ts) x → Has done x ⊎ Has ts x
Has-from_fold done [] x h = inl h
Has-from_fold done (t ∷ ts) x h = by (Has-from_fold (insert_key tag_cmp done t) ts x h)
  where
    first : (t ≡ x) ⊎ Has done x → Has done x ⊎ Has (t ∷ ts) x
    first (inl e) = inr (inl e)
    first (inr h) = inl h

    by : Has (insert_key tag_cmp done t) x ⊎ Has ts x → Has done x ⊎ Has (t ∷ ts) x
    by (inl h) = first (Has-from_insert done t x h)
    by (inr h) = inr (inr h)

Has-fold : (done ts : List Tag) (x : Tag) → Has done x ⊎ Has ts x → Has (fold (insert_key tag_cmp) done ts) x
Has-fold done [] x (inl h) = h
Has-fold done [] x (inr h) = absurd h
Has-fold done (t ∷ ts) x (inl h) = Has-fold (insert_key tag_cmp done t) ts x (inl (Has-insert done t x (inr h)))
Has-fold done (t ∷ ts) x (inr (inl e)) = Has-fold (insert_key tag_cmp done t) ts x (inl (Has-insert done t x (inl e)))
Has-fold done (t ∷ ts) x (inr (inr h)) = Has-fold (insert_key tag_cmp done t) ts x (inr h)

-- an element of a list of which f gives the other
record Giver {X Y : Type 0} (f : X → List Y) (xs : List X) (y : Y) : Type 0 where
  giver : X
  there : Has xs giver
  gives : Has (f giver) y

Giver-from_Has : {X Y : Type 0} (f : X → List Y) (xs : List X) (y : Y) → Has (flat_map f xs) y → Giver f xs y
Giver-from_Has f [] y h = absurd h
Giver-from_Has f (x ∷ xs) y h = by (Has-append_cases (f x) (flat_map f xs) y h) (Giver-from_Has f xs y)
  where
    by : Has (f x) y ⊎ Has (flat_map f xs) y → (Has (flat_map f xs) y → Giver f xs y) → Giver f (x ∷ xs) y
    by (inl h) rest = record { giver = x; there = inl refl; gives = h }
    by (inr h) rest = let g = rest h in record { giver = g.giver; there = inr g.there; gives = g.gives }

Has-from_Giver : {X Y : Type 0} (f : X → List Y) (xs : List X) (x : X) (y : Y) → Has xs x → Has (f x) y → Has (flat_map f xs) y
Has-from_Giver f [] x y h g = absurd h
Has-from_Giver f (z ∷ xs) x y (inl e) g = Has-append_left (f z) (flat_map f xs) y (subst (λ (w : _). Has (f w) y) (sym e) g)
Has-from_Giver f (z ∷ xs) x y (inr h) g = Has-append_right (f z) (flat_map f xs) y (Has-from_Giver f xs x y h g)

-- a tag of a row is that of a server, or it is listed
given_from_Has : (rows : Entries) (row : Entry) (tag : Tag) → Has (entry_tags rows row) tag → NamesServerOf rows row tag ⊎ Contains (listed_tags row.1) tag
unfolding entry_tags
given_from_Has rows row tag h = by (Has-append_cases (flat_map (server_tags rows) (servers_of row.1)) (listed_tags row.1) tag h)
  where
    by : Has (flat_map (server_tags rows) (servers_of row.1)) tag ⊎ Has (listed_tags row.1) tag → NamesServerOf rows row tag ⊎ Contains (listed_tags row.1) tag
    by (inl of_server) =
        let named = Giver-from_Has (server_tags rows) (servers_of row.1) tag of_server in
        inl (record {
          server = named.giver;
          named = Contains-from_Has (servers_of row.1) named.giver named.there;
          tagged = Contains-from_Has (server_tags rows named.giver) tag named.gives;
        })
    by (inr listed) = inr (Contains-from_Has (listed_tags row.1) tag listed)

Has-from_given : (rows : Entries) (row : Entry) (tag : Tag) → NamesServerOf rows row tag ⊎ Contains (listed_tags row.1) tag → Has (entry_tags rows row) tag
unfolding entry_tags
Has-from_given rows row tag (inl h) =
    Has-append_left (flat_map (server_tags rows) (servers_of row.1)) (listed_tags row.1) tag
    (Has-from_Giver (server_tags rows) (servers_of row.1) h.server tag (Has-from_Contains (servers_of row.1) h.server h.named) (Has-from_Contains (server_tags rows h.server) tag h.tagged))
Has-from_given rows row tag (inr h) =
    Has-append_right (flat_map (server_tags rows) (servers_of row.1)) (listed_tags row.1) tag (Has-from_Contains (listed_tags row.1) tag h)

pub HasTag-from_tags : (rows : Entries) (change : Change) (tag : Tag) → Contains (tags rows change) tag → HasTag rows change tag
unfolding tags
HasTag-from_tags rows change tag h = by (Has-from_fold [] (flat_map (entry_tags rows) (touched_entries (key_servers_entries rows) change)) tag (Has-from_Contains (sorted_tags (flat_map (entry_tags rows) (touched_entries (key_servers_entries rows) change))) tag h))
  where
    by : Has {X = Tag} [] tag ⊎ Has (flat_map (entry_tags rows) (touched_entries (key_servers_entries rows) change)) tag → HasTag rows change tag
    by (inl none) = absurd none
    by (inr has) =
        let met = Giver-from_Has (entry_tags rows) (touched_entries (key_servers_entries rows) change) tag has in
        record {
          entry = met.giver;
          touched = Contains-from_Has (touched_entries (key_servers_entries rows) change) met.giver met.there;
          given = given_from_Has rows met.giver tag met.gives;
        }

pub tags-from_HasTag : (rows : Entries) (change : Change) (tag : Tag) → HasTag rows change tag → Contains (tags rows change) tag
unfolding tags
tags-from_HasTag rows change tag h =
    let met = Has-from_Giver (entry_tags rows) (touched_entries (key_servers_entries rows) change) h.entry tag (Has-from_Contains (touched_entries (key_servers_entries rows) change) h.entry h.touched) (Has-from_given rows h.entry tag h.given) in
    Contains-from_Has (sorted_tags (flat_map (entry_tags rows) (touched_entries (key_servers_entries rows) change))) tag (Has-fold [] (flat_map (entry_tags rows) (touched_entries (key_servers_entries rows) change)) tag (inr met))

-- the tags of a row of each form
pub tags_of_servers : (rows : Entries) (row : Entry) (servers : Servers) → location_at row.1 ≡ Ok (locations.Servers servers) → entry_tags rows row ≡ flat_map (server_tags rows) (servers.sources ++ servers.destinations)
unfolding entry_tags
tags_of_servers rows row servers e =
    ap (λ (read : _). flat_map (server_tags rows) (all_servers read) ++ all_listed read) e ∙ append-nil (flat_map (server_tags rows) (servers.sources ++ servers.destinations))

pub tags_of_list : (rows : Entries) (row : Entry) (tags : ListedTags) → location_at row.1 ≡ Ok (locations.Tags tags) → entry_tags rows row ≡ tags.sources ++ tags.destinations
unfolding entry_tags
tags_of_list rows row tags e = ap (λ (read : _). flat_map (server_tags rows) (all_servers read) ++ all_listed read) e
