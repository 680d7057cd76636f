-- Each key is of one kind: the families keep apart.
use Rattle.std.proofs.Common.{◌≡◌, ℕ, ◌+◌, Bool, true, false, cond, not, ◌&&◌, ◌||◌, List, [], ◌∷◌, length, drop, refl, sym, ap, subst, ◌∙◌, eq-eqb}
use Rattle.std.specs.Prelude.{nat_eq, IsTrue, ◌↔◌, codes}
use Rattle.std.specs.List.{starts_with}
use Rattle.std.specs.Cmp.Lexicographic.{pointwise}
use Rattle.std.proofs.lemmas.Bool.{and_parts, eqb-true}
use Rattle.system_keys.specs.declared.kind.RowKind.{RowKind}
use Rattle.system_keys.specs.declared.kind.RowKind.TheVariants as kinds
use Rattle.system_keys.specs.Keys.{Key}
use Rattle.system_keys.specs.Families.{kind_of, is_of_kind, is_in, key_servers_family, server_tag_family, locked_family, metadata_version_family, server_keys_family, system_prefix, non_metadata_prefix, server_id_length, slash}

-- ---- what starts with one text does not start with another

-- the texts differ at some place that both have
abbrev differ : List ℕ → List ℕ → Bool
differ [] qs = false
differ (p ∷ ps) [] = false
differ (p ∷ ps) (q ∷ qs) = not (nat_eq p q) || differ ps qs

same_head : (x p q : ℕ) → nat_eq p x ≡ true → nat_eq q x ≡ true → nat_eq p q ≡ true
same_head x p q hp hq = eq-eqb p q (eqb-true p x hp ∙ sym (eqb-true q x hq))

tail_differs : (a b : Bool) → a ≡ true → (not a || b) ≡ true → b ≡ true
tail_differs true b h d = d
tail_differs false b h d = absurd (cc)

apart : (key ps qs : List ℕ) → differ ps qs ≡ true → starts_with nat_eq key ps ≡ true → starts_with nat_eq key qs ≡ true → ⊥
apart key [] qs d p q = cc
apart key (p ∷ ps) [] d hp hq = cc
apart [] (p ∷ ps) (q ∷ qs) d hp hq = cc
apart (x ∷ key) (p ∷ ps) (q ∷ qs) d hp hq =
    let first = and_parts (nat_eq p x) (starts_with nat_eq key ps) hp in
    let second = and_parts (nat_eq q x) (starts_with nat_eq key qs) hq in
    apart key ps qs (tail_differs (nat_eq p q) (differ ps qs) (same_head x p q first.0 second.0) d) first.1 second.1

false_by : (b : Bool) → (b ≡ true → ⊥) → b ≡ false
false_by true h = absurd (h refl)
false_by false h = refl

-- the same text starts with itself
same_starts : (key text : List ℕ) → pointwise nat_eq key text ≡ true → starts_with nat_eq key text ≡ true
same_starts [] [] h = refl
same_starts [] (q ∷ qs) h = absurd (cc)
same_starts (x ∷ key) [] h = absurd (cc)
same_starts (x ∷ key) (q ∷ qs) h =
    let parts = and_parts (nat_eq x q) (pointwise nat_eq key qs) h in
    let first : nat_eq q x ≡ true = eq-eqb q x (sym (eqb-true x q parts.0)) in
    rw first (same_starts key qs parts.1)

-- ---- each family starts with its own text

abbrev first_text : Key → Key → Type 0
first_text key text = starts_with nat_eq key text ≡ true

key_servers_starts : (key : Key) → is_in key_servers_family key ≡ true → first_text key (key_servers_family.prefix)
key_servers_starts key h = h

server_tag_starts : (key : Key) → is_in server_tag_family key ≡ true → first_text key (server_tag_family.prefix)
server_tag_starts key h = (and_parts (starts_with nat_eq key (server_tag_family.prefix)) (nat_eq (length key) (length (server_tag_family.prefix) + server_id_length)) h).0

locked_starts : (key : Key) → is_in locked_family key ≡ true → first_text key (locked_family.prefix)
locked_starts key h = same_starts key (locked_family.prefix) h

version_starts : (key : Key) → is_in metadata_version_family key ≡ true → first_text key (metadata_version_family.prefix)
version_starts key h = same_starts key (metadata_version_family.prefix) h

server_keys_starts : (key : Key) → is_in server_keys_family key ≡ true → first_text key (server_keys_family.prefix)
server_keys_starts key h = (and_parts (starts_with nat_eq key (server_keys_family.prefix)) (starts_with nat_eq (drop (length (server_keys_family.prefix) + server_id_length) key) slash) h).0

system_starts : (key ps : List ℕ) → starts_with nat_eq key (255 ∷ ps) ≡ true → starts_with nat_eq key system_prefix ≡ true
system_starts [] ps h = absurd (cc)
system_starts (x ∷ key) ps h =
    let parts = and_parts (nat_eq 255 x) (starts_with nat_eq key ps) h in
    rw (parts.0) refl

-- ---- the kind by seven tests

abbrev kind_by : Bool → Bool → Bool → Bool → Bool → Bool → Bool → RowKind
kind_by a b c d s e f =
    cond a kinds.KeyServers (cond b kinds.ServerTag (cond c kinds.DatabaseLocked (cond d kinds.MetadataVersion (cond s kinds.ServerKeys (cond e kinds.NonMetadata (cond f kinds.OtherSystem kinds.Normal))))))

abbrev test_by : RowKind → Bool → Bool → Bool → Bool → Bool → Bool → Bool → Bool
test_by kinds.KeyServers a b c d s e f = a
test_by kinds.ServerTag a b c d s e f = b
test_by kinds.DatabaseLocked a b c d s e f = c
test_by kinds.MetadataVersion a b c d s e f = d
test_by kinds.ServerKeys a b c d s e f = s
test_by kinds.OtherSystem a b c d s e f = f && not e && not (a || (b || (c || (d || (s || false)))))
test_by kinds.NonMetadata a b c d s e f = e
test_by kinds.Normal a b c d s e f = not f

own_test : (a b c d s e f : Bool) → test_by (kind_by a b c d s e f) a b c d s e f ≡ true
own_test true b c d s e f = refl
own_test false true c d s e f = refl
own_test false false true d s e f = refl
own_test false false false true s e f = refl
own_test false false false false true e f = refl
own_test false false false false false true f = refl
own_test false false false false false false true = refl
own_test false false false false false false false = refl

abbrev tested : RowKind → Key → Bool
tested kind key =
    test_by kind (is_in key_servers_family key) (is_in server_tag_family key) (is_in locked_family key) (is_in metadata_version_family key) (is_in server_keys_family key) (starts_with nat_eq key non_metadata_prefix) (starts_with nat_eq key system_prefix)

is_of_kind_tested : (kind : RowKind) (key : Key) → is_of_kind kind key ≡ tested kind key
is_of_kind_tested kinds.KeyServers key = refl
is_of_kind_tested kinds.ServerTag key = refl
is_of_kind_tested kinds.DatabaseLocked key = refl
is_of_kind_tested kinds.MetadataVersion key = refl
is_of_kind_tested kinds.ServerKeys key = refl
is_of_kind_tested kinds.OtherSystem key = refl
is_of_kind_tested kinds.NonMetadata key = refl
is_of_kind_tested kinds.Normal key = refl

-- a key meets the condition of its own kind
pub of_its_kind : (key : Key) → is_of_kind (kind_of key) key ≡ true
unfolding kind_of
of_its_kind key =
    is_of_kind_tested (kind_of key) key ∙ own_test (is_in key_servers_family key) (is_in server_tag_family key) (is_in locked_family key) (is_in metadata_version_family key) (is_in server_keys_family key) (starts_with nat_eq key non_metadata_prefix) (starts_with nat_eq key system_prefix)

-- ---- the condition of a kind leaves no other

not_key_servers : (key qs : List ℕ) → differ (key_servers_family.prefix) qs ≡ true → starts_with nat_eq key qs ≡ true → is_in key_servers_family key ≡ false
not_key_servers key qs d q = false_by _ (λ p. apart key (key_servers_family.prefix) qs d p q)

not_server_tag : (key qs : List ℕ) → differ (server_tag_family.prefix) qs ≡ true → starts_with nat_eq key qs ≡ true → is_in server_tag_family key ≡ false
not_server_tag key qs d q = false_by _ (λ p. apart key (server_tag_family.prefix) qs d (server_tag_starts key p) q)

not_locked : (key qs : List ℕ) → differ (locked_family.prefix) qs ≡ true → starts_with nat_eq key qs ≡ true → is_in locked_family key ≡ false
not_locked key qs d q = false_by _ (λ p. apart key (locked_family.prefix) qs d (locked_starts key p) q)

not_version : (key qs : List ℕ) → differ (metadata_version_family.prefix) qs ≡ true → starts_with nat_eq key qs ≡ true → is_in metadata_version_family key ≡ false
not_version key qs d q = false_by _ (λ p. apart key (metadata_version_family.prefix) qs d (version_starts key p) q)

not_server_keys : (key qs : List ℕ) → differ (server_keys_family.prefix) qs ≡ true → starts_with nat_eq key qs ≡ true → is_in server_keys_family key ≡ false
not_server_keys key qs d q = false_by _ (λ p. apart key (server_keys_family.prefix) qs d (server_keys_starts key p) q)

-- a key that does not start with `\xff` is of no family
outside : (key : Key) (b : Bool) → starts_with nat_eq key system_prefix ≡ false → (b ≡ true → starts_with nat_eq key system_prefix ≡ true) → b ≡ false
outside key b normal h = false_by b (λ e. let both : true ≡ false = sym (h e) ∙ normal in cc)

or_parts : (a b : Bool) → not (a || b) ≡ true → (a ≡ false) × (b ≡ false)
or_parts true b h = absurd (cc)
or_parts false true h = absurd (cc)
or_parts false false h = (refl, refl)

not_true : (b : Bool) → not b ≡ true → b ≡ false
not_true true h = absurd (cc)
not_true false h = refl

pub kind_from : (kind : RowKind) (key : Key) → is_of_kind kind key ≡ true → kind_of key ≡ kind
unfolding kind_of
kind_from kinds.KeyServers key h = rw h refl
kind_from kinds.ServerTag key h =
    let a = not_key_servers key (server_tag_family.prefix) refl (server_tag_starts key h) in
    rw (a, h) refl
kind_from kinds.DatabaseLocked key h =
    let p = locked_starts key h in
    let a = not_key_servers key (locked_family.prefix) refl p in
    let b = not_server_tag key (locked_family.prefix) refl p in
    rw (a, b, h) refl
kind_from kinds.MetadataVersion key h =
    let p = version_starts key h in
    let a = not_key_servers key (metadata_version_family.prefix) refl p in
    let b = not_server_tag key (metadata_version_family.prefix) refl p in
    let c = not_locked key (metadata_version_family.prefix) refl p in
    rw (a, b, c, h) refl
kind_from kinds.ServerKeys key h =
    let p = server_keys_starts key h in
    let a = not_key_servers key (server_keys_family.prefix) refl p in
    let b = not_server_tag key (server_keys_family.prefix) refl p in
    let c = not_locked key (server_keys_family.prefix) refl p in
    let d = not_version key (server_keys_family.prefix) refl p in
    rw (a, b, c, d, h) refl
kind_from kinds.NonMetadata key h =
    let a = not_key_servers key non_metadata_prefix refl h in
    let b = not_server_tag key non_metadata_prefix refl h in
    let c = not_locked key non_metadata_prefix refl h in
    let d = not_version key non_metadata_prefix refl h in
    let s = not_server_keys key non_metadata_prefix refl h in
    rw (a, b, c, d, s, h) refl
kind_from kinds.OtherSystem key h =
    let p = and_parts (starts_with nat_eq key system_prefix && not (starts_with nat_eq key non_metadata_prefix)) _ h in
    let q = and_parts (starts_with nat_eq key system_prefix) (not (starts_with nat_eq key non_metadata_prefix)) p.0 in
    let a = or_parts (is_in key_servers_family key) _ p.1 in
    let b = or_parts (is_in server_tag_family key) _ (ap not a.1) in
    let c = or_parts (is_in locked_family key) _ (ap not b.1) in
    let d = or_parts (is_in metadata_version_family key) _ (ap not c.1) in
    let s = or_parts (is_in server_keys_family key) false (ap not d.1) in
    rw (a.0, b.0, c.0, d.0, s.0, not_true _ q.1, q.0) refl
kind_from kinds.Normal key h =
    let f = not_true (starts_with nat_eq key system_prefix) h in
    let a = outside key (is_in key_servers_family key) f (λ e. system_starts key (codes "/keyServers/") e) in
    let b = outside key (is_in server_tag_family key) f (λ e. system_starts key (codes "/serverTag/") (server_tag_starts key e)) in
    let c = outside key (is_in locked_family key) f (λ e. system_starts key (codes "/dbLocked") (locked_starts key e)) in
    let d = outside key (is_in metadata_version_family key) f (λ e. system_starts key (codes "/metadataVersion") (version_starts key e)) in
    let s = outside key (is_in server_keys_family key) f (λ e. system_starts key (codes "/serverKeys/") (server_keys_starts key e)) in
    let e = outside key (starts_with nat_eq key non_metadata_prefix) f (λ e. system_starts key (2 ∷ []) e) in
    rw (a, b, c, d, s, e, f) refl

pub kind_both_ways : (key : Key) (kind : RowKind) → IsTrue (is_of_kind kind key) ↔ (kind_of key ≡ kind)
kind_both_ways key kind = (kind_from kind key, λ e. subst (λ (k : RowKind). is_of_kind k key ≡ true) e (of_its_kind key))
