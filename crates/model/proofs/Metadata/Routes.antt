-- The row that serves a key is the greatest of the keyServers rows at or before it.
use Rattle.std.proofs.Common.{◌≡◌, refl, sym, ap, ◌∙◌, subst, List, [], ◌∷◌, ◌++◌, map, length, take, drop, Bool, true, false, cond, not, Option, Some, None, filter, Contains, Ordering, Less, Equal, nat_cmp, is_lt, nat_eq, take-append-drop, ap₂, inl, inr}
use Rattle.std.proofs.Math.Seq.{take-append_seam, drop-append_seam}
use Rattle.std.specs.Prelude.{◌↔◌}
use Rattle.std.specs.List.{AllByRecursion, last_or, starts_with}
use Rattle.std.specs.List.Sorted.{IsStrictlySortedBy}
use Rattle.std.specs.Map.{keys_of}
use Rattle.std.specs.Ordering.{ordering_then}
use Rattle.std.specs.Cmp.Lexicographic.{slice_cmp, pointwise, same_text, nat_list_eq_equiv}
use Rattle.std.proofs.lemmas.Cmp.{tied_itself, nat_list_cmp_total}
use Rattle.std.specs.Cmp.{nat_cmp_total}
use Rattle.system_keys.specs.Keys.{Key, is_key_below, is_key_up_to}
use Rattle.system_keys.specs.Families.{key_servers_family}
use Rattle.model.specs.Metadata.{Entry, Entries, IsInOrder, key_servers_entries, is_key_servers, behind_prefix, is_entry_up_to, serving_entry}
use Rattle.model.specs.Routes.{Serves}
use Rattle.system_keys.proofs.KeyOrder.{not_below_itself, below_up_to, not_below_back, up_to_is, equal_unless_below}
use Rattle.model.proofs.Members.{Has, Has-from_Contains, Contains-from_Has, Has-filter, Has-from_filter}
use Rattle.model.proofs.Metadata.Entries.{filter_in_order}

abbrev key_cmp : Key → Key → Ordering
key_cmp = slice_cmp nat_cmp

-- ---- the last of rows in order is the greatest

pub up_to_itself : (a : Key) → is_key_up_to a a ≡ true
up_to_itself a = up_to_is a a ∙ ap not (not_below_itself a)

pub not_true : (t : Bool) → not t ≡ true → t ≡ false
not_true true h = absurd (cc)
not_true false h = refl

up_to_less : (a b c : Key) → key_cmp a b ≡ Less → is_key_up_to b c ≡ true → is_key_up_to a c ≡ true
up_to_less a b c h k =
    let not_above : is_key_below c b ≡ false = not_true (is_key_below c b) (sym (up_to_is b c) ∙ k) in
    let below : is_key_below a c ≡ true = below_up_to a b c (ap is_lt h) not_above in
    up_to_is a c ∙ ap not (not_below_back a c below)

-- each of these rows is at or before the row
abbrev AllUpTo : Entry → Entries → Type 0
AllUpTo row rows = AllByRecursion (λ (other : Entry). is_key_up_to other.0 row.0 ≡ true) rows

last_is_greatest : (first : Entry) (rows : Entries) (row : Entry) → IsInOrder (first ∷ rows) → last_or (Some first) rows ≡ Some row → AllUpTo row (first ∷ rows) × Has (first ∷ rows) row
unfolding IsStrictlySortedBy
last_is_greatest first [] row s h = let e : first ≡ row = cc in ((ap (λ (r : Entry). is_key_up_to first.0 r.0) (sym e) ∙ up_to_itself first.0, tt), inl e)
last_is_greatest first (next ∷ rows) row s h =
    let later = last_is_greatest next rows row s.1 h in
    ((up_to_less first.0 next.0 row.0 s.0.0 later.0.0, later.0), inr later.1)

greatest_of : (rows : Entries) (row : Entry) → IsInOrder rows → last_or None rows ≡ Some row → AllUpTo row rows × Has rows row
greatest_of [] row s h = absurd (cc)
greatest_of (first ∷ rows) row s h = last_is_greatest first rows row s h

last_there : (first : Entry) (rows : Entries) → last_or (Some first) rows ≡ None → ⊥
last_there first [] h = cc
last_there first (next ∷ rows) h = last_there next rows h

none_of : (rows : Entries) (row : Entry) → last_or None rows ≡ None → Has rows row → ⊥
none_of [] row h has = has
none_of (first ∷ rows) row h has = last_there first rows h

each : {X : Type 0} (P : X → Type 0) (xs : List X) (x : X) → AllByRecursion P xs → Has xs x → P x
each P [] x all has = absurd has
each P (y ∷ ys) x all (inl e) = subst P e all.0
each P (y ∷ ys) x all (inr has) = each P ys x all.1 has

pub serves_from : (rows : Entries) (key : Key) (row : Entry) → IsInOrder rows → serving_entry rows key ≡ Some row → Serves rows key row
serves_from rows key row s h =
    let found = greatest_of (filter (is_entry_up_to key) rows) row (filter_in_order (is_entry_up_to key) rows s) h in
    let kept = Has-from_filter (is_entry_up_to key) rows row found.1 in
    record {
      there = Contains-from_Has rows row kept.0;
      up_to = kept.1;
      greatest = λ other has up. each (λ (r : Entry). is_key_up_to r.0 row.0 ≡ true) (filter (is_entry_up_to key) rows) other found.0 (Has-filter (is_entry_up_to key) rows other (Has-from_Contains rows other has) up);
    }

pub none_serves : (rows : Entries) (key : Key) (row : Entry) → serving_entry rows key ≡ None → Contains rows row → is_entry_up_to key row ≡ false
none_serves rows key row h has = by (is_entry_up_to key row) refl
  where
    by : (t : Bool) → is_entry_up_to key row ≡ t → t ≡ false
    by true up = absurd (none_of (filter (is_entry_up_to key) rows) row h (Has-filter (is_entry_up_to key) rows row (Has-from_Contains rows row has) up))
    by false up = refl

-- ---- no other row serves the key

untied : (a : Key) → key_cmp a a ≡ Less → ⊥
untied a h = let e : Less ≡ Equal = sym h ∙ tied_itself nat_list_cmp_total a in cc

first_apart : (first row : Entry) (rows : Entries) → AllByRecursion (λ (other : Key). key_cmp first.0 other ≡ Less) (keys_of rows) → Has rows row → first.0 ≡ row.0 → ⊥
first_apart first row [] all has e = has
first_apart first row (next ∷ rows) all (inl same) e = untied first.0 (ap (λ (k : Key). key_cmp first.0 k) (e ∙ ap (λ (r : Entry). r.0) (sym same)) ∙ all.0)
first_apart first row (next ∷ rows) all (inr has) e = first_apart first row rows all.1 has e

one_row_a_key : (rows : Entries) (p q : Entry) → IsInOrder rows → Has rows p → Has rows q → p.0 ≡ q.0 → p ≡ q
unfolding IsStrictlySortedBy
one_row_a_key [] p q s hp hq e = absurd hp
one_row_a_key (first ∷ rows) p q s (inl ep) (inl eq) e = sym ep ∙ eq
one_row_a_key (first ∷ rows) p q s (inl ep) (inr hq) e = absurd (first_apart first q rows s.0 hq (ap (λ (r : Entry). r.0) ep ∙ e))
one_row_a_key (first ∷ rows) p q s (inr hp) (inl eq) e = absurd (first_apart first p rows s.0 hp (ap (λ (r : Entry). r.0) eq ∙ sym e))
one_row_a_key (first ∷ rows) p q s (inr hp) (inr hq) e = one_row_a_key rows p q s.1 hp hq e

both_up_to : (a b : Key) → is_key_up_to a b ≡ true → is_key_up_to b a ≡ true → a ≡ b
both_up_to a b h k = equal_unless_below a b (not_true (is_key_below a b) (sym (up_to_is b a) ∙ k)) (not_true (is_key_below b a) (sym (up_to_is a b) ∙ h))

pub from_serves : (rows : Entries) (key : Key) (row : Entry) → IsInOrder rows → Serves rows key row → serving_entry rows key ≡ Some row
from_serves rows key row s served = by (serving_entry rows key) refl
  where
    by : (found : Option Entry) → serving_entry rows key ≡ found → found ≡ Some row
    by None h = absurd (cc (none_serves rows key row h served.there, served.up_to))
    by (Some other) h =
        let also = serves_from rows key other s h in
        let e : other.0 ≡ row.0 = both_up_to other.0 row.0 (served.greatest other also.there also.up_to) (also.greatest row served.there served.up_to) in
        ap (λ (r : Entry). Some r) (one_row_a_key rows other row s (Has-from_Contains rows other also.there) (Has-from_Contains rows row served.there) e)

-- ---- the keyServers rows of rows in order are in order

same_front : (p a b : Key) → key_cmp (p ++ a) (p ++ b) ≡ key_cmp a b
same_front [] a b = refl
same_front (x ∷ p) a b = ap (λ (r : Ordering). ordering_then r (key_cmp (p ++ a) (p ++ b))) (tied_itself nat_cmp_total x) ∙ same_front p a b

prefixed : (p key : Key) → starts_with nat_eq key p ≡ true → p ++ drop (length p) key ≡ key
prefixed p key h = ap (λ (front : Key). front ++ drop (length p) key) (same_text p (take (length p) key) (sym h)) ∙ take-append-drop (length p) key

behind_less : (p a b : Key) → starts_with nat_eq a p ≡ true → starts_with nat_eq b p ≡ true → key_cmp a b ≡ Less → key_cmp (drop (length p) a) (drop (length p) b) ≡ Less
behind_less p a b ha hb h = sym (same_front p (drop (length p) a) (drop (length p) b)) ∙ ap₂ key_cmp (prefixed p a ha) (prefixed p b hb) ∙ h

stripped_behind : (e : Entry) (rows : Entries) → is_key_servers e ≡ true → AllByRecursion (λ (other : Key). key_cmp e.0 other ≡ Less) (keys_of rows) → AllByRecursion (λ (other : Key). key_cmp (behind_prefix e).0 other ≡ Less) (keys_of (key_servers_entries rows))
stripped_behind e [] is all = tt
stripped_behind e (f ∷ rows) is all = by (is_key_servers f) refl (stripped_behind e rows is all.1)
  where
    by : (t : Bool) → is_key_servers f ≡ t → AllByRecursion (λ (other : Key). key_cmp (behind_prefix e).0 other ≡ Less) (keys_of (key_servers_entries rows)) → AllByRecursion (λ (other : Key). key_cmp (behind_prefix e).0 other ≡ Less) (keys_of (map behind_prefix (cond t (f ∷ filter is_key_servers rows) (filter is_key_servers rows))))
    by true also rest = (behind_less key_servers_family.prefix e.0 f.0 is also all.0, rest)
    by false other rest = rest

pub key_servers_in_order : (rows : Entries) → IsInOrder rows → IsInOrder (key_servers_entries rows)
unfolding IsStrictlySortedBy
key_servers_in_order [] s = tt
key_servers_in_order (e ∷ rows) s = by (is_key_servers e) refl (key_servers_in_order rows s.1)
  where
    by : (t : Bool) → is_key_servers e ≡ t → IsInOrder (key_servers_entries rows) → IsInOrder (map behind_prefix (cond t (e ∷ filter is_key_servers rows) (filter is_key_servers rows)))
    by true is rest = (stripped_behind e rows is s.0, rest)
    by false other rest = rest

-- the row of a key is the one that serves it
pub serves_iff : (rows : Entries) (key : Key) (row : Entry) → IsInOrder rows → (serving_entry (key_servers_entries rows) key ≡ Some row) ↔ Serves (key_servers_entries rows) key row
serves_iff rows key row s =
    let order = key_servers_in_order rows s in
    (serves_from (key_servers_entries rows) key row order, from_serves (key_servers_entries rows) key row order)

-- ---- and they are rows of the map

Has-map : (f : Entry → Entry) (rows : Entries) (x : Entry) → Has rows x → Has (map f rows) (f x)
Has-map f [] x h = absurd h
Has-map f (y ∷ ys) x (inl e) = inl (ap f e)
Has-map f (y ∷ ys) x (inr h) = inr (Has-map f ys x h)

-- a row of the list that f takes to the other
record Source (f : Entry → Entry) (rows : Entries) (x : Entry) : Type 0 where
  row : Entry
  has : Has rows row
  same : f row ≡ x

Source-from_Has : (f : Entry → Entry) (rows : Entries) (x : Entry) → Has (map f rows) x → Source f rows x
Source-from_Has f [] x h = absurd h
Source-from_Has f (y ∷ ys) x (inl e) = record { row = y; has = inl refl; same = e }
Source-from_Has f (y ∷ ys) x (inr h) = let s = Source-from_Has f ys x h in record { row = s.row; has = inr s.has; same = s.same }

whole_row : (source row : Entry) → is_key_servers source ≡ true → behind_prefix source ≡ row → source ≡ (key_servers_family.prefix ++ row.0, row.1)
whole_row source row is same =
    let front : key_servers_family.prefix ++ drop (length key_servers_family.prefix) source.0 ≡ source.0 = prefixed key_servers_family.prefix source.0 is in
    (λ i. (sym front i, source.1)) ∙ ap (λ (r : Entry). (key_servers_family.prefix ++ r.0, r.1)) same

pub kept_from_route : (rows : Entries) (row : Entry) → Contains (key_servers_entries rows) row → Contains rows (key_servers_family.prefix ++ row.0, row.1)
kept_from_route rows row h =
    let s = Source-from_Has behind_prefix (filter is_key_servers rows) row (Has-from_Contains (key_servers_entries rows) row h) in
    let kept = Has-from_filter is_key_servers rows s.row s.has in
    Contains-from_Has rows _ (subst (Has rows) (whole_row s.row row kept.1 s.same) kept.0)

starts_itself : (p key : Key) → starts_with nat_eq (p ++ key) p ≡ true
starts_itself p key = ap (λ (front : Key). pointwise nat_eq p front) (take-append_seam p key) ∙ nat_list_eq_equiv.refl p

pub route_from_kept : (rows : Entries) (row : Entry) → Contains rows (key_servers_family.prefix ++ row.0, row.1) → Contains (key_servers_entries rows) row
route_from_kept rows row h =
    let whole : Entry = (key_servers_family.prefix ++ row.0, row.1) in
    let has = Has-filter is_key_servers rows whole (Has-from_Contains rows whole h) (starts_itself key_servers_family.prefix row.0) in
    let found : Has (key_servers_entries rows) (behind_prefix whole) = Has-map behind_prefix (filter is_key_servers rows) whole has in
    Contains-from_Has (key_servers_entries rows) row (subst (Has (key_servers_entries rows)) (λ i. (drop-append_seam key_servers_family.prefix row.0 i, row.1)) found)
