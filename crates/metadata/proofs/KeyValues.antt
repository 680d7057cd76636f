-- Entries in order are known by the value of each key, and what each change of a map does to that value.
use Rattle.std.proofs.Common.{◌≡◌, refl, sym, ap, ◌∙◌, List, [], ◌∷◌, Bool, true, false, cond, if◌then◌else◌, Option, Some, None, Ordering, Less, Equal, Greater, nat_cmp, is_eq}
use Rattle.std.specs.List.{AllByRecursion}
use Rattle.std.specs.List.Sorted.{IsStrictlySortedBy}
use Rattle.std.specs.Ordering.{ordering_reverse, match_ordering}
use Rattle.std.specs.Map.{keys_of, lookup, remove_entry}
use Rattle.std.specs.BTreeMap.{insert_entry}
use Rattle.std.specs.Cmp.Lexicographic.{slice_cmp}
use Rattle.std.proofs.lemmas.Cmp.{tied_itself, nat_list_cmp_total}
use Rattle.std.proofs.lemmas.Map.Lookups.{exact_bytes}
use Rattle.system_keys.specs.Keys.{Key}
use Rattle.model.specs.Metadata.{Entries, IsInOrder, entry_value}
use Rattle.metadata.specs.Overwrites.{is_same_key}

abbrev pub key_cmp : Key → Key → Ordering
key_cmp = slice_cmp nat_cmp

-- ---- the same key

equal_order : (r : Ordering) → is_eq r ≡ true → r ≡ Equal
equal_order Less h = absurd (cc)
equal_order Equal h = refl
equal_order Greater h = absurd (cc)

pub same_key : (a b : Key) → is_same_key a b ≡ true → a ≡ b
same_key a b h = exact_bytes a b (equal_order (key_cmp a b) h)

pub same_itself : (a : Key) → is_same_key a a ≡ true
same_itself a = ap is_eq (tied_itself nat_list_cmp_total a)

-- ---- a key that is before the others

-- the value at a key, in any list of keys with values
abbrev pub value_at : {V : Type 0} → List (Key × V) → Key → Option V
value_at rows key = lookup (is_same_key key) rows

-- the keys of the list are strictly increasing
abbrev pub AreRising : {V : Type 0} → List (Key × V) → Type 0
AreRising rows = IsStrictlySortedBy key_cmp (keys_of rows)

abbrev pub Behind : {V : Type 0} → Key → List (Key × V) → Type 0
Behind key rows = AllByRecursion (λ (other : Key). key_cmp key other ≡ Less) (keys_of rows)

before : (key other : Key) → key_cmp key other ≡ Less → is_same_key key other ≡ false
before key other h = ap is_eq h

pub none_behind : {V : Type 0} (key : Key) (rows : List (Key × V)) → Behind key rows → value_at rows key ≡ None
none_behind key [] all = refl
none_behind key (row ∷ rows) all = rw (before key row.0 all.0) (none_behind key rows all.1)

pub first_behind : {V : Type 0} (row : Key × V) (rows : List (Key × V)) → AreRising (row ∷ rows) → Behind row.0 rows
unfolding IsStrictlySortedBy
first_behind row rows s = s.0

pub rest_in_order : {V : Type 0} (row : Key × V) (rows : List (Key × V)) → AreRising (row ∷ rows) → AreRising rows
unfolding IsStrictlySortedBy
rest_in_order row rows s = s.1

pub behind_trans : {V : Type 0} (a b : Key) (rows : List (Key × V)) → key_cmp a b ≡ Less → Behind b rows → Behind a rows
behind_trans a b [] h all = tt
behind_trans a b (row ∷ rows) h all = (nat_list_cmp_total.trans a b row.0 h all.0, behind_trans a b rows h all.1)

pub turned : (a b : Key) → key_cmp a b ≡ Greater → key_cmp b a ≡ Less
turned a b h = nat_list_cmp_total.antisymm b a ∙ ap ordering_reverse h

-- ---- entries with the same value at each key

pub first_value : {V : Type 0} (row : Key × V) (rows : List (Key × V)) → value_at (row ∷ rows) row.0 ≡ Some row.1
first_value row rows = rw (same_itself row.0) refl

-- an entry before all others is not among them
not_there : {V : Type 0} (row : Key × V) (rows others : List (Key × V)) → Behind row.0 others → value_at (row ∷ rows) row.0 ≡ value_at others row.0 → ⊥
not_there row rows others behind h =
    let there : Some row.1 ≡ None = sym (first_value row rows) ∙ h ∙ none_behind row.0 others behind in cc

-- lists in order with the same value at each key are the same
pub same_rows : {V : Type 0} (a b : List (Key × V)) → AreRising a → AreRising b → ((key : Key) → value_at a key ≡ value_at b key) → a ≡ b
same_rows [] [] s t h = refl
same_rows [] (f ∷ b) s t h = absurd (not_there f b [] tt (sym (h f.0)))
same_rows (e ∷ a) [] s t h = absurd (not_there e a [] tt (h e.0))
same_rows (e ∷ a) (f ∷ b) s t h = by (key_cmp e.0 f.0) refl (same_rows a b (rest_in_order e a s) (rest_in_order f b t))
  where
    rest : e.0 ≡ f.0 → (key : Key) → value_at a key ≡ value_at b key
    rest same key = split (is_same_key key e.0) refl
      where
        split : (t : Bool) → is_same_key key e.0 ≡ t → value_at a key ≡ value_at b key
        split true is =
            let at : key ≡ e.0 = same_key key e.0 is in
            rw at (none_behind e.0 a (first_behind e a s) ∙ sym (rw same (none_behind f.0 b (first_behind f b t))))
        split false is =
            let left : value_at (e ∷ a) key ≡ value_at a key = rw is refl in
            let right : value_at (f ∷ b) key ≡ value_at b key = rw (← same, is) refl in
            sym left ∙ h key ∙ right

    by : (r : Ordering) → key_cmp e.0 f.0 ≡ r → (((key : Key) → value_at a key ≡ value_at b key) → a ≡ b) → e ∷ a ≡ f ∷ b
    by Less is later = absurd (not_there e a (f ∷ b) (is, behind_trans e.0 f.0 b is (first_behind f b t)) (h e.0))
    by Greater is later =
        let less : key_cmp f.0 e.0 ≡ Less = turned e.0 f.0 is in
        absurd (not_there f b (e ∷ a) (less, behind_trans f.0 e.0 a less (first_behind e a s)) (sym (h f.0)))
    by Equal is later =
        let key : e.0 ≡ f.0 = exact_bytes e.0 f.0 is in
        let both : Some e.1 ≡ Some f.1 = sym (first_value e a) ∙ h e.0 ∙ ap (value_at (f ∷ b)) key ∙ first_value f b in
        let value : e.1 ≡ f.1 = cc in
        λ i. (key i, value i) ∷ later (rest key) i

pub same_entries : (a b : Entries) → IsInOrder a → IsInOrder b → ((key : Key) → entry_value a key ≡ entry_value b key) → a ≡ b
same_entries a b s t h = same_rows a b s t h

-- ---- one change of a map

pub value_put : {V : Type 0} (rows : List (Key × V)) (key other : Key) (value : V) → value_at (insert_entry key_cmp rows key value) other ≡ (if is_same_key other key then Some value else value_at rows other)
value_put [] key other value = refl
value_put (e ∷ rows) key other value = by (key_cmp key e.0) refl (value_put rows key other value)
  where
    by : (r : Ordering) → key_cmp key e.0 ≡ r → value_at (insert_entry key_cmp rows key value) other ≡ (if is_same_key other key then Some value else value_at rows other)
        → value_at (match_ordering r ((key, value) ∷ e ∷ rows) ((e.0, value) ∷ rows) (e ∷ insert_entry key_cmp rows key value)) other ≡ (if is_same_key other key then Some value else value_at (e ∷ rows) other)
    by Less is rest = refl
    by Equal is rest =
        let same : key ≡ e.0 = exact_bytes key e.0 is in
        rw same (twice (is_same_key other e.0))
      where
        twice : (t : Bool) → cond t (Some value) (value_at rows other) ≡ (if t then Some value else cond t (Some e.1) (value_at rows other))
        twice true = refl
        twice false = refl
    by Greater is rest = rw rest (apart (is_same_key other e.0) refl (is_same_key other key) refl)
      where
        apart : (t : Bool) → is_same_key other e.0 ≡ t → (s : Bool) → is_same_key other key ≡ s
            → cond t (Some e.1) (if s then Some value else value_at rows other) ≡ (if s then Some value else cond t (Some e.1) (value_at rows other))
        apart true h true k =
            let same : key ≡ e.0 = sym (same_key other key k) ∙ same_key other e.0 h in
            let tied : key_cmp key e.0 ≡ Equal = ap (key_cmp key) (sym same) ∙ tied_itself nat_list_cmp_total key in
            let none : Greater ≡ Equal = sym is ∙ tied in absurd (cc)
        apart true h false k = refl
        apart false h true k = refl
        apart false h false k = refl

pub value_removed : {V : Type 0} (rows : List (Key × V)) (key other : Key) → AreRising rows → value_at (remove_entry (is_same_key key) rows) other ≡ (if is_same_key other key then None else value_at rows other)
value_removed {V = V} [] key other s = by (is_same_key other key)
  where
    no_value : Option V
    no_value = None

    by : (t : Bool) → no_value ≡ (if t then no_value else no_value)
    by true = refl
    by false = refl
value_removed {V = V} (e ∷ rows) key other s = by (is_same_key key e.0) refl (is_same_key other key) refl (value_removed rows key other (rest_in_order e rows s))
  where
    gone : List (Key × V)
    gone = remove_entry (is_same_key key) rows

    by : (t : Bool) → is_same_key key e.0 ≡ t → (u : Bool) → is_same_key other key ≡ u → value_at gone other ≡ (if u then None else value_at rows other)
        → value_at (cond t rows (e ∷ gone)) other ≡ (if u then None else value_at (e ∷ rows) other)
    by true h true k later =
        let same : other ≡ e.0 = same_key other key k ∙ same_key key e.0 h in
        rw same (none_behind e.0 rows (first_behind e rows s))
    by true h false k later =
        let other_is : is_same_key other e.0 ≡ false = rw (← same_key key e.0 h) k in
        rw other_is refl
    by false h true k later =
        let other_is : is_same_key other e.0 ≡ false = rw (same_key other key k) h in
        rw other_is later
    by false h false k later = ap (λ (found : Option V). cond (is_same_key other e.0) (Some e.1) found) later
