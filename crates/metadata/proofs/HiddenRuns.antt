-- Look-ups that jump over a run of hidden rows. One that goes back from a row of the run goes on with
-- the rows before the first key of the run, and one that goes forward with the rows after its last key.
-- Either jump leaves out hidden rows alone, so the rows that are shown stay the same.
use Rattle.std.proofs.Common.{◌≡◌, refl, sym, ap, ◌∙◌, subst, ◌+◌, ◌<◌, ◌≤◌, suc, length, drop, List, [], ◌∷◌, ◌++◌, append_assoc, map, Bool, true, false, cond, not, ◌&&◌, Some, None, filter, inl, inr, is_lt, is_gt, is_le, is_eq, Ordering, Less, Equal, Greater, nat_cmp, nat_eq, length-append, arith}
use Rattle.std.specs.List.{Contains, last_or, list_all, starts_with}
use Rattle.std.specs.Ordering.{ordering_reverse, ordering_then}
use Rattle.std.specs.Cmp.{nat_cmp_total}
use Rattle.std.specs.declared.ops.Bound.TheVariants.{Included, Excluded}
use Rattle.std.specs.BTreeMap.Range.{entries_between}
use Rattle.std.proofs.lemmas.Cmp.{tied_itself, nat_list_cmp_total}
use Rattle.std.proofs.lemmas.Bool.{eqb-true}
use Rattle.std.specs.Option.{is_some}
use Rattle.system_keys.specs.Keys.{Key, Range, is_key_below, is_key_up_to}
use Rattle.system_keys.specs.Families.{key_servers_family, is_in}
use Rattle.system_keys.proofs.KeyOrder.{below_trans, up_to_trans, up_to_below, not_below_back, not_below_itself, up_to_is}
use Rattle.model.specs.Metadata.{Entry, Entries, IsInOrder, entry_value, is_key_servers, behind_prefix}
use Rattle.model.proofs.Members.{Has, Has-from_Contains, Contains-from_Has, Has-from_filter, Has-split}
use Rattle.model.proofs.Metadata.Entries.{filter_in_order}
use Rattle.metadata.specs.MapEntries.{is_serving_up_to, is_serving_inside}
use Rattle.metadata.specs.Overwrites.{is_same_key, is_listed, has_entry}
use Rattle.metadata.specs.HiddenRuns.{Run, IsHiddenRun, AreHiddenRuns, is_serving_before, is_serving_after}
use Rattle.metadata.proofs.KeyValues.{key_cmp, same_key, Behind, first_behind, rest_in_order}
use Rattle.metadata.proofs.ServingEntries.{is_left, last_left, same_number, not_up_to, up_to_behind, inside_behind}

-- the row is before the key
abbrev is_before : Key → Entry → Bool
is_before key row = is_key_below row.0 key

-- ---- rows before a key

-- a test that a key fails if a smaller key fails it
pub record IsOfFront (test : Key → Bool) : Type 0 where
  pub closed : (a b : Key) → is_key_below a b ≡ true → test a ≡ false → test b ≡ false

-- to be before a key is such a test
before_of_front : (key : Key) → IsOfFront (λ (k : Key). is_key_below k key)
before_of_front key = record { closed = λ a b h out. up_to_trans key a b out (not_below_back a b h) }

-- if the first of rows in order fails such a test, none passes it
none_passes : (test : Key → Bool) (row : Entry) (rows : Entries) → IsOfFront test → test row.0 ≡ false → IsInOrder (row ∷ rows) → filter (λ (r : Entry). test r.0) (row ∷ rows) ≡ []
none_passes test row [] front h s = rw h refl
none_passes test row (next ∷ rows) front h s =
    let later : test next.0 ≡ false = front.closed row.0 next.0 (ap is_lt (first_behind row (next ∷ rows) s).0) h in
    rw h (none_passes test next rows front later (rest_in_order row (next ∷ rows) s))

-- if the first of rows in order is not before the key, none is
none_before : (key : Key) (row : Entry) (rows : Entries) → is_key_below row.0 key ≡ false → IsInOrder (row ∷ rows) → filter (is_before key) (row ∷ rows) ≡ []
none_before key row rows h s = none_passes (λ (k : Key). is_key_below k key) row rows (before_of_front key) h s

-- of rows in order, those that pass such a test come first, and `rest` after them
rows_in_front : (test : Key → Bool) (rows : Entries) → IsOfFront test → IsInOrder rows → (rest : Entries) × (filter (λ (row : Entry). test row.0) rows ++ rest ≡ rows)
rows_in_front test [] front s = ([], refl)
rows_in_front test (row ∷ rows) front s = by (test row.0) refl (rows_in_front test rows front (rest_in_order row rows s))
  where
    some : Entries
    some = filter (λ (r : Entry). test r.0) rows

    by : (t : Bool) → test row.0 ≡ t → (rest : Entries) × (some ++ rest ≡ rows) → (rest : Entries) × (cond t (row ∷ some) some ++ rest ≡ row ∷ rows)
    by true h later = (later.0, ap (λ (more : Entries). row ∷ more) later.1)
    by false h later =
        let none : some ≡ [] = sym (rw h refl) ∙ none_passes test row rows front h s in
        (row ∷ rows, ap (λ (list : Entries). list ++ row ∷ rows) none)

-- If a row is not before the key, then of rows in order only those in front of that row can be.
before_in_front : (key : Key) (front : Entries) (row : Entry) (rest : Entries) → is_key_below row.0 key ≡ false → IsInOrder (front ++ row ∷ rest) → filter (is_before key) (front ++ row ∷ rest) ≡ filter (is_before key) front
before_in_front key [] row rest h s = none_before key row rest h s
before_in_front key (first ∷ front) row rest h s = by (is_key_below first.0 key) (before_in_front key front row rest h (rest_in_order first (front ++ row ∷ rest) s))
  where
    by : (t : Bool) → filter (is_before key) (front ++ row ∷ rest) ≡ filter (is_before key) front
        → cond t (first ∷ filter (is_before key) (front ++ row ∷ rest)) (filter (is_before key) (front ++ row ∷ rest)) ≡ cond t (first ∷ filter (is_before key) front) (filter (is_before key) front)
    by true later = ap (λ (more : Entries). first ∷ more) later
    by false later = later

-- a key that is below all rows is below the one in the middle
behind_at : (key : Key) (front : Entries) (row : Entry) (rest : Entries) → Behind key (front ++ row ∷ rest) → is_key_below key row.0 ≡ true
behind_at key [] row rest all = ap is_lt all.0
behind_at key (first ∷ front) row rest all = behind_at key front row rest all.1

-- of rows in order, each in front of `row` has a smaller key
pub front_below : (front : Entries) (row : Entry) (rest : Entries) (other : Entry) → IsInOrder (front ++ row ∷ rest) → Has front other → is_key_below other.0 row.0 ≡ true
front_below [] row rest other s h = absurd h
front_below (first ∷ front) row rest other s (inl same) = ap (λ (e : Entry). is_key_below e.0 row.0) (sym same) ∙ behind_at first.0 front row rest (first_behind first (front ++ row ∷ rest) s)
front_below (first ∷ front) row rest other s (inr there) = front_below front row rest other (rest_in_order first (front ++ row ∷ rest) s) there

-- ---- two tests, one after the other

-- if each row that fails `q` fails `p` too, then it changes nothing to leave out first what fails `q`
left_of_before : (p q : Entry → Bool) (rows : Entries) → ((row : Entry) → Has rows row → q row ≡ false → p row ≡ false) → filter p (filter q rows) ≡ filter p rows
left_of_before p q [] all = refl
left_of_before p q (row ∷ rows) all = by (q row) refl (p row) refl (left_of_before p q rows (λ r there. all r (inr there)))
  where
    by : (t : Bool) → q row ≡ t → (u : Bool) → p row ≡ u → filter p (filter q rows) ≡ filter p rows → filter p (cond t (row ∷ filter q rows) (filter q rows)) ≡ cond u (row ∷ filter p rows) (filter p rows)
    by true h true k rest = rw k (ap (λ (more : Entries). row ∷ more) rest)
    by true h false k rest = rw k rest
    by false h true k rest = let two : true ≡ false = sym k ∙ all row (inl refl) h in absurd (cc)
    by false h false k rest = rest

-- the rows that pass both tests are those that pass `q`, of those that pass `p`
pub both_tests : (p q : Entry → Bool) (rows : Entries) → filter (λ (row : Entry). p row && q row) rows ≡ filter q (filter p rows)
both_tests p q [] = refl
both_tests p q (row ∷ rows) = by (p row) (q row) refl (both_tests p q rows)
  where
    by : (t u : Bool) → q row ≡ u → filter (λ (r : Entry). p r && q r) rows ≡ filter q (filter p rows)
        → cond (t && u) (row ∷ filter (λ (r : Entry). p r && q r) rows) (filter (λ (r : Entry). p r && q r) rows) ≡ filter q (cond t (row ∷ filter p rows) (filter p rows))
    by true true k rest = rw k (ap (λ (more : Entries). row ∷ more) rest)
    by true false k rest = rw k rest
    by false u k rest = rest

-- ---- a jump back over a run

-- the entries of the map are the first of all, and `rest` are the others
pub record IsFront (es : Entries) (all : Entries) : Type 0 where
  pub rest : Entries
  pub parts : es ++ rest ≡ all

-- the keyServers rows
abbrev pub own_rows : Entries → Entries
own_rows rows = filter is_key_servers rows

-- the last entry of the front may be taken for the first of the rest
parts_stepped : (front : Entries) (e : Entry) (rest all : Entries) → (front ++ e ∷ []) ++ rest ≡ all → front ++ (e ∷ rest) ≡ all
parts_stepped front e rest all parts = sym (append_assoc front (e ∷ []) rest) ∙ parts

-- after a step back, what is left is still the first of all
pub front_stepped : (front : Entries) (e : Entry) (all : Entries) → IsFront (front ++ e ∷ []) all → IsFront front all
front_stepped front e all is = record { rest = e ∷ is.rest; parts = parts_stepped front e is.rest all is.parts }

-- the keyServers rows before a key are the first of all keyServers rows
front_before : (rows : Entries) (new : Entries) (key : Key) → IsInOrder rows → new ≡ filter (is_serving_before key) rows → IsFront new (own_rows rows)
front_before rows new key s is =
    let some = rows_in_front (λ (k : Key). is_key_below k key) (own_rows rows) (before_of_front key) (filter_in_order is_key_servers rows s) in
    record { rest = some.0; parts = ap (λ (front : Entries). front ++ some.0) (is ∙ both_tests is_key_servers (is_before key) rows) ∙ some.1 }

-- a test leaves no more rows than there were
length_filter : (p : Entry → Bool) (rows : Entries) → length (filter p rows) ≤ length rows
length_filter p [] = omega arith
length_filter p (row ∷ rows) = by (p row) (length_filter p rows)
  where
    by : (t : Bool) → length (filter p rows) ≤ length rows → length (cond t (row ∷ filter p rows) (filter p rows)) ≤ suc (length rows)
    by true h = omega arith
    by false h = omega arith

-- A jump back from the rows `front` to the rows `new`: the last row that is shown is the same, `new`
-- are the first of all keyServers rows, and they are no more than `front`.
pub record IsJump (hidden : List Key) (rows : Entries) (front new : Entries) : Type 0 where
  pub left : last_left None hidden new ≡ last_left None hidden front
  pub front_is : IsFront new (own_rows rows)
  pub fewer : length new ≤ length front

-- If the last row, `e`, is in a hidden run, then from the rows in front of it to those before the
-- first key of the run is such a jump.
pub jump_to : (hidden : List Key) (rows : Entries) (front new : Entries) (e : Entry) (run : Run) → IsInOrder rows → IsFront (front ++ e ∷ []) (own_rows rows)
    → ((row : Entry) → Has front row → entry_value rows row.0 ≡ Some row.1) → IsHiddenRun hidden rows run → is_key_below e.0 run.0 ≡ false → is_key_below run.1 e.0 ≡ false
    → new ≡ filter (is_serving_before run.0) rows → IsJump hidden rows front new
jump_to hidden rows front new e run s is there hides begins reaches new_is = record {
  left = ap (λ (list : Entries). last_or None (map behind_prefix list)) same;
  front_is = front_before rows new run.0 s new_is;
  fewer =
      subst (λ (list : Entries). length list ≤ length front) (sym new_front) (length_filter (is_before run.0) front);
}
  where
    all_is : front ++ (e ∷ is.rest) ≡ own_rows rows
    all_is = parts_stepped front e is.rest (own_rows rows) is.parts

    in_order : IsInOrder (front ++ (e ∷ is.rest))
    in_order = subst IsInOrder (sym all_is) (filter_in_order is_key_servers rows s)

    new_front : new ≡ filter (is_before run.0) front
    new_front =
        new_is ∙ both_tests is_key_servers (is_before run.0) rows
        ∙ ap (filter (is_before run.0)) (sym all_is)
        ∙ before_in_front run.0 front e is.rest begins in_order

    hidden_unless : (row : Entry) → Has front row → is_key_below row.0 run.0 ≡ false → not (is_listed hidden row.0) ≡ false
    hidden_unless row has out =
        let below : is_key_below row.0 e.0 ≡ true = front_below front e is.rest row in_order has in
        let within : is_key_below run.1 row.0 ≡ false = up_to_trans row.0 e.0 run.1 (not_below_back row.0 e.0 below) reaches in
        ap not (hides.hides row.0 (ap is_some (there row has)) out within)

    same : filter (is_left hidden) new ≡ filter (is_left hidden) front
    same = ap (filter (is_left hidden)) new_front ∙ left_of_before (is_left hidden) (is_before run.0) front hidden_unless

-- with the row `e` that was looked at, a jump leaves fewer rows than there were
pub jump_fewer : (hidden : List Key) (rows : Entries) (front new left : Entries) (e : Entry) → IsJump hidden rows front new → left ≡ front ++ e ∷ [] → length new < length left
jump_fewer hidden rows front new left e jump steps =
    let longer : length left ≡ length front + 1 = ap length steps ∙ length-append front (e ∷ []) in
    omega (arith, longer, jump.fewer)

-- ---- a run whose entries were looked at, one after another

-- all rows are hidden
abbrev are_listed : List Key → Entries → Bool
are_listed hidden rows = list_all (λ (row : Entry). is_listed hidden row.0) rows

-- a hidden entry may be left out of a look at all
pub listed_next : (hidden : List Key) (e : Entry) (es left : Entries) (total : Bool) → left ≡ e ∷ es → is_listed hidden e.0 ≡ true → are_listed hidden left ≡ total → are_listed hidden es ≡ total
listed_next hidden e es left total steps hides so_far = ap (λ (t : Bool). t && are_listed hidden es) (sym hides) ∙ ap (λ (list : Entries). are_listed hidden list) (sym steps) ∙ so_far

-- both parts of a conjunction are true if it is
both_true : (a b : Bool) → (a && b) ≡ true → (a ≡ true) × (b ≡ true)
both_true true b h = (refl, h)
both_true false b h = absurd (cc)

-- if all rows whose keys pass a test are hidden, then so is a key of a row that passes it
one_listed : (p : Key → Bool) (hidden : List Key) (rows : Entries) (key : Key) → are_listed hidden (filter (λ (row : Entry). p row.0) rows) ≡ true → p key ≡ true → has_entry rows key ≡ true → is_listed hidden key ≡ true
one_listed p hidden [] key all passes has = absurd (cc)
one_listed p hidden (row ∷ rows) key all passes has = by (is_same_key key row.0) refl (p row.0) refl (one_listed p hidden rows key) all has
  where
    by : (s : Bool) → is_same_key key row.0 ≡ s → (t : Bool) → p row.0 ≡ t → (are_listed hidden (filter (λ (r : Entry). p r.0) rows) ≡ true → p key ≡ true → has_entry rows key ≡ true → is_listed hidden key ≡ true)
        → are_listed hidden (cond t (row ∷ filter (λ (r : Entry). p r.0) rows) (filter (λ (r : Entry). p r.0) rows)) ≡ true → is_some (cond s (Some row.1) (entry_value rows key)) ≡ true → is_listed hidden key ≡ true
    by true same true h rest listed there = ap (is_listed hidden) (same_key key row.0 same) ∙ (both_true (is_listed hidden row.0) (are_listed hidden (filter (λ (r : Entry). p r.0) rows)) listed).0
    by true same false h rest listed there = let two : true ≡ false = sym passes ∙ ap p (same_key key row.0 same) ∙ h in absurd (cc)
    by false same true h rest listed there = rest (both_true (is_listed hidden row.0) (are_listed hidden (filter (λ (r : Entry). p r.0) rows)) listed).1 passes there
    by false same false h rest listed there = rest listed passes there

-- the key is one from `first` up to `last`, both with them
abbrev pub is_from_up_to : (first last : Key) → Key → Bool
is_from_up_to first last key = is_key_up_to first key && not (is_key_below last key)

-- a run is hidden if all rows from its first to its last key are
pub hidden_run : (hidden : List Key) (rows : Entries) (first last : Key) → is_in key_servers_family first ≡ true → true ≡ are_listed hidden (filter (λ (row : Entry). is_from_up_to first last row.0) rows) → IsHiddenRun hidden rows (first, last)
hidden_run hidden rows first last own all = record {
  own = own;
  hides = λ key has low high.
      one_listed (is_from_up_to first last) hidden rows key (sym all)
      (ap (λ (t : Bool). t && not (is_key_below last key)) (up_to_is first key ∙ ap not low) ∙ ap not high) has;
}

-- what a map lists from one key up to another, both with them
pub between_both : (es : Entries) (first last : Key) → (entries_between key_cmp (Included first) (Included last) es) ≡ filter (λ (row : Entry). is_from_up_to first last row.0) es
between_both es first last = refl

-- a comparison turned round is greater if it was less
pub forward : (r : Ordering) → is_gt (ordering_reverse r) ≡ is_lt r
forward Less = refl
forward Equal = refl
forward Greater = refl

-- the bounds of a look at a run stand in their order
pub not_backwards : (first last : Key) → is_key_below last first ≡ false → is_gt (key_cmp first last) ≡ false
not_backwards first last h = ap is_gt (nat_list_cmp_total.antisymm first last) ∙ forward (key_cmp last first) ∙ h

-- ---- what a map lists from the prefix of keyServers keys up to a key

-- a key from `p` up to `p ++ b`, without that one, is one that begins with `p` and is before `p ++ b`
before_behind : (p b k : Key) → (is_key_up_to p k && not (is_key_up_to (p ++ b) k)) ≡ (starts_with nat_eq k p && not (is_key_up_to (p ++ b) k))
before_behind [] b [] = refl
before_behind [] b (y ∷ k) = refl
before_behind (x ∷ p) b [] = refl
before_behind (x ∷ p) b (y ∷ k) =
    by (nat_cmp x y) (before_behind p b k) ∙ ap (λ (t : Bool). (t && starts_with nat_eq k p) && not (is_le (ordering_then (nat_cmp x y) (key_cmp (p ++ b) k)))) (sym (same_number x y))
  where
    by : (r : Ordering) → (is_key_up_to p k && not (is_key_up_to (p ++ b) k)) ≡ (starts_with nat_eq k p && not (is_key_up_to (p ++ b) k))
        → (is_le (ordering_then r (key_cmp p k)) && not (is_le (ordering_then r (key_cmp (p ++ b) k)))) ≡ ((is_eq r && starts_with nat_eq k p) && not (is_le (ordering_then r (key_cmp (p ++ b) k))))
    by Less rest = refl
    by Equal rest = rest
    by Greater rest = refl

-- a prefix of a key is not after it
pub prefix_first : (p b : Key) → is_gt (key_cmp p (p ++ b)) ≡ false
prefix_first [] [] = refl
prefix_first [] (y ∷ b) = refl
prefix_first (x ∷ p) b = rw (tied_itself nat_cmp_total x) (prefix_first p b)

-- a key that begins with `p` is `p` and what follows it
pub begun : (p k : Key) → starts_with nat_eq k p ≡ true → k ≡ p ++ drop (length p) k
begun [] k h = refl
begun (x ∷ p) [] h = absurd (cc)
begun (x ∷ p) (y ∷ k) h =
    let parts : (nat_eq x y ≡ true) × (starts_with nat_eq k p ≡ true) = both_true (nat_eq x y) (starts_with nat_eq k p) h in
    let same : y ≡ x = sym (eqb-true x y parts.0) in
    let rest = begun p k parts.1 in
    λ i. same i ∷ rest i

abbrev prefix : Key
prefix = key_servers_family.prefix

-- what follows the prefix in a keyServers key
abbrev behind_of : Key → Key
behind_of key = drop (length prefix) key

-- the bounds of a look at the rows before a keyServers key stand in their order
pub least_first : (least key : Key) → least ≡ prefix ++ [] → is_in key_servers_family key ≡ true → is_gt (key_cmp least key) ≡ false
least_first least key low own = ap (λ (k : Key). is_gt (key_cmp k key)) low ∙ ap (λ (k : Key). is_gt (key_cmp prefix k)) (begun prefix key own) ∙ prefix_first prefix (behind_of key)

-- what a map lists from the prefix up to a keyServers key, without it: the keyServers rows before it
pub between_before : (es : Entries) (least key : Key) → least ≡ prefix ++ [] → is_in key_servers_family key ≡ true
    → (entries_between key_cmp (Included least) (Excluded key) es) ≡ filter (is_serving_before key) es
between_before es least key low own =
    let same : (row : Entry) → (is_key_up_to least row.0 && not (is_key_up_to key row.0)) ≡ is_serving_before key row =
    λ row.
    ap (λ (k : Key). is_key_up_to k row.0 && not (is_key_up_to key row.0)) low
    ∙ ap (λ (k : Key). is_key_up_to prefix row.0 && not (is_key_up_to k row.0)) (begun prefix key own)
    ∙ before_behind prefix (behind_of key) row.0
    ∙ ap (λ (k : Key). is_key_servers row && not (is_key_up_to k row.0)) (sym (begun prefix key own))
    ∙ ap (λ (t : Bool). is_key_servers row && t) (not_up_to key row.0) in
    ap (λ (p : Entry → Bool). filter p es) (λ i row. same row i)

-- ---- the rows that may serve a key are the first of all keyServers rows

-- a key from `p` up to `p ++ b`, with that one, is one that begins with `p` and is not after `p ++ b`
pub up_to_whole : (p b k : Key) → (is_key_up_to p k && not (is_key_below (p ++ b) k)) ≡ (starts_with nat_eq k p && not (is_key_below (p ++ b) k))
up_to_whole [] b [] = refl
up_to_whole [] b (y ∷ k) = refl
up_to_whole (x ∷ p) b [] = refl
up_to_whole (x ∷ p) b (y ∷ k) =
    by (nat_cmp x y) (up_to_whole p b k) ∙ ap (λ (t : Bool). (t && starts_with nat_eq k p) && not (is_lt (ordering_then (nat_cmp x y) (key_cmp (p ++ b) k)))) (sym (same_number x y))
  where
    by : (r : Ordering) → (is_key_up_to p k && not (is_key_below (p ++ b) k)) ≡ (starts_with nat_eq k p && not (is_key_below (p ++ b) k))
        → (is_le (ordering_then r (key_cmp p k)) && not (is_lt (ordering_then r (key_cmp (p ++ b) k)))) ≡ ((is_eq r && starts_with nat_eq k p) && not (is_lt (ordering_then r (key_cmp (p ++ b) k))))
    by Less rest = refl
    by Equal rest = rest
    by Greater rest = refl

-- to be at or before a key is a test that a key fails if a smaller one does
up_to_of_front : (key : Key) → IsOfFront (λ (k : Key). not (is_key_below key k))
up_to_of_front key = record { closed = λ a b h out. ap not (below_trans key a b (turned (is_key_below key a) out) h) }
  where
    turned : (t : Bool) → not t ≡ false → t ≡ true
    turned true e = refl
    turned false e = absurd (cc)

-- the keyServers rows at or before a key are the first of all keyServers rows
pub front_up_to : (rows : Entries) (es : Entries) (key : Key) → IsInOrder rows → es ≡ filter (is_serving_up_to key) rows → IsFront es (own_rows rows)
front_up_to rows es key s is =
    let some = rows_in_front (λ (k : Key). not (is_key_below (prefix ++ key) k)) (own_rows rows) (up_to_of_front (prefix ++ key)) (filter_in_order is_key_servers rows s) in
    let same : (row : Entry) → is_serving_up_to key row ≡ (is_key_servers row && not (is_key_below (prefix ++ key) row.0)) =
    λ row. sym (up_to_behind prefix key row.0) ∙ up_to_whole prefix key row.0 in
    record {
      rest = some.0;
      parts =
          ap (λ (front : Entries). front ++ some.0)
          (is ∙ ap (λ (p : Entry → Bool). filter p rows) (λ i row. same row i) ∙ both_tests is_key_servers (λ (row : Entry). not (is_key_below (prefix ++ key) row.0)) rows)
          ∙ some.1;
    }

-- ---- the run that a key is in

-- one of some hidden runs is a hidden run
pub one_run : (hidden : List Key) (rows : Entries) (runs : List Run) (run : Run) → AreHiddenRuns hidden rows runs → Contains runs run → IsHiddenRun hidden rows run
one_run hidden rows runs run all has = at runs all (Has-from_Contains runs run has)
  where
    at : (some : List Run) → AreHiddenRuns hidden rows some → Has some run → IsHiddenRun hidden rows run
    at [] each h = absurd h
    at (first ∷ some) each (inl same) = subst (IsHiddenRun hidden rows) same each.0
    at (first ∷ some) each (inr there) = at some each.1 there

-- the last entry of a part of the map of runs is one of the runs
pub run_listed : (p : Run → Bool) (es part front : List Run) (e : Run) → part ≡ filter p es → part ≡ front ++ e ∷ [] → Contains es e
run_listed p es part front e is steps =
    Contains-from_Has es e
    (Has-from_filter p es e (subst (λ (list : List Run). Has list e) (sym steps ∙ is) (Has-split front [] e))).0

-- ---- rows after a key

-- the row is after the key
abbrev is_after : Key → Entry → Bool
is_after key row = is_key_below key row.0

-- if the first of rows in order is after the key, all are
all_after : (key : Key) (row : Entry) (rows : Entries) → IsInOrder (row ∷ rows) → is_key_below key row.0 ≡ true → filter (is_after key) (row ∷ rows) ≡ row ∷ rows
all_after key row [] s h = rw h refl
all_after key row (next ∷ rows) s h =
    let later : is_key_below key next.0 ≡ true = below_trans key row.0 next.0 h (ap is_lt (first_behind row (next ∷ rows) s).0) in
    rw h (ap (λ (more : Entries). row ∷ more) (all_after key next rows (rest_in_order row (next ∷ rows) s) later))

-- of rows in order, those after a key come last, and `front` before them
rows_after : (key : Key) (rows : Entries) → IsInOrder rows → (front : Entries) × (front ++ filter (is_after key) rows ≡ rows)
rows_after key [] s = ([], refl)
rows_after key (row ∷ rows) s = by (is_key_below key row.0) refl (rows_after key rows (rest_in_order row rows s))
  where
    some : Entries
    some = filter (is_after key) rows

    by : (t : Bool) → is_key_below key row.0 ≡ t → (front : Entries) × (front ++ some ≡ rows) → (front : Entries) × (front ++ cond t (row ∷ some) some ≡ row ∷ rows)
    by true h later =
        let whole : row ∷ some ≡ row ∷ rows = sym (rw h refl) ∙ all_after key row rows s h in
        ([], whole)
    by false h later = (row ∷ later.0, ap (λ (more : Entries). row ∷ more) later.1)

-- If a row is not after the key, then of rows in order only those that follow that row can be.
after_in_back : (key : Key) (front : Entries) (row : Entry) (rest : Entries) → IsInOrder (front ++ row ∷ rest) → is_key_below key row.0 ≡ false → filter (is_after key) (front ++ row ∷ rest) ≡ filter (is_after key) rest
after_in_back key [] row rest s h = rw h refl
after_in_back key (first ∷ front) row rest s h =
    let below : is_key_below first.0 row.0 ≡ true = front_below (first ∷ front) row rest first s (inl refl) in
    let out : is_key_below key first.0 ≡ false = up_to_trans first.0 row.0 key (not_below_back first.0 row.0 below) h in
    rw out (after_in_back key front row rest (rest_in_order first (front ++ row ∷ rest) s) h)

-- the last of rows in order are in order
back_in_order : (front rest : Entries) → IsInOrder (front ++ rest) → IsInOrder rest
back_in_order [] rest s = s
back_in_order (first ∷ front) rest s = back_in_order front rest (rest_in_order first (front ++ rest) s)

-- a key that is below all rows is below each of them
behind_has : (key : Key) (rows : Entries) (row : Entry) → Behind key rows → Has rows row → is_key_below key row.0 ≡ true
behind_has key [] row all h = absurd h
behind_has key (first ∷ rows) row all (inl same) = ap (λ (e : Entry). is_key_below key e.0) (sym same) ∙ ap is_lt all.0
behind_has key (first ∷ rows) row all (inr there) = behind_has key rows row all.1 there

-- ---- a jump forward over a run

-- the entries of the map are the last of all, and `front` are those before them
pub record IsBack (es : Entries) (all : Entries) : Type 0 where
  pub front : Entries
  pub parts : front ++ es ≡ all

-- before the first step all entries are left
pub whole_back : (es : Entries) (all : Entries) → es ≡ all → IsBack es all
whole_back es all is = record { front = []; parts = is }

-- after a step, what is left is still the last of all
pub back_stepped : (e : Entry) (es left : Entries) (all : Entries) → left ≡ e ∷ es → IsBack left all → IsBack es all
back_stepped e es left all steps is = record {
  front = is.front ++ e ∷ [];
  parts = append_assoc is.front (e ∷ []) es ∙ ap (λ (list : Entries). is.front ++ list) (sym steps) ∙ is.parts;
}

-- the keyServers rows inside the range
abbrev pub inside_rows : Range → Entries → Entries
inside_rows range rows = filter (is_serving_inside range) rows

-- A jump forward from the rows `rest` to the rows `new`: the rows that are shown are the same, `new`
-- are the last of the rows inside the range, and they are no more than `rest`.
pub record IsJumpOn (hidden : List Key) (rows : Entries) (range : Range) (rest new : Entries) : Type 0 where
  pub left : filter (is_left hidden) new ≡ filter (is_left hidden) rest
  pub back_is : IsBack new (inside_rows range rows)
  pub fewer : length new ≤ length rest

-- If the first row, `e`, is in a hidden run, then from the rows after it to those after the last key of
-- the run is such a jump.
pub jump_on : (hidden : List Key) (rows : Entries) (range : Range) (rest new left : Entries) (e : Entry) (run : Run) → IsInOrder rows → left ≡ e ∷ rest → IsBack left (inside_rows range rows)
    → ((row : Entry) → Has rest row → entry_value rows row.0 ≡ Some row.1) → IsHiddenRun hidden rows run → is_key_below e.0 run.0 ≡ false → is_key_below run.1 e.0 ≡ false
    → new ≡ filter (is_serving_after run.1 range) rows → IsJumpOn hidden rows range rest new
jump_on hidden rows range rest new left e run s steps is there hides begins reaches new_is = record {
  left = ap (filter (is_left hidden)) new_rest ∙ left_of_before (is_left hidden) (is_after run.1) rest hidden_unless;
  back_is = record { front = some.0; parts = ap (λ (list : Entries). some.0 ++ list) new_all ∙ some.1 };
  fewer =
      subst (λ (list : Entries). length list ≤ length rest) (sym new_rest) (length_filter (is_after run.1) rest);
}
  where
    inside : Entries
    inside = inside_rows range rows

    ordered : IsInOrder inside
    ordered = filter_in_order (is_serving_inside range) rows s

    some : (front : Entries) × (front ++ filter (is_after run.1) inside ≡ inside)
    some = rows_after run.1 inside ordered

    new_all : new ≡ filter (is_after run.1) inside
    new_all = new_is ∙ both_tests (is_serving_inside range) (is_after run.1) rows

    all_is : is.front ++ e ∷ rest ≡ inside
    all_is = ap (λ (list : Entries). is.front ++ list) (sym steps) ∙ is.parts

    in_order : IsInOrder (is.front ++ e ∷ rest)
    in_order = subst IsInOrder (sym all_is) ordered

    new_rest : new ≡ filter (is_after run.1) rest
    new_rest = new_all ∙ ap (filter (is_after run.1)) (sym all_is) ∙ after_in_back run.1 is.front e rest in_order reaches

    hidden_unless : (row : Entry) → Has rest row → is_key_below run.1 row.0 ≡ false → not (is_listed hidden row.0) ≡ false
    hidden_unless row has out =
        let above : is_key_below e.0 row.0 ≡ true = behind_has e.0 rest row (first_behind e rest (back_in_order is.front (e ∷ rest) in_order)) has in
        let within : is_key_below row.0 run.0 ≡ false = up_to_trans run.0 e.0 row.0 begins (not_below_back e.0 row.0 above) in
        ap not (hides.hides row.0 (ap is_some (there row has)) within out)

-- with the row `e` that was looked at, a jump leaves fewer rows than there were
pub jump_on_fewer : (hidden : List Key) (rows : Entries) (range : Range) (rest new left : Entries) (e : Entry) → IsJumpOn hidden rows range rest new → left ≡ e ∷ rest → length new < length left
jump_on_fewer hidden rows range rest new left e jump steps =
    let longer : length left ≡ suc (length rest) = ap length steps in
    omega (arith, longer, jump.fewer)

-- if an entry inside a range is in a run, then the last key of the run is not before the range
pub run_inside : (rows : Entries) (range : Range) (e : Entry) (es left : Entries) (last : Key) → left ≡ e ∷ es → IsBack left (inside_rows range rows) → is_key_below last e.0 ≡ false → is_key_below last (prefix ++ range.begin) ≡ false
run_inside rows range e es left last steps is reaches =
    let parts : is.front ++ e ∷ es ≡ inside_rows range rows = ap (λ (list : Entries). is.front ++ list) (sym steps) ∙ is.parts in
    let inside : is_serving_inside range e ≡ true = (Has-from_filter (is_serving_inside range) rows e (subst (λ (list : Entries). Has list e) parts (Has-split is.front es e))).1 in
    let after : is_key_below (prefix ++ range.begin) e.0 ≡ true =
    (both_true (is_key_below (prefix ++ range.begin) e.0) (not (is_key_up_to (prefix ++ range.end) e.0)) (inside_behind prefix range.begin range.end e.0 ∙ inside)).0 in
    up_to_trans (prefix ++ range.begin) e.0 last (not_below_back (prefix ++ range.begin) e.0 after) reaches

-- ---- what a map lists after a key and inside a range

-- the bounds of an empty look stand in their order
pub same_forward : (key : Key) → is_gt (key_cmp key key) ≡ false
same_forward key = not_backwards key key (not_below_itself key)

-- If to be after the key (`k`) is to be after the begin too (`b`), and `n` is to be before the end:
-- after the key and before the end is inside the range and after the key.
after_begin : (k b n : Bool) → (k ≡ true → b ≡ true) → (k && n) ≡ ((b && n) && k)
after_begin true true true h = refl
after_begin true true false h = refl
after_begin true false n h = let two : false ≡ true = h refl in absurd (cc)
after_begin false true true h = refl
after_begin false true false h = refl
after_begin false false n h = refl

-- If to be after the key (`k`) is to be at or after the end too (`u`): no key is at or after the end
-- and before it, and none is inside the range and after the key.
past_end : (u b k : Bool) → (k ≡ true → u ≡ true) → (u && not u) ≡ ((b && not u) && k)
past_end true true k h = refl
past_end true false k h = refl
past_end false true true h = let two : false ≡ true = h refl in absurd (cc)
past_end false true false h = refl
past_end false false k h = refl

-- what a map lists after the key and before the end are the rows inside the range after the key
pub between_after : (es : Entries) (key end : Key) (range : Range) → end ≡ prefix ++ range.end → is_key_below key (prefix ++ range.begin) ≡ false
    → (entries_between key_cmp (Excluded key) (Excluded end) es) ≡ filter (is_serving_after key range) es
between_after es key end range high late =
    let same : (row : Entry) → (is_key_below key row.0 && not (is_key_up_to end row.0)) ≡ is_serving_after key range row =
    λ row.
    ap (λ (k : Key). is_key_below key row.0 && not (is_key_up_to k row.0)) high
    ∙ after_begin (is_key_below key row.0) (is_key_below (prefix ++ range.begin) row.0) (not (is_key_up_to (prefix ++ range.end) row.0)) (up_to_below (prefix ++ range.begin) key row.0 late)
    ∙ ap (λ (t : Bool). t && is_key_below key row.0) (inside_behind prefix range.begin range.end row.0) in
    ap (λ (p : Entry → Bool). filter p es) (λ i row. same row i)

-- if the key is not before the end, the map lists nothing, and no row inside the range is after the key
pub none_after : (es : Entries) (key end : Key) (range : Range) → end ≡ prefix ++ range.end → is_key_below key end ≡ false
    → (entries_between key_cmp (Included end) (Excluded end) es) ≡ filter (is_serving_after key range) es
none_after es key end range high past =
    let same : (row : Entry) → (is_key_up_to end row.0 && not (is_key_up_to end row.0)) ≡ is_serving_after key range row =
    λ row.
    past_end (is_key_up_to end row.0) (is_key_below (prefix ++ range.begin) row.0) (is_key_below key row.0)
    (λ h. up_to_is end row.0 ∙ ap not (up_to_trans end key row.0 past (not_below_back key row.0 h)))
    ∙ ap (λ (k : Key). (is_key_below (prefix ++ range.begin) row.0 && not (is_key_up_to k row.0)) && is_key_below key row.0) high
    ∙ ap (λ (t : Bool). t && is_key_below key row.0) (inside_behind prefix range.begin range.end row.0) in
    ap (λ (p : Entry → Bool). filter p es) (λ i row. same row i)
