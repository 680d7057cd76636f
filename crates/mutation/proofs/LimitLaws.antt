-- No fault means that every limit holds, and a stamp keeps the limits.
use Rattle.std.proofs.Common.{◌≡◌, ◌∙◌, ℕ, ◌+◌, ◌-◌, ◌≤◌, refl, sym, ap, subst, List, [], ◌∷◌, ◌++◌, length, map, drop, Bool, true, false, not, ◌||◌, Option, Some, None, arith, length-append, length-take, length-drop}
use Rattle.std.specs.Prelude.{nat_lt, nat_le, if◌then◌else◌, option_map, All, slice_get, filter_map}
use Rattle.std.specs.List.{cons_option}
use Rattle.std.specs.Option.{option_or}
use Rattle.std.proofs.lemmas.Bool.{or_parts, or_from, and_parts, and_from, not-false, not_from_true, ltb-false, le-ltb, leb-true, le-leb}
use Rattle.std.proofs.lemmas.List.{drop-drop}
use Rattle.std.proofs.lemmas.List.Elements.{All-nil, All-cons, All-head, All-tail, All-weaker, All-map}
use Rattle.system_keys.specs.declared.change.Change.{Change}
use Rattle.system_keys.specs.declared.change.Change.TheVariants as changes
use Rattle.system_keys.specs.declared.kind.RowKind.{RowKind}
use Rattle.system_keys.specs.declared.kind.RowKind.TheVariants as kinds
use Rattle.system_keys.specs.declared.refusal.Refusal.TheVariants.{KeyTooLong, ValueTooLong, KeyOutside, EmptyRange, BadRow}
use Rattle.system_keys.specs.Keys.{Key, Range, is_key_below, is_key_up_to}
use Rattle.system_keys.specs.Families.{kind_of}
use Rattle.system_keys.specs.Locations.{is_row_value}
use Rattle.system_keys.specs.Limits.{key_limit, end_limit, value_limit, key_space_end}
use Rattle.model.specs.Stamps.{Mutation, Set, Clear, SetStamped, AdmittedTransaction, text_of, offset_of, stamp, stamped_at, stamped_value, stamped_mutation, stamped}
use Rattle.model.specs.Transactions.{StampedTransaction}
use Rattle.mutation.specs.declared.refusal.Refusal.{Refusal}
use Rattle.mutation.specs.declared.refusal.Refusal.TheVariants as refusals
use Rattle.mutation.specs.Faults.{first_fault, fault_of_range, fault_of_set, fault_of_stamp, fault_of_mutation, transaction_fault, faults_of, fault_of_change, stamped_fault, has_room_for_stamp, has_fixed_form}
use Rattle.mutation.specs.Limits.{IsRange, IsRow, TakesStamp, IsMutation, EveryLimitHolds, IsChange, EveryLimitStillHolds}

-- ---- the first of several faults

or_none : (x y : Option Refusal) → option_or x y ≡ None → (x ≡ None) × (y ≡ None)
or_none None y h = (refl, h)
or_none (Some x) y h = (h, cc)

none_or : (x y : Option Refusal) → x ≡ None → y ≡ None → option_or x y ≡ None
none_or None y hx hy = hy
none_or (Some x) y hx hy = hx

all_faultless : {X : Type 0} (fault_of : X → Option Refusal) (xs : List X) → first_fault fault_of xs ≡ None → All (λ x. fault_of x ≡ None) xs
all_faultless fault_of [] h = All-nil (λ x. fault_of x ≡ None)
all_faultless fault_of (x ∷ xs) h =
    let parts : (fault_of x ≡ None) × (first_fault fault_of xs ≡ None) = or_none (fault_of x) (first_fault fault_of xs) h in
    All-cons (λ x. fault_of x ≡ None) x xs parts.0 (all_faultless fault_of xs parts.1)

faultless_all : {X : Type 0} (fault_of : X → Option Refusal) (xs : List X) → All (λ x. fault_of x ≡ None) xs → first_fault fault_of xs ≡ None
faultless_all fault_of [] h = refl
faultless_all fault_of (x ∷ xs) h =
    none_or (fault_of x) (first_fault fault_of xs) (All-head (λ x. fault_of x ≡ None) x xs h) (faultless_all fault_of xs (All-tail (λ x. fault_of x ≡ None) x xs h))

-- without the first of the elements that are left, there is no fault either
faultless_tail : {X Y : Type 0} (f : X → Y) (fault_of : Y → Option Refusal) (xs : List X) → first_fault fault_of (map f xs) ≡ None → first_fault fault_of (map f (drop 1 xs)) ≡ None
faultless_tail f fault_of [] h = refl
faultless_tail f fault_of (x ∷ xs) h = (or_none (fault_of (f x)) (first_fault fault_of (map f xs)) h).1

pub faultless_next : {X Y : Type 0} (f : X → Y) (fault_of : Y → Option Refusal) (xs : List X) (i : ℕ) → first_fault fault_of (map f (drop i xs)) ≡ None → first_fault fault_of (map f (drop (i + 1) xs)) ≡ None
faultless_next f fault_of xs i h =
    let same : drop 1 (drop i xs) ≡ drop (i + 1) xs = drop-drop 1 i xs ∙ ap (λ (n : ℕ). drop n xs) (omega arith) in
    subst (λ (ys : List _). first_fault fault_of (map f ys) ≡ None) same (faultless_tail f fault_of (drop i xs) h)

-- the same where the elements that are left are a list of their own
pub faultless_rest : {X Y : Type 0} (f : X → Y) (fault_of : Y → Option Refusal) (left : List X) (x : X) (rest : List X) → left ≡ x ∷ rest → first_fault fault_of (map f left) ≡ None → first_fault fault_of (map f rest) ≡ None
faultless_rest f fault_of left x rest is h = faultless_tail f fault_of (x ∷ rest) (subst (λ (xs : List _). first_fault fault_of (map f xs) ≡ None) is h)

-- ---- ranges

range_tests : (long outside empty : Bool) → option_map refusals.Key (if long then Some KeyTooLong else if outside then Some KeyOutside else if empty then Some EmptyRange else None) ≡ None → (long ≡ false) × (outside ≡ false) × (empty ≡ false)
range_tests true b c h = (cc, cc, cc)
range_tests false true c h = (refl, cc, cc)
range_tests false false true h = (refl, refl, cc)
range_tests false false false h = (refl, refl, refl)

range_from_tests : (long outside empty : Bool) → long ≡ false → outside ≡ false → empty ≡ false → option_map refusals.Key (if long then Some KeyTooLong else if outside then Some KeyOutside else if empty then Some EmptyRange else None) ≡ None
range_from_tests true b c p q r = cc
range_from_tests false true c p q r = cc
range_from_tests false false true p q r = cc
range_from_tests false false false p q r = refl

pub range_within : (range : Range) → fault_of_range range ≡ None → IsRange range
range_within range h =
    let tests = range_tests (nat_lt key_limit (length range.begin) || nat_lt end_limit (length range.end)) (not (is_key_up_to range.end key_space_end) || not (is_key_below range.begin key_space_end)) (not (is_key_below range.begin range.end)) h in
    let lengths = or_parts (nat_lt key_limit (length range.begin)) (nat_lt end_limit (length range.end)) tests.0 in
    let inside = or_parts (not (is_key_up_to range.end key_space_end)) (not (is_key_below range.begin key_space_end)) tests.1 in
    record {
      begin_length = ltb-false key_limit (length range.begin) lengths.0;
      end_length = ltb-false end_limit (length range.end) lengths.1;
      begin_inside = not-false (is_key_below range.begin key_space_end) inside.1;
      end_inside = not-false (is_key_up_to range.end key_space_end) inside.0;
      not_empty = not-false (is_key_below range.begin range.end) tests.2;
    }

pub within_range : (range : Range) → IsRange range → fault_of_range range ≡ None
within_range range h =
    range_from_tests (nat_lt key_limit (length range.begin) || nat_lt end_limit (length range.end)) (not (is_key_up_to range.end key_space_end) || not (is_key_below range.begin key_space_end)) (not (is_key_below range.begin range.end))
    (or_from (nat_lt key_limit (length range.begin)) (nat_lt end_limit (length range.end)) (le-ltb key_limit (length range.begin) h.begin_length) (le-ltb end_limit (length range.end) h.end_length))
    (or_from (not (is_key_up_to range.end key_space_end)) (not (is_key_below range.begin key_space_end)) (not_from_true (is_key_up_to range.end key_space_end) h.end_inside) (not_from_true (is_key_below range.begin key_space_end) h.begin_inside))
    (not_from_true (is_key_below range.begin range.end) h.not_empty)

-- ---- rows

row_tests : (long wide outside bad : Bool) → option_map refusals.Key (if long then Some KeyTooLong else if wide then Some ValueTooLong else if outside then Some KeyOutside else if bad then Some BadRow else None) ≡ None → (long ≡ false) × (wide ≡ false) × (outside ≡ false) × (bad ≡ false)
row_tests true b c d h = (cc, cc, cc, cc)
row_tests false true c d h = (refl, cc, cc, cc)
row_tests false false true d h = (refl, refl, cc, cc)
row_tests false false false true h = (refl, refl, refl, cc)
row_tests false false false false h = (refl, refl, refl, refl)

row_from_tests : (long wide outside bad : Bool) → long ≡ false → wide ≡ false → outside ≡ false → bad ≡ false → option_map refusals.Key (if long then Some KeyTooLong else if wide then Some ValueTooLong else if outside then Some KeyOutside else if bad then Some BadRow else None) ≡ None
row_from_tests true b c d p q r s = cc
row_from_tests false true c d p q r s = cc
row_from_tests false false true d p q r s = cc
row_from_tests false false false true p q r s = cc
row_from_tests false false false false p q r s = refl

pub row_within : (key : Key) (value : List ℕ) → fault_of_set key value ≡ None → IsRow key value
row_within key value h =
    let tests = row_tests (nat_lt key_limit (length key)) (nat_lt value_limit (length value)) (not (is_key_below key key_space_end)) (not (is_row_value (kind_of key) value)) h in
    record {
      key_length = ltb-false key_limit (length key) tests.0;
      value_length = ltb-false value_limit (length value) tests.1;
      key_inside = not-false (is_key_below key key_space_end) tests.2;
      decodes = not-false (is_row_value (kind_of key) value) tests.3;
    }

pub within_row : (key : Key) (value : List ℕ) → IsRow key value → fault_of_set key value ≡ None
within_row key value h =
    row_from_tests (nat_lt key_limit (length key)) (nat_lt value_limit (length value)) (not (is_key_below key key_space_end)) (not (is_row_value (kind_of key) value))
    (le-ltb key_limit (length key) h.key_length)
    (le-ltb value_limit (length value) h.value_length)
    (not_from_true (is_key_below key key_space_end) h.key_inside)
    (not_from_true (is_row_value (kind_of key) value) h.decodes)

-- ---- stamps

stamp_tests : (formed place : Bool) → (if formed then Some (refusals.Key BadRow) else if place then None else Some refusals.BadStamp) ≡ None → (formed ≡ false) × (place ≡ true)
stamp_tests true p h = (cc, cc)
stamp_tests false true h = (refl, refl)
stamp_tests false false h = (refl, cc)

stamp_from_tests : (formed place : Bool) → formed ≡ false → place ≡ true → (if formed then Some (refusals.Key BadRow) else if place then None else Some refusals.BadStamp) ≡ None
stamp_from_tests true p e f = cc
stamp_from_tests false true e f = refl
stamp_from_tests false false e f = cc

length-text_of : (value : List ℕ) → length (text_of value) ≡ length value - 4
length-text_of value = grind (arith, length-take {A = ℕ})

takes_stamp : (key : Key) (value : List ℕ) → fault_of_stamp key value ≡ None → TakesStamp key value
takes_stamp key value h =
    let tests = stamp_tests (has_fixed_form (kind_of key)) (has_room_for_stamp value) h in
    let place = and_parts (nat_le 4 (length value)) (nat_le (offset_of value + 10) (length (text_of value))) tests.1 in
    let wide : 4 ≤ length value = leb-true 4 (length value) place.0 in
    let inside : offset_of value + 10 ≤ length (text_of value) = leb-true (offset_of value + 10) (length (text_of value)) place.1 in
    record { free = tests.0; room = omega (arith, length-text_of value) }

stamp_taken : (key : Key) (value : List ℕ) → TakesStamp key value → fault_of_stamp key value ≡ None
stamp_taken key value h =
    stamp_from_tests (has_fixed_form (kind_of key)) (has_room_for_stamp value) h.free
    (and_from (nat_le 4 (length value)) (nat_le (offset_of value + 10) (length (text_of value)))
    (le-leb 4 (length value) (omega (arith, h.room)))
    (le-leb (offset_of value + 10) (length (text_of value)) (omega (arith, h.room, length-text_of value))))

-- a SetStamped without a fault has a place for its stamp
pub place_of_stamp : (key : Key) (value : List ℕ) → fault_of_mutation (SetStamped key value) ≡ None → has_room_for_stamp value ≡ true
place_of_stamp key value h =
    (stamp_tests (has_fixed_form (kind_of key)) (has_room_for_stamp value) (or_none (fault_of_set key value) (fault_of_stamp key value) h).1).1

-- ---- transactions

mutation_within : (m : Mutation) → fault_of_mutation m ≡ None → IsMutation m
mutation_within (Set key value) h = row_within key value h
mutation_within (Clear range) h = range_within range h
mutation_within (SetStamped key value) h =
    let parts = or_none (fault_of_set key value) (fault_of_stamp key value) h in
    (row_within key value parts.0, takes_stamp key value parts.1)

within_mutation : (m : Mutation) → IsMutation m → fault_of_mutation m ≡ None
within_mutation (Set key value) h = within_row key value h
within_mutation (Clear range) h = within_range range h
within_mutation (SetStamped key value) h =
    none_or (fault_of_set key value) (fault_of_stamp key value) (within_row key value h.0) (stamp_taken key value h.1)

-- a transaction without a fault is one in which every limit holds
pub limits_from_faultless : (t : AdmittedTransaction) → transaction_fault t ≡ None → EveryLimitHolds t
limits_from_faultless t h =
    let parts = or_none (first_fault fault_of_range t.reads) (option_or (first_fault fault_of_range t.writes) (first_fault fault_of_mutation t.mutations)) h in
    let later = or_none (first_fault fault_of_range t.writes) (first_fault fault_of_mutation t.mutations) parts.1 in
    record {
      reads = All-weaker (λ r. fault_of_range r ≡ None) IsRange range_within t.reads (all_faultless fault_of_range t.reads parts.0);
      writes = All-weaker (λ r. fault_of_range r ≡ None) IsRange range_within t.writes (all_faultless fault_of_range t.writes later.0);
      mutations = All-weaker (λ m. fault_of_mutation m ≡ None) IsMutation mutation_within t.mutations (all_faultless fault_of_mutation t.mutations later.1);
    }

pub faultless_from_limits : (t : AdmittedTransaction) → EveryLimitHolds t → transaction_fault t ≡ None
faultless_from_limits t h =
    none_or (first_fault fault_of_range t.reads) (option_or (first_fault fault_of_range t.writes) (first_fault fault_of_mutation t.mutations))
    (faultless_all fault_of_range t.reads (All-weaker IsRange (λ r. fault_of_range r ≡ None) within_range t.reads h.reads))
    (none_or (first_fault fault_of_range t.writes) (first_fault fault_of_mutation t.mutations)
    (faultless_all fault_of_range t.writes (All-weaker IsRange (λ r. fault_of_range r ≡ None) within_range t.writes h.writes))
    (faultless_all fault_of_mutation t.mutations (All-weaker IsMutation (λ m. fault_of_mutation m ≡ None) within_mutation t.mutations h.mutations)))

-- ---- what a stamp keeps

-- rows of a kind without a form take any value
any_value : (kind : RowKind) (value : List ℕ) → has_fixed_form kind ≡ false → is_row_value kind value ≡ true
any_value kinds.KeyServers value h = cc
any_value kinds.ServerTag value h = cc
any_value _ value h = refl

length-stamp : (version number : ℕ) → length (stamp version number) ≡ 10
length-stamp version number = refl

-- a text keeps its length when a stamp goes in
length-stamped_at : (offset version number : ℕ) (text : List ℕ) → offset + 10 ≤ length text → length (stamped_at offset version number text) ≡ length text
length-stamped_at offset version number text h =
    grind (arith, length-append {A = ℕ}, length-take {A = ℕ}, length-drop {A = ℕ}, length-stamp version number)

length-stamped_value : (version number : ℕ) (key : Key) (value : List ℕ) → TakesStamp key value → length (stamped_value version number value) + 4 ≡ length value
length-stamped_value version number key value h =
    let text = length-text_of value in
    let inside : offset_of value + 10 ≤ length (text_of value) = omega (arith, h.room, text) in
    omega (arith, h.room, text, length-stamped_at (offset_of value) version number (text_of value) inside)

change_within : (version number : ℕ) (m : Mutation) → IsMutation m → IsChange (stamped_mutation version number m)
change_within version number (Set key value) h = h
change_within version number (Clear range) h = h
change_within version number (SetStamped key value) h =
    record {
      key_length = h.0.key_length;
      value_length = omega (arith, h.0.value_length, length-stamped_value version number key value h.1);
      key_inside = h.0.key_inside;
      decodes = any_value (kind_of key) (stamped_value version number value) h.1.free;
    }

-- every limit holds in the changes that come of an admitted transaction
changes_within : (version number : ℕ) (t : AdmittedTransaction) → EveryLimitHolds t → All IsChange (stamped version number t).changes
changes_within version number t h =
    All-map IsChange (stamped_mutation version number) t.mutations
    (All-weaker IsMutation (λ m. IsChange (stamped_mutation version number m)) (change_within version number) t.mutations h.mutations)

-- every limit holds in the transaction that comes of an admitted one
pub limits_kept : (version number : ℕ) (t : AdmittedTransaction) → EveryLimitHolds t → EveryLimitStillHolds (stamped version number t)
limits_kept version number t h = record { reads = h.reads; writes = h.writes; changes = changes_within version number t h }

change_from_faultless : (change : Change) → fault_of_change change ≡ None → IsChange change
change_from_faultless (changes.Set key value) h = row_within key value h
change_from_faultless (changes.Clear range) h = range_within range h

faultless_change : (change : Change) → IsChange change → fault_of_change change ≡ None
faultless_change (changes.Set key value) h = within_row key value h
faultless_change (changes.Clear range) h = within_range range h

-- a transaction with its stamps in has no fault exactly where every limit holds in it
pub limits_when_stamped : (t : StampedTransaction) → stamped_fault t ≡ None → EveryLimitStillHolds t
limits_when_stamped t h =
    let parts = or_none (first_fault fault_of_range t.reads) (option_or (first_fault fault_of_range t.writes) (first_fault fault_of_change t.changes)) h in
    let later = or_none (first_fault fault_of_range t.writes) (first_fault fault_of_change t.changes) parts.1 in
    record {
      reads = All-weaker (λ r. fault_of_range r ≡ None) IsRange range_within t.reads (all_faultless fault_of_range t.reads parts.0);
      writes = All-weaker (λ r. fault_of_range r ≡ None) IsRange range_within t.writes (all_faultless fault_of_range t.writes later.0);
      changes = All-weaker (λ c. fault_of_change c ≡ None) IsChange change_from_faultless t.changes (all_faultless fault_of_change t.changes later.1);
    }

pub faultless_when_stamped : (t : StampedTransaction) → EveryLimitStillHolds t → stamped_fault t ≡ None
faultless_when_stamped t h =
    none_or (first_fault fault_of_range t.reads) (option_or (first_fault fault_of_range t.writes) (first_fault fault_of_change t.changes))
    (faultless_all fault_of_range t.reads (All-weaker IsRange (λ r. fault_of_range r ≡ None) within_range t.reads h.reads))
    (none_or (first_fault fault_of_range t.writes) (first_fault fault_of_change t.changes)
    (faultless_all fault_of_range t.writes (All-weaker IsRange (λ r. fault_of_range r ≡ None) within_range t.writes h.writes))
    (faultless_all fault_of_change t.changes (All-weaker IsChange (λ c. fault_of_change c ≡ None) faultless_change t.changes h.changes)))

-- the transaction that comes of one without a fault has none
pub stamped_faultless : (version number : ℕ) (t : AdmittedTransaction) → transaction_fault t ≡ None → stamped_fault (stamped version number t) ≡ None
stamped_faultless version number t h =
    faultless_when_stamped (stamped version number t) (limits_kept version number t (limits_from_faultless t h))

-- ---- the first fault, over the list of all faults

head_append : (xs ys : List Refusal) → slice_get (xs ++ ys) 0 ≡ option_or (slice_get xs 0) (slice_get ys 0)
head_append [] ys = refl
head_append (x ∷ xs) ys = refl

first_of_cons : (found : Option Refusal) (xs : List Refusal) → slice_get (cons_option found xs) 0 ≡ option_or found (slice_get xs 0)
first_of_cons None xs = refl
first_of_cons (Some x) xs = refl

first_fault-head : {X : Type 0} (fault_of : X → Option Refusal) (xs : List X) → first_fault fault_of xs ≡ slice_get (filter_map fault_of xs) 0
first_fault-head fault_of [] = refl
first_fault-head fault_of (x ∷ xs) =
    ap (λ later. option_or (fault_of x) later) (first_fault-head fault_of xs) ∙ sym (first_of_cons (fault_of x) (filter_map fault_of xs))

-- the fault of a transaction is the first of the list of all its faults
pub transaction_fault-head : (t : AdmittedTransaction) → transaction_fault t ≡ slice_get (faults_of t) 0
transaction_fault-head t =
    let reads = filter_map fault_of_range t.reads in
    let writes = filter_map fault_of_range t.writes in
    let mutations = filter_map fault_of_mutation t.mutations in
    let e = head_append (reads ++ writes) mutations in
    let f = head_append reads writes in
    sym (e ∙ by_parts (slice_get reads 0) (slice_get writes 0) (slice_get mutations 0) (slice_get (reads ++ writes) 0) f ∙ sym (all_parts (first_fault fault_of_range t.reads) (slice_get reads 0) (first_fault fault_of_range t.writes) (slice_get writes 0) (first_fault fault_of_mutation t.mutations) (slice_get mutations 0) (first_fault-head fault_of_range t.reads) (first_fault-head fault_of_range t.writes) (first_fault-head fault_of_mutation t.mutations)))
  where
    by_parts : (a b c ab : Option Refusal) → ab ≡ option_or a b → option_or ab c ≡ option_or a (option_or b c)
    by_parts None b c ab e = ap (λ x. option_or x c) e
    by_parts (Some x) b c ab e = ap (λ x. option_or x c) e

    all_parts : (a a' b b' c c' : Option Refusal) → a ≡ a' → b ≡ b' → c ≡ c' → option_or a (option_or b c) ≡ option_or a' (option_or b' c')
    all_parts a a' b b' c c' p q r = cc
