-- Starts in rising order, and the value at a key.
use Rattle.std.proofs.Common.{◌≡◌, inl, inr, ⊎_elim, refl, sym, ap, ap₂, ◌∙◌, Bool, true, false, not, ◌&&◌, cond, List, [], ◌∷◌, ◌++◌, Ordering, Less, Equal, Greater, nat_cmp, is_lt}
use Rattle.std.proofs.lemmas.Cmp.{nat_list_cmp_total, tied_itself}
use Rattle.std.proofs.lemmas.Map.Lookups.{exact_bytes}
use Rattle.std.specs.List.{AllByRecursion, AllZip}
use Rattle.std.specs.declared.ops.Bound.TheVariants.{Included, Unbounded}
use Rattle.std.specs.BTreeMap.Range.{entries_between}
use Rattle.std.specs.List.Sorted.{IsStrictlySortedBy}
use Rattle.std.specs.Map.{keys_of}
use Rattle.std.specs.Ordering.{match_ordering, ordering_reverse}
use Rattle.std.specs.BTreeMap.{insert_entry}
use Rattle.std.specs.Cmp.Lexicographic.{slice_cmp}
use Rattle.system_keys.specs.Keys.{Key, is_key_below}
use Rattle.system_keys.proofs.KeyOrder.{not_below_itself, below_trans, not_below_back, up_to_below}
use Rattle.dated_owners.specs.Starts.{value_from, last_value, AreAbove, AreRising, IsStart, AreStarts, with_values}

abbrev pub key_cmp : Key → Key → Ordering
key_cmp = slice_cmp nat_cmp

-- ---- comparisons

less : (r : Ordering) → is_lt r ≡ true → r ≡ Less
less Less h = refl
less Equal h = absurd (cc)
less Greater h = absurd (cc)

-- the greater key is above
pub beyond : (a b : Key) → key_cmp a b ≡ Greater → is_key_below b a ≡ true
beyond a b e = ap is_lt (nat_list_cmp_total.antisymm b a ∙ ap ordering_reverse e)

pub greater : (a b : Key) → is_key_below b a ≡ true → key_cmp a b ≡ Greater
greater a b h = nat_list_cmp_total.antisymm a b ∙ ap ordering_reverse (less (key_cmp b a) h)

-- no key is below the empty key
pub none_below : (key : Key) → is_key_below key [] ≡ false
none_below [] = refl
none_below (x ∷ key) = refl

-- ---- the entries of a map

above_entry : {X : Type 0} (key : Key) (es : List (Key × X)) → AllByRecursion (λ (other : Key). key_cmp key other ≡ Less) (keys_of es) → AreAbove key es
above_entry key [] all = tt
above_entry key (e ∷ es) all = (ap is_lt all.0, above_entry key es all.1)

-- the entries of a map in order rise
pub rising_entries : {X : Type 0} (es : List (Key × X)) → IsStrictlySortedBy key_cmp (keys_of es) → AreRising es
unfolding IsStrictlySortedBy
rising_entries [] s = tt
rising_entries (e ∷ es) s = (above_entry e.0 es s.0, rising_entries es s.1)

-- an entry that is put in
pub put_in : {X : Type 0} (es new : List (Key × X)) (copy key : Key) (value at : X) → new ≡ insert_entry key_cmp es copy value → copy ≡ key → value ≡ at → new ≡ insert_entry key_cmp es key at
put_in {X} es new copy key value at is same there = is ∙ ap₂ (λ (k : Key) (v : X). insert_entry key_cmp es k v) same there

-- a clone of an entry has the same key and the same value
abbrev pub IsSame : {X : Type 0} → Key × X → Key × X → Type 0
IsSame e f = (f.0 ≡ e.0) × (f.1 ≡ e.1)

pub cloned : {X : Type 0} (es fs : List (Key × X)) → AllZip IsSame es fs → fs ≡ es
cloned [] [] same = refl
cloned [] (f ∷ fs) same = absurd same
cloned (e ∷ es) [] same = absurd same
cloned (e ∷ es) (f ∷ fs) same = λ i. (same.0.0 i, same.0.1 i) ∷ cloned es fs same.1 i

-- ---- starts above a key

pub above_from : {X : Type 0} (a b : Key) (ss : List (Key × X)) → is_key_below a b ≡ true → AreAbove b ss → AreAbove a ss
above_from a b [] h above = tt
above_from a b (s ∷ ss) h above = (below_trans a b s.0 h above.0, above_from a b ss h above.1)

pub start_above : {X : Type 0} (b q : Key) (ss : List (Key × X)) → AreAbove b ss → IsStart q ss → is_key_below b q ≡ true
start_above b q [] above there = absurd there
start_above b q (s ∷ ss) above there = ⊎_elim (λ e. ap (is_key_below b) e ∙ above.0) (λ later. start_above b q ss above.1 later) there

-- up to a key that all starts are above, the value is the one before
pub value_up_to : {X : Type 0} (d : X) (ss : List (Key × X)) (b q : Key) → AreAbove b ss → is_key_below b q ≡ false → value_from d ss q ≡ d
value_up_to d [] b q above h = refl
value_up_to d (s ∷ ss) b q above h = ap (λ t. cond t d (value_from s.1 ss q)) (up_to_below q b s.0 h above.0)

-- a start with the value before it changes none
pub value_skip : {X : Type 0} (d : X) (s : Key × X) (ss : List (Key × X)) (q : Key) → AreAbove s.0 ss → s.1 ≡ d → value_from d ss q ≡ value_from d (s ∷ ss) q
value_skip d s ss q above same = by (is_key_below q s.0) refl
  where
    by : (t : Bool) → is_key_below q s.0 ≡ t → value_from d ss q ≡ cond t d (value_from s.1 ss q)
    by true h = value_up_to d ss s.0 q above (not_below_back q s.0 h)
    by false h = ap (λ x. value_from x ss q) (sym same)

-- the value at a key is that of the last entry up to it
pub value_is_last : {X : Type 0} (d : X) (es : List (Key × X)) (key : Key) → AreRising es → value_from d es key ≡ last_value d (entries_between key_cmp Unbounded (Included key) es)
value_is_last d [] key r = refl
value_is_last {X} d (e ∷ es) key r = by (is_key_below key e.0) refl (λ x. value_is_last x es key r.1)
  where
    rest : List (Key × X)
    rest = entries_between key_cmp Unbounded (Included key) es

    by : (t : Bool) → is_key_below key e.0 ≡ t → ((x : X) → value_from x es key ≡ last_value x rest)
        → cond t d (value_from e.1 es key) ≡ last_value d (cond (true && not t) (e ∷ rest) rest)
    by true h rec = sym (value_up_to d es e.0 key r.0 (not_below_back key e.0 h)) ∙ rec d
    by false h rec = rec e.1

pub last_entry : {X : Type 0} (d : X) (front : List (Key × X)) (key : Key) (value : X) → last_value d (front ++ (key, value) ∷ []) ≡ value
last_entry d [] key value = refl
last_entry d (e ∷ front) key value = last_entry e.1 front key value

-- each value is changed alike
pub value_changed_all : {X : Type 0} (f : X → X) (d : X) (ss : List (Key × X)) (q : Key) → value_from (f d) (with_values f ss) q ≡ f (value_from d ss q)
value_changed_all f d [] q = refl
value_changed_all f d (s ∷ ss) q = by (is_key_below q s.0) (value_changed_all f s.1 ss q)
  where
    by : (t : Bool) → value_from (f s.1) (with_values f ss) q ≡ f (value_from s.1 ss q) → cond t (f d) (value_from (f s.1) (with_values f ss) q) ≡ f (cond t d (value_from s.1 ss q))
    by true rec = refl
    by false rec = rec

pub last_changed_all : {X : Type 0} (f : X → X) (d : X) (ss : List (Key × X)) → last_value (f d) (with_values f ss) ≡ f (last_value d ss)
last_changed_all f d [] = refl
last_changed_all f d (s ∷ ss) = last_changed_all f s.1 ss

above_changed_all : {X : Type 0} (f : X → X) (b : Key) (ss : List (Key × X)) → AreAbove b ss → AreAbove b (with_values f ss)
above_changed_all f b [] above = tt
above_changed_all f b (s ∷ ss) above = (above.0, above_changed_all f b ss above.1)

pub rising_changed_all : {X : Type 0} (f : X → X) (ss : List (Key × X)) → AreRising ss → AreRising (with_values f ss)
rising_changed_all f [] r = tt
rising_changed_all f (s ∷ ss) r = (above_changed_all f s.0 ss r.0, rising_changed_all f ss r.1)

-- ---- one more start

pub start_inserted : {X : Type 0} (ss : List (Key × X)) (k : Key) (v : X) → IsStart k (insert_entry key_cmp ss k v)
start_inserted [] k v = inl refl
start_inserted (s ∷ ss) k v = by (key_cmp k s.0) refl (start_inserted ss k v)
  where
    by : (r : Ordering) → key_cmp k s.0 ≡ r → IsStart k (insert_entry key_cmp ss k v) → IsStart k (match_ordering r ((k, v) ∷ s ∷ ss) ((s.0, v) ∷ ss) (s ∷ insert_entry key_cmp ss k v))
    by Less e rec = inl refl
    by Equal e rec = inl (exact_bytes k s.0 e)
    by Greater e rec = inr rec

pub start_stays : {X : Type 0} (q : Key) (ss : List (Key × X)) (k : Key) (v : X) → IsStart q ss → IsStart q (insert_entry key_cmp ss k v)
start_stays q [] k v there = absurd there
start_stays q (s ∷ ss) k v there = by (key_cmp k s.0) (λ later. start_stays q ss k v later)
  where
    by : (r : Ordering) → (IsStart q ss → IsStart q (insert_entry key_cmp ss k v)) → IsStart q (match_ordering r ((k, v) ∷ s ∷ ss) ((s.0, v) ∷ ss) (s ∷ insert_entry key_cmp ss k v))
    by Less rec = inr there
    by Equal rec = there
    by Greater rec = ⊎_elim (λ e. inl e) (λ later. inr (rec later)) there

pub starts_stay : {X : Type 0} (some ss : List (Key × X)) (k : Key) (v : X) → AreStarts some ss → AreStarts some (insert_entry key_cmp ss k v)
starts_stay [] ss k v there = tt
starts_stay (s ∷ some) ss k v there = (start_stays s.0 ss k v there.0, starts_stay some ss k v there.1)

-- the value at a key, if the first start is not above it
pub value_at_less : {X : Type 0} (d : X) (s : Key × X) (ss : List (Key × X)) (k : Key) → key_cmp k s.0 ≡ Less → value_from d (s ∷ ss) k ≡ d
value_at_less d s ss k e = ap (λ r. cond (is_lt r) d (value_from s.1 ss k)) e

pub value_at_equal : {X : Type 0} (d : X) (s : Key × X) (ss : List (Key × X)) (k : Key) → AreAbove s.0 ss → key_cmp k s.0 ≡ Equal → value_from d (s ∷ ss) k ≡ s.1
value_at_equal d s ss k above e =
    ap (λ r. cond (is_lt r) d (value_from s.1 ss k)) e
    ∙ value_up_to s.1 ss s.0 k above (ap (is_key_below s.0) (exact_bytes k s.0 e) ∙ not_below_itself s.0)

pub value_at_greater : {X : Type 0} (d : X) (s : Key × X) (ss : List (Key × X)) (k : Key) → key_cmp k s.0 ≡ Greater → value_from d (s ∷ ss) k ≡ value_from s.1 ss k
value_at_greater d s ss k e = ap (λ r. cond (is_lt r) d (value_from s.1 ss k)) e

-- the value at a start
pub value_at_first : {X : Type 0} (d : X) (s : Key × X) (ss : List (Key × X)) → AreAbove s.0 ss → value_from d (s ∷ ss) s.0 ≡ s.1
value_at_first d s ss above = value_at_equal d s ss s.0 above (tied_itself nat_list_cmp_total s.0)

-- a start that is put in with the value that its key has leaves the last value
pub last_inserted : {X : Type 0} (d : X) (ss : List (Key × X)) (k : Key) → AreRising ss → last_value d (insert_entry key_cmp ss k (value_from d ss k)) ≡ last_value d ss
last_inserted d [] k r = refl
last_inserted d (s ∷ ss) k r = by (key_cmp k s.0) refl (last_inserted s.1 ss k r.1)
  where
    by : (o : Ordering) → key_cmp k s.0 ≡ o → last_value s.1 (insert_entry key_cmp ss k (value_from s.1 ss k)) ≡ last_value s.1 ss
        → last_value d (match_ordering o ((k, value_from d (s ∷ ss) k) ∷ s ∷ ss) ((s.0, value_from d (s ∷ ss) k) ∷ ss) (s ∷ insert_entry key_cmp ss k (value_from d (s ∷ ss) k))) ≡ last_value s.1 ss
    by Less e rec = refl
    by Equal e rec = ap (λ v. last_value v ss) (value_at_equal d s ss k r.0 e)
    by Greater e rec = ap (λ v. last_value s.1 (insert_entry key_cmp ss k v)) (value_at_greater d s ss k e) ∙ rec
