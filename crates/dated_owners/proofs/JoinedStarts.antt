-- Starts at which the owners change: what cuts and sweeps leave, and the moves that give each key its owners.
use Rattle.std.proofs.Common.{◌≡◌, ℕ, refl, sym, ap, ap₂, ◌∙◌, subst, Bool, true, false, not, ◌&&◌, cond, List, [], ◌∷◌, ◌++◌, map, append-nil, Ordering, Less, Equal, Greater}
use Rattle.std.specs.Map.Calls.{RetainsPairs}
use Rattle.std.specs.Ordering.{match_ordering}
use Rattle.std.specs.BTreeMap.{insert_entry}
use Rattle.system_keys.specs.Keys.{Key, Range, holds, is_key_below}
use Rattle.system_keys.proofs.KeyOrder.{below_trans}
use Rattle.model.specs.declared.moves.Move.{Move}
use Rattle.model.specs.Owners.{Owner, later_owners, owners}
use Rattle.dated_owners.specs.declared.later_owners.LaterOwner.{LaterOwner}
use Rattle.dated_owners.specs.LaterOwners.{owner_from, with_first, needed, are_same_owners}
use Rattle.dated_owners.specs.Starts.{value_from, last_value, AreAbove, AreRising, AreKept, with_values, joined, moves_in, moves_from, moves_of}
use Rattle.dated_owners.proofs.LaterOwnerLaws.{first_owner, same_equal, equal_same}
use Rattle.dated_owners.proofs.KeyStarts.{key_cmp, none_below, value_skip, value_at_less, value_at_equal, value_at_greater, rising_changed_all, last_changed_all}

abbrev pub Starts : Type 0
Starts = List (Key × List LaterOwner)

-- ---- joining

pub joined_after : (d : List LaterOwner) (s : Key × List LaterOwner) (xs ys : Starts) → joined s.1 xs ≡ joined s.1 ys → joined d (s ∷ xs) ≡ joined d (s ∷ ys)
joined_after d s xs ys e = by (are_same_owners s.1 d) refl
  where
    by : (t : Bool) → are_same_owners s.1 d ≡ t → cond t (joined d xs) (s ∷ joined s.1 xs) ≡ cond t (joined d ys) (s ∷ joined s.1 ys)
    by true h = subst (λ (x : List LaterOwner). joined x xs ≡ joined x ys) (same_equal s.1 d h) e
    by false h = ap (λ (zs : Starts). s ∷ zs) e

-- a start with the owners before it is joined
pub joined_same : (d later : List LaterOwner) (key : Key) (ss : Starts) → later ≡ d → joined d ((key, later) ∷ ss) ≡ joined d ss
joined_same d later key ss e = ap (λ t. cond t (joined d ss) ((key, later) ∷ joined later ss)) (equal_same later d e)

-- a cut leaves the starts at which the owners change
pub joined_cut : (d : List LaterOwner) (ss : Starts) (k : Key) → AreRising ss → joined d (insert_entry key_cmp ss k (value_from d ss k)) ≡ joined d ss
joined_cut d [] k r = joined_same d d k [] refl
joined_cut d (s ∷ ss) k r = by (key_cmp k s.0) refl (joined_cut s.1 ss k r.1)
  where
    by : (o : Ordering) → key_cmp k s.0 ≡ o → joined s.1 (insert_entry key_cmp ss k (value_from s.1 ss k)) ≡ joined s.1 ss
        → joined d (match_ordering o ((k, value_from d (s ∷ ss) k) ∷ s ∷ ss) ((s.0, value_from d (s ∷ ss) k) ∷ ss) (s ∷ insert_entry key_cmp ss k (value_from d (s ∷ ss) k))) ≡ joined d (s ∷ ss)
    by Less e rec = joined_same d (value_from d (s ∷ ss) k) k (s ∷ ss) (value_at_less d s ss k e)
    by Equal e rec = ap (λ (v : List LaterOwner). joined d ((s.0, v) ∷ ss)) (value_at_equal d s ss k r.0 e)
    by Greater e rec =
        ap (λ (v : List LaterOwner). joined d (s ∷ insert_entry key_cmp ss k v)) (value_at_greater d s ss k e)
        ∙ joined_after d s (insert_entry key_cmp ss k (value_from s.1 ss k)) ss rec

above_joined : (d : List LaterOwner) (b : Key) (ss : Starts) → AreAbove b ss → AreAbove b (joined d ss)
above_joined d b [] above = tt
above_joined d b (s ∷ ss) above = by (are_same_owners s.1 d) (λ x. above_joined x b ss above.1)
  where
    by : (t : Bool) → ((x : List LaterOwner) → AreAbove b (joined x ss)) → AreAbove b (cond t (joined d ss) (s ∷ joined s.1 ss))
    by true rec = rec d
    by false rec = (above.0, rec s.1)

pub rising_joined : (d : List LaterOwner) (ss : Starts) → AreRising ss → AreRising (joined d ss)
rising_joined d [] r = tt
rising_joined d (s ∷ ss) r = by (are_same_owners s.1 d) (λ x. rising_joined x ss r.1)
  where
    by : (t : Bool) → ((x : List LaterOwner) → AreRising (joined x ss)) → AreRising (cond t (joined d ss) (s ∷ joined s.1 ss))
    by true rec = rec d
    by false rec = (above_joined s.1 s.0 ss r.0, rec s.1)

pub last_joined : (d : List LaterOwner) (ss : Starts) → last_value d (joined d ss) ≡ last_value d ss
last_joined d [] = refl
last_joined d (s ∷ ss) = by (are_same_owners s.1 d) refl (λ x. last_joined x ss)
  where
    by : (t : Bool) → are_same_owners s.1 d ≡ t → ((x : List LaterOwner) → last_value x (joined x ss) ≡ last_value x ss) → last_value d (cond t (joined d ss) (s ∷ joined s.1 ss)) ≡ last_value s.1 ss
    by true h rec = rec d ∙ ap (λ (x : List LaterOwner). last_value x ss) (sym (same_equal s.1 d h))
    by false h rec = rec s.1

pub value_joined : (d : List LaterOwner) (ss : Starts) (q : Key) → AreRising ss → value_from d (joined d ss) q ≡ value_from d ss q
value_joined d [] q r = refl
value_joined d (s ∷ ss) q r = by (are_same_owners s.1 d) refl (λ x. value_joined x ss q r.1)
  where
    by : (t : Bool) → are_same_owners s.1 d ≡ t → ((x : List LaterOwner) → value_from x (joined x ss) q ≡ value_from x ss q) → value_from d (cond t (joined d ss) (s ∷ joined s.1 ss)) q ≡ value_from d (s ∷ ss) q
    by true h rec = rec d ∙ value_skip d s ss q r.0 (same_equal s.1 d h)
    by false h rec = ap (λ (x : List LaterOwner). cond (is_key_below q s.0) d x) (rec s.1)

-- starts with the same changes have the same values
pub value_alike : (d : List LaterOwner) (xs ys : Starts) (q : Key) → AreRising xs → AreRising ys → joined d xs ≡ joined d ys → value_from d xs q ≡ value_from d ys q
value_alike d xs ys q r s e = sym (value_joined d xs q r) ∙ ap (λ (zs : Starts). value_from d zs q) e ∙ value_joined d ys q s

pub last_alike : (d : List LaterOwner) (xs ys : Starts) → joined d xs ≡ joined d ys → last_value d xs ≡ last_value d ys
last_alike d xs ys e = sym (last_joined d xs) ∙ ap (last_value d) e ∙ last_joined d ys

-- ---- sweeping

-- what a closure did at each entry: it changed the owners as the relation says, and dropped the entry only if they are those noted before
abbrev pub Sweeps : {F : Type 0} → (Changes : List LaterOwner → List LaterOwner → Type 0) → (IsGood : F → Type 0) → (is_noted : F → Bool) → (noted : F → List LaterOwner) → (F → Key → List LaterOwner → Bool → List LaterOwner → F → Type 0) → Type 0
Sweeps {F} Changes IsGood is_noted noted T =
    (f : F) (k : Key) (v : List LaterOwner) (b : Bool) (w : List LaterOwner) (next : F) → IsGood f → T f k v b w next
    → Changes v w × (b ≡ false → (is_noted f ≡ true) × (w ≡ noted f)) × (is_noted next ≡ true → noted next ≡ w) × IsGood next

-- the same starts, with owners that are changed as the relation says
abbrev pub AreChanged : (List LaterOwner → List LaterOwner → Type 0) → (before after : Starts) → Type 0
AreChanged Changes [] [] = Unit {0}
AreChanged Changes [] (t ∷ ts) = ⊥
AreChanged Changes (s ∷ ss) [] = ⊥
AreChanged Changes (s ∷ ss) (t ∷ ts) = (t.0 ≡ s.0) × Changes s.1 t.1 × AreChanged Changes ss ts

-- the starts that are left change where all changed ones do
pub record IsSwept (Changes : List LaterOwner → List LaterOwner → Type 0) (d : List LaterOwner) (old new : Starts) : Type 0 where
  pub all : Starts
  pub changed : AreChanged Changes old all
  pub same : joined d new ≡ joined d all

pub swept_by : {F : Type 0} (T : F → Key → List LaterOwner → Bool → List LaterOwner → F → Type 0) (Changes : List LaterOwner → List LaterOwner → Type 0) (IsGood : F → Type 0) (is_noted : F → Bool) (noted : F → List LaterOwner) → Sweeps Changes IsGood is_noted noted T
    → (f : F) (es kept : Starts) (d : List LaterOwner) → IsGood f → (is_noted f ≡ true → noted f ≡ d) → RetainsPairs T f es kept
    → IsSwept Changes d es kept
swept_by T Changes IsGood is_noted noted law f [] kept d good at done = record { all = []; changed = tt; same = ap (joined d) done }
swept_by {F} T Changes IsGood is_noted noted law f ((k, v) ∷ es) kept d good at (b, w, next, rest, step, more, is) =
    let facts = law f k v b w next good step in
    let rec = swept_by T Changes IsGood is_noted noted law next es rest w facts.3 facts.2 more in
    record {
      all = (k, w) ∷ rec.all;
      changed = (refl, facts.0, rec.changed);
      same = ap (joined d) is ∙ by b facts.1 rec.all rec.same;
    }
  where
    by : (t : Bool) → (t ≡ false → (is_noted f ≡ true) × (w ≡ noted f)) → (others : Starts) → joined w rest ≡ joined w others
        → joined d (cond t ((k, w) ∷ rest) rest) ≡ joined d ((k, w) ∷ others)
    by true dropped others same = joined_after d (k, w) rest others same
    by false dropped others same =
        let noted_is : w ≡ d = (dropped refl).1 ∙ at (dropped refl).0 in
        ap (λ (x : List LaterOwner). joined x rest) (sym noted_is)
        ∙ same
        ∙ ap (λ (x : List LaterOwner). joined x others) noted_is
        ∙ sym (joined_same d w k others noted_is)

-- owners changed by a function
changed_all : (f : List LaterOwner → List LaterOwner) (ss ts : Starts) → AreChanged (λ v w. w ≡ f v) ss ts → ts ≡ with_values f ss
changed_all f [] [] changed = refl
changed_all f [] (t ∷ ts) changed = absurd changed
changed_all f (s ∷ ss) [] changed = absurd changed
changed_all f (s ∷ ss) (t ∷ ts) changed =
    ap₂ (λ (x : Key × List LaterOwner) (xs : Starts). x ∷ xs) (λ i. (changed.0 i, changed.1 i)) (changed_all f ss ts changed.2)

pub swept_all : (f : List LaterOwner → List LaterOwner) (d : List LaterOwner) (old new : Starts) → IsSwept (λ v w. w ≡ f v) d old new → joined d new ≡ joined d (with_values f old)
swept_all f d old new is = is.same ∙ ap (joined d) (changed_all f old is.all is.changed)

above_changed : (Changes : List LaterOwner → List LaterOwner → Type 0) (b : Key) (ss ts : Starts) → AreChanged Changes ss ts → AreAbove b ss → AreAbove b ts
above_changed Changes b [] [] changed above = tt
above_changed Changes b [] (t ∷ ts) changed above = absurd changed
above_changed Changes b (s ∷ ss) [] changed above = absurd changed
above_changed Changes b (s ∷ ss) (t ∷ ts) changed above = (ap (is_key_below b) changed.0 ∙ above.0, above_changed Changes b ss ts changed.2 above.1)

rising_changed : (Changes : List LaterOwner → List LaterOwner → Type 0) (ss ts : Starts) → AreChanged Changes ss ts → AreRising ss → AreRising ts
rising_changed Changes [] [] changed r = tt
rising_changed Changes [] (t ∷ ts) changed r = absurd changed
rising_changed Changes (s ∷ ss) [] changed r = absurd changed
rising_changed Changes (s ∷ ss) (t ∷ ts) changed r =
    (subst (λ (b : Key). AreAbove b ts) (sym changed.0) (above_changed Changes s.0 ss ts changed.2 r.0), rising_changed Changes ss ts changed.2 r.1)

last_changed : (Changes : List LaterOwner → List LaterOwner → Type 0) (d e : List LaterOwner) (ss ts : Starts) → Changes d e → AreChanged Changes ss ts → Changes (last_value d ss) (last_value e ts)
last_changed Changes d e [] [] first changed = first
last_changed Changes d e [] (t ∷ ts) first changed = absurd changed
last_changed Changes d e (s ∷ ss) [] first changed = absurd changed
last_changed Changes d e (s ∷ ss) (t ∷ ts) first changed = last_changed Changes s.1 t.1 ss ts changed.1 changed.2

value_changed : (Changes : List LaterOwner → List LaterOwner → Type 0) (d e : List LaterOwner) (ss ts : Starts) (q : Key) → Changes d e → AreChanged Changes ss ts → Changes (value_from d ss q) (value_from e ts q)
value_changed Changes d e [] [] q first changed = first
value_changed Changes d e [] (t ∷ ts) q first changed = absurd changed
value_changed Changes d e (s ∷ ss) [] q first changed = absurd changed
value_changed Changes d e (s ∷ ss) (t ∷ ts) q first changed =
    subst (λ (b : Key). Changes (value_from d (s ∷ ss) q) (value_from e ((b, t.1) ∷ ts) q)) (sym changed.0) (by (is_key_below q s.0) (value_changed Changes s.1 t.1 ss ts q changed.1 changed.2))
  where
    by : (c : Bool) → Changes (value_from s.1 ss q) (value_from t.1 ts q) → Changes (cond c d (value_from s.1 ss q)) (cond c e (value_from t.1 ts q))
    by true rec = first
    by false rec = rec

-- the owners of each key are changed as the relation says
pub value_swept : (Changes : List LaterOwner → List LaterOwner → Type 0) (d : List LaterOwner) (old new : Starts) (q : Key) → Changes d d → AreRising old → AreRising new → IsSwept Changes d old new → Changes (value_from d old q) (value_from d new q)
value_swept Changes d old new q first r s is =
    subst (Changes (value_from d old q)) (sym (value_alike d new is.all q s (rising_changed Changes old is.all is.changed r) is.same))
    (value_changed Changes d d old is.all q first is.changed)

pub last_swept : (Changes : List LaterOwner → List LaterOwner → Type 0) (d : List LaterOwner) (old new : Starts) → Changes d d → IsSwept Changes d old new → Changes (last_value d old) (last_value d new)
last_swept Changes d old new first is =
    subst (Changes (last_value d old)) (sym (last_alike d new is.all is.same)) (last_changed Changes d d old is.all first is.changed)

-- ---- moves

later_append : (xs ys : List Move) (key : Key) → later_owners (xs ++ ys) key ≡ later_owners xs key ++ later_owners ys key
later_append [] ys key = refl
later_append (m ∷ xs) ys key = by (holds m.range key) (later_append xs ys key)
  where
    newest : Owner
    newest = record { date = m.date; resolver = m.dest }

    by : (t : Bool) → later_owners (xs ++ ys) key ≡ later_owners xs key ++ later_owners ys key
        → cond t (newest ∷ later_owners (xs ++ ys) key) (later_owners (xs ++ ys) key) ≡ cond t (newest ∷ later_owners xs key) (later_owners xs key) ++ later_owners ys key
    by true e = ap (λ (later : List Owner). newest ∷ later) e
    by false e = e

moves_held : (range : Range) (later : List LaterOwner) (key : Key) → holds range key ≡ true → later_owners (moves_in range later) key ≡ map owner_from later
moves_held range [] key h = refl
moves_held range (o ∷ later) key h =
    ap (λ t. cond t (owner_from o ∷ later_owners (moves_in range later) key) (later_owners (moves_in range later) key)) h
    ∙ ap (λ (xs : List Owner). owner_from o ∷ xs) (moves_held range later key h)

moves_passed : (range : Range) (later : List LaterOwner) (key : Key) → holds range key ≡ false → later_owners (moves_in range later) key ≡ []
moves_passed range [] key h = refl
moves_passed range (o ∷ later) key h =
    ap (λ t. cond t (owner_from o ∷ later_owners (moves_in range later) key) (later_owners (moves_in range later) key)) h ∙ moves_passed range later key h

none_before : (begin : Key) (later : List LaterOwner) (ss : Starts) (key : Key) → AreAbove begin ss → AreRising ss → is_key_below key begin ≡ true → later_owners (moves_from begin later ss) key ≡ []
none_before begin later [] key above r h = refl
none_before begin later (s ∷ ss) key above r h =
    later_append (moves_in (record { begin = begin; end = s.0 }) later) (moves_from s.0 s.1 ss) key
    ∙ ap₂ (λ (xs ys : List Owner). xs ++ ys) (moves_passed (record { begin = begin; end = s.0 }) later key (ap (λ t. not t && is_key_below key s.0) h))
    (none_before s.0 s.1 ss key r.0 r.1 (below_trans key begin s.0 h above.0))

later_moves : (begin : Key) (later : List LaterOwner) (ss : Starts) (key : Key) → AreRising ss → last_value later ss ≡ [] → is_key_below key begin ≡ false → later_owners (moves_from begin later ss) key ≡ map owner_from (value_from later ss key)
later_moves begin later [] key r last h = sym (ap (map owner_from) last)
later_moves begin later (s ∷ ss) key r last h =
    later_append (moves_in range later) (moves_from s.0 s.1 ss) key ∙ by (is_key_below key s.0) refl (λ k. later_moves s.0 s.1 ss key r.1 last k)
  where
    range : Range
    range = record { begin = begin; end = s.0 }

    by : (t : Bool) → is_key_below key s.0 ≡ t → (is_key_below key s.0 ≡ false → later_owners (moves_from s.0 s.1 ss) key ≡ map owner_from (value_from s.1 ss key))
        → later_owners (moves_in range later) key ++ later_owners (moves_from s.0 s.1 ss) key ≡ map owner_from (cond t later (value_from s.1 ss key))
    by true k rec =
        ap₂ (λ (xs ys : List Owner). xs ++ ys) (moves_held range later key (ap₂ (λ a b. not a && b) h k)) (none_before s.0 s.1 ss key r.0 r.1 k)
        ∙ append-nil (map owner_from later)
    by false k rec = ap₂ (λ (xs ys : List Owner). xs ++ ys) (moves_passed range later key (ap₂ (λ a b. not a && b) h k)) (rec k)

-- the moves give each key its owners
pub owners_kept : (ss : Starts) (key : Key) → AreKept ss → owners (moves_of ss) key ≡ with_first (value_from [] ss key)
owners_kept ss key kept =
    ap (λ (later : List Owner). first_owner ∷ later) (later_moves [] [] (joined [] ss) key (rising_joined [] ss kept.rising) (last_joined [] ss ∙ kept.none_past) (none_below key))
    ∙ ap with_first (value_joined [] ss key kept.rising)

-- starts with other values
pub kept_changed_all : (f : List LaterOwner → List LaterOwner) (ss : Starts) → f [] ≡ [] → AreKept ss → AreKept (with_values f ss)
kept_changed_all f ss none kept =
    record {
      rising = rising_changed_all f ss kept.rising;
      none_past = ap (λ (x : List LaterOwner). last_value x (with_values f ss)) (sym none) ∙ last_changed_all f [] ss ∙ ap f kept.none_past ∙ none;
    }

pub kept_swept : (oldest : ℕ) (old new : Starts) → AreKept old → AreRising new → joined [] new ≡ joined [] (with_values (needed oldest) old) → AreKept new
kept_swept oldest old new kept rising e =
    record {
      rising = rising;
      none_past = last_alike [] new (with_values (needed oldest) old) e ∙ (kept_changed_all (needed oldest) old refl kept).none_past;
    }
