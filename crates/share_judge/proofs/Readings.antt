-- What is read from the steps of a map: the starts stay the same, and so does what each call does to them.
use Rattle.std.proofs.Common.{◌≡◌, refl, sym, ap, ap₂, ◌∙◌, ℕ, ◌<◌, inl, inr, List, [], ◌∷◌, ◌++◌, filter, Bool, true, false, cond, nat_eq, Option, Some, None, Ordering, Less, Equal, Greater, arith}
use Rattle.std.proofs.lemmas.Bool.{eqb-true, eq-eqb}
use Rattle.std.specs.Ordering.{match_ordering}
use Rattle.std.specs.Map.{lookup, remove_entry, set_value}
use Rattle.std.specs.BTreeMap.{insert_entry}
use Rattle.system_keys.specs.Keys.{Key, is_key_below}
use Rattle.system_keys.proofs.KeyOrder.{not_below_itself, not_below_back}
use Rattle.share_judge.specs.declared.step.Step.{Step}
use Rattle.share_judge.specs.Steps.{Start, StepStart, last_from, IsBefore, AreRising, HasStart, IsFree, no_step, version_before, starts_by, starts_now, starts_before}
use Rattle.share_judge.proofs.Starts.{key_cmp, none_before, before_has}

-- ---- the same starts

read_before : (read : Step → ℕ) (key : Key) (es : List StepStart) → IsBefore key es → IsBefore key (starts_by read es)
read_before read key [] all = tt
read_before read key (e ∷ es) all = (all.0, read_before read key es all.1)

pub read_rising : (read : Step → ℕ) (es : List StepStart) → AreRising es → AreRising (starts_by read es)
read_rising read [] rising = tt
read_rising read (e ∷ es) rising = (read_before read e.0 es rising.0, read_rising read es rising.1)

before_read : (read : Step → ℕ) (key : Key) (es : List StepStart) → IsBefore key (starts_by read es) → IsBefore key es
before_read read key [] all = tt
before_read read key (e ∷ es) all = (all.0, before_read read key es all.1)

pub rising_read : (read : Step → ℕ) (es : List StepStart) → AreRising (starts_by read es) → AreRising es
rising_read read [] rising = tt
rising_read read (e ∷ es) rising = (before_read read e.0 es rising.0, rising_read read es rising.1)

pub read_has : (read : Step → ℕ) (es : List StepStart) (key : Key) → HasStart es key → HasStart (starts_by read es) key
read_has read [] key has = absurd has
read_has read (e ∷ es) key (inl is) = inl is
read_has read (e ∷ es) key (inr has) = inr (read_has read es key has)

pub has_read : (read : Step → ℕ) (es : List StepStart) (key : Key) → HasStart (starts_by read es) key → HasStart es key
has_read read [] key has = absurd has
has_read read (e ∷ es) key (inl is) = inl is
has_read read (e ∷ es) key (inr has) = inr (has_read read es key has)

pub read_free : (read : Step → ℕ) (begin end : Key) (es : List StepStart) → IsFree begin end es → IsFree begin end (starts_by read es)
read_free read begin end [] free = tt
read_free read begin end (e ∷ es) free = (free.0, read_free read begin end es free.1)

-- ---- what stands at a key

pub last_read : (read : Step → ℕ) (first : Step) (es : List StepStart) (key : Key) → last_from (read first) (starts_by read es) key ≡ read (last_from first es key)
last_read read first [] key = refl
last_read read first (e ∷ es) key = by (is_key_below key e.0) (last_read read e.1 es key)
  where
    by : (t : Bool) → last_from (read e.1) (starts_by read es) key ≡ read (last_from e.1 es key) → cond t (read first) (last_from (read e.1) (starts_by read es) key) ≡ read (cond t first (last_from e.1 es key))
    by true rest = refl
    by false rest = rest

-- before the first start there was no version either
pub none_before_share : (share : ℕ) → version_before share no_step ≡ 0
none_before_share share = by (nat_eq 0 share)
  where
    by : (t : Bool) → ◌≡◌ {A = ℕ} (cond t 0 0) 0
    by true = refl
    by false = refl

-- what was before the share stays so once it is written over
pub before_over : (share : ℕ) (old new : Step) → new.version ≡ share → new.before ≡ version_before share old → version_before share new ≡ version_before share old
before_over share old new is before = ap (λ (b : Bool). cond b new.before new.version) (eq-eqb new.version share is) ∙ before

-- ---- what a call does

pub read_insert : (read : Step → ℕ) (es : List StepStart) (key : Key) (step : Step) → starts_by read (insert_entry key_cmp es key step) ≡ insert_entry key_cmp (starts_by read es) key (read step)
read_insert read [] key step = refl
read_insert read (e ∷ es) key step = by (key_cmp key e.0) (read_insert read es key step)
  where
    by : (r : Ordering) → starts_by read (insert_entry key_cmp es key step) ≡ insert_entry key_cmp (starts_by read es) key (read step)
        → starts_by read (match_ordering r ((key, step) ∷ e ∷ es) ((e.0, step) ∷ es) (e ∷ insert_entry key_cmp es key step))
        ≡ match_ordering r ((key, read step) ∷ (e.0, read e.1) ∷ starts_by read es) ((e.0, read step) ∷ starts_by read es) ((e.0, read e.1) ∷ insert_entry key_cmp (starts_by read es) key (read step))
    by Less rest = refl
    by Equal rest = refl
    by Greater rest = ap (λ (ss : List Start). (e.0, read e.1) ∷ ss) rest

pub read_remove : (read : Step → ℕ) (test : Key → Bool) (es : List StepStart) → starts_by read (remove_entry test es) ≡ remove_entry test (starts_by read es)
read_remove read test [] = refl
read_remove read test (e ∷ es) = by (test e.0) (read_remove read test es)
  where
    by : (t : Bool) → starts_by read (remove_entry test es) ≡ remove_entry test (starts_by read es)
        → starts_by read (cond t es (e ∷ remove_entry test es)) ≡ cond t (starts_by read es) ((e.0, read e.1) ∷ remove_entry test (starts_by read es))
    by true rest = refl
    by false rest = ap (λ (ss : List Start). (e.0, read e.1) ∷ ss) rest

pub read_set : (read : Step → ℕ) (test : Key → Bool) (es : List StepStart) (step : Step) → starts_by read (set_value test es step) ≡ set_value test (starts_by read es) (read step)
read_set read test [] step = refl
read_set read test (e ∷ es) step = by (test e.0) (read_set read test es step)
  where
    by : (t : Bool) → starts_by read (set_value test es step) ≡ set_value test (starts_by read es) (read step)
        → starts_by read (cond t ((e.0, step) ∷ es) (e ∷ set_value test es step)) ≡ cond t ((e.0, read step) ∷ starts_by read es) ((e.0, read e.1) ∷ set_value test (starts_by read es) (read step))
    by true rest = refl
    by false rest = ap (λ (ss : List Start). (e.0, read e.1) ∷ ss) rest

-- a step that reads like the one that it takes the place of
pub read_alike : (read : Step → ℕ) (test : Key → Bool) (es : List StepStart) (old new : Step) → lookup test es ≡ Some old → read new ≡ read old → starts_by read (set_value test es new) ≡ starts_by read es
read_alike read test [] old new there same = refl
read_alike read test (e ∷ es) old new there same = by (test e.0) there (read_alike read test es old new)
  where
    by : (t : Bool) → cond t (Some e.1) (lookup test es) ≡ Some old
        → (lookup test es ≡ Some old → read new ≡ read old → starts_by read (set_value test es new) ≡ starts_by read es)
        → starts_by read (cond t ((e.0, new) ∷ es) (e ∷ set_value test es new)) ≡ (e.0, read e.1) ∷ starts_by read es
    by true there rest = ap (λ (n : ℕ). (e.0, n) ∷ starts_by read es) (same ∙ ap (λ (o : Option Step). read (or_none o)) (sym there))
      where
        or_none : Option Step → Step
        or_none None = no_step
        or_none (Some step) = step
    by false there rest = ap (λ (ss : List Start). (e.0, read e.1) ∷ ss) (rest there same)

pub none_read : (read : Step → ℕ) (test : Key → Bool) (es : List StepStart) → lookup test es ≡ None → lookup test (starts_by read es) ≡ None
none_read read test [] none = refl
none_read read test (e ∷ es) none = by (test e.0) none (none_read read test es)
  where
    by : (t : Bool) → cond t (Some e.1) (lookup test es) ≡ None
        → (lookup test es ≡ None → lookup test (starts_by read es) ≡ None)
        → cond t (Some (read e.1)) (lookup test (starts_by read es)) ≡ None
    by true none rest = absurd (cc)
    by false none rest = rest none

-- the starts whose keys pass a test
pub read_passing : (read : Step → ℕ) (test : Key → Bool) (es : List StepStart) → starts_by read (filter (λ (e : StepStart). test e.0) es) ≡ filter (λ (s : Start). test s.0) (starts_by read es)
read_passing read test [] = refl
read_passing read test (e ∷ es) = by (test e.0) (read_passing read test es)
  where
    by : (t : Bool) → starts_by read (filter (λ (e : StepStart). test e.0) es) ≡ filter (λ (s : Start). test s.0) (starts_by read es)
        → starts_by read (cond t (e ∷ filter (λ (e : StepStart). test e.0) es) (filter (λ (e : StepStart). test e.0) es))
        ≡ cond t ((e.0, read e.1) ∷ filter (λ (s : Start). test s.0) (starts_by read es)) (filter (λ (s : Start). test s.0) (starts_by read es))
    by true rest = ap (λ (ss : List Start). (e.0, read e.1) ∷ ss) rest
    by false rest = rest

pub read_back : (read : Step → ℕ) (front : List StepStart) (e : StepStart) → starts_by read (front ++ e ∷ []) ≡ starts_by read front ++ (e.0, read e.1) ∷ []
read_back read [] e = refl
read_back read (f ∷ front) e = ap (λ (ss : List Start). (f.0, read f.1) ∷ ss) (read_back read front e)

-- ---- the begin of a share

pub not_yet : (share n before : ℕ) → n < share → cond (nat_eq n share) before n ≡ n
not_yet share n before below = by (nat_eq n share) refl
  where
    by : (t : Bool) → nat_eq n share ≡ t → cond t before n ≡ n
    by true same = absurd (let is = eqb-true n share same in omega (arith, is, below))
    by false differs = refl

-- while no version is that of the share, what was before it stands
none_written : (share : ℕ) (first : ℕ) (es : List StepStart) → AreRising es → ((key : Key) → HasStart es key → last_from first (starts_now es) key < share) → starts_before share es ≡ starts_now es
none_written share first [] rising below = refl
none_written share first (e ∷ es) rising below =
    ap₂ (λ (n : ℕ) (ss : List Start). (e.0, n) ∷ ss) (not_yet share e.1.version e.1.before first_below) (none_written share e.1.version es rising.1 later)
  where
    first_below : e.1.version < share
    first_below =
        let is : last_from first (starts_now (e ∷ es)) e.0 ≡ e.1.version = ap (λ (b : Bool). cond b first (last_from e.1.version (starts_now es) e.0)) (not_below_itself e.0) ∙ none_before e.1.version (starts_now es) e.0 (read_before (λ (step : Step). step.version) e.0 es rising.0) in
        let low = below e.0 (inl refl) in
        omega (arith, is, low)

    later : (key : Key) → HasStart es key → last_from e.1.version (starts_now es) key < share
    later key has =
        let is : last_from first (starts_now (e ∷ es)) key ≡ last_from e.1.version (starts_now es) key = ap (λ (b : Bool). cond b first (last_from e.1.version (starts_now es) key)) (not_below_back e.0 key (before_has e.0 key es rising.0 has)) in
        let low = below key (inr has) in
        omega (arith, is, low)

pub share_begins : (share : ℕ) (es : List StepStart) → AreRising es → ((key : Key) → last_from 0 (starts_now es) key < share) → starts_before share es ≡ starts_now es
share_begins share es rising below = none_written share 0 es rising (λ key has. below key)
