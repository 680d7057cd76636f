-- What stands at a key of a map of single keys, and what each call does to it.
use Rattle.std.proofs.Common.{◌≡◌, refl, sym, ap, ◌∙◌, ℕ, ◌+◌, ◌≤◌, length, List, [], ◌∷◌, filter, Bool, true, false, cond, nat_le, nat_lt, Option, Some, None, Ordering, Less, Equal, Greater, arith}
use Rattle.std.proofs.lemmas.Bool.{both_ways, ltb-true, lt-ltb, leb-true, leb-false}
use Rattle.std.specs.Ordering.{match_ordering}
use Rattle.std.specs.Map.{lookup}
use Rattle.std.specs.BTreeMap.{insert_entry}
use Rattle.system_keys.specs.Keys.{Key, is_key_below}
use Rattle.model.specs.WriteHistories.{unless_forgotten}
use Rattle.share_judge.specs.declared.step.Step.{Step}
use Rattle.share_judge.specs.Steps.{Start, StepStart, IsBefore, AreRising, is_same_key, no_step, version_before, starts_by, starts_before}
use Rattle.share_judge.specs.Versions.{at_key}
use Rattle.share_judge.proofs.Starts.{key_cmp, equal, greater, same_key, below_differs}
use Rattle.share_judge.proofs.Readings.{read_insert, none_before_share, before_over}
use Rattle.share_judge.proofs.KeptWrites.{none_is}

pub none_at_key : {X : Type 0} → (none : X) (keys : List (Key × X)) (key : Key) → IsBefore key keys → at_key none keys key ≡ none
none_at_key none [] key all = refl
none_at_key none (k ∷ keys) key all = rw (below_differs key k.0 all.0) (none_at_key none keys key all.1)

pub at_read : (read : Step → ℕ) (keys : List StepStart) (key : Key) → at_key (read no_step) (starts_by read keys) key ≡ read (at_key no_step keys key)
at_read read [] key = refl
at_read read (k ∷ keys) key = by (is_same_key key k.0) (at_read read keys key)
  where
    by : (t : Bool) → at_key (read no_step) (starts_by read keys) key ≡ read (at_key no_step keys key)
        → cond t (read k.1) (at_key (read no_step) (starts_by read keys) key) ≡ read (cond t k.1 (at_key no_step keys key))
    by true rest = refl
    by false rest = rest

-- what a look-up finds
pub found_there : (keys : List StepStart) (key : Key) (step : Step) → lookup (is_same_key key) keys ≡ Some step → step ≡ at_key no_step keys key
found_there [] key step is = absurd (cc)
found_there (k ∷ keys) key step is = by (is_same_key key k.0) is (found_there keys key step)
  where
    or_none : Option Step → Step
    or_none None = no_step
    or_none (Some s) = s

    by : (t : Bool) → cond t (Some k.1) (lookup (is_same_key key) keys) ≡ Some step → (lookup (is_same_key key) keys ≡ Some step → step ≡ at_key no_step keys key) → step ≡ cond t k.1 (at_key no_step keys key)
    by true is rest = sym (ap or_none is)
    by false is rest = rest is

pub none_there : (keys : List StepStart) (key : Key) → lookup (is_same_key key) keys ≡ None → no_step ≡ at_key no_step keys key
none_there [] key is = refl
none_there (k ∷ keys) key is = by (is_same_key key k.0) is (none_there keys key)
  where
    by : (t : Bool) → cond t (Some k.1) (lookup (is_same_key key) keys) ≡ None → (lookup (is_same_key key) keys ≡ None → no_step ≡ at_key no_step keys key) → no_step ≡ cond t k.1 (at_key no_step keys key)
    by true is rest = absurd (cc)
    by false is rest = rest is

-- ---- an entry put

pub at_insert : {X : Type 0} → (none : X) (keys : List (Key × X)) (key : Key) (x : X) (other : Key) → at_key none (insert_entry key_cmp keys key x) other ≡ cond (is_same_key other key) x (at_key none keys other)
at_insert none [] key x other = refl
at_insert {X} none (k ∷ keys) key x other = by (key_cmp key k.0) refl (at_insert none keys key x other)
  where
    level : (t : Bool) (y z : X) → cond t x z ≡ cond t x (cond t y z)
    level true y z = refl
    level false y z = refl

    both : (t u : Bool) (y z : X) → (t ≡ true → u ≡ true → false ≡ true) → cond t y (cond u x z) ≡ cond u x (cond t y z)
    both true true y z differ = absurd (both_ways false refl (differ refl refl))
    both true false y z differ = refl
    both false true y z differ = refl
    both false false y z differ = refl

    apart : is_key_below k.0 key ≡ true → is_same_key other k.0 ≡ true → is_same_key other key ≡ true → false ≡ true
    apart above same same_too =
        sym (below_differs k.0 key above) ∙ ap (λ (a : Key). is_same_key a key) (sym (same_key other k.0 same)) ∙ same_too

    by : (r : Ordering) → key_cmp key k.0 ≡ r → at_key none (insert_entry key_cmp keys key x) other ≡ cond (is_same_key other key) x (at_key none keys other)
        → at_key none (match_ordering r ((key, x) ∷ k ∷ keys) ((k.0, x) ∷ keys) (k ∷ insert_entry key_cmp keys key x)) other ≡ cond (is_same_key other key) x (at_key none (k ∷ keys) other)
    by Less is rest = refl
    by Equal is rest =
        level (is_same_key other k.0) k.1 (at_key none keys other)
        ∙ ap (λ (a : Key). cond (is_same_key other a) x (at_key none (k ∷ keys) other)) (sym (equal key k.0 is))
    by Greater is rest =
        ap (cond (is_same_key other k.0) k.1) rest
        ∙ both (is_same_key other k.0) (is_same_key other key) k.1 (at_key none keys other) (apart (greater key k.0 is))

pub insert_length : {X : Type 0} → (keys : List (Key × X)) (key : Key) (x : X) → length (insert_entry key_cmp keys key x) ≤ length keys + 1
insert_length [] key x = omega arith
insert_length (k ∷ keys) key x = by (key_cmp key k.0) (insert_length keys key x)
  where
    by : (r : Ordering) → length (insert_entry key_cmp keys key x) ≤ length keys + 1 → length (match_ordering r ((key, x) ∷ k ∷ keys) ((k.0, x) ∷ keys) (k ∷ insert_entry key_cmp keys key x)) ≤ length (k ∷ keys) + 1
    by Less rest = omega arith
    by Equal rest = omega arith
    by Greater rest = omega (arith, rest)

-- what is read of a step that is put
read_put : (read : Step → ℕ) (keys new : List StepStart) (key : Key) (step : Step) (other : Key) → new ≡ insert_entry key_cmp keys key step → at_key 0 (starts_by read new) other ≡ cond (is_same_key other key) (read step) (at_key 0 (starts_by read keys) other)
read_put read keys new key step other is =
    ap (λ (ks : List Start). at_key 0 ks other) (ap (starts_by read) is ∙ read_insert read keys key step)
    ∙ at_insert 0 (starts_by read keys) key (read step) other

pub now_put : (keys new : List StepStart) (key : Key) (put : Step) (share : ℕ) (other : Key) → new ≡ insert_entry key_cmp keys key put → put.version ≡ share → at_key 0 (starts_by (λ (s : Step). s.version) new) other ≡ cond (is_same_key other key) share (at_key 0 (starts_by (λ (s : Step). s.version) keys) other)
now_put keys new key put share other is version =
    read_put (λ (s : Step). s.version) keys new key put other is
    ∙ ap (λ (n : ℕ). cond (is_same_key other key) n (at_key 0 (starts_by (λ (s : Step). s.version) keys) other)) version

-- what was before the share stays
pub before_put : (keys new : List StepStart) (key : Key) (old put : Step) (share : ℕ) (other : Key) → new ≡ insert_entry key_cmp keys key put → old ≡ at_key no_step keys key → put.version ≡ share → put.before ≡ version_before share old → at_key 0 (starts_before share new) other ≡ at_key 0 (starts_before share keys) other
before_put keys new key old put share other is there version before =
    read_put (version_before share) keys new key put other is
    ∙ ap (λ (n : ℕ). cond (is_same_key other key) n (at_key 0 (starts_before share keys) other)) own
    ∙ by (is_same_key other key) refl
  where
    own : version_before share put ≡ at_key 0 (starts_before share keys) key
    own =
        before_over share old put version before
        ∙ ap (version_before share) there
        ∙ sym (at_read (version_before share) keys key)
        ∙ ap (λ (n : ℕ). at_key n (starts_before share keys) key) (none_before_share share)

    by : (t : Bool) → is_same_key other key ≡ t → cond t (at_key 0 (starts_before share keys) key) (at_key 0 (starts_before share keys) other) ≡ at_key 0 (starts_before share keys) other
    by true same = ap (at_key 0 (starts_before share keys)) (sym (same_key other key same))
    by false differs = refl

-- ---- versions up to a bound go

pub swept_keys : (bound : ℕ) (keys : List Start) (key : Key) → AreRising keys → at_key 0 (filter (λ (k : Start). nat_lt bound k.1) keys) key ≡ unless_forgotten bound (at_key 0 keys key)
swept_keys bound [] key rising = sym (none_is bound)
swept_keys bound (k ∷ keys) key rising = by (nat_lt bound k.1) refl (is_same_key key k.0) refl (swept_keys bound keys key rising.1)
  where
    left : List Start
    left = filter (λ (k : Start). nat_lt bound k.1) keys

    stays : nat_lt bound k.1 ≡ true → k.1 ≡ unless_forgotten bound k.1
    stays above = of (nat_le k.1 bound) refl
      where
        of : (t : Bool) → nat_le k.1 bound ≡ t → k.1 ≡ cond t 0 k.1
        of true low = absurd (let a = ltb-true bound k.1 above in let b = leb-true k.1 bound low in omega (arith, a, b))
        of false high = refl

    goes : nat_lt bound k.1 ≡ false → 0 ≡ unless_forgotten bound k.1
    goes low = of (nat_le k.1 bound) refl
      where
        of : (t : Bool) → nat_le k.1 bound ≡ t → 0 ≡ cond t 0 k.1
        of true is = refl
        of false high = absurd (let above = lt-ltb bound k.1 (leb-false k.1 bound high) in both_ways (nat_lt bound k.1) low above)

    none_left : is_same_key key k.0 ≡ true → at_key 0 keys key ≡ 0
    none_left same = ap (at_key 0 keys) (same_key key k.0 same) ∙ none_at_key 0 keys k.0 rising.0

    by : (t : Bool) → nat_lt bound k.1 ≡ t → (u : Bool) → is_same_key key k.0 ≡ u → at_key 0 left key ≡ unless_forgotten bound (at_key 0 keys key)
        → at_key 0 (cond t (k ∷ left) left) key ≡ unless_forgotten bound (cond u k.1 (at_key 0 keys key))
    by true above true same rest = rw same (stays above)
    by true above false differs rest = rw differs rest
    by false low true same rest = rest ∙ ap (unless_forgotten bound) (none_left same) ∙ none_is bound ∙ goes low
    by false low false differs rest = rest
