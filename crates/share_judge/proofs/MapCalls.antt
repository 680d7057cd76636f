-- What each call of the map gives, in terms of starts.
use Rattle.std.proofs.Common.{◌≡◌, refl, sym, ap, ap₂, subst, ◌∙◌, ◌⊎◌, ℕ, List, [], ◌∷◌, ◌++◌, filter, Bool, true, false, cond, not, ◌&&◌, nat_eq, nat_lt, Some, None, nat_cmp, zero, suc, ◌+◌, ◌<◌, ◌≤◌, length, drop, get_or, add-one, arith}
use Rattle.std.proofs.Math.Seq.{drop-cons}
use Rattle.std.specs.Map.{lookup, remove_entry, set_value}
use Rattle.std.specs.Map.Calls.{RetainsPairs}
use Rattle.std.specs.BTreeMap.{insert_entry, is_at}
use Rattle.std.specs.declared.ops.Bound.TheVariants.{Included, Excluded, Unbounded}
use Rattle.std.specs.BTreeMap.Range.{entries_between}
use Rattle.std.specs.Cmp.Lexicographic.{slice_cmp}
use Rattle.system_keys.specs.Keys.{Key, holds, is_key_below, is_key_up_to}
use Rattle.system_keys.proofs.KeyOrder.{up_to_is}
use Rattle.model.specs.WriteHistories.{unless_forgotten}
use Rattle.share_judge.specs.declared.step.Step.{Step}
use Rattle.share_judge.specs.Steps.{Start, StepStart, last_from, last_before, last_of_all, settled, AreRising, HasStart, TellTheSame, is_same_key, is_listed, marked, version_before, starts_now, starts_before}
use Rattle.share_judge.proofs.Starts.{key_cmp, last_is, before_is, starts_below, last_of_back}
use Rattle.share_judge.proofs.Readings.{read_rising, read_set, read_alike, read_remove, read_passing, read_back, none_read, before_over}
use Rattle.share_judge.proofs.Settled.{edge_same, edge_there, still_there, no_other, taken_out}
use Rattle.share_judge.proofs.Overwritten.{value_set, marked_twice, none_marked}

-- ---- an edge put in

pub put_same : (es new : List Start) (copy key : Key) (version : ℕ) → AreRising es → copy ≡ key → version ≡ last_from 0 es key → new ≡ insert_entry key_cmp es copy version → TellTheSame es new
put_same es new copy key version rising at is entries dropped =
    ap (λ (e : List Start). settled dropped 0 e) entries
    ∙ ap₂ (λ (k : Key) (n : ℕ). settled dropped 0 (insert_entry (slice_cmp nat_cmp) es k n)) at is
    ∙ edge_same dropped 0 es key rising

pub put_there : {X : Type 0} → (es new : List (Key × X)) (copy key : Key) (version : X) → copy ≡ key → new ≡ insert_entry key_cmp es copy version → HasStart new key
put_there {X} es new copy key version at entries =
    subst (λ (ss : List (Key × X)). HasStart ss key) (sym (entries ∙ ap (λ (k : Key). insert_entry (slice_cmp nat_cmp) es k version) at)) (edge_there es key version)

pub put_others : {X : Type 0} → (es new : List (Key × X)) (copy : Key) (version : X) → new ≡ insert_entry key_cmp es copy version → (other : Key) → HasStart es other → HasStart new other
put_others {X} es new copy version entries other has =
    subst (λ (ss : List (Key × X)). HasStart ss other) (sym entries) (still_there es copy version other has)

pub put_no_more : {X : Type 0} → (es new : List (Key × X)) (copy : Key) (version : X) → new ≡ insert_entry key_cmp es copy version → (other : Key) → HasStart new other → HasStart es other ⊎ (other ≡ copy)
put_no_more {X} es new copy version entries other has = no_other es copy version other (subst (λ (ss : List (Key × X)). HasStart ss other) entries has)

-- ---- what stands at a key, and before it

turned_twice : (a b : Key) → not (is_key_up_to a b) ≡ is_key_below b a
turned_twice a b = ap not (up_to_is a b) ∙ twice (is_key_below b a)
  where
    twice : (t : Bool) → not (not t) ≡ t
    twice true = refl
    twice false = refl

between_below : (es : List StepStart) (key : Key) → entries_between key_cmp Unbounded (Excluded key) es ≡ filter (λ (s : StepStart). is_key_below s.0 key) es
between_below es key =
    let same : (s : StepStart) → not (is_key_up_to key s.0) ≡ is_key_below s.0 key = λ s. turned_twice key s.0 in
    ap (λ (p : StepStart → Bool). filter p es) (λ i s. same s i)

-- the starts below a key, with their versions
pub left_below : (es left : List StepStart) (key : Key) → left ≡ entries_between key_cmp Unbounded (Excluded key) es → starts_now left ≡ starts_below key (starts_now es)
left_below es left key is = ap starts_now (is ∙ between_below es key) ∙ read_passing (λ (step : Step). step.version) (λ k. is_key_below k key) es

pub between_held : (es : List StepStart) (begin end : Key) → entries_between key_cmp (Included begin) (Excluded end) es ≡ filter (λ (s : StepStart). holds (record { begin = begin; end = end }) s.0) es
between_held es begin end =
    let same : (s : StepStart) → (is_key_up_to begin s.0 && not (is_key_up_to end s.0)) ≡ holds (record { begin = begin; end = end }) s.0 =
    λ s. ap₂ (λ (a b : Bool). a && b) (up_to_is begin s.0) (turned_twice end s.0) in
    ap (λ (p : StepStart → Bool). filter p es) (λ i s. same s i)

pub found_at : {X : Type 0} → (none : X) (es front : List (Key × X)) (e : Key × X) (key : Key) → AreRising es → entries_between key_cmp Unbounded (Included key) es ≡ front ++ e ∷ [] → e.1 ≡ last_from none es key
found_at none es front e key rising is =
    sym (last_is none es key rising
    ∙ ap (last_of_all none) (is)
    ∙ last_of_back none front e)

pub none_at : {X : Type 0} → (none : X) (es : List (Key × X)) (key : Key) → AreRising es → entries_between key_cmp Unbounded (Included key) es ≡ [] → none ≡ last_from none es key
none_at none es key rising is = sym (last_is none es key rising ∙ ap (last_of_all none) (is))

pub found_before : (es front : List StepStart) (e : StepStart) (key : Key) → AreRising es → entries_between key_cmp Unbounded (Excluded key) es ≡ front ++ e ∷ [] → e.1.version ≡ last_before 0 (starts_now es) key
found_before es front e key rising is =
    let read : Step → ℕ = λ step. step.version in
    sym (before_is 0 (starts_now es) key (read_rising read es rising)
    ∙ ap (last_of_all 0) (sym (left_below es (front ++ e ∷ []) key (sym is)) ∙ read_back read front e)
    ∙ last_of_back 0 (starts_now front) (e.0, e.1.version))

pub none_before_key : (es : List StepStart) (key : Key) → AreRising es → entries_between key_cmp Unbounded (Excluded key) es ≡ [] → 0 ≡ last_before 0 (starts_now es) key
none_before_key es key rising is =
    sym (before_is 0 (starts_now es) key (read_rising (λ (step : Step). step.version) es rising) ∙ ap (last_of_all 0) (sym (left_below es [] key (sym is))))

-- ---- one start marked, and one taken out

-- the version at one start is set, and what was before the share stays
pub marked_one : (es new : List StepStart) (key : Key) (share : ℕ) (put : Step) → AreRising es → put.version ≡ share → new ≡ set_value (is_at (λ (k : Key). slice_cmp nat_cmp key k)) es put → starts_now new ≡ marked (is_same_key key) share (starts_now es)
marked_one es new key share put rising is entries =
    let read : Step → ℕ = λ step. step.version in
    ap starts_now entries ∙ read_set read (is_same_key key) es put
    ∙ ap (set_value (is_same_key key) (starts_now es)) is
    ∙ value_set key share (starts_now es) (read_rising read es rising)

pub marked_before : (es new : List StepStart) (key : Key) (share : ℕ) (old put : Step) → lookup (is_at (λ (k : Key). slice_cmp nat_cmp key k)) es ≡ Some old → put.version ≡ share → put.before ≡ version_before share old → new ≡ set_value (is_at (λ (k : Key). slice_cmp nat_cmp key k)) es put → starts_before share new ≡ starts_before share es
marked_before es new key share old put there is before entries =
    ap (starts_before share) entries ∙ read_alike (version_before share) (is_same_key key) es old put there (before_over share old put is before)

pub removed_now : (es new : List StepStart) (key : Key) → AreRising es → last_from 0 (starts_now es) key ≡ last_before 0 (starts_now es) key → new ≡ remove_entry (is_at (λ (k : Key). slice_cmp nat_cmp key k)) es → TellTheSame (starts_now es) (starts_now new)
removed_now es new key rising same entries dropped =
    let read : Step → ℕ = λ step. step.version in
    ap (settled dropped 0) (ap starts_now entries ∙ read_remove read (is_same_key key) es)
    ∙ taken_out dropped 0 (starts_now es) key (read_rising read es rising) same

-- without a start at the key there is none to mark
none_marked_at : (es : List Start) (key : Key) (version : ℕ) → lookup (is_at (λ (k : Key). slice_cmp nat_cmp key k)) es ≡ None → marked (is_same_key key) version es ≡ es
none_marked_at [] key version none = refl
none_marked_at (e ∷ es) key version none = by (is_same_key key e.0) none (none_marked_at es key version)
  where
    by : (t : Bool) → cond t (Some e.1) (lookup (is_at (λ (k : Key). slice_cmp nat_cmp key k)) es) ≡ None
        → (lookup (is_at (λ (k : Key). slice_cmp nat_cmp key k)) es ≡ None → marked (is_same_key key) version es ≡ es)
        → (e.0, cond t version e.1) ∷ marked (is_same_key key) version es ≡ (e ∷ es)
    by true none rest = absurd (cc)
    by false none rest = ap (λ (ss : List Start). e ∷ ss) (rest none)

pub none_to_mark : (es : List StepStart) (key : Key) (version : ℕ) → lookup (is_at (λ (k : Key). slice_cmp nat_cmp key k)) es ≡ None → marked (is_same_key key) version (starts_now es) ≡ starts_now es
none_to_mark es key version none = none_marked_at (starts_now es) key version (none_read (λ (step : Step). step.version) (is_same_key key) es none)

-- ---- all starts marked

pub mark_next : (keys : List Key) (i : ℕ) (key : Key) (version : ℕ) (all mid new : List Start) → i < length keys → key ≡ get_or keys i key → new ≡ marked (is_same_key key) version mid → marked (is_listed (drop i keys)) version mid ≡ all → marked (is_listed (drop (i + 1) keys)) version new ≡ all
mark_next keys i key version all mid new there is one rest =
    ap₂ (λ (k : ℕ) (ss : List Start). marked (is_listed (drop k keys)) version ss) (add-one i) one
    ∙ marked_twice (is_listed (drop (suc i) keys)) (is_same_key key) version mid
    ∙ ap (λ (ks : List Key). marked (is_listed ks) version mid) (sym (drop-cons keys i key there ∙ ap (λ (k : Key). k ∷ drop (suc i) keys) (sym is)))
    ∙ rest

none_left : (i : ℕ) (keys : List Key) → length keys ≤ i → drop i keys ≡ []
none_left zero [] past = refl
none_left (suc i) [] past = refl
none_left zero (key ∷ keys) past = absurd (omega arith)
none_left (suc i) (key ∷ keys) past = none_left i keys (omega arith)

pub mark_all : (keys : List Key) (i : ℕ) (version : ℕ) (all new : List Start) → length keys ≤ i → marked (is_listed (drop i keys)) version new ≡ all → new ≡ all
mark_all keys i version all new past rest =
    sym (none_marked version new)
    ∙ ap (λ (ks : List Key). marked (is_listed ks) version new) (sym (none_left i keys past))
    ∙ rest

-- ---- a sweep

-- T is a call of the closure, and I holds of it from call to call
module _ {F : Type 0} (T : F → Key → Step → Bool → Step → F → Type 0) (I : F → Type 0) (last : F → ℕ) (dropped : ℕ) where
  -- what one call of the closure gives: the version that is left, and whether it is another one
  abbrev pub Sweeps : Type 0
  Sweeps = (f : F) (k : Key) (v : Step) (b : Bool) (w : Step) (f' : F) → I f → T f k v b w f' → (w.version ≡ unless_forgotten dropped v.version) × (b ≡ not (nat_eq w.version (last f))) × (last f' ≡ w.version) × I f'

  pub swept : Sweeps → (f : F) (first : ℕ) → I f → last f ≡ unless_forgotten dropped first → (es kept : List StepStart) → RetainsPairs T f es kept → starts_now kept ≡ settled dropped first (starts_now es)
  swept told f first i at [] kept s = ap starts_now s
  swept told f first i at (e ∷ es) kept s =
      let t = told f e.0 e.1 s.0 s.1 s.2 i s.4 in
      let rest = swept told s.2 e.1.version t.3 (t.2 ∙ t.0) es s.3 s.5 in
      ap starts_now s.6
      ∙ now_of e.0 s.0 s.1 s.3
      ∙ ap₂ (λ (b : Bool) (w : ℕ). (cond b ((e.0, w) ∷ starts_now s.3) (starts_now s.3))) (t.1 ∙ ap₂ (λ (n : ℕ) (m : ℕ). not (nat_eq n m)) t.0 at) t.0
      ∙ by (nat_eq (unless_forgotten dropped e.1.version) (unless_forgotten dropped first)) (starts_now s.3) rest
    where
      now_of : (k : Key) (b : Bool) (w : Step) (more : List StepStart) → starts_now (cond b ((k, w) ∷ more) more) ≡ cond b ((k, w.version) ∷ starts_now more) (starts_now more)
      now_of k true w more = refl
      now_of k false w more = refl

      by : (t : Bool) (more : List Start) → more ≡ settled dropped e.1.version (starts_now es)
          → (cond (not t) ((e.0, unless_forgotten dropped e.1.version) ∷ more) more) ≡ cond t (settled dropped e.1.version (starts_now es)) ((e.0, unless_forgotten dropped e.1.version) ∷ settled dropped e.1.version (starts_now es))
      by true more rest = rest
      by false more rest = ap (λ (ss : List Start). (e.0, unless_forgotten dropped e.1.version) ∷ ss) rest

-- ---- a share taken back

module _ {F : Type 0} (T : F → Key → Step → Bool → Step → F → Type 0) (I : F → Type 0) (share : ℕ) where
  -- what one call of the closure gives: the version before the share
  abbrev pub TakesBack : Type 0
  TakesBack = (f : F) (k : Key) (v : Step) (b : Bool) (w : Step) (f' : F) → I f → T f k v b w f' → (w.version ≡ version_before share v) × (b ≡ true) × I f'

  pub taken_back : TakesBack → (f : F) → I f → (es kept : List StepStart) → RetainsPairs T f es kept → starts_now kept ≡ starts_before share es
  taken_back told f i [] kept s = ap starts_now s
  taken_back told f i (e ∷ es) kept s =
      let t = told f e.0 e.1 s.0 s.1 s.2 i s.4 in
      ap starts_now (s.6 ∙ ap (λ (b : Bool). cond b ((e.0, s.1) ∷ s.3) s.3) t.1)
      ∙ ap₂ (λ (n : ℕ) (ss : List Start). (e.0, n) ∷ ss) t.0 (taken_back told s.2 t.2 es s.3 s.5)

-- ---- versions up to a bound gone

module _ {F : Type 0} (T : F → Key → Step → Bool → Step → F → Type 0) (I : F → Type 0) (bound : ℕ) where
  -- what one call of the closure gives: the same step, which stays if its version is above the bound
  abbrev pub KeepsAbove : Type 0
  KeepsAbove = (f : F) (k : Key) (v : Step) (b : Bool) (w : Step) (f' : F) → I f → T f k v b w f' → (w ≡ v) × (b ≡ nat_lt bound v.version) × I f'

  pub kept_above : KeepsAbove → (f : F) → I f → (es kept : List StepStart) → RetainsPairs T f es kept → kept ≡ filter (λ (e : StepStart). nat_lt bound e.1.version) es
  kept_above told f i [] kept s = s
  kept_above told f i (e ∷ es) kept s =
      let t = told f e.0 e.1 s.0 s.1 s.2 i s.4 in
      s.6
      ∙ ap₂ (λ (b : Bool) (w : Step). cond b ((e.0, w) ∷ s.3) s.3) t.1 t.0
      ∙ ap (λ (rest : List StepStart). cond (nat_lt bound e.1.version) (e ∷ rest) rest) (kept_above told s.2 t.2 es s.3 s.5)
