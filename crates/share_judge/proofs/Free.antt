-- Ranges with no start inside: how they are found, and what is written over them.
use Rattle.std.proofs.Common.{◌≡◌, refl, sym, ap, ◌∙◌, subst, ℕ, ◌⊎◌, inl, inr, List, [], ◌∷◌, ◌++◌, Bool, true, false, cond, not, ◌&&◌, Option, Some, None, IfSome, Ordering, Less, Equal, Greater}
use Rattle.std.proofs.lemmas.Bool.{both_ways}
use Rattle.std.specs.Ordering.{match_ordering}
use Rattle.std.specs.BTreeMap.{insert_entry}
use Rattle.std.specs.BTreeMap.Range.{entries_between}
use Rattle.std.specs.declared.ops.Bound.TheVariants.{Included, Unbounded}
use Rattle.system_keys.specs.Keys.{Key, holds, is_key_below}
use Rattle.system_keys.proofs.KeyOrder.{not_below_itself, below_trans, below_up_to, up_to_trans, not_below_back, equal_unless_below}
use Rattle.share_judge.specs.declared.step.Step.{Step}
use Rattle.share_judge.specs.Steps.{Start, StepStart, no_step, last_from, last_of_all, IsBefore, AreRising, HasStart, IsEdge, IsFree, TellTheSame, AreOver}
use Rattle.share_judge.proofs.Starts.{key_cmp, less, greater, equal, before_has, before_trans, none_before, starts_up_to}
use Rattle.share_judge.proofs.Settled.{same_last, same_past}
use Rattle.share_judge.proofs.WalkBack.{last_above, last_after, last_decides, front_rising}
use Rattle.share_judge.proofs.MapCalls.{found_at, none_at}

-- ---- no start between

free_append : {X : Type 0} → (begin end : Key) (front : List (Key × X)) (s : Key × X) → IsFree begin end front → is_key_below s.0 end ≡ false → IsFree begin end (front ++ s ∷ [])
free_append begin end [] s free past = (λ below. absurd (both_ways (is_key_below s.0 end) past below), tt)
free_append begin end (t ∷ front) s free past = (free.0, free_append begin end front s free.1 past)

-- starts up to the begin are not between
free_up_to : {X : Type 0} → (begin end : Key) (front : List (Key × X)) (s : Key × X) → AreRising (front ++ s ∷ []) → is_key_below begin s.0 ≡ false → IsFree begin end (front ++ s ∷ [])
free_up_to begin end [] s rising up_to = (λ below. up_to, tt)
free_up_to begin end (t ∷ front) s rising up_to =
    (λ below. up_to_trans t.0 s.0 begin (not_below_back t.0 s.0 (last_above t.0 front s rising.0)) up_to, free_up_to begin end front s rising.1 up_to)

before_up_to : {X : Type 0} → (key end : Key) (ss : List (Key × X)) → IsBefore key ss → IsBefore key (starts_up_to end ss)
before_up_to key end [] all = tt
before_up_to key end (s ∷ ss) all = by (not (is_key_below end s.0)) (before_up_to key end ss all.1)
  where
    by : (t : Bool) → IsBefore key (starts_up_to end ss) → IsBefore key (cond t (s ∷ starts_up_to end ss) (starts_up_to end ss))
    by true rest = (all.0, rest)
    by false rest = rest

rising_up_to : {X : Type 0} → (end : Key) (ss : List (Key × X)) → AreRising ss → AreRising (starts_up_to end ss)
rising_up_to end [] rising = tt
rising_up_to end (s ∷ ss) rising = by (not (is_key_below end s.0)) (rising_up_to end ss rising.1)
  where
    by : (t : Bool) → AreRising (starts_up_to end ss) → AreRising (cond t (s ∷ starts_up_to end ss) (starts_up_to end ss))
    by true rest = (before_up_to s.0 end ss rising.0, rest)
    by false rest = rest

-- nor are starts past the end
free_of_up_to : {X : Type 0} → (begin end : Key) (ss : List (Key × X)) → IsFree begin end (starts_up_to end ss) → IsFree begin end ss
free_of_up_to begin end [] free = tt
free_of_up_to begin end (s ∷ ss) free = by (is_key_below end s.0) refl free (free_of_up_to begin end ss)
  where
    by : (t : Bool) → is_key_below end s.0 ≡ t → IsFree begin end (cond (not t) (s ∷ starts_up_to end ss) (starts_up_to end ss))
        → (IsFree begin end (starts_up_to end ss) → IsFree begin end ss) → IsFree begin end (s ∷ ss)
    by true past free rest = (λ below. absurd (both_ways (is_key_below s.0 end) (not_below_back end s.0 past) below), rest free)
    by false up_to free rest = (free.0, rest free.1)

has_up_to : {X : Type 0} → (end : Key) (ss : List (Key × X)) (key : Key) → HasStart (starts_up_to end ss) key → HasStart ss key × (is_key_below end key ≡ false)
has_up_to end [] key has = absurd has
has_up_to end (s ∷ ss) key has = by (is_key_below end s.0) refl has (λ has. let rest = has_up_to end ss key has in (inr rest.0, rest.1))
  where
    by : (t : Bool) → is_key_below end s.0 ≡ t → HasStart (cond (not t) (s ∷ starts_up_to end ss) (starts_up_to end ss)) key
        → (HasStart (starts_up_to end ss) key → HasStart (s ∷ ss) key × (is_key_below end key ≡ false)) → HasStart (s ∷ ss) key × (is_key_below end key ≡ false)
    by true past has later = later has
    by false up_to (inl is) later = (inl is, ap (is_key_below end) is ∙ up_to)
    by false up_to (inr has) later = later has

last_has : {X : Type 0} → (front : List (Key × X)) (s : Key × X) → HasStart (front ++ s ∷ []) s.0
last_has [] s = inl refl
last_has (t ∷ front) s = inr (last_has front s)

-- the starts up to the end decide at the begin
begin_up_to : {X : Type 0} → (first : X) (begin end : Key) (ss : List (Key × X)) → is_key_below begin end ≡ true → AreRising ss → last_from first (starts_up_to end ss) begin ≡ last_from first ss begin
begin_up_to first begin end [] forward rising = refl
begin_up_to {X} first begin end (s ∷ ss) forward rising = by (is_key_below end s.0) refl (begin_up_to s.1 begin end ss forward rising.1)
  where
    by : (t : Bool) → is_key_below end s.0 ≡ t → last_from s.1 (starts_up_to end ss) begin ≡ last_from s.1 ss begin
        → last_from first (cond (not t) (s ∷ starts_up_to end ss) (starts_up_to end ss)) begin ≡ cond (is_key_below begin s.0) first (last_from s.1 ss begin)
    by true past rest =
        let early : is_key_below begin s.0 ≡ true = below_trans begin end s.0 forward past in
        none_before first (starts_up_to end ss) begin (before_up_to begin end ss (before_trans begin s.0 ss early rising.0))
        ∙ sym (ap (λ (b : Bool). cond b first (last_from s.1 ss begin)) early)
    by false up_to rest = ap (λ (n : X). cond (is_key_below begin s.0) first n) rest

-- ---- what is found from the end back

-- the starts up to the end
abbrev pub AreUpTo : (end : Key) (es left : List StepStart) → Type 0
AreUpTo end es left = entries_between key_cmp Unbounded (Included end) es ≡ left

-- there is none
pub none_at_begin : (es : List StepStart) (begin end : Key) → is_key_below begin end ≡ true → AreRising es → AreUpTo end es [] → no_step ≡ last_from no_step es begin
none_at_begin es begin end forward rising is = ap (λ (ss : List StepStart). last_from no_step ss begin) (sym is) ∙ begin_up_to no_step begin end es forward rising

pub none_at_end : (es : List StepStart) (end : Key) → AreRising es → AreUpTo end es [] → IsEdge es end no_step false
none_at_end es end rising is = (none_at no_step es end rising is, λ there. absurd (cc))

pub none_found : (es : List StepStart) (begin end : Key) → AreUpTo end es [] → IsFree begin end es
none_found es begin end is = free_of_up_to begin end es (subst (IsFree begin end) (sym is) tt)

-- the last one is up to the begin
pub last_at_begin : (es front : List StepStart) (e : StepStart) (begin end : Key) (step : Step) → is_key_below begin end ≡ true → AreRising es → AreUpTo end es (front ++ e ∷ []) → is_key_below begin e.0 ≡ false → step ≡ e.1 → step ≡ last_from no_step es begin
last_at_begin es front e begin end step forward rising is up_to step_is =
    step_is
    ∙ sym (last_decides no_step front e begin (subst AreRising is (rising_up_to end es rising)) up_to)
    ∙ ap (λ (ss : List StepStart). last_from no_step ss begin) (sym is)
    ∙ begin_up_to no_step begin end es forward rising

pub last_at_end : (es front : List StepStart) (e : StepStart) (end : Key) → AreRising es → AreUpTo end es (front ++ e ∷ []) → IsEdge es end e.1 false
last_at_end es front e end rising is = (found_at no_step es front e end rising is, λ there. absurd (cc))

pub last_found : (es front : List StepStart) (e : StepStart) (begin end : Key) → AreRising es → AreUpTo end es (front ++ e ∷ []) → is_key_below begin e.0 ≡ false → IsFree begin end es
last_found es front e begin end rising is up_to =
    free_of_up_to begin end es (subst (IsFree begin end) (sym is) (free_up_to begin end front e (subst AreRising is (rising_up_to end es rising)) up_to))

-- the last one is at the end, and the one before it up to the begin
pub start_at_end : (es front : List StepStart) (e : StepStart) (end : Key) → AreRising es → AreUpTo end es (front ++ e ∷ []) → is_key_below e.0 end ≡ false → IsEdge es end e.1 true
start_at_end es front e end rising is past =
    let has = has_up_to end es e.0 (subst (λ (ss : List StepStart). HasStart ss e.0) (sym is) (last_has front e)) in
    (found_at no_step es front e end rising is, λ there. subst (HasStart es) (equal_unless_below e.0 end past has.1) has.0)

past_begin : {X : Type 0} → (begin end : Key) (e : Key × X) → is_key_below begin end ≡ true → is_key_below e.0 end ≡ false → is_key_below begin e.0 ≡ true
past_begin begin end e forward past = below_up_to begin end e.0 forward past

-- below the last start the others decide
front_at : (es mid : List StepStart) (e : StepStart) (begin end : Key) → is_key_below begin end ≡ true → AreRising es → AreUpTo end es (mid ++ e ∷ []) → is_key_below e.0 end ≡ false → last_from no_step mid begin ≡ last_from no_step es begin
front_at es mid e begin end forward rising is past =
    sym (last_after no_step mid e begin (past_begin begin end e forward past))
    ∙ ap (λ (ss : List StepStart). last_from no_step ss begin) (sym is)
    ∙ begin_up_to no_step begin end es forward rising

pub two_at_begin : (es mid front : List StepStart) (e f : StepStart) (begin end : Key) (step : Step) → is_key_below begin end ≡ true → AreRising es → AreUpTo end es (mid ++ e ∷ []) → is_key_below e.0 end ≡ false → mid ≡ front ++ f ∷ [] → is_key_below begin f.0 ≡ false → step ≡ f.1 → step ≡ last_from no_step es begin
two_at_begin es mid front e f begin end step forward rising is past mid_is up_to step_is =
    step_is
    ∙ sym (last_decides no_step front f begin (subst AreRising mid_is rising_mid) up_to)
    ∙ ap (λ (ss : List StepStart). last_from no_step ss begin) (sym mid_is)
    ∙ front_at es mid e begin end forward rising is past
  where
    rising_mid : AreRising mid
    rising_mid = front_rising mid e (subst AreRising is (rising_up_to end es rising))

pub two_found : (es mid front : List StepStart) (e f : StepStart) (begin end : Key) → AreRising es → AreUpTo end es (mid ++ e ∷ []) → is_key_below e.0 end ≡ false → mid ≡ front ++ f ∷ [] → is_key_below begin f.0 ≡ false → IsFree begin end es
two_found es mid front e f begin end rising is past mid_is up_to =
    free_of_up_to begin end es (subst (IsFree begin end) (sym is) (free_append begin end mid e free past))
  where
    free : IsFree begin end mid
    free = subst (IsFree begin end) (sym mid_is) (free_up_to begin end front f (subst AreRising mid_is (front_rising mid e (subst AreRising is (rising_up_to end es rising)))) up_to)

-- only the one at the end is there
pub one_at_begin : (es mid : List StepStart) (e : StepStart) (begin end : Key) → is_key_below begin end ≡ true → AreRising es → AreUpTo end es (mid ++ e ∷ []) → is_key_below e.0 end ≡ false → mid ≡ [] → no_step ≡ last_from no_step es begin
one_at_begin es mid e begin end forward rising is past none = ap (λ (ss : List StepStart). last_from no_step ss begin) (sym none) ∙ front_at es mid e begin end forward rising is past

pub one_found : (es mid : List StepStart) (e : StepStart) (begin end : Key) → AreUpTo end es (mid ++ e ∷ []) → is_key_below e.0 end ≡ false → mid ≡ [] → IsFree begin end es
one_found es mid e begin end is past none =
    free_of_up_to begin end es (subst (IsFree begin end) (sym is) (free_append begin end mid e (subst (IsFree begin end) (sym none) tt) past))

-- two facts of a value give a third
pub if_some : {X : Type 0} {P Q R : X → Type 0} (o : Option X) → ((x : X) → P x → Q x → R x) → IfSome o P → IfSome o Q → IfSome o R
if_some None to p q = tt
if_some (Some x) to p q = to x p q

-- ---- starts put at the ends

free_from : {X : Type 0} → (begin end : Key) (ss : List (Key × X)) → ((key : Key) → HasStart ss key → is_key_below key end ≡ true → is_key_below begin key ≡ false) → IsFree begin end ss
free_from begin end [] each = tt
free_from begin end (s ∷ ss) each = (each s.0 (inl refl), free_from begin end ss (λ key has. each key (inr has)))

free_has : {X : Type 0} → (begin end : Key) (ss : List (Key × X)) (key : Key) → IsFree begin end ss → HasStart ss key → is_key_below key end ≡ true → is_key_below begin key ≡ false
free_has begin end [] key free has below = absurd has
free_has begin end (s ∷ ss) key free (inl is) below = ap (is_key_below begin) is ∙ free.0 (ap (λ (k : Key). is_key_below k end) (sym is) ∙ below)
free_has begin end (s ∷ ss) key free (inr has) below = free_has begin end ss key free.1 has below

pub ends_free : {X : Type 0} → (es new : List (Key × X)) (begin end : Key) → IsFree begin end es → ((key : Key) → HasStart new key → HasStart es key ⊎ ((key ≡ begin) ⊎ (key ≡ end))) → IsFree begin end new
ends_free es new begin end free no_more = free_from begin end new (λ key has. by key (no_more key has))
  where
    by : (key : Key) → HasStart es key ⊎ ((key ≡ begin) ⊎ (key ≡ end)) → is_key_below key end ≡ true → is_key_below begin key ≡ false
    by key (inl old) below = free_has begin end es key free old below
    by key (inr (inl is)) below = ap (is_key_below begin) is ∙ not_below_itself begin
    by key (inr (inr is)) below = absurd (both_ways (is_key_below key end) (ap (λ (k : Key). is_key_below k end) is ∙ not_below_itself end) below)

pub end_free : {X : Type 0} → (es new : List (Key × X)) (begin end : Key) → IsFree begin end es → ((key : Key) → HasStart new key → HasStart es key ⊎ (key ≡ end)) → IsFree begin end new
end_free es new begin end free no_more = ends_free es new begin end free (λ key has. by key (no_more key has))
  where
    by : (key : Key) → HasStart es key ⊎ (key ≡ end) → HasStart es key ⊎ ((key ≡ begin) ⊎ (key ≡ end))
    by key (inl old) = inl old
    by key (inr is) = inr (inr is)

-- ---- the range written

-- the first start above the begin is at the end
pub next_is_end : (begin end : Key) (s : Start) (ss : List Start) → IsBefore s.0 ss → is_key_below begin s.0 ≡ true → HasStart (s ∷ ss) end → IsFree begin end (s ∷ ss) → s.0 ≡ end
next_is_end begin end s ss all above (inl is) free = sym is
next_is_end begin end s ss all above (inr has) free = absurd (both_ways (is_key_below begin s.0) (free.0 (before_has s.0 end ss all has)) above)

pub not_first : (end : Key) (s : Start) (ss : List Start) → is_key_below s.0 end ≡ true → HasStart (s ∷ ss) end → HasStart ss end
not_first end s ss below (inl is) = absurd (both_ways (is_key_below s.0 end) (ap (is_key_below s.0) is ∙ not_below_itself s.0) below)
not_first end s ss below (inr has) = has

from_end : (x y : ℕ) (begin end key : Key) (ss : List Start) → IsBefore begin ss → AreRising ss → HasStart ss end → IsFree begin end ss → last_from x ss key ≡ cond (is_key_below key end) x (last_from y ss key)
from_end x y begin end key [] all rising has free = absurd has
from_end x y begin end key (t ∷ ts) all rising has free =
    subst (λ (k : Key). last_from x (t ∷ ts) key ≡ cond (is_key_below key k) x (last_from y (t ∷ ts) key)) (next_is_end begin end t ts rising.0 all.0 has free) (by (is_key_below key t.0) (last_from t.1 ts key))
  where
    by : (b : Bool) (later : ℕ) → cond b x later ≡ cond b x (cond b y later)
    by true later = refl
    by false later = refl

written_at : (first : ℕ) (ss : List Start) (begin end : Key) (version : ℕ) (key : Key) → is_key_below begin end ≡ true → AreRising ss → HasStart ss end → IsFree begin end ss
    → last_from first (insert_entry key_cmp ss begin version) key ≡ cond (not (is_key_below key begin) && is_key_below key end) version (last_from first ss key)
written_at first [] begin end version key forward rising has free = absurd has
written_at first (s ∷ ss) begin end version key forward rising has free = by (key_cmp begin s.0) refl (λ there. written_at s.1 ss begin end version key forward rising.1 there free.1)
  where
    later : ℕ
    later = last_from s.1 ss key

    above : (a b : Bool) → (a ≡ true → b ≡ true) → cond a first (cond b version later) ≡ cond (not a && b) version (cond b first later)
    above true true both = refl
    above true false both = absurd (both_ways false refl (both refl))
    above false true both = refl
    above false false both = refl

    level : (a b : Bool) → cond a first (cond b version later) ≡ cond (not a && b) version (cond a first later)
    level true true = refl
    level true false = refl
    level false true = refl
    level false false = refl

    under : (c a b : Bool) → (c ≡ true → a ≡ true) → cond c first (cond (not a && b) version later) ≡ cond (not a && b) version (cond c first later)
    under true true b both = refl
    under true false b both = absurd (both_ways false refl (both refl))
    under false true b both = refl
    under false false true both = refl
    under false false false both = refl

    by : (r : Ordering) → key_cmp begin s.0 ≡ r
        → (HasStart ss end → last_from s.1 (insert_entry key_cmp ss begin version) key ≡ cond (not (is_key_below key begin) && is_key_below key end) version (last_from s.1 ss key))
        → last_from first (match_ordering r ((begin, version) ∷ s ∷ ss) ((s.0, version) ∷ ss) (s ∷ insert_entry key_cmp ss begin version)) key
        ≡ cond (not (is_key_below key begin) && is_key_below key end) version (last_from first (s ∷ ss) key)
    by Less is rest =
        let at : s.0 ≡ end = next_is_end begin end s ss rising.0 (less begin s.0 is) has free in
        subst (λ (k : Key). cond (is_key_below key begin) first (cond (is_key_below key s.0) version later) ≡ cond (not (is_key_below key begin) && is_key_below key k) version (cond (is_key_below key s.0) first later)) at
        (above (is_key_below key begin) (is_key_below key s.0) (λ below. below_trans key begin s.0 below (less begin s.0 is)))
    by Equal is rest =
        let at : begin ≡ s.0 = equal begin s.0 is in
        let all : IsBefore begin ss = subst (λ (k : Key). IsBefore k ss) (sym at) rising.0 in
        let there : HasStart ss end = not_first end s ss (subst (λ (k : Key). is_key_below k end ≡ true) at forward) has in
        ap (λ (n : ℕ). cond (is_key_below key s.0) first n) (from_end version s.1 begin end key ss all rising.1 there free.1)
        ∙ subst (λ (k : Key). cond (is_key_below key s.0) first (cond (is_key_below key end) version later) ≡ cond (not (is_key_below key k) && is_key_below key end) version (cond (is_key_below key s.0) first later)) (sym at)
        (level (is_key_below key s.0) (is_key_below key end))
    by Greater is rest =
        let up : is_key_below s.0 begin ≡ true = greater begin s.0 is in
        let there : HasStart ss end = not_first end s ss (below_trans s.0 begin end up forward) has in
        ap (λ (n : ℕ). cond (is_key_below key s.0) first n) (rest there)
        ∙ under (is_key_below key s.0) (is_key_below key begin) (is_key_below key end) (λ below. below_trans key s.0 begin below up)

any_first : (x y : ℕ) (ss : List Start) (key : Key) → HasStart ss key → last_of_all x ss ≡ last_of_all y ss
any_first x y [] key has = absurd has
any_first x y (t ∷ ts) key has = refl

pub past_put : (first : ℕ) (ss : List Start) (begin end : Key) (version : ℕ) → is_key_below begin end ≡ true → HasStart ss end → last_of_all first (insert_entry key_cmp ss begin version) ≡ last_of_all first ss
past_put first [] begin end version forward has = absurd has
past_put first (s ∷ ss) begin end version forward has = by (key_cmp begin s.0) refl (past_put s.1 ss begin end version forward)
  where
    by : (r : Ordering) → key_cmp begin s.0 ≡ r → (HasStart ss end → last_of_all s.1 (insert_entry key_cmp ss begin version) ≡ last_of_all s.1 ss)
        → last_of_all first (match_ordering r ((begin, version) ∷ s ∷ ss) ((s.0, version) ∷ ss) (s ∷ insert_entry key_cmp ss begin version)) ≡ last_of_all s.1 ss
    by Less is rest = refl
    by Equal is rest = any_first version s.1 ss end (not_first end s ss (subst (λ (k : Key). is_key_below k end ≡ true) (equal begin s.0 is) forward) has)
    by Greater is rest = rest (not_first end s ss (below_trans s.0 begin end (greater begin s.0 is) forward) has)

-- a start with the version is put at the begin of a range with a start at its end, and none between
pub over_free : (es mid new : List Start) (begin end : Key) (version : ℕ) → is_key_below begin end ≡ true → AreRising es → AreRising mid → TellTheSame es mid → HasStart mid end → IsFree begin end mid → new ≡ insert_entry key_cmp mid begin version
    → AreOver (holds (record { begin = begin; end = end })) version es new
over_free es mid new begin end version forward rising rising_mid same has free is =
    record {
      at = λ key.
          ap (λ (ss : List Start). last_from 0 ss key) is
          ∙ written_at 0 mid begin end version key forward rising_mid has free
          ∙ ap (λ (n : ℕ). cond (holds (record { begin = begin; end = end }) key) version n) (same_last es mid rising rising_mid same key);
      past = λ none. ap (last_of_all 0) is ∙ past_put 0 mid begin end version forward has ∙ same_past es mid same ∙ none;
    }
