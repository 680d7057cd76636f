-- Rows in the order of their versions, and the states of a row.
use Rattle.std.proofs.Common.{◌≡◌, slice_get, Some, Contains, ℕ, zero, suc, ◌<◌, ◌≤◌, refl, sym, ap, ◌∙◌, Bool, true, false, cond, nat_eq, nat_lt, slice_set, List, [], ◌∷◌, ◌++◌, length, map, filter, take, drop, get_or, arith}
use Rattle.std.specs.Prelude.{unwrap_or}
use Rattle.std.specs.List.Sorted.{IsNonDecreasingBy}
use Rattle.std.proofs.lemmas.Bool.{lt-ltb, le-ltb, eq-eqb, ne_eqb}
use Rattle.std.proofs.lemmas.Option.{none-some, same_Some}
use Rattle.std.proofs.lemmas.List.Elements.{Contains-append_right}
use Rattle.model.specs.RequestRules.{NumbersRise, part_numbers}
use Rattle.std.proofs.lemmas.List.{length-map}
use Rattle.model.specs.declared.part.Part.{Part}
use Rattle.model.specs.declared.verdict.Verdict.{Verdict}
use Rattle.model.specs.declared.verdict.Verdict.TheVariants.{Conflict}
use Rattle.model.specs.declared.unseen.StateMark.{StateMark}
use Rattle.model.specs.declared.unseen.UnseenState.{UnseenState}
use Rattle.model.specs.Numbers.{Version}
use Rattle.model.specs.Requests.{reply_state_of_mark}
use Rattle.model.specs.Journal.{verdict_or_conflict}
use Rattle.state_memory.specs.Order.{Increase, Rise}

-- ---- lists in the order of their versions

-- of some elements, those above a version
abbrev pub above : {X : Type 0} → (X → Version) → Version → List X → List X
above version_of version xs = filter (λ x. nat_lt version (version_of x)) xs

pub from_lower : {X : Type 0} (version_of : X → Version) (low high : ℕ) (xs : List X) → low ≤ high → Increase version_of high xs → Increase version_of low xs
from_lower version_of low high [] up order = tt
from_lower version_of low high (x ∷ xs) up order = let first = order.0 in (omega (arith, first, up), order.1)

above_low : {X : Type 0} (version_of : X → Version) (low : ℕ) (xs : List X) (i : ℕ) (d : X) → Increase version_of low xs → i < length xs → low < version_of (get_or xs i d)
above_low version_of low [] i d order there = absurd (omega arith)
above_low version_of low (x ∷ xs) zero d order there = order.0
above_low version_of low (x ∷ xs) (suc i) d order there = let first = order.0 in omega (arith, first, above_low version_of (version_of x) xs i d order.1 (omega arith))

pub at_least : {X : Type 0} (version_of : X → Version) (low : ℕ) (xs : List X) (i : ℕ) (x : X) → Increase version_of low xs → i < length xs → x ≡ get_or xs i x → low < version_of x
at_least version_of low xs i x order there is = let same = ap version_of is in omega (arith, same, above_low version_of low xs i x order there)

pub never_falls : {X : Type 0} (version_of : X → Version) (low : ℕ) (xs : List X) → Increase version_of low xs → IsNonDecreasingBy version_of xs
never_falls version_of low [] order i j d up there = absurd (omega arith)
never_falls version_of low (x ∷ xs) order zero zero d up there = omega arith
never_falls version_of low (x ∷ xs) order zero (suc j) d up there = let later = above_low version_of (version_of x) xs j d order.1 (omega arith) in omega (arith, later)
never_falls version_of low (x ∷ xs) order (suc i) zero d up there = absurd (omega arith)
never_falls version_of low (x ∷ xs) order (suc i) (suc j) d up there = never_falls version_of (version_of x) xs order.1 i j d (omega arith) (omega arith)

-- at an element that is not above the version the walk back may stop
pub stops : {X : Type 0} (version_of : X → Version) (version low : ℕ) (xs : List X) (i : ℕ) (x : X) → Increase version_of low xs → i < length xs → x ≡ get_or xs i x → version_of x ≤ version → above version_of version (drop (suc i) xs) ≡ drop (suc i) xs → drop (suc i) xs ≡ above version_of version xs
stops version_of version low [] i x order there is old later = absurd (omega arith)
stops version_of version low (y ∷ xs) zero x order there is old later =
    let same : version_of x ≡ version_of y = ap version_of is in
    let passed : nat_lt version (version_of y) ≡ false = le-ltb version (version_of y) (omega (arith, same, old)) in
    rw passed (sym later)
stops version_of version low (y ∷ xs) (suc i) x order there is old later =
    let past : version_of y < version_of x = at_least version_of (version_of y) xs i x order.1 (omega arith) is in
    let passed : nat_lt version (version_of y) ≡ false = le-ltb version (version_of y) (omega (arith, past, old)) in
    rw passed (stops version_of version (version_of y) xs i x order.1 (omega arith) is old later)

-- nothing lies past the end
pub starts : {X : Type 0} (version_of : X → Version) (version : ℕ) (xs : List X) (i : ℕ) → length xs ≤ i → above version_of version (drop i xs) ≡ drop i xs
starts version_of version [] zero past = refl
starts version_of version [] (suc i) past = refl
starts version_of version (x ∷ xs) zero past = absurd (omega arith)
starts version_of version (x ∷ xs) (suc i) past = starts version_of version xs i (omega arith)

-- the walk goes past an element above the version
pub goes_on : {X : Type 0} (version_of : X → Version) (version : ℕ) (xs : List X) (i j : ℕ) (x : X) → j ≡ suc i → i < length xs → x ≡ get_or xs i x → version < version_of x → above version_of version (drop j xs) ≡ drop j xs → above version_of version (drop i xs) ≡ drop i xs
goes_on version_of version [] i j x next there is new later = absurd (omega arith)
goes_on version_of version (y ∷ xs) zero j x next there is new later =
    let same : version_of x ≡ version_of y = ap version_of is in
    let passes : nat_lt version (version_of y) ≡ true = lt-ltb version (version_of y) (omega (arith, same, new)) in
    rw passes (ap (λ ys. y ∷ ys) (sym (ap (λ k. above version_of version (drop k (y ∷ xs))) next) ∙ later ∙ ap (λ k. drop k (y ∷ xs)) next))
goes_on version_of version (y ∷ xs) (suc i) j x next there is new later = goes_on version_of version xs i (suc i) x refl (omega arith) is new (sym (ap (λ k. above version_of version (drop k (y ∷ xs))) next) ∙ later ∙ ap (λ k. drop k (y ∷ xs)) next)

-- if the first element is above the version, all are
pub all_above : {X : Type 0} (version_of : X → Version) (version low : ℕ) (xs : List X) → Increase version_of low xs → version ≤ low → above version_of version xs ≡ xs
all_above version_of version low [] order past = refl
all_above version_of version low (x ∷ xs) order past =
    let first = order.0 in
    let passes : nat_lt version (version_of x) ≡ true = lt-ltb version (version_of x) (omega (arith, first, past)) in
    rw passes (ap (λ ys. x ∷ ys) (all_above version_of version (version_of x) xs order.1 (omega (arith, first, past))))

-- ---- what rises up to a version

pub rise_increases : {X : Type 0} (version_of : X → Version) (low high : ℕ) (xs : List X) → Rise version_of low high xs → Increase version_of low xs
rise_increases version_of low high [] order = tt
rise_increases version_of low high (x ∷ xs) order = (order.0, rise_increases version_of (version_of x) high xs order.1)

pub rise_bound : {X : Type 0} (version_of : X → Version) (low high : ℕ) (xs : List X) → Rise version_of low high xs → low ≤ high
rise_bound version_of low high [] order = order
rise_bound version_of low high (x ∷ xs) order = let first = order.0 in omega (arith, first, rise_bound version_of (version_of x) high xs order.1)

pub rise_higher : {X : Type 0} (version_of : X → Version) (low high higher : ℕ) (xs : List X) → high ≤ higher → Rise version_of low high xs → Rise version_of low higher xs
rise_higher version_of low high higher [] up order = omega (arith, order, up)
rise_higher version_of low high higher (x ∷ xs) up order = (order.0, rise_higher version_of (version_of x) high higher xs up order.1)

pub rise_push : {X : Type 0} (version_of : X → Version) (low high : ℕ) (xs : List X) (x : X) → Rise version_of low high xs → high < version_of x → Rise version_of low (version_of x) (xs ++ x ∷ [])
rise_push version_of low high [] x order new = (omega (arith, order, new), omega arith)
rise_push version_of low high (y ∷ xs) x order new = (order.0, rise_push version_of (version_of y) high xs x order.1 new)

rise_lower : {X : Type 0} (version_of : X → Version) (lower low high : ℕ) (xs : List X) → lower ≤ low → Rise version_of low high xs → Rise version_of lower high xs
rise_lower version_of lower low high [] down order = omega (arith, order, down)
rise_lower version_of lower low high (x ∷ xs) down order = let first = order.0 in (omega (arith, first, down), order.1)

pub rise_filter : {X : Type 0} (version_of : X → Version) (test : X → Bool) (low high : ℕ) (xs : List X) → Rise version_of low high xs → Rise version_of low high (filter test xs)
rise_filter version_of test low high [] order = order
rise_filter {X} version_of test low high (x ∷ xs) order = by (test x) (rise_filter version_of test (version_of x) high xs order.1)
  where
    by : (t : Bool) → Rise version_of (version_of x) high (filter test xs) → Rise version_of low high (cond t (x ∷ filter test xs) (filter test xs))
    by true later = (order.0, later)
    by false later = rise_lower version_of low (version_of x) high (filter test xs) (let first = order.0 in omega (arith, first)) later

-- ---- the verdict on a part

-- the number of a part is at least the least one
from_least : (least : ℕ) (parts : List Part) (place n : ℕ) → NumbersRise least parts → slice_get (part_numbers parts) place ≡ Some n → least ≤ n
from_least least [] place n rise at = absurd (none-some n at)
from_least least (part ∷ parts) zero n rise at =
    let same : part.number ≡ n = same_Some part.number n at in
    let first : least ≤ part.number = rise.0 in
    omega (arith, same, first)
from_least least (part ∷ parts) (suc place) n rise at =
    let later = from_least (suc part.number) parts place n rise.1 at in
    let first : least ≤ part.number = rise.0 in
    omega (arith, later, first)

-- the verdict on the part of a number is the one at its place
pub verdict_there : (least : ℕ) (parts : List Part) (verdicts : List Verdict) (place n : ℕ) → NumbersRise least parts → slice_get (part_numbers parts) place ≡ Some n → verdict_or_conflict parts verdicts n ≡ unwrap_or (slice_get verdicts place) Conflict
verdict_there least [] verdicts place n rise at = absurd (none-some n at)
verdict_there least (part ∷ parts) [] place n rise at = refl
verdict_there least (part ∷ parts) (v ∷ verdicts) zero n rise at =
    let same : nat_eq part.number n ≡ true = eq-eqb part.number n (same_Some part.number n at) in
    rw same refl
verdict_there least (part ∷ parts) (v ∷ verdicts) (suc place) n rise at =
    let later = from_least (suc part.number) parts place n rise.1 at in
    let apart : nat_eq part.number n ≡ false = ne_eqb part.number n (λ same. omega (arith, later, same)) in
    rw apart (verdict_there (suc part.number) parts verdicts place n rise.1 at)

-- if no part has the number, the verdict is missing
pub verdict_nowhere : (parts : List Part) (verdicts : List Verdict) (n : ℕ) → (Contains (part_numbers parts) n → ⊥) → verdict_or_conflict parts verdicts n ≡ Conflict
verdict_nowhere [] verdicts n none = refl
verdict_nowhere (part ∷ parts) [] n none = refl
verdict_nowhere (part ∷ parts) (v ∷ verdicts) n none =
    let apart : nat_eq part.number n ≡ false = ne_eqb part.number n (λ same. none (0, omega arith, same)) in
    rw apart (verdict_nowhere parts verdicts n (λ at. none (Contains-append_right (part.number ∷ []) (part_numbers parts) n at)))

-- ---- the states of a row

-- a state with no verdict yet
abbrev pub unjudged : StateMark → UnseenState
unjudged mark = reply_state_of_mark [] [] mark

pub states_counted : (share : List Part) (verdicts : List Verdict) (marks : List StateMark) (states : List UnseenState) (i : ℕ) → states ≡ map (reply_state_of_mark share verdicts) (take i marks) ++ map unjudged (drop i marks) → length states ≡ length marks
states_counted share verdicts [] states zero so_far = ap length so_far
states_counted share verdicts [] states (suc i) so_far = ap length so_far
states_counted share verdicts (m ∷ marks) states zero so_far = ap length so_far ∙ length-map (m ∷ marks) unjudged
states_counted share verdicts (m ∷ marks) states (suc i) so_far = ap length so_far ∙ ap suc (states_counted share verdicts marks (map (reply_state_of_mark share verdicts) (take i marks) ++ map unjudged (drop i marks)) i refl)

-- the state at place i gets its verdict
pub state_judged : (share : List Part) (verdicts : List Verdict) (marks : List StateMark) (states : List UnseenState) (i j : ℕ) (mark : StateMark) (state : UnseenState) (verdict : Verdict) → j ≡ suc i → i < length marks → mark ≡ get_or marks i mark → verdict ≡ verdict_or_conflict share verdicts mark.number →
    states ≡ map (reply_state_of_mark share verdicts) (take i marks) ++ map unjudged (drop i marks) →
    slice_set states i (record { verdict = verdict; carried = (get_or states i state).carried }) ≡ map (reply_state_of_mark share verdicts) (take j marks) ++ map unjudged (drop j marks)
state_judged share verdicts [] states i j mark state verdict next there is verdict_is so_far = absurd (omega arith)
state_judged share verdicts (m ∷ marks) [] zero j mark state verdict next there is verdict_is so_far = absurd (cc)
state_judged share verdicts (m ∷ marks) [] (suc i) j mark state verdict next there is verdict_is so_far = absurd (cc)
state_judged share verdicts (m ∷ marks) (s ∷ states) zero j mark state verdict next there is verdict_is so_far =
    let head : s ≡ unjudged m = cc in
    let rest : states ≡ map unjudged marks = cc in
    let carried : s.carried ≡ m.carried = ap (λ (x : UnseenState). x.carried) head in
    let number : mark.number ≡ m.number = ap (λ (x : StateMark). x.number) is in
    let all : List UnseenState = map (reply_state_of_mark share verdicts) (take 1 (m ∷ marks)) ++ map unjudged (drop 1 (m ∷ marks)) in
    let done : (record { verdict = verdict; carried = s.carried }) ∷ states ≡ all = λ k. (record { verdict = (verdict_is ∙ ap (verdict_or_conflict share verdicts) number) k; carried = carried k }) ∷ rest k in
    done ∙ ap (λ n. map (reply_state_of_mark share verdicts) (take n (m ∷ marks)) ++ map unjudged (drop n (m ∷ marks))) (sym next)
state_judged share verdicts (m ∷ marks) (s ∷ states) (suc i) j mark state verdict next there is verdict_is so_far =
    let head : s ≡ reply_state_of_mark share verdicts m = cc in
    let rest : states ≡ map (reply_state_of_mark share verdicts) (take i marks) ++ map unjudged (drop i marks) = cc in
    let later = state_judged share verdicts marks states i (suc i) mark state verdict refl (omega arith) is verdict_is rest in
    let done : s ∷ slice_set states i (record { verdict = verdict; carried = (get_or states i state).carried }) ≡ map (reply_state_of_mark share verdicts) (take (suc (suc i)) (m ∷ marks)) ++ map unjudged (drop (suc (suc i)) (m ∷ marks)) = λ k. head k ∷ later k in
    done ∙ ap (λ n. map (reply_state_of_mark share verdicts) (take n (m ∷ marks)) ++ map unjudged (drop n (m ∷ marks))) (sym next)

-- past the last mark each state has its verdict
pub all_judged_states : (share : List Part) (verdicts : List Verdict) (marks : List StateMark) (states : List UnseenState) (i : ℕ) → length marks ≤ i → states ≡ map (reply_state_of_mark share verdicts) (take i marks) ++ map unjudged (drop i marks) → states ≡ map (reply_state_of_mark share verdicts) marks
all_judged_states share verdicts [] states zero past so_far = so_far
all_judged_states share verdicts [] states (suc i) past so_far = so_far
all_judged_states share verdicts (m ∷ marks) states zero past so_far = absurd (omega arith)
all_judged_states share verdicts (m ∷ marks) states (suc i) past so_far = so_far ∙ ap (λ xs. reply_state_of_mark share verdicts m ∷ xs) (all_judged_states share verdicts marks (map (reply_state_of_mark share verdicts) (take i marks) ++ map unjudged (drop i marks)) i (omega arith) refl)
