-- How many starts begin a range with another version, once one key alone has its own.
use Rattle.std.proofs.Common.{◌≡◌, refl, sym, ap, ap₂, subst, ◌∙◌, ℕ, ◌+◌, max, List, [], ◌∷◌, ◌++◌, Bool, true, false, cond, not, ◌&&◌, nat_eq, append_assoc, Ordering, Less, Equal, Greater, arith}
use Rattle.std.proofs.lemmas.Bool.{eq-eqb}
use Rattle.std.specs.Ordering.{match_ordering}
use Rattle.std.specs.BTreeMap.{insert_entry}
use Rattle.system_keys.specs.Keys.{Key, is_key_below, only}
use Rattle.system_keys.proofs.KeyOrder.{not_below_itself, not_below_back, below_trans, up_to_below}
use Rattle.model.specs.WriteHistories.{unless_forgotten}
use Rattle.share_judge.specs.declared.step.Step.{Step}
use Rattle.share_judge.specs.Steps.{Start, StepStart, last_from, last_before, IsBefore, AreRising, HasStart, IsFree, is_inner_boundary, changes_from, starts_now}
use Rattle.share_judge.specs.Versions.{at_key, with_key, with_keys}
use Rattle.share_judge.proofs.Starts.{key_cmp, less, greater, equal}
use Rattle.share_judge.proofs.Settled.{edge_same, edge_there, same_last}
use Rattle.share_judge.proofs.Free.{next_is_end, not_first}
use Rattle.share_judge.proofs.Told.{own_at}
use Rattle.share_judge.proofs.OneKey.{below_the_next, only_free}
use Rattle.share_judge.proofs.AtKeys.{none_at_key}
use Rattle.share_judge.proofs.Readings.{read_rising}
use Rattle.share_judge.proofs.KeptWrites.{none_is}
use Rattle.share_judge.proofs.After.{left_at}
use Rattle.share_judge.proofs.WithKeys.{insert_rising, keys_rising, keys_last}

abbrev changes : (dropped first : ℕ) (ss : List Start) → ℕ
changes dropped first ss = changes_from dropped (unless_forgotten dropped first) ss

-- one if a range with another version begins at the key, where this version stands before it; or none
abbrev pub changed : (dropped : ℕ) (key : Key) (before version : ℕ) → ℕ
changed dropped key before version =
    let is_same = nat_eq (unless_forgotten dropped version) (unless_forgotten dropped before) in
    cond (is_inner_boundary key && not is_same) 1 0

-- a key and the one right after it, of which no other is left
pub two_changes : (dropped : ℕ) (key : Key) (before at after : ℕ) → changes_from dropped (unless_forgotten dropped before) ((key, at) ∷ ((only key).end, after) ∷ []) ≡ changed dropped key before at + changed dropped (only key).end at after
two_changes dropped key before at after = none_last (changed dropped key before at) (changed dropped (only key).end at after)
  where
    none_last : (n m : ℕ) → n + (m + 0) ≡ n + m
    none_last n m = omega arith

same_changed : (dropped : ℕ) (key : Key) (n : ℕ) → changed dropped key n n ≡ 0
same_changed dropped key n = ap (λ (b : Bool). cond (is_inner_boundary key && not b) 1 0) (eq-eqb (unless_forgotten dropped n) (unless_forgotten dropped n) refl) ∙ none (is_inner_boundary key)
  where
    none : (b : Bool) → ◌≡◌ {A = ℕ} (cond (b && false) 1 0) 0
    none true = refl
    none false = refl

-- ---- a start with the version that its key has

none_first : (n m : ℕ) → n ≡ 0 → n + m ≡ m
none_first n m is = omega (arith, is)

edge_count : (dropped first : ℕ) (ss : List Start) (key : Key) → AreRising ss → changes dropped first (insert_entry key_cmp ss key (last_from first ss key)) ≡ changes dropped first ss
edge_count dropped first [] key rising = none_first (changed dropped key first first) 0 (same_changed dropped key first)
edge_count dropped first (s ∷ ss) key rising = by (key_cmp key s.0) refl (edge_count dropped s.1 ss key rising.1)
  where
    version : ℕ
    version = last_from first (s ∷ ss) key

    by : (r : Ordering) → key_cmp key s.0 ≡ r → changes dropped s.1 (insert_entry key_cmp ss key (last_from s.1 ss key)) ≡ changes dropped s.1 ss
        → changes dropped first (match_ordering r ((key, version) ∷ s ∷ ss) ((s.0, version) ∷ ss) (s ∷ insert_entry key_cmp ss key version)) ≡ changes dropped first (s ∷ ss)
    by Less is rest =
        let same : version ≡ first = ap (λ (b : Bool). cond b first (last_from s.1 ss key)) (less key s.0 is) in
        ap (λ (n : ℕ). changes dropped first ((key, n) ∷ s ∷ ss)) same
        ∙ none_first (changed dropped key first first) (changes dropped first (s ∷ ss)) (same_changed dropped key first)
    by Equal is rest =
        let at : key ≡ s.0 = equal key s.0 is in
        let same : version ≡ s.1 = ap (λ (k : Key). last_from first (s ∷ ss) k) at ∙ own_at first s ss rising in
        ap (λ (n : ℕ). changes dropped first ((s.0, n) ∷ ss)) same
    by Greater is rest =
        let same : version ≡ last_from s.1 ss key = ap (λ (b : Bool). cond b first (last_from s.1 ss key)) (not_below_back s.0 key (greater key s.0 is)) in
        ap (λ (n : ℕ). changed dropped s.0 first s.1 + n) (ap (λ (n : ℕ). changes dropped s.1 (insert_entry key_cmp ss key n)) same ∙ rest)

-- ---- a start that is put, with another version, where the next start is at the end

-- the first start is at the end
head_count : (dropped p q first : ℕ) (ss : List Start) (begin end : Key) → IsBefore begin ss → AreRising ss → HasStart ss end → IsFree begin end ss
    → changes dropped p ss + changed dropped end q (last_from first ss end) ≡ changes dropped q ss + changed dropped end p (last_from first ss end)
head_count dropped p q first [] begin end all rising has free = absurd has
head_count dropped p q first (t ∷ ts) begin end all rising has free =
    sums (changed dropped t.0 p t.1) (changed dropped t.0 q t.1) (changes dropped t.1 ts) (changed dropped end p (last_from first (t ∷ ts) end)) (changed dropped end q (last_from first (t ∷ ts) end)) (each p) (each q)
  where
    at : t.0 ≡ end
    at = next_is_end begin end t ts rising.0 all.0 has free

    stands : last_from first (t ∷ ts) end ≡ t.1
    stands = ap (λ (k : Key). last_from first (t ∷ ts) k) (sym at) ∙ own_at first t ts rising

    each : (n : ℕ) → changed dropped end n (last_from first (t ∷ ts) end) ≡ changed dropped t.0 n t.1
    each n = ap₂ (λ (k : Key) (m : ℕ). changed dropped k n m) (sym at) stands

    sums : (tp tq rest ep eq : ℕ) → ep ≡ tp → eq ≡ tq → (tp + rest) + eq ≡ (tq + rest) + ep
    sums tp tq rest ep eq a b = omega (arith, a, b)

put_count : (dropped first : ℕ) (ss : List Start) (begin end : Key) (n : ℕ) → is_key_below begin end ≡ true → AreRising ss → HasStart ss end → IsFree begin end ss
    → changes dropped first (insert_entry key_cmp ss begin n) + (changed dropped begin (last_before first ss begin) (last_from first ss begin) + changed dropped end (last_from first ss begin) (last_from first ss end))
    ≡ changes dropped first ss + (changed dropped begin (last_before first ss begin) n + changed dropped end n (last_from first ss end))
put_count dropped first [] begin end n forward rising has free = absurd has
put_count dropped first (s ∷ ss) begin end n forward rising has free =
    by (key_cmp begin s.0) refl (λ there. put_count dropped s.1 ss begin end n forward rising.1 there free.1)
  where
    a : ℕ
    a = last_before first (s ∷ ss) begin

    b : ℕ
    b = last_from first (s ∷ ss) begin

    c : ℕ
    c = last_from first (s ∷ ss) end

    before_all : (kn en rest kab ebc ef kan enc : ℕ) → kab ≡ 0 → ebc ≡ ef → kan ≡ kn → enc ≡ en → (kn + (en + rest)) + (kab + ebc) ≡ (ef + rest) + (kan + enc)
    before_all kn en rest kab ebc ef kan enc p q r t = omega (arith, p, q, r, t)

    at_first : (sn cn s1 c1 kab ebc kan enc : ℕ) → kab ≡ s1 → kan ≡ sn → cn + ebc ≡ c1 + enc → (sn + cn) + (kab + ebc) ≡ (s1 + c1) + (kan + enc)
    at_first sn cn s1 c1 kab ebc kan enc p q r = omega (arith, p, q, r)

    past_first : (s1 x z y w y2 w2 : ℕ) → y ≡ y2 → w ≡ w2 → x + y2 ≡ z + w2 → (s1 + x) + y ≡ (s1 + z) + w
    past_first s1 x z y w y2 w2 p q r = omega (arith, p, q, r)

    by : (r : Ordering) → key_cmp begin s.0 ≡ r
        → (HasStart ss end → changes dropped s.1 (insert_entry key_cmp ss begin n) + (changed dropped begin (last_before s.1 ss begin) (last_from s.1 ss begin) + changed dropped end (last_from s.1 ss begin) (last_from s.1 ss end))
        ≡ changes dropped s.1 ss + (changed dropped begin (last_before s.1 ss begin) n + changed dropped end n (last_from s.1 ss end)))
        → changes dropped first (match_ordering r ((begin, n) ∷ s ∷ ss) ((s.0, n) ∷ ss) (s ∷ insert_entry key_cmp ss begin n)) + (changed dropped begin a b + changed dropped end b c)
        ≡ changes dropped first (s ∷ ss) + (changed dropped begin a n + changed dropped end n c)
    by Less is rest =
        let below : is_key_below begin s.0 ≡ true = less begin s.0 is in
        let at : s.0 ≡ end = next_is_end begin end s ss rising.0 below has free in
        let ea : a ≡ first = ap (λ (t : Bool). cond t (last_before s.1 ss begin) first) (not_below_back begin s.0 below) in
        let eb : b ≡ first = ap (λ (t : Bool). cond t first (last_from s.1 ss begin)) below in
        let ec : c ≡ s.1 = ap (λ (k : Key). last_from first (s ∷ ss) k) (sym at) ∙ own_at first s ss rising in
        before_all (changed dropped begin first n) (changed dropped s.0 n s.1) (changes dropped s.1 ss) (changed dropped begin a b) (changed dropped end b c) (changed dropped s.0 first s.1) (changed dropped begin a n) (changed dropped end n c)
        (ap₂ (changed dropped begin) ea eb ∙ same_changed dropped begin first)
        (ap (λ (k : Key). changed dropped k b c) (sym at) ∙ ap₂ (changed dropped s.0) eb ec)
        (ap (λ (x : ℕ). changed dropped begin x n) ea)
        (ap₂ (λ (k : Key) (x : ℕ). changed dropped k n x) (sym at) ec)
    by Equal is rest =
        let at : begin ≡ s.0 = equal begin s.0 is in
        let below : is_key_below s.0 end ≡ true = ap (λ (k : Key). is_key_below k end) (sym at) ∙ forward in
        let there : HasStart ss end = not_first end s ss below has in
        let all : IsBefore begin ss = subst (λ (k : Key). IsBefore k ss) (sym at) rising.0 in
        let ea : a ≡ first = ap (λ (k : Key). cond (is_key_below s.0 k) (last_before s.1 ss begin) first) at ∙ ap (λ (t : Bool). cond t (last_before s.1 ss begin) first) (not_below_itself s.0) in
        let eb : b ≡ s.1 = ap (λ (k : Key). last_from first (s ∷ ss) k) at ∙ own_at first s ss rising in
        let ec : c ≡ last_from s.1 ss end = ap (λ (t : Bool). cond t first (last_from s.1 ss end)) (not_below_back s.0 end below) in
        at_first (changed dropped s.0 first n) (changes dropped n ss) (changed dropped s.0 first s.1) (changes dropped s.1 ss) (changed dropped begin a b) (changed dropped end b c) (changed dropped begin a n) (changed dropped end n c)
        (ap (λ (k : Key). changed dropped k a b) at ∙ ap₂ (changed dropped s.0) ea eb)
        (ap₂ (λ (k : Key) (x : ℕ). changed dropped k x n) at ea)
        (ap₂ (λ (x y : ℕ). changes dropped n ss + changed dropped end x y) eb ec ∙ head_count dropped n s.1 s.1 ss begin end all rising.1 there free.1 ∙ ap (λ (y : ℕ). changes dropped s.1 ss + changed dropped end n y) (sym ec))
    by Greater is rest =
        let up : is_key_below s.0 begin ≡ true = greater begin s.0 is in
        let below : is_key_below s.0 end ≡ true = below_trans s.0 begin end up forward in
        let there : HasStart ss end = not_first end s ss below has in
        let ea : a ≡ last_before s.1 ss begin = ap (λ (t : Bool). cond t (last_before s.1 ss begin) first) up in
        let eb : b ≡ last_from s.1 ss begin = ap (λ (t : Bool). cond t first (last_from s.1 ss begin)) (not_below_back s.0 begin up) in
        let ec : c ≡ last_from s.1 ss end = ap (λ (t : Bool). cond t first (last_from s.1 ss end)) (not_below_back s.0 end below) in
        past_first (changed dropped s.0 first s.1) (changes dropped s.1 (insert_entry key_cmp ss begin n)) (changes dropped s.1 ss)
        (changed dropped begin a b + changed dropped end b c) (changed dropped begin a n + changed dropped end n c)
        (changed dropped begin (last_before s.1 ss begin) (last_from s.1 ss begin) + changed dropped end (last_from s.1 ss begin) (last_from s.1 ss end)) (changed dropped begin (last_before s.1 ss begin) n + changed dropped end n (last_from s.1 ss end))
        (ap₂ ◌+◌ (ap₂ (changed dropped begin) ea eb) (ap₂ (changed dropped end) eb ec))
        (ap₂ ◌+◌ (ap (λ (x : ℕ). changed dropped begin x n) ea) (ap (changed dropped end n) ec))
        (rest there)

-- ---- what stands before a key

before_insert : (first : ℕ) (ss : List Start) (key other : Key) (n : ℕ) → is_key_below other key ≡ false → last_before first (insert_entry key_cmp ss other n) key ≡ last_before first ss key
before_insert first [] key other n up = ap (λ (t : Bool). cond t n first) up
before_insert first (s ∷ ss) key other n up = by (key_cmp other s.0) refl (before_insert s.1 ss key other n up)
  where
    by : (r : Ordering) → key_cmp other s.0 ≡ r → last_before s.1 (insert_entry key_cmp ss other n) key ≡ last_before s.1 ss key
        → last_before first (match_ordering r ((other, n) ∷ s ∷ ss) ((s.0, n) ∷ ss) (s ∷ insert_entry key_cmp ss other n)) key ≡ last_before first (s ∷ ss) key
    by Less is rest =
        ap (λ (t : Bool). cond t (last_before n (s ∷ ss) key) first) up
        ∙ sym (ap (λ (t : Bool). cond t (last_before s.1 ss key) first) (not_below_back key s.0 (up_to_below key other s.0 up (less other s.0 is))))
    by Equal is rest =
        let past : is_key_below s.0 key ≡ false = ap (λ (k : Key). is_key_below k key) (sym (equal other s.0 is)) ∙ up in
        ap (λ (t : Bool). cond t (last_before n ss key) first) past ∙ sym (ap (λ (t : Bool). cond t (last_before s.1 ss key) first) past)
    by Greater is rest = ap (λ (m : ℕ). cond (is_key_below s.0 key) m first) rest

keys_before : (keys ss : List Start) (key : Key) → IsBefore key keys → last_before 0 (with_keys keys ss) key ≡ last_before 0 ss key
keys_before [] ss key all = refl
keys_before (k ∷ keys) ss key all =
    let next = (only k.0).end in
    let more = with_keys keys ss in
    before_insert 0 (insert_entry key_cmp more next (last_from 0 more next)) key k.0 (max k.1 (last_from 0 more k.0)) (not_below_back key k.0 all.0)
    ∙ before_insert 0 more key next (last_from 0 more next) (not_below_back key next (below_trans key k.0 next all.0 (below_the_next k.0)))
    ∙ keys_before keys ss key all.1

-- ---- one key more

one_more : (dropped : ℕ) (key : Key) (n : ℕ) (ss : List Start) → AreRising ss → (let next = (only key).end in let m = max n (last_from 0 ss key) in
    changes dropped 0 (with_key key n ss) + (changed dropped key (last_before 0 ss key) (last_from 0 ss key) + changed dropped next (last_from 0 ss key) (last_from 0 ss next))
    ≡ changes dropped 0 ss + (changed dropped key (last_before 0 ss key) m + changed dropped next m (last_from 0 ss next)))
one_more dropped key n ss rising =
    ap₂ (λ (x y : ℕ). changes dropped 0 (with_key key n ss) + (x + y)) (ap₂ (changed dropped key) (sym ea) (sym (same key))) (ap₂ (changed dropped next) (sym (same key)) (sym (same next)))
    ∙ put_count dropped 0 mid key next m (below_the_next key) (insert_rising next ss (last_from 0 ss next) rising) (edge_there ss next (last_from 0 ss next)) (only_free key mid)
    ∙ ap₂ (λ (x y : ℕ). x + y) (edge_count dropped 0 ss next rising) (ap₂ (λ (x y : ℕ). changed dropped key x m + changed dropped next m y) ea (same next))
  where
    next : Key
    next = (only key).end

    m : ℕ
    m = max n (last_from 0 ss key)

    mid : List Start
    mid = insert_entry key_cmp ss next (last_from 0 ss next)

    same : (k : Key) → last_from 0 mid k ≡ last_from 0 ss k
    same k = same_last ss mid rising (insert_rising next ss (last_from 0 ss next) rising) (λ d. edge_same d 0 ss next rising) k

    ea : last_before 0 mid key ≡ last_before 0 ss key
    ea = before_insert 0 ss key next (last_from 0 ss next) (not_below_back key next (below_the_next key))

-- the first key of those that are left
pub first_more : (dropped : ℕ) (k : Start) (keys ss : List Start) → AreRising (k ∷ keys) → AreRising ss → (let next = (only k.0).end in let before = last_before 0 ss k.0 in let at = last_from 0 ss k.0 in let after = max (at_key 0 keys next) (last_from 0 ss next) in
    changes dropped 0 (with_keys (k ∷ keys) ss) + (changed dropped k.0 before at + changed dropped next at after)
    ≡ changes dropped 0 (with_keys keys ss) + (changed dropped k.0 before (max k.1 at) + changed dropped next (max k.1 at) after))
first_more dropped k keys ss rising_keys rising =
    ap₂ (λ (x y : ℕ). changes dropped 0 (with_key k.0 k.1 more) + (x + y)) (ap₂ (changed dropped k.0) (sym ea) (sym eb)) (ap₂ (changed dropped next) (sym eb) (sym ec))
    ∙ one_more dropped k.0 k.1 more (keys_rising keys ss rising)
    ∙ ap₂ (λ (x y : ℕ). changes dropped 0 more + (x + y)) (ap₂ (λ (x y : ℕ). changed dropped k.0 x (max k.1 y)) ea eb) (ap₂ (λ (x y : ℕ). changed dropped next (max k.1 x) y) eb ec)
  where
    next : Key
    next = (only k.0).end

    more : List Start
    more = with_keys keys ss

    ea : last_before 0 more k.0 ≡ last_before 0 ss k.0
    ea = keys_before keys ss k.0 rising_keys.0

    eb : last_from 0 more k.0 ≡ last_from 0 ss k.0
    eb =
        let none = none_at_key 0 keys k.0 rising_keys.0 in
        let is = keys_last keys ss k.0 rising_keys.1 rising in
        omega (arith, none, is)

    ec : last_from 0 more next ≡ max (at_key 0 keys next) (last_from 0 ss next)
    ec = keys_last keys ss next rising_keys.1 rising

-- the entries that are left are the last of all
pub record AreTail (all left : List StepStart) : Type 0 where
  pub front : List StepStart
  pub is : all ≡ front ++ left

pub tail_more : (all left rest : List StepStart) (k : StepStart) → AreTail all left → left ≡ k ∷ rest → AreTail all rest
tail_more all left rest k tail is =
    record {
      front = tail.front ++ k ∷ [];
      is = tail.is ∙ ap (λ (ss : List StepStart). tail.front ++ ss) is ∙ sym (append_assoc tail.front (k ∷ []) rest);
    }

last_rise : (front left : List StepStart) → AreRising (front ++ left) → AreRising left
last_rise [] left rising = rising
last_rise (f ∷ front) left rising = last_rise front left rising.1

-- the first key that is left is counted
pub key_counted : (dropped : ℕ) (all left rest steps : List StepStart) (k : StepStart) (before at after now gained lost less more total : ℕ) → AreRising all → AreRising steps → AreTail all left → left ≡ k ∷ rest
    → before ≡ last_before 0 (starts_now steps) k.0 → at ≡ last_from 0 (starts_now steps) k.0 → after ≡ max (at_key 0 (starts_now all) (only k.0).end) (last_from 0 (starts_now steps) (only k.0).end) → now ≡ max k.1.version at
    → less ≡ changed dropped k.0 before at + changed dropped (only k.0).end at after → more ≡ changed dropped k.0 before now + changed dropped (only k.0).end now after
    → gained + changes_from dropped 0 (with_keys (starts_now left) (starts_now steps)) ≡ total + lost
    → gained + more + changes_from dropped 0 (with_keys (starts_now rest) (starts_now steps)) ≡ total + (lost + less)
key_counted dropped all left rest steps k before at after now gained lost less more total rising rising_steps tail left_is before_is at_is after_is now_is less_is more_is whole =
    sums gained (changes_from dropped 0 (with_keys (starts_now left) (starts_now steps))) total lost less more (changes_from dropped 0 (with_keys (starts_now rest) (starts_now steps))) whole one
  where
    next : Key
    next = (only k.0).end

    sums : (g x t l dl dg y : ℕ) → g + x ≡ t + l → x + dl ≡ y + dg → g + dg + y ≡ t + (l + dl)
    sums g x t l dl dg y a b = omega (arith, a, b)

    all_is : all ≡ tail.front ++ k ∷ rest
    all_is = tail.is ∙ ap (λ (ss : List StepStart). tail.front ++ ss) left_is

    rising_all : AreRising (tail.front ++ k ∷ rest)
    rising_all = subst AreRising all_is rising

    after_left : after ≡ max (at_key 0 (starts_now rest) next) (last_from 0 (starts_now steps) next)
    after_left = after_is ∙ ap (λ (n : ℕ). max n (last_from 0 (starts_now steps) next)) (ap (λ (ss : List StepStart). at_key 0 (starts_now ss) next) all_is ∙ left_at tail.front rest k rising_all)

    now_at : now ≡ max k.1.version (last_from 0 (starts_now steps) k.0)
    now_at = now_is ∙ ap (max k.1.version) at_is

    from_none : (ss : List Start) → changes_from dropped 0 ss ≡ changes dropped 0 ss
    from_none ss = ap (λ (n : ℕ). changes_from dropped n ss) (sym (none_is dropped))

    one : changes_from dropped 0 (with_keys (starts_now left) (starts_now steps)) + less ≡ changes_from dropped 0 (with_keys (starts_now rest) (starts_now steps)) + more
    one =
        ap₂ (λ (x y : ℕ). x + y)
        (ap (λ (ss : List StepStart). changes_from dropped 0 (with_keys (starts_now ss) (starts_now steps))) left_is ∙ from_none (with_keys (starts_now (k ∷ rest)) (starts_now steps)))
        (less_is ∙ (λ i. changed dropped k.0 (before_is i) (at_is i) + changed dropped next (at_is i) (after_left i)))
        ∙ first_more dropped (k.0, k.1.version) (starts_now rest) (starts_now steps) (read_rising (λ (s : Step). s.version) (k ∷ rest) (last_rise tail.front (k ∷ rest) rising_all)) (read_rising (λ (s : Step). s.version) steps rising_steps)
        ∙ sym (ap₂ (λ (x y : ℕ). x + y)
        (from_none (with_keys (starts_now rest) (starts_now steps)))
        (more_is ∙ (λ i. changed dropped k.0 (before_is i) (now_at i) + changed dropped next (now_at i) (after_left i))))
