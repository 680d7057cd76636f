-- Starts in the order of their keys: what stands at a key, and which start decides it.
use Rattle.std.proofs.Common.{◌≡◌, refl, sym, ap, ◌∙◌, ℕ, inl, inr, List, [], ◌∷◌, ◌++◌, filter, Bool, true, false, cond, not, Ordering, Less, Equal, Greater, nat_cmp, is_eq, is_lt}
use Rattle.std.specs.Cmp.Lexicographic.{slice_cmp}
use Rattle.std.specs.Ordering.{ordering_reverse}
use Rattle.std.proofs.lemmas.Bool.{both_ways}
use Rattle.std.proofs.lemmas.Cmp.{tied_itself, nat_list_cmp_total}
use Rattle.std.proofs.lemmas.Map.Lookups.{exact_bytes}
use Rattle.system_keys.specs.Keys.{Key, is_key_below}
use Rattle.system_keys.proofs.KeyOrder.{not_below_itself, below_trans, up_to_below, not_below_back}
use Rattle.share_judge.specs.Steps.{Start, last_from, last_before, last_of_all, IsBefore, AreRising, HasStart, is_same_key}

abbrev pub key_cmp : Key → Key → Ordering
key_cmp = slice_cmp nat_cmp

pub less : (a b : Key) → key_cmp a b ≡ Less → is_key_below a b ≡ true
less a b h = ap is_lt h

pub greater : (a b : Key) → key_cmp a b ≡ Greater → is_key_below b a ≡ true
greater a b h = ap is_lt (nat_list_cmp_total.antisymm b a ∙ ap ordering_reverse h)

pub equal : (a b : Key) → key_cmp a b ≡ Equal → a ≡ b
equal a b h = exact_bytes a b h

-- a key that another one is below comes after it
pub after : (a b : Key) → is_key_below a b ≡ true → key_cmp b a ≡ Greater
after a b h = nat_list_cmp_total.antisymm b a ∙ ap ordering_reverse (less_order (key_cmp a b) h)
  where
    less_order : (r : Ordering) → is_lt r ≡ true → r ≡ Less
    less_order Less e = refl
    less_order Equal e = absurd (cc)
    less_order Greater e = absurd (cc)

equal_order : (r : Ordering) → is_eq r ≡ true → r ≡ Equal
equal_order Less h = absurd (cc)
equal_order Equal h = refl
equal_order Greater h = absurd (cc)

pub same_key : (a b : Key) → is_same_key a b ≡ true → a ≡ b
same_key a b h = exact_bytes a b (equal_order (key_cmp a b) h)

pub same_itself : (a : Key) → is_same_key a a ≡ true
same_itself a = ap is_eq (tied_itself nat_list_cmp_total a)

-- a key that is below another is not the same
pub below_differs : (a b : Key) → is_key_below a b ≡ true → is_same_key a b ≡ false
below_differs a b h = by (is_same_key a b) refl
  where
    by : (t : Bool) → is_same_key a b ≡ t → t ≡ false
    by true e = let none : is_key_below a b ≡ false = rw (same_key a b e) (not_below_itself b) in absurd (both_ways (is_key_below a b) none h)
    by false e = refl

pub above_differs : (a b : Key) → is_key_below b a ≡ true → is_same_key a b ≡ false
above_differs a b h = by (is_same_key a b) refl
  where
    by : (t : Bool) → is_same_key a b ≡ t → t ≡ false
    by true e = let none : is_key_below b a ≡ false = rw (same_key a b e) (not_below_itself b) in absurd (both_ways (is_key_below b a) none h)
    by false e = refl

-- ---- keys before all starts

pub before_trans : {X : Type 0} → (a b : Key) (ss : List (Key × X)) → is_key_below a b ≡ true → IsBefore b ss → IsBefore a ss
before_trans a b [] h all = tt
before_trans a b (s ∷ ss) h all = (below_trans a b s.0 h all.0, before_trans a b ss h all.1)

pub up_to_before : {X : Type 0} → (a b : Key) (ss : List (Key × X)) → is_key_below b a ≡ false → IsBefore b ss → IsBefore a ss
up_to_before a b [] h all = tt
up_to_before a b (s ∷ ss) h all = (up_to_below a b s.0 h all.0, up_to_before a b ss h all.1)

pub before_has : {X : Type 0} → (a k : Key) (ss : List (Key × X)) → IsBefore a ss → HasStart ss k → is_key_below a k ≡ true
before_has a k [] all has = absurd has
before_has a k (s ∷ ss) all (inl e) = rw e all.0
before_has a k (s ∷ ss) all (inr has) = before_has a k ss all.1 has

pub none_before : {X : Type 0} → (d : X) (ss : List (Key × X)) (k : Key) → IsBefore k ss → last_from d ss k ≡ d
none_before d [] k all = refl
none_before d (s ∷ ss) k all = ap (λ (b : Bool). cond b d (last_from s.1 ss k)) all.0

-- ---- the start that decides

-- the starts up to a key
abbrev pub starts_up_to : {X : Type 0} → Key → List (Key × X) → List (Key × X)
starts_up_to {X} k ss = filter (λ (s : Key × X). not (is_key_below k s.0)) ss

none_up_to : {X : Type 0} → (k : Key) (ss : List (Key × X)) → IsBefore k ss → starts_up_to k ss ≡ []
none_up_to k [] all = refl
none_up_to k (s ∷ ss) all = rw (all.0) (none_up_to k ss all.1)

pub last_is : {X : Type 0} → (d : X) (ss : List (Key × X)) (k : Key) → AreRising ss → last_from d ss k ≡ last_of_all d (starts_up_to k ss)
last_is d [] k rising = refl
last_is d (s ∷ ss) k rising = by (is_key_below k s.0) refl (last_is s.1 ss k rising.1)
  where
    by : (t : Bool) → is_key_below k s.0 ≡ t → last_from s.1 ss k ≡ last_of_all s.1 (starts_up_to k ss) →
        cond t d (last_from s.1 ss k) ≡ last_of_all d (cond (not t) (s ∷ starts_up_to k ss) (starts_up_to k ss))
    by true e rest = sym (ap (last_of_all d) (none_up_to k ss (before_trans k s.0 ss e rising.0)))
    by false e rest = rest

abbrev pub starts_below : Key → List Start → List Start
starts_below k ss = filter (λ (s : Start). is_key_below s.0 k) ss

none_below : (k : Key) (s : Start) (ss : List Start) → is_key_below s.0 k ≡ false → IsBefore s.0 ss → starts_below k ss ≡ []
none_below k s [] h all = refl
none_below k s (t ∷ ss) h all = rw (not_below_back k t.0 (up_to_below k s.0 t.0 h all.0)) (none_below k s ss h all.1)

pub before_is : (d : ℕ) (ss : List Start) (k : Key) → AreRising ss → last_before d ss k ≡ last_of_all d (starts_below k ss)
before_is d [] k rising = refl
before_is d (s ∷ ss) k rising = by (is_key_below s.0 k) refl (before_is s.1 ss k rising.1)
  where
    by : (t : Bool) → is_key_below s.0 k ≡ t → last_before s.1 ss k ≡ last_of_all s.1 (starts_below k ss) →
        cond t (last_before s.1 ss k) d ≡ last_of_all d (cond t (s ∷ starts_below k ss) (starts_below k ss))
    by true e rest = rest
    by false e rest = sym (ap (last_of_all d) (none_below k s ss e rising.0))

pub last_of_back : {X : Type 0} → (d : X) (front : List (Key × X)) (s : Key × X) → last_of_all d (front ++ s ∷ []) ≡ s.1
last_of_back d [] s = refl
last_of_back d (t ∷ front) s = last_of_back t.1 front s
