-- The range of one key: no other key lies in it.
use Rattle.std.proofs.Common.{◌≡◌, refl, sym, ap, ap₂, ◌∙◌, subst, ℕ, zero, suc, ◌<◌, List, [], ◌∷◌, ◌++◌, ◌⊎◌, inl, inr, Bool, true, false, ◌&&◌, Ordering, Equal, Greater, is_lt, nat_cmp, arith}
use Rattle.std.specs.Ordering.{ordering_then}
use Rattle.std.specs.Cmp.Lexicographic.{slice_cmp}
use Rattle.std.proofs.lemmas.Bool.{cases_order, le-ltb, ne_eqb, both_ways}
use Rattle.std.proofs.lemmas.Cmp.{nat_cmp_total, tied_itself}
use Rattle.system_keys.specs.Keys.{Key, is_key_below, holds, only}
use Rattle.system_keys.specs.Limits.{key_space_end}
use Rattle.model.proofs.Shares.LastVersions.{same_truth}
use Rattle.system_keys.proofs.KeyOrder.{equal_unless_below, below_trans, below_cases}
use Rattle.system_keys.proofs.KeyLaws.{inside_from_holds, holds_begin}
use Rattle.share_judge.specs.Steps.{IsFree, is_same_key, is_inner_boundary}
use Rattle.share_judge.proofs.Starts.{same_key, same_itself}

greater_is : (x y : ℕ) → y < x → nat_cmp x y ≡ Greater
greater_is x y above = rw (le-ltb x y (omega arith), ne_eqb x y (λ (same : x ≡ y). omega (arith, same))) refl

-- no key lies between a key and the next one
pub none_before_the_next : (a b : Key) → is_key_below b (a ++ 0 ∷ []) ≡ true → is_key_below a b ≡ false
none_before_the_next [] [] below = refl
none_before_the_next [] (zero ∷ []) below = absurd (cc)
none_before_the_next [] (zero ∷ y ∷ b) below = absurd (cc)
none_before_the_next [] (suc y ∷ b) below =
    let no : false ≡ true = subst (λ (o : Ordering). is_lt (ordering_then o (slice_cmp nat_cmp b [])) ≡ true) (greater_is (suc y) 0 (omega arith)) below in
    absurd (cc)
none_before_the_next (x ∷ a) [] below = refl
none_before_the_next (x ∷ a) (y ∷ b) below = by (cases_order x y) (none_before_the_next a b)
  where
    by : (x ≡ y) ⊎ ((x < y) ⊎ (y < x)) → (is_key_below b (a ++ 0 ∷ []) ≡ true → is_key_below a b ≡ false) → is_key_below (x ∷ a) (y ∷ b) ≡ false
    by (inl same) rest =
        let tied : nat_cmp y y ≡ Equal = tied_itself nat_cmp_total y in
        let below_here : nat_cmp y x ≡ Equal = ap (λ (z : ℕ). nat_cmp y z) same ∙ tied in
        let here : nat_cmp x y ≡ Equal = ap (λ (z : ℕ). nat_cmp z y) same ∙ tied in
        let later : is_key_below b (a ++ 0 ∷ []) ≡ true = subst (λ (o : Ordering). is_lt (ordering_then o (slice_cmp nat_cmp b (a ++ 0 ∷ []))) ≡ true) below_here below in
        subst (λ (o : Ordering). is_lt (ordering_then o (slice_cmp nat_cmp a b)) ≡ false) (sym here) (rest later)
    by (inr (inl less)) rest =
        let no : false ≡ true = subst (λ (o : Ordering). is_lt (ordering_then o (slice_cmp nat_cmp b (a ++ 0 ∷ []))) ≡ true) (greater_is y x less) below in
        absurd (cc)
    by (inr (inr greater)) rest = subst (λ (o : Ordering). is_lt (ordering_then o (slice_cmp nat_cmp a b)) ≡ false) (sym (greater_is x y greater)) refl

only_holds_its_key : (key other : Key) → holds (only key) other ≡ true → other ≡ key
only_holds_its_key key other inside =
    let parts = inside_from_holds (only key) other inside in
    equal_unless_below other key parts.begun (none_before_the_next key other parts.ended)

pub below_the_next : (key : Key) → is_key_below key (only key).end ≡ true
below_the_next [] = refl
below_the_next (x ∷ key) = subst (λ (o : Ordering). is_lt (ordering_then o (slice_cmp nat_cmp key (only key).end)) ≡ true) (sym (tied_itself nat_cmp_total x)) (below_the_next key)

pub only_free : {X : Type 0} → (key : Key) (ss : List (Key × X)) → IsFree key (only key).end ss
only_free key [] = tt
only_free key (s ∷ ss) = (λ below. none_before_the_next key s.0 below, only_free key ss)

-- the key is the same as the one that the range has
pub held_is : (key other : Key) → holds (only key) other ≡ is_same_key other key
held_is key other = by (holds (only key) other) refl (is_same_key other key) refl
  where
    by : (t : Bool) → holds (only key) other ≡ t → (u : Bool) → is_same_key other key ≡ u → t ≡ u
    by true held true same = refl
    by true held false same =
        let itself : is_same_key other key ≡ true = subst (λ (k : Key). is_same_key other k ≡ true) (only_holds_its_key key other held) (same_itself other) in
        absurd (both_ways (is_same_key other key) same itself)
    by false held true same =
        let itself : holds (only key) other ≡ true = subst (λ (k : Key). holds (only key) k ≡ true) (sym (same_key other key same)) (holds_begin (only key) (below_the_next key)) in
        absurd (both_ways (holds (only key) other) held itself)
    by false held false same = refl

-- ---- one byte more

head_or_none : List ℕ → ℕ
head_or_none [] = 0
head_or_none (x ∷ xs) = x

all_but_head : List ℕ → List ℕ
all_but_head [] = []
all_but_head (x ∷ xs) = xs

never_empty : (ys : List ℕ) (y : ℕ) → [] ≡ ys ++ y ∷ [] → ⊥
never_empty [] y e = cc
never_empty (b ∷ ys) y e = cc

pub ends_alike : (xs ys : List ℕ) (x y : ℕ) → xs ++ x ∷ [] ≡ ys ++ y ∷ [] → (xs ≡ ys) × (x ≡ y)
unfolding head_or_none all_but_head
ends_alike [] [] x y e = (refl, ap head_or_none e)
ends_alike [] (b ∷ ys) x y e = absurd (never_empty ys y (ap all_but_head e))
ends_alike (a ∷ xs) [] x y e = absurd (never_empty xs x (sym (ap all_but_head e)))
ends_alike (a ∷ xs) (b ∷ ys) x y e =
    let more = ends_alike xs ys x y (ap all_but_head e) in
    (ap₂ (λ (z : ℕ) (zs : List ℕ). z ∷ zs) (ap head_or_none e) more.0, more.1)

not_the_end : (key : Key) → (only key).end ≡ key_space_end → ⊥
not_the_end key e = let same : 0 ≡ 255 = (ends_alike key (255 ∷ []) 0 255 e).1 in omega (arith, same)

-- the next key is inside the key space exactly if the key is
pub next_inner : (key : Key) → is_inner_boundary (only key).end ≡ is_key_below key key_space_end
next_inner key = ap (λ (b : Bool). b && is_key_below (only key).end key_space_end) (above_empty key) ∙ same_truth (is_key_below (only key).end key_space_end) (is_key_below key key_space_end) to from
  where
    above_empty : (k : Key) → is_key_below [] (only k).end ≡ true
    above_empty [] = refl
    above_empty (x ∷ k) = refl

    to : is_key_below (only key).end key_space_end ≡ true → is_key_below key key_space_end ≡ true
    to below = below_trans key (only key).end key_space_end (below_the_next key) below

    from : is_key_below key key_space_end ≡ true → is_key_below (only key).end key_space_end ≡ true
    from below = by (below_cases (only key).end key_space_end)
      where
        by : (is_key_below (only key).end key_space_end ≡ true) ⊎ (((only key).end ≡ key_space_end) ⊎ (is_key_below key_space_end (only key).end ≡ true)) → is_key_below (only key).end key_space_end ≡ true
        by (inl is) = is
        by (inr (inl same)) = absurd (not_the_end key same)
        by (inr (inr past)) = absurd (both_ways (is_key_below key key_space_end) (none_before_the_next key key_space_end past) below)

-- a key above this one that is not the next one is above that
pub past_the_next : (key other : Key) → is_key_below key other ≡ true → (other ≡ (only key).end → ⊥) → is_key_below (only key).end other ≡ true
past_the_next key other above differs = by (below_cases (only key).end other)
  where
    by : (is_key_below (only key).end other ≡ true) ⊎ (((only key).end ≡ other) ⊎ (is_key_below other (only key).end ≡ true)) → is_key_below (only key).end other ≡ true
    by (inl is) = is
    by (inr (inl same)) = absurd (differs (sym same))
    by (inr (inr below)) = absurd (both_ways (is_key_below key other) (none_before_the_next key other below) above)
