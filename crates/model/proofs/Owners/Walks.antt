-- The walk over the owners of a key, and the fronts of lists that it does not need.
use Rattle.std.proofs.Common.{◌≡◌, ℕ, ◌<◌, ◌≤◌, max, ◌↔◌, refl, sym, ap, ap₂, ◌∙◌, subst, Bool, true, false, not, ◌&&◌, ◌||◌, if◌then◌else◌, nat_eq, nat_lt, List, [], ◌∷◌, ◌++◌, reverse, IsTrue, Contains, arith}
use Rattle.std.proofs.lemmas.Bool.{cond-true, ltb-true, ltb-false, lt-ltb, le-ltb, eqb-true, eq-eqb}
use Rattle.std.proofs.lemmas.List.{reverse-append}
use Rattle.std.proofs.lemmas.List.Folds.{list_any-append, list_all-append, Any-from_list_any, list_any-from_Any}
use Rattle.std.specs.List.{list_any, list_all}
use Rattle.model.specs.Owners.{Owner, none_dated_below, walk_visits, walk, trimmed, DatesNeverDecrease}

-- ---- the walk from the back

-- a walk over a list with one more owner behind takes that one if none before it stops the walk
walk_more : (bound : ℕ) (list : List Owner) (o : Owner) → walk bound (list ++ o ∷ []) ≡ walk bound list ++ (if none_dated_below bound list then o.resolver ∷ [] else [])
walk_more bound [] o = by (nat_lt o.date bound)
  where
    by : (t : Bool) → (o.resolver ∷ (if t then [] else [])) ≡ o.resolver ∷ []
    by true = refl
    by false = refl
walk_more bound (p ∷ list) o = by (nat_lt p.date bound) (walk_more bound list o)
  where
    by : (t : Bool) → walk bound (list ++ o ∷ []) ≡ walk bound list ++ (if none_dated_below bound list then o.resolver ∷ [] else []) →
        (p.resolver ∷ (if t then [] else walk bound (list ++ o ∷ []))) ≡ (p.resolver ∷ (if t then [] else walk bound list)) ++ (if not t && none_dated_below bound list then o.resolver ∷ [] else [])
    by true e = refl
    by false e = ap (λ rest. p.resolver ∷ rest) e

none_reversed : (bound : ℕ) (list : List Owner) → none_dated_below bound (reverse list) ≡ none_dated_below bound list
none_reversed bound [] = refl
none_reversed bound (o ∷ list) =
    let test = λ (o : Owner). not (nat_lt o.date bound) in
    ap (list_all test) (reverse-append (o ∷ []) list) ∙ list_all-append test (reverse list) (o ∷ []) ∙ turned (test o) (none_dated_below bound (reverse list)) (none_dated_below bound list) (none_reversed bound list)
  where
    turned : (s t u : Bool) → t ≡ u → (t && (s && true)) ≡ (s && u)
    turned true true u e = e
    turned true false u e = e
    turned false true u e = refl
    turned false false u e = refl

any_taken : (r : ℕ) (o : Owner) (t : Bool) → list_any (λ (n : ℕ). nat_eq n r) (if t then o.resolver ∷ [] else []) ≡ (nat_eq o.resolver r && t)
any_taken r o t = by t (nat_eq o.resolver r) refl
  where
    by : (t s : Bool) → nat_eq o.resolver r ≡ s → list_any (λ (n : ℕ). nat_eq n r) (if t then o.resolver ∷ [] else []) ≡ (s && t)
    by true true e = ap (λ b. b || false) e
    by true false e = ap (λ b. b || false) e
    by false true e = refl
    by false false e = refl

walk_meets : (bound r : ℕ) (list : List Owner) → list_any (λ (n : ℕ). nat_eq n r) (walk bound (reverse list)) ≡ walk_visits bound r list
walk_meets bound r [] = refl
walk_meets bound r (o ∷ list) =
    let test = λ (n : ℕ). nat_eq n r in
    ap (λ xs. list_any test (walk bound xs)) (reverse-append (o ∷ []) list)
    ∙ ap (list_any test) (walk_more bound (reverse list) o)
    ∙ list_any-append test (walk bound (reverse list)) (if none_dated_below bound (reverse list) then o.resolver ∷ [] else [])
    ∙ ap₂ (λ s t. s || t) (walk_meets bound r list) (any_taken r o (none_dated_below bound (reverse list)) ∙ ap (λ t. nat_eq o.resolver r && t) (none_reversed bound list))
    ∙ swapped (walk_visits bound r list) (nat_eq o.resolver r && none_dated_below bound list)
  where
    swapped : (s t : Bool) → (s || t) ≡ (t || s)
    swapped true true = refl
    swapped true false = refl
    swapped false true = refl
    swapped false false = refl

any_from_contains : (r : ℕ) (xs : List ℕ) → Contains xs r → list_any (λ (n : ℕ). nat_eq n r) xs ≡ true
any_from_contains r xs c = list_any-from_Any (λ (n : ℕ). nat_eq n r) xs (c.0, r, c.1, c.2, eq-eqb r r refl)

contains_from_any : (r : ℕ) (xs : List ℕ) → list_any (λ (n : ℕ). nat_eq n r) xs ≡ true → Contains xs r
contains_from_any r xs h =
    let a = Any-from_list_any (λ (n : ℕ). nat_eq n r) xs h in
    let e : a.1 ≡ r = eqb-true a.1 r a.4 in
    subst (λ (x : ℕ). Contains xs x) e (a.0, a.2, a.3)

-- the walk from the back takes the resolvers that are met
pub met_iff : (bound r : ℕ) (list : List Owner) → Contains (walk bound (reverse list)) r ↔ IsTrue (walk_visits bound r list)
met_iff bound r list = (λ c. sym (walk_meets bound r list) ∙ any_from_contains r (walk bound (reverse list)) c, λ h. contains_from_any r (walk bound (reverse list)) (walk_meets bound r list ∙ h))

-- ---- dropped fronts

-- a date that is not below `oldest` is below the greater bound where it is below the bound
same_test : (date bound oldest : ℕ) → oldest ≤ date → nat_lt date bound ≡ nat_lt date (max bound oldest)
same_test date bound oldest h = by (nat_lt date bound) refl
  where
    by : (t : Bool) → nat_lt date bound ≡ t → t ≡ nat_lt date (max bound oldest)
    by true e = sym (lt-ltb date (max bound oldest) (omega (arith, ltb-true date bound e)))
    by false e = sym (le-ltb date (max bound oldest) (omega (arith, ltb-false date bound e)))

same_none : (bound oldest date : ℕ) (list : List Owner) → oldest ≤ date → DatesNeverDecrease date list → none_dated_below bound list ≡ none_dated_below (max bound oldest) list
same_none bound oldest date [] h k = refl
same_none bound oldest date (o ∷ list) h k =
    let later : oldest ≤ o.date = omega (arith, k.0) in
    ap₂ (λ s t. not s && t) (same_test o.date bound oldest later) (same_none bound oldest o.date list later k.1)

-- behind the first owner all dates are at or above `oldest`, so the greater bound stops no walk earlier
same_met : (bound oldest r : ℕ) (o : Owner) (date : ℕ) (list : List Owner) → oldest ≤ date → DatesNeverDecrease date list → walk_visits bound r (o ∷ list) ≡ walk_visits (max bound oldest) r (o ∷ list)
same_met bound oldest r o date [] h k = refl
same_met bound oldest r o date (p ∷ list) h k =
    let later : oldest ≤ p.date = omega (arith, k.0) in
    ap₂ (λ s t. (nat_eq o.resolver r && s) || t) (same_none bound oldest date (p ∷ list) h k) (same_met bound oldest r p p.date list later k.1)

-- an owner in front of one whose date is below the bound is not met
pub not_met_before : (bound r : ℕ) (o p : Owner) (list : List Owner) → p.date < bound → walk_visits bound r (o ∷ p ∷ list) ≡ walk_visits bound r (p ∷ list)
not_met_before bound r o p list h = by (nat_lt p.date bound) (nat_eq o.resolver r) (lt-ltb p.date bound h)
  where
    by : (t s : Bool) → t ≡ true → ((s && (not t && none_dated_below bound list)) || walk_visits bound r (p ∷ list)) ≡ walk_visits bound r (p ∷ list)
    by true true e = refl
    by true false e = refl
    by false s e = absurd (cc)

-- the walk over a list without its front is that of the greater of the bound and `oldest`
pub met_without_front : (bound oldest r date : ℕ) (list : List Owner) → DatesNeverDecrease date list → walk_visits bound r (trimmed oldest list) ≡ walk_visits (max bound oldest) r list
met_without_front bound oldest r date [] h = refl
met_without_front bound oldest r date (o ∷ []) h = refl
met_without_front bound oldest r date (o ∷ p ∷ list) h = by (nat_lt p.date oldest) refl (met_without_front bound oldest r o.date (p ∷ list) h.1)
  where
    by : (t : Bool) → nat_lt p.date oldest ≡ t → walk_visits bound r (trimmed oldest (p ∷ list)) ≡ walk_visits (max bound oldest) r (p ∷ list) → walk_visits bound r (if t then trimmed oldest (p ∷ list) else o ∷ p ∷ list) ≡ walk_visits (max bound oldest) r (o ∷ p ∷ list)
    by true e rest = rest ∙ sym (not_met_before (max bound oldest) r o p list (omega (arith, ltb-true p.date oldest e)))
    by false e rest =
        let later : oldest ≤ p.date = ltb-false p.date oldest e in
        ap₂ (λ s t. (nat_eq o.resolver r && s) || t) (ap₂ (λ s t. not s && t) (same_test p.date bound oldest later) (same_none bound oldest p.date list later h.1.1)) (same_met bound oldest r p p.date list later h.1.1)

-- a front dropped early, before newer owners came, changes no later dropping
pub without_front_again : (earlier later : ℕ) (list newer : List Owner) → earlier ≤ later → trimmed later (trimmed earlier list ++ newer) ≡ trimmed later (list ++ newer)
without_front_again earlier later [] newer h = refl
without_front_again earlier later (o ∷ []) newer h = refl
without_front_again earlier later (o ∷ p ∷ list) newer h = by (nat_lt p.date earlier) refl (without_front_again earlier later (p ∷ list) newer h)
  where
    by : (t : Bool) → nat_lt p.date earlier ≡ t → trimmed later (trimmed earlier (p ∷ list) ++ newer) ≡ trimmed later (p ∷ list ++ newer) → trimmed later ((if t then trimmed earlier (p ∷ list) else o ∷ p ∷ list) ++ newer) ≡ trimmed later (o ∷ p ∷ list ++ newer)
    by true e rest = rest ∙ sym (cond-true (nat_lt p.date later) (trimmed later (p ∷ list ++ newer)) (o ∷ p ∷ list ++ newer) (lt-ltb p.date later (omega (arith, ltb-true p.date earlier e))))
    by false e rest = refl
