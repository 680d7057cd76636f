-- What is in a list, by recursion on the list, and where.
use Rattle.std.proofs.Common.{◌≡◌, refl, sym, ap, ◌∙◌, zero, suc, List, [], ◌∷◌, ◌++◌, map, arith}
use Rattle.std.specs.Prelude.{Bool, true, false, cond, ◌||◌, ◌⊎◌, Contains, filter}
use Rattle.std.specs.List.{list_any}
use mathlib.Core.Logic.{inl, inr}

-- the list has the element
abbrev pub Has : {X : Type 0} → List X → X → Type 0
Has [] x = ⊥
Has (y ∷ ys) x = (y ≡ x) ⊎ Has ys x

pub Has-from_Contains : {X : Type 0} (xs : List X) (x : X) → Contains xs x → Has xs x
Has-from_Contains [] x (k, within, at) = absurd (omega arith)
Has-from_Contains (y ∷ ys) x (zero, within, at) = inl at
Has-from_Contains (y ∷ ys) x (suc k, within, at) = inr (Has-from_Contains ys x (k, omega arith, at))

pub Contains-from_Has : {X : Type 0} (xs : List X) (x : X) → Has xs x → Contains xs x
Contains-from_Has [] x h = absurd h
Contains-from_Has (y ∷ ys) x (inl e) = (zero, omega arith, e)
Contains-from_Has (y ∷ ys) x (inr h) = let found = Contains-from_Has ys x h in (suc found.0, omega arith, found.2)

pub Has-append_left : {X : Type 0} (xs ys : List X) (x : X) → Has xs x → Has (xs ++ ys) x
Has-append_left [] ys x h = absurd h
Has-append_left (z ∷ xs) ys x (inl e) = inl e
Has-append_left (z ∷ xs) ys x (inr h) = inr (Has-append_left xs ys x h)

pub Has-append_right : {X : Type 0} (xs ys : List X) (x : X) → Has ys x → Has (xs ++ ys) x
Has-append_right [] ys x h = h
Has-append_right (z ∷ xs) ys x h = inr (Has-append_right xs ys x h)

pub Has-append_cases : {X : Type 0} (xs ys : List X) (x : X) → Has (xs ++ ys) x → Has xs x ⊎ Has ys x
Has-append_cases [] ys x h = inr h
Has-append_cases (z ∷ xs) ys x (inl e) = inl (inl e)
Has-append_cases (z ∷ xs) ys x (inr h) = go (Has-append_cases xs ys x h)
  where
    go : Has xs x ⊎ Has ys x → Has (z ∷ xs) x ⊎ Has ys x
    go (inl l) = inl (inr l)
    go (inr r) = inr r

-- ---- tests

-- an element of the list that passes the test
pub record Passing {X : Type 0} (p : X → Bool) (xs : List X) : Type 0 where
  pub x : X
  pub has : Has xs x
  pub passes : p x ≡ true

pub list_any-from_Has : {X : Type 0} (p : X → Bool) (xs : List X) (x : X) → Has xs x → p x ≡ true → list_any p xs ≡ true
list_any-from_Has p [] x h passes = absurd h
list_any-from_Has p (y ∷ ys) x (inl e) passes = rw (e, passes)
list_any-from_Has p (y ∷ ys) x (inr h) passes = go (p y) (list_any-from_Has p ys x h passes)
  where
    go : (b : Bool) → list_any p ys ≡ true → (b || list_any p ys) ≡ true
    go true e = refl
    go false e = e

pub Passing-from_list_any : {X : Type 0} (p : X → Bool) (xs : List X) → list_any p xs ≡ true → Passing p xs
Passing-from_list_any p [] e = absurd (cc)
Passing-from_list_any p (y ∷ ys) e = go (Passing-from_list_any p ys) (p y) refl e
  where
    go : (list_any p ys ≡ true → Passing p ys) → (b : Bool) → p y ≡ b → (b || list_any p ys) ≡ true → Passing p (y ∷ ys)
    go later true passes h = record { x = y; has = inl refl; passes = passes }
    go later false fails h = let found = later h in record { x = found.x; has = inr found.has; passes = found.passes }

pub Has-filter : {X : Type 0} (p : X → Bool) (xs : List X) (x : X) → Has xs x → p x ≡ true → Has (filter p xs) x
Has-filter p [] x h passes = absurd h
Has-filter p (y ∷ ys) x (inl e) passes = go (p y) refl
  where
    go : (b : Bool) → p y ≡ b → Has (cond b (y ∷ filter p ys) (filter p ys)) x
    go true passing = inl e
    go false fails = absurd (cc (ap p e))
Has-filter p (y ∷ ys) x (inr h) passes = go (Has-filter p ys x h passes) (p y)
  where
    go : Has (filter p ys) x → (b : Bool) → Has (cond b (y ∷ filter p ys) (filter p ys)) x
    go later true = inr later
    go later false = later

pub Has-from_filter : {X : Type 0} (p : X → Bool) (xs : List X) (x : X) → Has (filter p xs) x → Has xs x × (p x ≡ true)
Has-from_filter p [] x h = absurd h
Has-from_filter p (y ∷ ys) x h = go (Has-from_filter p ys x) (p y) refl h
  where
    go : (Has (filter p ys) x → Has ys x × (p x ≡ true)) → (b : Bool) → p y ≡ b → Has (cond b (y ∷ filter p ys) (filter p ys)) x → Has (y ∷ ys) x × (p x ≡ true)
    go later true passes (inl e) = (inl e, ap p (sym e) ∙ passes)
    go later true passes (inr k) = let found = later k in (inr found.0, found.1)
    go later false fails k = let found = later k in (inr found.0, found.1)

pub Has-map : {X Y : Type 0} (f : X → Y) (xs : List X) (x : X) → Has xs x → Has (map f xs) (f x)
Has-map f [] x h = absurd h
Has-map f (y ∷ ys) x (inl e) = inl (ap f e)
Has-map f (y ∷ ys) x (inr h) = inr (Has-map f ys x h)

-- ---- the place of an element

-- the list around one of its elements
pub record Split {X : Type 0} (xs : List X) (x : X) : Type 0 where
  pub front : List X
  pub back : List X
  pub whole : xs ≡ front ++ x ∷ back

pub Split-from_Has : {X : Type 0} (xs : List X) (x : X) → Has xs x → Split xs x
Split-from_Has [] x h = absurd h
Split-from_Has (y ∷ ys) x (inl e) = record { front = []; back = ys; whole = ap (λ z. z ∷ ys) e }
Split-from_Has (y ∷ ys) x (inr h) = let found = Split-from_Has ys x h in record { front = y ∷ found.front; back = found.back; whole = ap (λ zs. y ∷ zs) found.whole }

pub Has-split : {X : Type 0} (front back : List X) (x : X) → Has (front ++ x ∷ back) x
Has-split [] back x = inl refl
Has-split (y ∷ front) back x = inr (Has-split front back x)
