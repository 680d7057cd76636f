-- Tests of the numbers below one, as loops make them.
use Rattle.std.proofs.Common.{◌≡◌, refl, ℕ, zero, suc, ◌<◌, ◌⊎◌, inl, inr, List, [], ◌∷◌, ◌++◌, filter, Bool, true, false, slice_get, Some, arith}
use Rattle.std.proofs.lemmas.Bool.{cases_order, and_right}
use Rattle.std.proofs.lemmas.List.Elements.{filter-append}
use Rattle.std.proofs.lemmas.List.Folds.{list_all-append}
use Rattle.std.specs.List.{list_all}
use Rattle.model.specs.Shares.{each_below}

-- one more number, which does not pass
pub none_next : (test : ℕ → Bool) (n m : ℕ) → m ≡ suc n → filter test (each_below n) ≡ [] → test n ≡ false → filter test (each_below m) ≡ []
none_next test n m next none fails = rw (next, filter-append, none, fails) refl

-- the first number that passes
pub first_passing : (test : ℕ → Bool) (n r : ℕ) → r < n → filter test (each_below r) ≡ [] → test r ≡ true → slice_get (filter test (each_below n)) 0 ≡ Some r
first_passing test zero r below none passes = absurd (omega arith)
first_passing test (suc n) r below none passes = by (cases_order r n) (λ (less : r < n). first_passing test n r less none passes)
  where
    front : (xs ys : List ℕ) → slice_get xs 0 ≡ Some r → slice_get (xs ++ ys) 0 ≡ Some r
    front [] ys at = absurd (cc)
    front (x ∷ xs) ys at = at

    by : (r ≡ n) ⊎ ((r < n) ⊎ (n < r)) → (r < n → slice_get (filter test (each_below n)) 0 ≡ Some r) → slice_get (filter test (each_below n ++ n ∷ [])) 0 ≡ Some r
    by (inl same) rest = rw (filter-append, ← same, none, passes) refl
    by (inr (inl less)) rest = rw (filter-append) (front (filter test (each_below n)) (filter test (n ∷ [])) (rest less))
    by (inr (inr more)) rest = absurd (omega arith)

-- one more number, which passes
pub all_next : (test : ℕ → Bool) (n : ℕ) → list_all test (each_below n) ≡ true → test n ≡ true → list_all test (each_below (suc n)) ≡ true
all_next test n all passes = rw (list_all-append test (each_below n) (n ∷ []), all, passes) refl

-- one number that does not pass
pub one_fails : (test : ℕ → Bool) (n r : ℕ) → r < n → test r ≡ false → list_all test (each_below n) ≡ false
one_fails test zero r below fails = absurd (omega arith)
one_fails test (suc n) r below fails = by (cases_order r n) (λ (less : r < n). one_fails test n r less fails)
  where
    by : (r ≡ n) ⊎ ((r < n) ⊎ (n < r)) → (r < n → list_all test (each_below n) ≡ false) → list_all test (each_below n ++ n ∷ []) ≡ false
    by (inl same) rest = rw (list_all-append test (each_below n) (n ∷ []), ← same, fails) (and_right (list_all test (each_below r)) _ refl)
    by (inr (inl less)) rest = rw (list_all-append test (each_below n) (n ∷ []), rest less) refl
    by (inr (inr more)) rest = absurd (omega arith)
