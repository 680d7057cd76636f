-- Flags of resolvers: one after another, and read off in the end.
use Rattle.std.proofs.Common.{◌≡◌, ℕ, zero, suc, ◌+◌, ◌<◌, ◌≤◌, refl, sym, ap, ap₂, ◌∙◌, Bool, true, false, ◌||◌, cond, nat_eq, List, [], ◌∷◌, ◌++◌, filter, add-one, arith}
use Rattle.std.specs.List.{list_any}
use Rattle.std.proofs.lemmas.Bool.{eqb-true, eqb-false, ne_eqb}
use Rattle.std.proofs.lemmas.List.Elements.{filter-append}
use Rattle.std.proofs.lemmas.List.Folds.{list_any-append}
use Rattle.model.specs.Shares.{each_below}
use Rattle.dated_owners.specs.Flags.{is_flagged, Flags}

or_assoc : (p q r : Bool) → ((p || q) || r) ≡ (p || (q || r))
or_assoc true q r = refl
or_assoc false q r = refl

or_false : (p : Bool) → p ≡ (p || false)
or_false true = refl
or_false false = refl

-- flags for one test, and then for another
pub flags_then : (a b c : List Bool) (f g h : ℕ → Bool) → Flags a f b → Flags b g c → ((r : ℕ) → (f r || g r) ≡ h r) → Flags a h c
flags_then a b c f g h first next same =
    record {
      as_many = next.as_many ∙ first.as_many;
      each = λ r there.
          next.each r (omega (arith, there, first.as_many))
          ∙ ap (λ m. m || g r) (first.each r there)
          ∙ or_assoc (is_flagged a r) (f r) (g r)
          ∙ ap (λ m. is_flagged a r || m) (same r);
    }

-- the same flags for a test that says the same
pub flags_alike : (a b : List Bool) (f g : ℕ → Bool) → Flags a f b → ((r : ℕ) → f r ≡ g r) → Flags a g b
flags_alike a b f g flags same = record { as_many = flags.as_many; each = λ r there. flags.each r there ∙ ap (λ m. is_flagged a r || m) (same r) }

-- no flags for a test that nothing passes
pub flags_none : (a : List Bool) (f : ℕ → Bool) → ((r : ℕ) → f r ≡ false) → Flags a f a
flags_none a f none = record { as_many = refl; each = λ r there. or_false (is_flagged a r) ∙ ap (λ m. is_flagged a r || m) (sym (none r)) }

-- tests that agree below n take the same numbers below n
pub filter_below : (p q : ℕ → Bool) (n : ℕ) → ((r : ℕ) → r < n → p r ≡ q r) → filter p (each_below n) ≡ filter q (each_below n)
filter_below p q zero same = refl
filter_below p q (suc n) same =
    filter-append p (each_below n) (n ∷ [])
    ∙ ap₂ (λ xs ys. xs ++ ys) (filter_below p q n (λ r less. same r (omega arith))) (ap (λ t. cond t (n ∷ []) []) (same n (omega arith)))
    ∙ sym (filter-append q (each_below n) (n ∷ []))

-- one number more
pub filter_next : (p : ℕ → Bool) (n : ℕ) → filter p (each_below (n + 1)) ≡ filter p (each_below n) ++ cond (p n) (n ∷ []) []
filter_next p n = ap (λ k. filter p (each_below k)) (add-one n) ∙ filter-append p (each_below n) (n ∷ [])

-- ---- a list of the numbers that pass a test

bool_or_false : (b : Bool) → (b || false) ≡ b
bool_or_false true = refl
bool_or_false false = refl

-- no number above is in the list
pub none_above : (p : ℕ → Bool) (r n : ℕ) → n ≤ r → list_any (λ a. nat_eq a r) (filter p (each_below n)) ≡ false
none_above p r zero h = refl
none_above p r (suc n) h =
    ap (list_any (λ a. nat_eq a r)) (filter-append p (each_below n) (n ∷ []))
    ∙ list_any-append (λ a. nat_eq a r) (filter p (each_below n)) (filter p (n ∷ []))
    ∙ ap₂ (λ x y. x || y) (none_above p r n (omega arith)) (one (p n))
  where
    one : (b : Bool) → list_any (λ a. nat_eq a r) (cond b (n ∷ []) []) ≡ false
    one true = bool_or_false (nat_eq n r) ∙ ne_eqb n r (λ same. absurd (omega arith))
    one false = refl

-- a number below n is in the list of those that pass exactly if it passes
pub in_filter : (p : ℕ → Bool) (r n : ℕ) → r < n → list_any (λ a. nat_eq a r) (filter p (each_below n)) ≡ p r
in_filter p r zero h = absurd (omega arith)
in_filter p r (suc n) h =
    ap (list_any (λ a. nat_eq a r)) (filter-append p (each_below n) (n ∷ []))
    ∙ list_any-append (λ a. nat_eq a r) (filter p (each_below n)) (filter p (n ∷ []))
    ∙ by (nat_eq n r) refl (in_filter p r n)
  where
    last : (b : Bool) → nat_eq n r ≡ true → list_any (λ a. nat_eq a r) (cond b (n ∷ []) []) ≡ b
    last true e = bool_or_false (nat_eq n r) ∙ e
    last false e = refl

    other : (b : Bool) → nat_eq n r ≡ false → list_any (λ a. nat_eq a r) (cond b (n ∷ []) []) ≡ false
    other true e = bool_or_false (nat_eq n r) ∙ e
    other false e = refl

    by : (t : Bool) → nat_eq n r ≡ t → (r < n → list_any (λ a. nat_eq a r) (filter p (each_below n)) ≡ p r) → (list_any (λ a. nat_eq a r) (filter p (each_below n)) || list_any (λ a. nat_eq a r) (cond (p n) (n ∷ []) [])) ≡ p r
    by true e before =
        let same : n ≡ r = eqb-true n r e in
        ap₂ (λ x y. x || y) (none_above p r n (omega arith)) (last (p n) e) ∙ ap p same
    by false e before =
        ap₂ (λ x y. x || y) (before (omega (arith, eqb-false n r e))) (other (p n) e) ∙ bool_or_false (p r)
