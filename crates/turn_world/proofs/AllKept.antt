-- What is kept of all rows.
use Rattle.std.proofs.Common.{◌≡◌, ◌∙◌, refl, sym, ap, subst, ℕ, zero, suc, ◌+◌, ◌<◌, ◌≤◌, List, [], ◌∷◌, ◌++◌, length, slice_get, slice_index, slice_set, length-set, Bool, true, false, nat_eq, Some, None, ◌⊎◌, inl, inr, cond, filter, nat_le, arith}
use Rattle.std.proofs.lemmas.Bool.{eqb-true, eqb-false, leb-false}
use Rattle.std.proofs.lemmas.List.Elements.{filter-append}
use Rattle.model.specs.Shares.{each_below}
use Rattle.model.proofs.Worlds.Runs.{set_same, set_other}
use Rattle.turn_world.specs.Kept.{IsJudgedByAll, IsRowKept, AreRowsKept}
use Rattle.turn_world.specs.Parts.{missing_of}
use Rattle.turn_world.specs.declared.kept_record.KeptRecord.{KeptRecord}

pub none_kept : (counts : List ℕ) (rows : List KeptRecord) → rows ≡ [] → AreRowsKept counts rows
none_kept counts rows is row one at =
    let both : None ≡ Some one = sym (ap (λ (xs : List KeptRecord). slice_get xs row) is) ∙ at in absurd (cc)

-- ---- a row more

found_pushed : {X : Type 0} (xs : List X) (y : X) (i : ℕ) (x : X) → slice_get (xs ++ y ∷ []) i ≡ Some x → (slice_get xs i ≡ Some x) ⊎ (x ≡ y)
found_pushed [] y zero x at = inr (cc)
found_pushed [] y (suc i) x at = absurd (cc)
found_pushed (z ∷ zs) y zero x at = inl at
found_pushed (z ∷ zs) y (suc i) x at = found_pushed zs y i x at

pub pushed_kept : (counts : List ℕ) (rows new : List KeptRecord) (one : KeptRecord) → new ≡ rows ++ one ∷ [] → one.proxy ≡ one.rec.known.proxy → one.kept.requests.items ≡ one.sent.known → AreRowsKept counts rows → AreRowsKept counts new
pushed_kept counts rows new one is proxy whole all row x at = by (found_pushed rows one row x (sym (ap (λ (xs : List KeptRecord). slice_get xs row) is) ∙ at))
  where
    by : (slice_get rows row ≡ Some x) ⊎ (x ≡ one) → IsRowKept counts row x
    by (inl before) = all row x before
    by (inr same) = subst (IsRowKept counts row) (sym same) (record { proxy = proxy; requests = inl whole })

-- ---- a row that a resolver has judged

pub judged_kept_all : (counts : List ℕ) (rows : List KeptRecord) (r row : ℕ) → r < length counts → slice_index counts r ≤ row → AreRowsKept counts rows → AreRowsKept (slice_set counts r (row + 1)) rows
judged_kept_all counts rows r row there front all i one at =
    record { proxy = (all i one at).proxy; requests = by (all i one at).requests }
  where
    after : (k : ℕ) (t : Bool) → nat_eq k r ≡ t → i < slice_index counts k → i < slice_index (slice_set counts r (row + 1)) k
    after k true e judged =
        let same : k ≡ r = eqb-true k r e in
        let set : slice_index (slice_set counts r (row + 1)) k ≡ row + 1 = ap (slice_index (slice_set counts r (row + 1))) same ∙ set_same counts r (row + 1) there in
        let old : slice_index counts k ≡ slice_index counts r = ap (slice_index counts) same in
        omega (arith, judged, set, old, front)
    after k false e judged =
        let set : slice_index (slice_set counts r (row + 1)) k ≡ slice_index counts k = set_other counts r (row + 1) k (eqb-false k r e) in
        omega (arith, judged, set)

    by : (one.kept.requests.items ≡ one.sent.known) ⊎ ((one.kept.requests.items ≡ []) × IsJudgedByAll counts i) → (one.kept.requests.items ≡ one.sent.known) ⊎ ((one.kept.requests.items ≡ []) × IsJudgedByAll (slice_set counts r (row + 1)) i)
    by (inl whole) = inl whole
    by (inr (none, judged)) = inr (none, λ k within. after k (nat_eq k r) refl (judged k (omega (arith, within, length-set counts r (row + 1)))))

-- ---- a row that every resolver has judged

both_empty : {X : Type 0} (xs ys : List X) → xs ++ ys ≡ [] → (xs ≡ []) × (ys ≡ [])
both_empty [] ys is = (refl, is)
both_empty (x ∷ xs) ys is = absurd (cc)

nothing_passes : (p : ℕ → Bool) (n r : ℕ) → filter p (each_below n) ≡ [] → r < n → p r ≡ false
nothing_passes p zero r none there = absurd (omega arith)
nothing_passes p (suc n) r none there = by (nat_eq r n) refl (λ less. nothing_passes p n r parts.0 less)
  where
    parts : (filter p (each_below n) ≡ []) × (filter p (n ∷ []) ≡ [])
    parts = both_empty (filter p (each_below n)) (filter p (n ∷ [])) (sym (filter-append p (each_below n) (n ∷ [])) ∙ none)

    last : (b : Bool) → p n ≡ b → cond b (n ∷ []) [] ≡ [] → b ≡ false
    last true is some = absurd (cc)
    last false is some = refl

    by : (t : Bool) → nat_eq r n ≡ t → (r < n → p r ≡ false) → p r ≡ false
    by true e before = ap p (eqb-true r n e) ∙ last (p n) refl parts.1
    by false e before = before (omega (arith, eqb-false r n e, there))

first_of_none : {X : Type 0} (xs : List X) → None ≡ slice_get xs 0 → xs ≡ []
first_of_none [] none = refl
first_of_none (x ∷ xs) none = absurd (cc)

pub all_judged : (row : ℕ) (counts : List ℕ) → None ≡ slice_get (missing_of row counts) 0 → (r : ℕ) → r < length counts → row < slice_index counts r
all_judged row counts none r there =
    omega (arith, leb-false (slice_index counts r) row (nothing_passes (λ (s : ℕ). nat_le (slice_index counts s) row) (length counts) r (first_of_none (missing_of row counts) none) there))
