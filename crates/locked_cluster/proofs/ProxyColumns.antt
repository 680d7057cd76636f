-- Columns one by one.
use Rattle.std.proofs.Common.{◌≡◌, refl, sym, ap, ◌∙◌, subst, min, ℕ, zero, suc, ◌+◌, ◌<◌, ◌≤◌, ◌⊎◌, inl, inr, List, [], ◌∷◌, ◌++◌, length, take, slice_get, Some, None, option_map, get_or, arith}
use Rattle.std.proofs.lemmas.Bool.{cases_order}
use Rattle.std.proofs.lemmas.List.{length-map, map-append}
use Rattle.std.proofs.lemmas.Option.{slice_get-map}
use Rattle.facts.specs.Stretches.{Agree, StretchesAgree}
use Rattle.model.specs.Journal.{list_at}
use Rattle.model.specs.declared.verdict.Verdict.{Verdict}
use Rattle.model.proofs.History.Growth.{push_cases}
use Rattle.agreed_ledger.specs.Cells.{ColumnView}
use Rattle.locked_resolvers.proofs.Lists.{got, take_next}
use Rattle.locked_cluster.specs.Columns.{AreInOrder, ColumnsAgree, known_columns}

pub none_in_order : AreInOrder []
none_in_order r column at = absurd (cc)

-- the column of the next resolver is in order
pub one_more_in_order : (columns : List ColumnView) (next : ColumnView) → AreInOrder columns → next.resolver ≡ length columns → next.rows.first ≡ 0 → AreInOrder (columns ++ next ∷ [])
one_more_in_order columns next ordered resolver first r column at = by (push_cases columns next r column at)
  where
    by : ((r ≡ length columns) × (next ≡ column)) ⊎ ((r < length columns) × (slice_get columns r ≡ Some column)) → (column.resolver ≡ r) × (column.rows.first ≡ 0)
    by (inl last) = (ap (λ (c : ColumnView). c.resolver) (sym last.1) ∙ resolver ∙ sym last.0, ap (λ (c : ColumnView). c.rows.first) (sym last.1) ∙ first)
    by (inr sooner) = ordered r column sooner.1

pub known_count : (columns : List ColumnView) → length (known_columns columns) ≡ length columns
known_count columns = length-map columns (λ (column : ColumnView). column.rows.known)

pub known_more : (columns : List ColumnView) (next : ColumnView) → known_columns (columns ++ next ∷ []) ≡ known_columns columns ++ next.rows.known ∷ []
known_more columns next = map-append (λ (column : ColumnView). column.rows.known) columns (next ∷ [])

-- the elements that stand there
pub list_at_is : {X : Type 0} (lists : List (List X)) (i : ℕ) (list : List X) → slice_get lists i ≡ Some list → list_at lists i ≡ list
list_at_is [] i list at = absurd (cc)
list_at_is (first ∷ lists) zero list at = cc
list_at_is (first ∷ lists) (suc i) list at = list_at_is lists i list at

pub list_at_none : {X : Type 0} (lists : List (List X)) (i : ℕ) → length lists ≤ i → list_at lists i ≡ []
list_at_none [] i past = refl
list_at_none (first ∷ lists) zero past = absurd (omega (arith, past))
list_at_none (first ∷ lists) (suc i) past = list_at_none lists i (omega (arith, past))

pub known_at : (columns : List ColumnView) (r : ℕ) (column : ColumnView) → slice_get columns r ≡ Some column → list_at (known_columns columns) r ≡ column.rows.known
known_at columns r column at =
    list_at_is (known_columns columns) r column.rows.known (slice_get-map (λ (c : ColumnView). c.rows.known) columns r ∙ ap (option_map (λ (c : ColumnView). c.rows.known)) at)

-- nothing disagrees with no elements
pub agree_none : {X : Type 0} (xs ys : List X) → (xs ≡ []) ⊎ (ys ≡ []) → Agree 0 xs 0 ys
agree_none xs ys (inl none) i j x y same at_x at_y = absurd (let nothing : None ≡ Some x = ap (λ zs. slice_get zs i) (sym none) ∙ at_x in cc)
agree_none xs ys (inr none) i j x y same at_x at_y = absurd (let nothing : None ≡ Some y = ap (λ zs. slice_get zs j) (sym none) ∙ at_y in cc)

-- one column more is copied
pub copied_next : (columns : List ColumnView) (k : ℕ) (column copy : ColumnView) (copied more : List (List (List Verdict))) → slice_get columns k ≡ Some column → copy ≡ column → copied ≡ known_columns (take k columns) → more ≡ copied ++ copy.rows.known ∷ [] → more ≡ known_columns (take (k + 1) columns)
copied_next columns k column copy copied more at same so_far is =
    is
    ∙ (λ i. so_far i ++ (same i).rows.known ∷ [])
    ∙ sym (known_more (take k columns) column)
    ∙ ap known_columns (sym (take_next columns k column at))

-- the columns of one resolver more agree
pub agree_more : (mine theirs : List ColumnView) (k : ℕ) (a b : ColumnView) → AreInOrder mine → AreInOrder theirs → slice_get mine k ≡ Some a → slice_get theirs k ≡ Some b → StretchesAgree a.rows b.rows
    → ((r : ℕ) → r < k → Agree 0 (list_at (known_columns mine) r) 0 (list_at (known_columns theirs) r))
    → (r : ℕ) → r < k + 1 → Agree 0 (list_at (known_columns mine) r) 0 (list_at (known_columns theirs) r)
agree_more mine theirs k a b in_mine in_theirs at_mine at_theirs agree so_far r below = by (cases_order r k)
  where
    here : Agree 0 (list_at (known_columns mine) k) 0 (list_at (known_columns theirs) k)
    here =
        subst (λ (xs : List (List Verdict)). Agree 0 xs 0 (list_at (known_columns theirs) k)) (sym (known_at mine k a at_mine))
        (subst (λ (ys : List (List Verdict)). Agree 0 a.rows.known 0 ys) (sym (known_at theirs k b at_theirs))
        (subst (λ (n : ℕ). Agree n a.rows.known 0 b.rows.known) (in_mine k a at_mine).1
        (subst (λ (n : ℕ). Agree a.rows.first a.rows.known n b.rows.known) (in_theirs k b at_theirs).1 agree)))

    by : (r ≡ k) ⊎ ((r < k) ⊎ (k < r)) → Agree 0 (list_at (known_columns mine) r) 0 (list_at (known_columns theirs) r)
    by (inl same) = subst (λ (n : ℕ). Agree 0 (list_at (known_columns mine) n) 0 (list_at (known_columns theirs) n)) (sym same) here
    by (inr (inl less)) = so_far r less
    by (inr (inr more)) = absurd (omega (arith, below, more))

pub one_resolver : (mine theirs : List ColumnView) (k : ℕ) (a b : ColumnView) → AreInOrder mine → AreInOrder theirs → slice_get mine k ≡ Some a → slice_get theirs k ≡ Some b → a.resolver ≡ b.resolver
one_resolver mine theirs k a b in_mine in_theirs at_mine at_theirs = (in_mine k a at_mine).0 ∙ sym (in_theirs k b at_theirs).0

-- where all of one of them are looked at, all agree
pub all_agree : (mine theirs : List (List (List Verdict))) (count : ℕ) → min (length mine) (length theirs) ≤ count → ((r : ℕ) → r < count → Agree 0 (list_at mine r) 0 (list_at theirs r)) → ColumnsAgree mine theirs
all_agree mine theirs count all so_far r = by (cases_order r count)
  where
    past : count ≤ r → Agree 0 (list_at mine r) 0 (list_at theirs r)
    past beyond = which (cases_order (length mine) (length theirs))
      where
        none_mine : length mine ≤ r → Agree 0 (list_at mine r) 0 (list_at theirs r)
        none_mine fewer = agree_none (list_at mine r) (list_at theirs r) (inl (list_at_none mine r fewer))

        which : (length mine ≡ length theirs) ⊎ ((length mine < length theirs) ⊎ (length theirs < length mine)) → Agree 0 (list_at mine r) 0 (list_at theirs r)
        which (inl same) = none_mine (omega (arith, same, all, beyond))
        which (inr (inl less)) = none_mine (omega (arith, less, all, beyond))
        which (inr (inr more)) = agree_none (list_at mine r) (list_at theirs r) (inr (list_at_none theirs r (omega (arith, more, all, beyond))))

    by : (r ≡ count) ⊎ ((r < count) ⊎ (count < r)) → Agree 0 (list_at mine r) 0 (list_at theirs r)
    by (inl same) = past (omega (arith, same))
    by (inr (inl less)) = so_far r less
    by (inr (inr more)) = past (omega (arith, more))

-- the same of the list that the loop goes over
pub got_in : (own items : List ColumnView) (i : ℕ) (x : ColumnView) → items ≡ own → i < length items → x ≡ get_or items i x → slice_get own i ≡ Some x
got_in own items i x same within is = ap (λ (columns : List ColumnView). slice_get columns i) (sym same) ∙ got items i x within is

pub copied_count : (columns : List ColumnView) (k : ℕ) → k ≤ length columns → length (known_columns (take k columns)) ≡ k
copied_count columns zero within = refl
copied_count [] (suc k) within = absurd (omega (arith, within))
copied_count (column ∷ columns) (suc k) within = ap (λ n. suc n) (copied_count columns k (omega (arith, within)))
