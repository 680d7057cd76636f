-- The starts in a range that get another value.
use Rattle.std.proofs.Common.{◌≡◌, inl, inr, ⊎_elim, refl, sym, ap, ◌∙◌, subst, Bool, true, false, not, ◌&&◌, cond, List, [], ◌∷◌}
use Rattle.std.proofs.lemmas.Bool.{both_ways}
use Rattle.std.proofs.lemmas.Cmp.{nat_list_cmp_total, tied_itself}
use Rattle.std.specs.Ordering.{match_ordering}
use Rattle.std.specs.BTreeMap.{insert_entry}
use Rattle.system_keys.specs.Keys.{Key, Range, holds, is_key_below}
use Rattle.system_keys.proofs.KeyOrder.{not_below_itself, below_trans, not_below_back}
use Rattle.dated_owners.specs.Starts.{value_from, last_value, AreAbove, AreRising, IsStart, AreStarts, put_all_owners, changed_in}
use Rattle.dated_owners.proofs.KeyStarts.{key_cmp, greater, start_above}

-- the starts, where those in the range have their value changed
abbrev pub changed : {X : Type 0} → Range → (X → X) → List (Key × X) → List (Key × X)
changed range f [] = []
changed range f (s ∷ ss) = (s.0, cond (holds range s.0) (f s.1) s.1) ∷ changed range f ss

-- ---- putting them in

put_past : {X : Type 0} (s : Key × X) (ss some : List (Key × X)) → AreAbove s.0 some → put_all_owners (s ∷ ss) some ≡ s ∷ put_all_owners ss some
put_past s ss [] above = refl
put_past s ss (g ∷ some) above =
    ap (λ r. put_all_owners (match_ordering r ((g.0, g.1) ∷ s ∷ ss) ((s.0, g.1) ∷ ss) (s ∷ insert_entry key_cmp ss g.0 g.1)) some) (greater g.0 s.0 above.0)
    ∙ put_past s (insert_entry key_cmp ss g.0 g.1) some above.1

pub above_changed_in : {X : Type 0} (range : Range) (f : X → X) (b : Key) (ss : List (Key × X)) → AreAbove b ss → AreAbove b (changed_in range f ss)
above_changed_in range f b [] above = tt
above_changed_in range f b (s ∷ ss) above = by (holds range s.0) (above_changed_in range f b ss above.1)
  where
    by : (t : Bool) → AreAbove b (changed_in range f ss) → AreAbove b (cond t ((s.0, f s.1) ∷ changed_in range f ss) (changed_in range f ss))
    by true rec = (above.0, rec)
    by false rec = rec

starts_later : {X : Type 0} (some : List (Key × X)) (s : Key × X) (ss : List (Key × X)) → AreStarts some ss → AreStarts some (s ∷ ss)
starts_later [] s ss there = tt
starts_later (g ∷ some) s ss there = (inr there.0, starts_later some s ss there.1)

-- those of the range are among the starts
pub changed_are_starts : {X : Type 0} (range : Range) (f : X → X) (ss : List (Key × X)) → AreStarts (changed_in range f ss) ss
changed_are_starts range f [] = tt
changed_are_starts range f (s ∷ ss) = by (holds range s.0) (starts_later (changed_in range f ss) s ss (changed_are_starts range f ss))
  where
    by : (t : Bool) → AreStarts (changed_in range f ss) (s ∷ ss) → AreStarts (cond t ((s.0, f s.1) ∷ changed_in range f ss) (changed_in range f ss)) (s ∷ ss)
    by true rec = (inl refl, rec)
    by false rec = rec

pub put_changed : {X : Type 0} (range : Range) (f : X → X) (ss : List (Key × X)) → AreRising ss → put_all_owners ss (changed_in range f ss) ≡ changed range f ss
put_changed range f [] r = refl
put_changed {X} range f (s ∷ ss) r = by (holds range s.0) (put_changed range f ss r.1)
  where
    above : AreAbove s.0 (changed_in range f ss)
    above = above_changed_in range f s.0 ss r.0

    by : (t : Bool) → put_all_owners ss (changed_in range f ss) ≡ changed range f ss
        → put_all_owners (s ∷ ss) (cond t ((s.0, f s.1) ∷ changed_in range f ss) (changed_in range f ss)) ≡ (s.0, cond t (f s.1) s.1) ∷ changed range f ss
    by true rec =
        ap (λ o. put_all_owners (match_ordering o ((s.0, f s.1) ∷ s ∷ ss) ((s.0, f s.1) ∷ ss) (s ∷ insert_entry key_cmp ss s.0 (f s.1))) (changed_in range f ss)) (tied_itself nat_list_cmp_total s.0)
        ∙ put_past (s.0, f s.1) ss (changed_in range f ss) above
        ∙ ap (λ (xs : List (Key × X)). (s.0, f s.1) ∷ xs) rec
    by false rec = put_past s ss (changed_in range f ss) above ∙ ap (λ (xs : List (Key × X)). s ∷ xs) rec

-- ---- the value at a key

and_false : (t : Bool) → (t && false) ≡ false
and_false true = refl
and_false false = refl

holds_not_past : (range : Range) (q : Key) → is_key_below q range.end ≡ false → holds range q ≡ false
holds_not_past range q h = ap (λ t. not (is_key_below q range.begin) && t) h ∙ and_false (not (is_key_below q range.begin))

holds_not_before : (range : Range) (q : Key) → is_key_below q range.begin ≡ true → holds range q ≡ false
holds_not_before range q h = ap (λ t. not t && is_key_below q range.end) h

holds_from : (range : Range) (q : Key) → is_key_below q range.begin ≡ false → holds range q ≡ is_key_below q range.end
holds_from range q h = ap (λ t. not t && is_key_below q range.end) h

-- starts past the end of the range keep their values
changed_past : {X : Type 0} (range : Range) (f : X → X) (ss : List (Key × X)) → AreAbove range.end ss → changed range f ss ≡ ss
changed_past range f [] above = refl
changed_past {X} range f (s ∷ ss) above =
    ap (λ (t : Bool). (s.0, cond t (f s.1) s.1) ∷ changed range f ss) (holds_not_past range s.0 (not_below_back range.end s.0 above.0))
    ∙ ap (λ (xs : List (Key × X)). s ∷ xs) (changed_past range f ss above.1)

-- the first start is the end of the range, or the end comes later
first_or_later : {X : Type 0} (q : Key) (s : Key × X) (ss : List (Key × X)) → IsStart q (s ∷ ss) → is_key_below s.0 q ≡ true → IsStart q ss
first_or_later q s ss there h = ⊎_elim (λ e. absurd (both_ways (is_key_below s.0 q) (ap (is_key_below s.0) e ∙ not_below_itself s.0) h)) (λ later. later) there

is_initial_owner : {X : Type 0} (q : Key) (s : Key × X) (ss : List (Key × X)) → AreAbove s.0 ss → IsStart q (s ∷ ss) → is_key_below s.0 q ≡ false → q ≡ s.0
is_initial_owner q s ss above there h = ⊎_elim (λ e. e) (λ later. absurd (both_ways (is_key_below s.0 q) h (start_above s.0 q ss above later))) there

-- past the begin of the range
value_inside : {X : Type 0} (range : Range) (f : X → X) (d : X) (ss : List (Key × X)) (q : Key) → AreAbove range.begin ss → AreRising ss → IsStart range.end ss
    → value_from (f d) (changed range f ss) q ≡ cond (is_key_below q range.end) (f (value_from d ss q)) (value_from d ss q)
value_inside range f d [] q above r there = absurd there
value_inside {X} range f d (s ∷ ss) q above r there = by (is_key_below s.0 range.end) refl (λ later. value_inside range f s.1 ss q above.1 r.1 later)
  where
    low : is_key_below s.0 range.begin ≡ false
    low = not_below_back range.begin s.0 above.0

    Goal : Bool → Type 0
    Goal t = cond (is_key_below q s.0) (f d) (value_from (cond t (f s.1) s.1) (changed range f ss) q)
        ≡ cond (is_key_below q range.end) (f (cond (is_key_below q s.0) d (value_from s.1 ss q))) (cond (is_key_below q s.0) d (value_from s.1 ss q))

    early : (v : X) → is_key_below q range.end ≡ true → f d ≡ cond (is_key_below q range.end) (f d) d
    early v h = sym (ap (λ t. cond t (f d) d) h)

    before : (t : Bool) → is_key_below q s.0 ≡ t → is_key_below s.0 range.end ≡ true
        → value_from (f s.1) (changed range f ss) q ≡ cond (is_key_below q range.end) (f (value_from s.1 ss q)) (value_from s.1 ss q)
        → cond t (f d) (value_from (f s.1) (changed range f ss) q) ≡ cond (is_key_below q range.end) (f (cond t d (value_from s.1 ss q))) (cond t d (value_from s.1 ss q))
    before true k h rec = early d (below_trans q s.0 range.end k h)
    before false k h rec = rec

    at_end : (t : Bool) → cond t (f d) (value_from s.1 ss q) ≡ cond t (f (cond t d (value_from s.1 ss q))) (cond t d (value_from s.1 ss q))
    at_end true = refl
    at_end false = refl

    by : (t : Bool) → is_key_below s.0 range.end ≡ t
        → (IsStart range.end ss → value_from (f s.1) (changed range f ss) q ≡ cond (is_key_below q range.end) (f (value_from s.1 ss q)) (value_from s.1 ss q))
        → Goal (holds range s.0)
    by true h rec = subst Goal (sym (holds_from range s.0 low ∙ h)) (before (is_key_below q s.0) refl h (rec (first_or_later range.end s ss there h)))
    by false h rec =
        let same : range.end ≡ s.0 = is_initial_owner range.end s ss r.0 there h in
        let rest : changed range f ss ≡ ss = changed_past range f ss (subst (λ (k : Key). AreAbove k ss) (sym same) r.0) in
        subst Goal (sym (holds_not_past range s.0 h))
        (ap (λ (xs : List (Key × X)). cond (is_key_below q s.0) (f d) (value_from s.1 xs q)) rest
        ∙ at_end (is_key_below q s.0)
        ∙ ap (λ (e : Key). cond (is_key_below q e) (f (cond (is_key_below q s.0) d (value_from s.1 ss q))) (cond (is_key_below q s.0) d (value_from s.1 ss q))) (sym same))

-- the keys of the range get the changed value, and all others keep theirs
pub value_changed : {X : Type 0} (range : Range) (f : X → X) (d : X) (ss : List (Key × X)) (q : Key) → is_key_below range.begin range.end ≡ true → AreRising ss → IsStart range.begin ss → IsStart range.end ss
    → value_from d (changed range f ss) q ≡ cond (holds range q) (f (value_from d ss q)) (value_from d ss q)
value_changed range f d [] q h r first end = absurd first
value_changed {X} range f d (s ∷ ss) q h r first end = ⊎_elim at_begin (λ later. before_begin later (λ later_end. value_changed range f s.1 ss q h r.1 later later_end)) first
  where
    Goal : Bool → Type 0
    Goal t = cond (is_key_below q s.0) d (value_from (cond t (f s.1) s.1) (changed range f ss) q)
        ≡ cond (holds range q) (f (cond (is_key_below q s.0) d (value_from s.1 ss q))) (cond (is_key_below q s.0) d (value_from s.1 ss q))

    out : (v : X) → holds range q ≡ false → v ≡ cond (holds range q) (f v) v
    out v k = sym (ap (λ t. cond t (f v) v) k)

    at_begin : range.begin ≡ s.0 → Goal (holds range s.0)
    at_begin same =
        let low : is_key_below s.0 range.begin ≡ false = ap (is_key_below s.0) same ∙ not_below_itself s.0 in
        let high : is_key_below s.0 range.end ≡ true = ap (λ (k : Key). is_key_below k range.end) (sym same) ∙ h in
        let inside = value_inside range f s.1 ss q (subst (λ (k : Key). AreAbove k ss) (sym same) r.0) r.1 (first_or_later range.end s ss end high) in
        subst Goal (sym (holds_from range s.0 low ∙ high)) (by (is_key_below q s.0) refl inside)
      where
        by : (t : Bool) → is_key_below q s.0 ≡ t
            → value_from (f s.1) (changed range f ss) q ≡ cond (is_key_below q range.end) (f (value_from s.1 ss q)) (value_from s.1 ss q)
            → cond t d (value_from (f s.1) (changed range f ss) q) ≡ cond (holds range q) (f (cond t d (value_from s.1 ss q))) (cond t d (value_from s.1 ss q))
        by true k inside = out d (holds_not_before range q (ap (is_key_below q) same ∙ k))
        by false k inside = inside ∙ ap (λ t. cond t (f (value_from s.1 ss q)) (value_from s.1 ss q)) (sym (holds_from range q (ap (is_key_below q) same ∙ k)))

    before_begin : IsStart range.begin ss
        → (IsStart range.end ss → value_from s.1 (changed range f ss) q ≡ cond (holds range q) (f (value_from s.1 ss q)) (value_from s.1 ss q))
        → Goal (holds range s.0)
    before_begin later rec =
        let below : is_key_below s.0 range.begin ≡ true = start_above s.0 range.begin ss r.0 later in
        let high : is_key_below s.0 range.end ≡ true = below_trans s.0 range.begin range.end below h in
        subst Goal (sym (holds_not_before range s.0 below)) (by (is_key_below q s.0) refl below (rec (first_or_later range.end s ss end high)))
      where
        by : (t : Bool) → is_key_below q s.0 ≡ t → is_key_below s.0 range.begin ≡ true
            → value_from s.1 (changed range f ss) q ≡ cond (holds range q) (f (value_from s.1 ss q)) (value_from s.1 ss q)
            → cond t d (value_from s.1 (changed range f ss) q) ≡ cond (holds range q) (f (cond t d (value_from s.1 ss q))) (cond t d (value_from s.1 ss q))
        by true k below rest = out d (holds_not_before range q (below_trans q s.0 range.begin k below))
        by false k below rest = rest

last_of : {X : Type 0} (a b : X) (k : Key) (ss : List (Key × X)) → IsStart k ss → last_value a ss ≡ last_value b ss
last_of a b k [] there = absurd there
last_of a b k (s ∷ ss) there = refl

-- the last value stays, since the range ends at a start
pub last_changed : {X : Type 0} (range : Range) (f : X → X) (d : X) (ss : List (Key × X)) → AreRising ss → IsStart range.end ss → last_value d (changed range f ss) ≡ last_value d ss
last_changed range f d [] r there = absurd there
last_changed {X} range f d (s ∷ ss) r there = ⊎_elim at_end (λ later. last_changed range f (cond (holds range s.0) (f s.1) s.1) ss r.1 later ∙ last_of (cond (holds range s.0) (f s.1) s.1) s.1 range.end ss later) there
  where
    at_end : range.end ≡ s.0 → last_value (cond (holds range s.0) (f s.1) s.1) (changed range f ss) ≡ last_value s.1 ss
    at_end same =
        ap (λ (xs : List (Key × X)). last_value (cond (holds range s.0) (f s.1) s.1) xs) (changed_past range f ss (subst (λ (k : Key). AreAbove k ss) (sym same) r.0))
        ∙ ap (λ t. last_value (cond t (f s.1) s.1) ss) (holds_not_past range s.0 (ap (is_key_below s.0) same ∙ not_below_itself s.0))
