-- Tags that are sorted first, and then added, give what they give unsorted.
use Rattle.std.proofs.Common.{◌≡◌, refl, sym, ap, ◌∙◌, subst, ℕ, zero, suc, ◌+◌, ◌<◌, ◌≤◌, arith, List, [], ◌∷◌, get_or, insert, length, Ordering, Less, Equal, Greater, nat_cmp, is_eq, eqb-true}
use Rattle.std.specs.BTreeSet.{insert_key}
use Rattle.std.specs.List.{AllByRecursion}
use Rattle.std.specs.List.Sorted.{IsNonDecreasingBy, IsPartitionPoint, IsSortedBy, IsStrictlySortedBy}
use Rattle.std.specs.Cmp.{IsTotalOrder, on_total, then_total, nat_cmp_total, unsigned_ties}
use Rattle.std.specs.Ordering.{is_lt, ordering_index, ordering_reverse, ordering_then, match_ordering}
use Rattle.std.proofs.lemmas.List.Sorted.{searchable_from_sorted}
use Rattle.std.proofs.lemmas.Map.Keys.{Less-from_sorted}
use Rattle.system_keys.specs.declared.tag.Tag.{Tag}
use Rattle.model.specs.Metadata.{sorted_tags}
use Rattle.system_keys.specs.ListedTags.{tag_cmp}
use Rattle.metadata.proofs.Tags.{added}

tag_total : IsTotalOrder tag_cmp
tag_total = then_total (on_total (λ (t : Tag). t.locality) nat_cmp_total) (on_total (λ (t : Tag). t.id) nat_cmp_total)

turned : (s t : Tag) → tag_cmp s t ≡ Greater → tag_cmp t s ≡ Less
turned s t h = tag_total.antisymm t s ∙ ap ordering_reverse h

before : (s t : Tag) → tag_cmp s t ≡ Less → tag_cmp t s ≡ Greater
before s t h = tag_total.antisymm t s ∙ ap ordering_reverse h

first_tied : (r s : Ordering) → ordering_then r s ≡ Equal → r ≡ Equal
first_tied Less s h = absurd (cc)
first_tied Equal s h = refl
first_tied Greater s h = absurd (cc)

second_tied : (r s : Ordering) → ordering_then r s ≡ Equal → s ≡ Equal
second_tied Less s h = absurd (cc)
second_tied Equal s h = h
second_tied Greater s h = absurd (cc)

tied_numbers : (a b : ℕ) → nat_cmp a b ≡ Equal → a ≡ b
tied_numbers a b h = eqb-true a b (unsigned_ties a b ∙ ap is_eq h)

tied_tags : (s t : Tag) → tag_cmp s t ≡ Equal → s ≡ t
tied_tags s t h =
    let same_locality : s.locality ≡ t.locality = tied_numbers s.locality t.locality (first_tied (nat_cmp s.locality t.locality) (nat_cmp s.id t.id) h) in
    let same_id : s.id ≡ t.id = tied_numbers s.id t.id (second_tied (nat_cmp s.locality t.locality) (nat_cmp s.id t.id) h) in
    λ i. record { locality = same_locality i; id = same_id i }

abbrev put : List Tag → Tag → List Tag
put tags tag = insert_key tag_cmp tags tag

-- what a put does to the first tag, by how the two compare
abbrev at_first : Ordering → Tag → Tag → List Tag → List Tag
at_first r x u us = match_ordering r (x ∷ u ∷ us) (u ∷ us) (u ∷ put us x)

first_put : (u : Tag) (us : List Tag) (x : Tag) (r : Ordering) → tag_cmp x u ≡ r → put (u ∷ us) x ≡ at_first r x u us
first_put u us x r h = ap (λ (o : Ordering). at_first o x u us) h

itself : (x : Tag) → tag_cmp x x ≡ Equal
itself x = by (tag_cmp x x) refl
  where
    by : (r : Ordering) → tag_cmp x x ≡ r → tag_cmp x x ≡ Equal
    by Less h = let both : Less ≡ Greater = sym h ∙ before x x h in absurd (cc)
    by Equal h = h
    by Greater h = let both : Greater ≡ Less = sym h ∙ turned x x h in absurd (cc)

-- the order of two puts does not matter
swapped : (tags : List Tag) (x y : Tag) → put (put tags x) y ≡ put (put tags y) x
swapped [] x y = by (tag_cmp y x) refl
  where
    by : (r : Ordering) → tag_cmp y x ≡ r → put (x ∷ []) y ≡ put (y ∷ []) x
    by Less h = first_put x [] y Less h ∙ sym (first_put y [] x Greater (before y x h))
    by Equal h = first_put x [] y Equal h ∙ ap (λ (t : Tag). t ∷ []) (sym (tied_tags y x h)) ∙ sym (first_put y [] x Equal (ap (λ (t : Tag). tag_cmp x t) (tied_tags y x h) ∙ itself x))
    by Greater h = first_put x [] y Greater h ∙ sym (first_put y [] x Less (turned y x h))
swapped (u ∷ us) x y = by (tag_cmp x u) refl (tag_cmp y u) refl (swapped us x y)
  where
    -- both before the first
    in_front : (r : Ordering) → tag_cmp y x ≡ r → tag_cmp x u ≡ Less → tag_cmp y u ≡ Less → put (x ∷ u ∷ us) y ≡ put (y ∷ u ∷ us) x
    in_front Less h a b = first_put x (u ∷ us) y Less h ∙ sym (first_put y (u ∷ us) x Greater (before y x h) ∙ ap (λ (rest : List Tag). y ∷ rest) (first_put u us x Less a))
    in_front Equal h a b =
        first_put x (u ∷ us) y Equal h ∙ ap (λ (t : Tag). t ∷ u ∷ us) (sym (tied_tags y x h))
        ∙ sym (first_put y (u ∷ us) x Equal (ap (λ (t : Tag). tag_cmp x t) (tied_tags y x h) ∙ itself x))
    in_front Greater h a b = first_put x (u ∷ us) y Greater h ∙ ap (λ (rest : List Tag). x ∷ rest) (first_put u us y Less b) ∙ sym (first_put y (u ∷ us) x Less (turned y x h))

    -- the first tag is the one put, and the other stands anywhere
    at_tied : (x y : Tag) (r : Ordering) → tag_cmp y u ≡ r → tag_cmp x u ≡ Equal → put (u ∷ us) y ≡ put (at_first r y u us) x
    at_tied x y Less h a =
        let same : x ≡ u = tied_tags x u a in
        first_put u us y Less h ∙ sym (first_put y (u ∷ us) x Greater (ap (λ (t : Tag). tag_cmp t y) same ∙ before y u h) ∙ ap (λ (rest : List Tag). y ∷ rest) (first_put u us x Equal a))
    at_tied x y Equal h a = first_put u us y Equal h ∙ sym (first_put u us x Equal a)
    at_tied x y Greater h a = first_put u us y Greater h ∙ sym (first_put u (put us y) x Equal a)

    apart : tag_cmp x u ≡ Less → tag_cmp y u ≡ Greater → put (x ∷ u ∷ us) y ≡ put (u ∷ put us y) x
    apart a b =
        let after : tag_cmp y x ≡ Greater = before x y (tag_total.trans x u y a (turned y u b)) in
        first_put x (u ∷ us) y Greater after ∙ ap (λ (rest : List Tag). x ∷ rest) (first_put u us y Greater b) ∙ sym (first_put u (put us y) x Less a)

    apart_back : tag_cmp x u ≡ Greater → tag_cmp y u ≡ Less → put (u ∷ put us x) y ≡ put (y ∷ u ∷ us) x
    apart_back a b =
        let after : tag_cmp x y ≡ Greater = before y x (tag_total.trans y u x b (turned x u a)) in
        first_put u (put us x) y Less b ∙ sym (first_put y (u ∷ us) x Greater after ∙ ap (λ (rest : List Tag). y ∷ rest) (first_put u us x Greater a))

    by : (r : Ordering) → tag_cmp x u ≡ r → (s : Ordering) → tag_cmp y u ≡ s → put (put us x) y ≡ put (put us y) x → put (at_first r x u us) y ≡ put (at_first s y u us) x
    by Less a Less b later = in_front (tag_cmp y x) refl a b
    by Less a Equal b later = sym (at_tied y x Less a b)
    by Less a Greater b later = apart a b
    by Equal a s b later = at_tied x y s b a
    by Greater a Less b later = apart_back a b
    by Greater a Equal b later = sym (at_tied y x Greater a b)
    by Greater a Greater b later = first_put u (put us x) y Greater b ∙ ap (λ (rest : List Tag). u ∷ rest) later ∙ sym (first_put u (put us y) x Greater a)

-- a tag that was put is not put again
twice : (tags : List Tag) (x : Tag) → put (put tags x) x ≡ put tags x
twice [] x = first_put x [] x Equal (itself x)
twice (u ∷ us) x = by (tag_cmp x u) refl (twice us x)
  where
    by : (r : Ordering) → tag_cmp x u ≡ r → put (put us x) x ≡ put us x → put (at_first r x u us) x ≡ at_first r x u us
    by Less h later = first_put x (u ∷ us) x Equal (itself x)
    by Equal h later = first_put u us x Equal h
    by Greater h later = first_put u (put us x) x Greater h ∙ ap (λ (rest : List Tag). u ∷ rest) later

-- a put before others is one after them
put_last : (tags more : List Tag) (x : Tag) → added (put tags x) more ≡ put (added tags more) x
put_last tags [] x = refl
put_last tags (y ∷ more) x = ap (λ (now : List Tag). added now more) (swapped tags x y) ∙ put_last (put tags y) more x

add_put : (tags more : List Tag) (x : Tag) → added tags (put more x) ≡ put (added tags more) x
add_put tags [] x = refl
add_put tags (u ∷ us) x = by (tag_cmp x u) refl (add_put (put tags u) us x)
  where
    by : (r : Ordering) → tag_cmp x u ≡ r → added (put tags u) (put us x) ≡ put (added (put tags u) us) x → added tags (at_first r x u us) ≡ put (added (put tags u) us) x
    by Less h later = ap (λ (now : List Tag). added now us) (swapped tags x u) ∙ put_last (put tags u) us x
    by Equal h later =
        let same : x ≡ u = tied_tags x u h in
        ap (λ (now : List Tag). added now us) (sym (twice tags u)) ∙ put_last (put tags u) us u ∙ ap (put (added (put tags u) us)) (sym same)
    by Greater h later = later

add_sorted : (tags more xs : List Tag) → added tags (added more xs) ≡ added (added tags more) xs
add_sorted tags more [] = refl
add_sorted tags more (x ∷ xs) = add_sorted tags (put more x) xs ∙ ap (λ (now : List Tag). added now xs) (add_put tags more x)

-- sorted tags, added to others, give what they give unsorted
pub resorted : (tags xs : List Tag) → added tags (sorted_tags xs) ≡ added tags xs
resorted tags xs = add_sorted tags [] xs

-- ---- where a tag goes among tags in order

tied_back : (s t : Tag) → tag_cmp s t ≡ Equal → tag_cmp t s ≡ Equal
tied_back s t h = tag_total.antisymm t s ∙ ap ordering_reverse h

-- tags in order can be searched
searchable : (tags : List Tag) (x : Tag) → IsStrictlySortedBy tag_cmp tags → IsNonDecreasingBy (λ (y : Tag). ordering_index (tag_cmp y x)) tags
searchable tags x s =
    let rises : IsSortedBy (λ (a b : Tag). is_lt (tag_cmp a b)) tags =
    λ k d from within. ap is_lt (before (get_or tags k d) (get_or tags (k + 1) d) (Less-from_sorted tag_cmp tags k (k + 1) d s (omega arith) within)) in
    searchable_from_sorted tag_total (λ (t : Tag). t) tags x rises

-- a tag that is found is not put again
is_found : (tags : List Tag) (i : ℕ) (x d : Tag) → IsStrictlySortedBy tag_cmp tags → i < length tags → tag_cmp (get_or tags i d) x ≡ Equal → put tags x ≡ tags
unfolding IsStrictlySortedBy
is_found [] i x d s within is = absurd (omega (arith, within))
is_found (u ∷ us) zero x d s within is = first_put u us x Equal (tied_back u x is)
is_found (u ∷ us) (suc i) x d s within is =
    let same : get_or us i d ≡ x = tied_tags (get_or us i d) x is in
    let less : tag_cmp u x ≡ Less = ap (tag_cmp u) (sym same) ∙ Less-from_sorted tag_cmp (u ∷ us) 0 (suc i) d s (omega arith) within in
    first_put u us x Greater (before u x less) ∙ ap (λ (rest : List Tag). u ∷ rest) (is_found us i x d s.1 (omega (arith, within)) is)

-- a tag goes between those below it and those above it
is_placed : (tags : List Tag) (i : ℕ) (x : Tag) → i ≤ length tags → IsPartitionPoint (λ (y : Tag). tag_cmp y x ≡ Less) (λ (y : Tag). tag_cmp y x ≡ Greater) tags i → put tags x ≡ insert tags i x
is_placed [] zero x within parts = refl
is_placed [] (suc i) x within parts = absurd (omega (arith, within))
is_placed (u ∷ us) zero x within parts = first_put u us x Less (turned u x (parts.1 0 u (omega arith) (omega arith)))
is_placed (u ∷ us) (suc i) x within parts =
    first_put u us x Greater (before u x (parts.0 0 u (omega arith) (omega arith)))
    ∙ ap (λ (rest : List Tag). u ∷ rest)
    (is_placed us i x (omega (arith, within)) (
      (λ k d from below. parts.0 (suc k) d (omega arith) (omega (arith, below))),
      (λ k d from below. parts.1 (suc k) d (omega (arith, from)) (omega (arith, below))),
    ))

-- the same of a view of them, as a search gives it
pub found_there : (tags view : List Tag) (i : ℕ) (x : Tag) → view ≡ tags → IsStrictlySortedBy tag_cmp tags → i < length view → ((d : Tag) → tag_cmp (get_or view i d) x ≡ Equal) → put tags x ≡ tags
found_there tags view i x is s within at = subst (λ (list : List Tag). put list x ≡ list) is (is_found view i x x (subst (IsStrictlySortedBy tag_cmp) (sym is) s) within (at x))

pub put_there : (tags view : List Tag) (i : ℕ) (x : Tag) → view ≡ tags → IsStrictlySortedBy tag_cmp tags → i ≤ length view
    → (IsNonDecreasingBy (λ (y : Tag). ordering_index (tag_cmp y x)) view → IsPartitionPoint (λ (y : Tag). tag_cmp y x ≡ Less) (λ (y : Tag). tag_cmp y x ≡ Greater) view i)
    → insert tags i x ≡ put tags x
put_there tags view i x is s within parts =
    sym (subst (λ (list : List Tag). put list x ≡ insert list i x) is (is_placed view i x within (parts (searchable view x (subst (IsStrictlySortedBy tag_cmp) (sym is) s)))))

pub none_sorted : IsStrictlySortedBy tag_cmp []
unfolding IsStrictlySortedBy
none_sorted = tt

all_put : (P : Tag → Type 0) (tags : List Tag) (x : Tag) → AllByRecursion P tags → P x → AllByRecursion P (put tags x)
all_put P [] x all one = (one, tt)
all_put P (u ∷ us) x all one = by (tag_cmp x u) (all_put P us x all.1 one)
  where
    by : (r : Ordering) → AllByRecursion P (put us x) → AllByRecursion P (at_first r x u us)
    by Less later = (one, all)
    by Equal later = all
    by Greater later = (all.0, later)

all_above : (x u : Tag) (tags : List Tag) → tag_cmp x u ≡ Less → AllByRecursion (λ (t : Tag). tag_cmp u t ≡ Less) tags → AllByRecursion (λ (t : Tag). tag_cmp x t ≡ Less) tags
all_above x u [] h all = tt
all_above x u (t ∷ tags) h all = (tag_total.trans x u t h all.0, all_above x u tags h all.1)

-- tags in order stay so
pub put_sorted : (tags : List Tag) (x : Tag) → IsStrictlySortedBy tag_cmp tags → IsStrictlySortedBy tag_cmp (put tags x)
unfolding IsStrictlySortedBy
put_sorted [] x s = (tt, tt)
put_sorted (u ∷ us) x s = by (tag_cmp x u) refl (put_sorted us x s.1)
  where
    by : (r : Ordering) → tag_cmp x u ≡ r → IsStrictlySortedBy tag_cmp (put us x) → IsStrictlySortedBy tag_cmp (at_first r x u us)
    by Less h later = ((h, all_above x u us h s.0), s)
    by Equal h later = s
    by Greater h later = (all_put (λ (t : Tag). tag_cmp u t ≡ Less) us x s.0 (turned x u h), later)
