-- Stretches of facts about the cells of a ledger.
use Rattle.std.proofs.Common.{◌≡◌, refl, sym, subst, ap, ◌∙◌, ℕ, zero, suc, ◌+◌, ◌-◌, ◌<◌, ◌≤◌, List, [], ◌∷◌, ◌++◌, length, map, take, drop, Bool, true, false, cond, nat_le, min, max, arith}
use Rattle.std.proofs.lemmas.List.{length-map, map-append, take-map}
use Rattle.std.specs.Prelude.{IfSome, MatchOption}
use Rattle.std.specs.declared.option.Option.{Option}
use Rattle.std.specs.List.{slice_get, between}
use Rattle.std.specs.declared.option.Option.TheVariants.{None, Some}
use mathlib.Core.Logic.{inl, inr}
use Rattle.facts.specs.declared.fact.Fact.{Fact}
use Rattle.facts.specs.Stretches.{Stretch, StretchesAgree, HasAt, Lacks, end_of, part_first, part_end, part_of, rest_from, extended, cells, cells_of, values, values_of}
use Rattle.std.proofs.lemmas.Option.{slice_get_within}
use Rattle.facts.specs.Unsets.{IfTaken}
use Rattle.facts.specs.declared.setting.NotSet.{NotSet}
use Rattle.facts.specs.declared.setting.NotSet.TheVariants.{Taken}
use Rattle.once_cell.specs.Once.{Agrees}
use Rattle.agreed_ledger.specs.Cells.{AreAbout, IsWithin, NoteAgreesWith, NoteView}
use Rattle.agreed_ledger.proofs.CellLaws.{mapped_at}

-- ---- lists

drop-map : {X Y : Type 0} (f : X → Y) (n : ℕ) (xs : List X) → drop n (map f xs) ≡ map f (drop n xs)
drop-map f zero xs = refl
drop-map f (suc n) [] = refl
drop-map f (suc n) (x ∷ xs) = drop-map f n xs

between-map : {X Y : Type 0} (f : X → Y) (i j : ℕ) (xs : List X) → between i j (map f xs) ≡ map f (between i j xs)
between-map f i j xs = ap (λ ys. take (j - i) ys) (drop-map f i xs) ∙ take-map f (j - i) (drop i xs)

last_there : {X : Type 0} (x : X) (xs : List X) → (y : X) × (slice_get (x ∷ xs) (length xs) ≡ Some y)
last_there x [] = (x, refl)
last_there x (y ∷ ys) = last_there y ys

-- ---- what is known of each row

abbrev mapped : {X Y : Type 0} (f : X → Y) → Stretch X → Stretch Y
mapped f s = record { first = s.first; known = map f s.known }

end_mapped : {X Y : Type 0} (f : X → Y) (s : Stretch X) → end_of (mapped f s) ≡ end_of s
end_mapped f s = ap (λ (n : ℕ). s.first + n) (length-map s.known f)

abbrev part_to : {X : Type 0} (last start end : ℕ) → Stretch X → Stretch X
part_to last start end s =
    let first = min (max start s.first) last in
    record {
      first = first;
      known = between (first - s.first) (max first (min end last) - s.first) s.known;
    }

part_mapped : {X Y : Type 0} (f : X → Y) (start end : ℕ) (s : Stretch X) → mapped f (part_of start end s) ≡ part_of start end (mapped f s)
part_mapped {X} {Y} f start end s =
    let first = part_first start s in
    ap (λ (ys : List Y). record { first = first; known = ys }) (sym (between-map f (first - s.first) (part_end start end s - s.first) s.known))
    ∙ ap (λ (last : ℕ). part_to last start end (mapped f s)) (sym (end_mapped f s))

rest_mapped : {X Y : Type 0} (f : X → Y) (start : ℕ) (s : Stretch X) → map f (rest_from start s) ≡ rest_from start (mapped f s)
rest_mapped f start s = go (nat_le s.first start)
  where
    go : (b : Bool) → map f (cond b (drop (start - s.first) s.known) []) ≡ cond b (drop (start - s.first) (map f s.known)) []
    go true = sym (drop-map f (start - s.first) s.known)
    go false = refl

extended_mapped : {X Y : Type 0} (f : X → Y) (s other : Stretch X) → mapped f (extended s other) ≡ extended (mapped f s) (mapped f other)
extended_mapped {X} {Y} f s other =
    let at : List Y → Stretch Y = λ ys. record { first = s.first; known = ys } in
    ap at (map-append f s.known (rest_from (end_of s) other) ∙ ap (λ (ys : List Y). map f s.known ++ ys) (rest_mapped f (end_of s) other))
    ∙ ap (λ (last : ℕ). at (map f s.known ++ rest_from last (mapped f other))) (sym (end_mapped f s))

-- ---- facts about the cells of a ledger

module _ {T : Type 0} (names : List ℕ) where
  about_row : (s : Stretch (Fact T)) (row : ℕ) (fact : Fact T) → AreAbout names s → s.first ≤ row → slice_get s.known (row - s.first) ≡ Some fact
      → slice_get names row ≡ Some fact.cell
  about_row s row fact about from at =
      let there : s.first + (row - s.first) ≡ row = omega arith in
      ap (slice_get names) (sym there) ∙ about (row - s.first) fact at

  -- a stretch that has a row ends where its cells end, or before
  ends_within : (s : Stretch (Fact T)) → AreAbout names s → IsWithin (length names) s
  ends_within s about some = go s.known about some
    where
      go : (known : List (Fact T)) → AreAbout names (record { first = s.first; known = known }) → 0 < length known → s.first + length known ≤ length names
      go [] about_it there = absurd (omega (arith, there))
      go (fact ∷ rest) about_it there =
          let last = last_there fact rest in
          let below : s.first + length rest < length names = slice_get_within names (s.first + length rest) last.0.cell (about_it (length rest) last.0 last.1) in
          omega (arith, below)

  pub about_agree : (s other : Stretch (Fact T)) → AreAbout names s → AreAbout names other → StretchesAgree (cells_of s) (cells_of other)
  about_agree s other about other_about i j x y same at_x at_y =
      let one = fact_at s.known i x at_x in
      let two = fact_at other.known j y at_y in
      let here = about i one.0 one.1 in
      let there = other_about j two.0 two.1 in
      let alike : slice_get names (s.first + i) ≡ slice_get names (other.first + j) = ap (slice_get names) same in
      let first : one.0.cell ≡ x = one.2 in
      let second : two.0.cell ≡ y = two.2 in
      cc
    where
      fact_at : (facts : List (Fact T)) (i : ℕ) (x : ℕ) → slice_get (cells facts) i ≡ Some x → (fact : Fact T) × (slice_get facts i ≡ Some fact) × (fact.cell ≡ x)
      fact_at [] i x at = absurd (cc)
      fact_at (fact ∷ rest) zero x at = (fact, refl, cc)
      fact_at (fact ∷ rest) (suc i) x at = fact_at rest i x at

-- ---- the values known

value_at : {T : Type 0} (s : Stretch (Fact T)) (i : ℕ) (fact : Fact T) → slice_get s.known i ≡ Some fact → slice_get (values s.known) i ≡ Some fact.value
value_at {T} s i fact at = mapped_at (λ (f : Fact T). f.value) s.known i fact at

pub values_part : {T : Type 0} (start end : ℕ) (s : Stretch (Fact T)) → values_of (part_of start end s) ≡ part_of start end (values_of s)
values_part {T} start end s = part_mapped (λ (f : Fact T). f.value) start end s

pub values_extended : {T : Type 0} (s other : Stretch (Fact T)) → values_of (extended s other) ≡ extended (values_of s) (values_of other)
values_extended {T} s other = extended_mapped (λ (f : Fact T). f.value) s other

pub values_end : {T : Type 0} (s : Stretch (Fact T)) → end_of (values_of s) ≡ end_of s
values_end {T} s = end_mapped (λ (f : Fact T). f.value) s

pub values_within : {T : Type 0} (names : List ℕ) (s : Stretch (Fact T)) → AreAbout names s → IsWithin (length names) (values_of s)
values_within {T} names s about some =
    let ends : end_of s ≤ length names = ends_within names s about (omega (arith, length-map s.known (λ (f : Fact T). f.value), some)) in
    omega (arith, values_end s, ends)

values_lack : {T : Type 0} (s : Stretch (Fact T)) (row : ℕ) → Lacks s row → Lacks (values_of s) row
values_lack s row (inl before) = inl before
values_lack s row (inr after) = inr (omega (arith, values_end s, after))

-- what a row has of a stretch of facts, and of the values
pub values_get : {T : Type 0} (s : Stretch (Fact T)) (row : ℕ) (found : Option (Fact T)) → MatchOption found (Lacks s row) (HasAt s row)
    → MatchOption found (Lacks (values_of s) row) (λ (fact : Fact T). HasAt (values_of s) row fact.value)
values_get s row None lacks = values_lack s row lacks
values_get s row (Some fact) has = (has.0, value_at s (row - s.first) fact has.1)

pub cell_get : {T : Type 0} (names : List ℕ) (s : Stretch (Fact T)) (row : ℕ) (found : Option (Fact T)) → AreAbout names s → MatchOption found (Lacks s row) (HasAt s row)
    → IfSome found (λ (fact : Fact T). slice_get names row ≡ Some fact.cell)
cell_get names s row None about lacks = tt
cell_get names s row (Some fact) about has = about_row names s row fact about has.0 has.1

-- ---- notes

-- a note that agrees with what a stretch has at its row agrees with the stretch
pub agrees_with : {X : Type 0} (note : NoteView X) (s : Stretch X) (found : X) → HasAt s note.row found → Agrees note.known found → NoteAgreesWith note s
agrees_with {X} note s found has agrees x has_x =
    let one : slice_get s.known (note.row - s.first) ≡ Some found = has.1 in
    let two : slice_get s.known (note.row - s.first) ≡ Some x = has_x.1 in
    let same : found ≡ x = cc in
    subst (λ (y : X). Agrees note.known y) same agrees

pub lacking_agrees : {X : Type 0} (note : NoteView X) (s : Stretch X) → Lacks s note.row → NoteAgreesWith note s
lacking_agrees note s (inl before) x has = let from = has.0 in absurd (omega (arith, before, from))
lacking_agrees note s (inr after) x has =
    let from = has.0 in
    let below = slice_get_within s.known (note.row - s.first) x has.1 in
    absurd (omega (arith, after, from, below))

-- ---- refusals

pub taken_cell : {T : Type 0} (why : NotSet (Fact T)) (fact : Fact T) (cell : ℕ) → why ≡ Taken fact → IfTaken why (λ f. f.cell ≡ cell) → fact.cell ≡ cell
taken_cell {T} why fact cell is taken = subst (λ (w : NotSet (Fact T)). IfTaken w (λ (f : Fact T). f.cell ≡ cell)) is taken
