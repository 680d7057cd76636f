-- What is known of consecutive rows, from a first row on. *Profile*: all of it.
use Rattle.std.specs.Prelude.{◌≡◌, ◌<◌, ◌≤◌, ◌⊎◌, ℕ, ◌+◌, ◌-◌, ◌^◌, List, [], ◌∷◌, ◌++◌, length}
use Rattle.std.specs.Prelude.{map, drop, nat_le, cond, slice_get, Some, min, max}
use Rattle.std.specs.List.{between}
use Rattle.facts.specs.declared.fact.Fact.{Fact}

-- Something of each of some consecutive rows: of the row `first`, of the next one, and so on.
pub record Stretch (X : Type 0) : Type 0 where
  pub first : ℕ
  pub known : List X

-- the row after the last one
abbrev pub end_of : {X : Type 0} → Stretch X → ℕ
end_of s = s.first + length s.known

-- no stretch goes beyond this row
abbrev pub rows_limit : ℕ
rows_limit = 2 ^ 62

-- the stretch lacks the row
abbrev pub Lacks : {X : Type 0} → Stretch X → (row : ℕ) → Type 0
Lacks s row = (row < s.first) ⊎ (end_of s ≤ row)

-- the stretch has this at the row
abbrev pub HasAt : {X : Type 0} → Stretch X → (row : ℕ) → X → Type 0
HasAt s row x = (s.first ≤ row) × (slice_get s.known (row - s.first) ≡ Some x)

-- the stretch, and this for the row after its last one
abbrev pub appended : {X : Type 0} → Stretch X → X → Stretch X
appended s x = record { first = s.first; known = s.known ++ x ∷ [] }

-- the row where the part of a stretch from row `start` on begins: no row that the stretch lacks
abbrev pub part_first : {X : Type 0} → (start : ℕ) → Stretch X → ℕ
part_first start s = min (max start s.first) (end_of s)

-- the row where the part of a stretch up to row `end` ends
abbrev pub part_end : {X : Type 0} → (start end : ℕ) → Stretch X → ℕ
part_end start end s = max (part_first start s) (min end (end_of s))

-- the part of a stretch from row `start` up to, not including, row `end`, as far as it has these
abbrev pub part_of : {X : Type 0} → (start end : ℕ) → Stretch X → Stretch X
part_of start end s =
    record {
      first = part_first start s;
      known = between (part_first start s - s.first) (part_end start end s - s.first) s.known;
    }

-- what a stretch has from row `start` on; nothing if it lacks that row
abbrev pub rest_from : {X : Type 0} → (start : ℕ) → Stretch X → List X
rest_from start s = cond (nat_le s.first start) (drop (start - s.first) s.known) []

-- the first stretch, and then what the second has from the end of the first on
abbrev pub extended : {X : Type 0} → (s other : Stretch X) → Stretch X
extended s other =
    record { first = s.first; known = s.known ++ rest_from (end_of s) other }

-- The list xs begins at row a and ys at row b, and wherever both have a row, they are equal.
abbrev pub Agree : {X : Type 0} → (a : ℕ) (xs : List X) (b : ℕ) (ys : List X) → Type 0
Agree a xs b ys =
    (i j : ℕ) (x y : _) → a + i ≡ b + j → slice_get xs i ≡ Some x → slice_get ys j ≡ Some y → x ≡ y

-- wherever both stretches have a row, they are equal
abbrev pub StretchesAgree : {X : Type 0} → (s other : Stretch X) → Type 0
StretchesAgree s other = Agree s.first s.known other.first other.known

-- the stretch gains one fact: that the cell of this name holds this value
abbrev pub GainsFact :
    {T : Type 0} → (before after : Stretch (Fact T)) (cell : ℕ) (value : T) → Type 0
GainsFact before after cell value =
    (fact : Fact _) × (fact.cell ≡ cell) × (fact.value ≡ value)
    × (after ≡ appended before fact)

-- the names of the cells, and the values that they hold
abbrev pub cells : {T : Type 0} → List (Fact T) → List ℕ
cells facts = map (λ f. f.cell) facts

abbrev pub values : {T : Type 0} → List (Fact T) → List T
values facts = map (λ f. f.value) facts

-- the names of the cells, from the same first row
abbrev pub cells_of : {T : Type 0} → Stretch (Fact T) → Stretch ℕ
cells_of s = record { first = s.first; known = cells s.known }

-- the values that the cells hold, from the same first row
abbrev pub values_of : {T : Type 0} → Stretch (Fact T) → Stretch T
values_of s = record { first = s.first; known = values s.known }
