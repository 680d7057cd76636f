-- The ranges of a transaction, and the part of it that one resolver gets.
use Rattle.std.specs.Prelude.{ℕ, ◌<◌, List, [], All, map, length, slice_index_or}
use Rattle.system_keys.specs.Keys.{Range}
use Rattle.model.specs.Numbers.{Version, TransactionNumber}

-- the ranges that a transaction reads, and those that it writes
pub record RangesView : Type 0 where
  pub reads : List Range
  pub writes : List Range

-- One transaction of a resolver's share: its number in the batch, its snapshot, and those of its
-- ranges that the resolver gets. A range is never cut.
pub record PartView : Type 0 where
  pub number : TransactionNumber
  pub snapshot : Version
  pub reads : List Range
  pub writes : List Range

-- ---- places

-- each of the places is in the list
abbrev pub ArePlacesIn : List Range → (places : List ℕ) → Type 0
ArePlacesIn ranges places = All (λ (place : ℕ). place < length ranges) places

-- the ranges at the places, of which each is in the list
abbrev pub at_places : List Range → (places : List ℕ) → List Range
at_places ranges places =
    map (λ (place : ℕ). slice_index_or ranges place (record { begin = []; end = [] })) places
