-- The pieces of a map of owners: the greatest ranges of keys with one list of owners left.
use Rattle.std.specs.Prelude.{◌≡◌, ℕ, suc, List, [], ◌∷◌, length, IsTrue, codes}
use Rattle.system_keys.specs.Keys.{Key, Range, holds, is_key_below}
use Rattle.system_keys.specs.Limits.{key_space_end}
use Rattle.model.specs.declared.moves.Move.{Move}
use Rattle.model.specs.OwnerMaps.{OwnerMapView, owners_left}

-- the value is the same at each key of the range
abbrev pub IsConstantIn : {X : Type 0} → (value : Key → X) → Range → Type 0
IsConstantIn value range = (key : Key) → IsTrue (holds range key) → value key ≡ value range.begin

-- The cuts, in rising order, divide the keys from `begin` on into ranges: the value is the same at
-- each key of one range, and it changes from each range to the next.
abbrev pub AreCuts : {X : Type 0} → (value : Key → X) → (begin : Key) → (cuts : List Key) → Type 0
AreCuts value begin [] = IsConstantIn value (record { begin = begin; end = key_space_end })
AreCuts value begin (cut ∷ cuts) =
    IsTrue (is_key_below begin cut) × IsTrue (is_key_below cut key_space_end)
    × IsConstantIn value (record { begin = begin; end = cut })
    × (value begin ≡ value cut → ⊥)
    × AreCuts value cut cuts

-- the number of greatest ranges of all keys with one list of owners left
pub record CountsPieces (map : OwnerMapView) (count : ℕ) : Type 0 where
  pub cuts : List Key
  pub divide : AreCuts (owners_left map) [] cuts
  pub counted : count ≡ suc (length cuts)

-- ---- the statements of the law

-- a map has one count of pieces
abbrev pub PiecesHaveOneCount : Type 0
PiecesHaveOneCount =
    (map : OwnerMapView) (m n : ℕ) → CountsPieces map m → CountsPieces map n → m ≡ n

-- a map of two resolvers with these moves, which has forgotten nothing
abbrev pub map_with : List Move → OwnerMapView
map_with moves = record { resolvers = 2; last_date = 10; oldest = 0; moves = moves }

-- the keys from `b` up to `d` go to resolver 1 from version 10 on
abbrev pub b_to_d : Move
b_to_d = record { range = record { begin = codes "b"; end = codes "d" }; date = 10; dest = 1 }

-- before any move there is one piece; one move inside the key space makes three, which is no other
-- number
pub record AMoveMakesThreePieces : Type 0 where
  pub none : CountsPieces (map_with []) 1
  pub three : CountsPieces (map_with (b_to_d ∷ [])) 3
  pub no_other : (n : ℕ) → CountsPieces (map_with (b_to_d ∷ [])) n → n ≡ 3
