-- Keys and half-open ranges of keys (release 7.1).
use Rattle.std.specs.Prelude.{ℕ, ◌++◌, List, [], ◌∷◌, Bool, ◌&&◌, ◌||◌, not, IsTrue}
use Rattle.std.specs.Ordering.{nat_cmp, is_lt, is_le}
use Rattle.std.specs.Cmp.Lexicographic.{slice_cmp}

-- a key is a string of bytes
abbrev pub Key : Type 0
Key = List ℕ

-- one key is below the other in lexicographic order
abbrev pub is_key_below : Key → Key → Bool
is_key_below a b = is_lt (slice_cmp nat_cmp a b)

-- one key is at or below the other in lexicographic order
abbrev pub is_key_up_to : Key → Key → Bool
is_key_up_to a b = is_le (slice_cmp nat_cmp a b)

-- the keys from `begin` up to `end`, without `end`
pub record Range : Type 0 where
  pub begin : Key
  pub end : Key

-- the key is in the range
abbrev pub holds : Range → Key → Bool
holds range key = not (is_key_below key range.begin) && is_key_below key range.end

-- the key is in both ranges
abbrev pub is_shared : Range → Range → Key → Bool
is_shared p q key = holds p key && holds q key

-- some key is in both ranges
pub record Overlap (p q : Range) : Type 0 where
  pub key : Key
  pub shared : IsTrue (is_shared p q key)

-- the test of `Overlap`: one of the two begins is in both ranges
abbrev pub overlaps : Range → Range → Bool
overlaps p q = is_shared p q p.begin || is_shared p q q.begin

-- the range of one key: up to the next key, which has a zero byte more
abbrev pub only : Key → Range
only key = record { begin = key; end = key ++ 0 ∷ [] }
