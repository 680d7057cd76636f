-- Flags, one for each resolver.
use Rattle.std.specs.Prelude.{◌≡◌, ℕ, zero, suc, ◌<◌, ◌≤◌, List, [], ◌∷◌, length, Bool, false, ◌||◌, ◌&&◌}
use Rattle.std.specs.Prelude.{nat_eq, nat_lt, slice_index_or}
use Rattle.std.specs.Int.{bit_at}

-- the flag of resolver r
abbrev pub is_flagged : (flags : List Bool) (r : ℕ) → Bool
is_flagged flags r = slice_index_or flags r false

-- n flags, which are the bits of a number from bit i on
unfoldable pub flags_from : (n i bits : ℕ) → List Bool
flags_from zero i bits = []
flags_from (suc n) i bits = nat_eq (bit_at bits i) 1 ∷ flags_from n (suc i) bits

-- the flags of 64 resolvers, which are the bits of a number
unfoldable pub flags_of : (bits : ℕ) → List Bool
flags_of bits = flags_from 64 0 bits

-- each resolver that passes the test has been flagged, and every other flag is as before
pub record Flags (before : List Bool) (test : ℕ → Bool) (after : List Bool) : Type 0 where
  pub as_many : length after ≡ length before
  pub each : (r : ℕ) → r < length before → is_flagged after r ≡ (is_flagged before r || test r)

-- there are 64 flags, and all are this one
pub record AreAll (flag : Bool) (flags : List Bool) : Type 0 where
  pub as_many : length flags ≡ 64
  pub each : (r : ℕ) → r < 64 → is_flagged flags r ≡ flag

-- the resolvers below n are flagged as before, and no others
abbrev pub KeepsFirst : (n : ℕ) (before after : List Bool) → Type 0
KeepsFirst n before after = (r : ℕ) → is_flagged after r ≡ (nat_lt r n && is_flagged before r)

-- no resolver from n on is flagged
abbrev pub NonePast : (n : ℕ) (flags : List Bool) → Type 0
NonePast n flags = (r : ℕ) → n ≤ r → is_flagged flags r ≡ false
