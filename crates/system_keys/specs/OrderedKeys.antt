-- The front of a key: bytes that, read as one number, are in the order of keys.
use Rattle.std.specs.Prelude.{ℕ, ◌+◌, suc, zero, List, [], ◌∷◌, take, get_or, nat_le, if◌then◌else◌}
use Rattle.system_keys.specs.Keys.{Key}

-- The next `places` bytes of the key, with zeros past its end, and then how many bytes there were, or
-- one more if there are others.
abbrev pub front_from : (places count : ℕ) (key : Key) → List ℕ
front_from zero count [] = count ∷ []
front_from zero count (byte ∷ key) = (count + 1) ∷ []
front_from (suc places) count [] = 0 ∷ front_from places count []
front_from (suc places) count (byte ∷ key) = byte ∷ front_from places (count + 1) key

-- the first 15 bytes of the key, and then how many it has, or 16 if it has more
abbrev pub front_and_length : (key : Key) → List ℕ
front_and_length key = front_from 15 0 key

-- the key of a front: up to 15 bytes stand in it, and those of a longer key beside it
abbrev pub key_of : (front whole : List ℕ) → Key
key_of front whole = if nat_le (get_or front 15 0) 15 then take (get_or front 15 0) front else whole
