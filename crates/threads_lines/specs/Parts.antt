-- Texts of several parts, one after the other.
use Rattle.std.specs.Prelude.{◌≡◌, ℕ, zero, suc, List, [], ◌++◌}

-- The text is this number of parts, in order. Each is as `IsPart` says of its number, counted from 0.
abbrev pub IsInParts :
    (IsPart : (number : ℕ) → (part : List ℕ) → Type 0) → (count : ℕ) → (text : List ℕ) → Type 0
IsInParts IsPart zero text = text ≡ []
IsInParts IsPart (suc count) text =
    (before : List ℕ) × (part : List ℕ) × IsInParts IsPart count before × IsPart count part
    × (text ≡ before ++ part)

-- The text is this number of parts, in order, with each of which more is known: `first` before all of them,
-- `last` after them. Each is as `IsTurn` says of its number, counted from 0, of what is known before
-- it, and of what is known after it.
abbrev pub IsInTurns :
    {K : Type 0}
    → (IsTurn : (number : ℕ) → (before after : K) → (part : List ℕ) → Type 0)
    → (first : K) → (count : ℕ) → (last : K) → (text : List ℕ) → Type 0
IsInTurns IsTurn first zero last text = (last ≡ first) × (text ≡ [])
IsInTurns IsTurn first (suc count) last text =
    (between : _) × (earlier : List ℕ) × (part : List ℕ)
    × IsInTurns IsTurn first count between earlier × IsTurn count between last part
    × (text ≡ earlier ++ part)

-- the text grew at its end, by such a part
abbrev pub GrowsBy : (IsPart : (part : List ℕ) → Type 0) → (old new : List ℕ) → Type 0
GrowsBy IsPart old new = (part : List ℕ) × IsPart part × (new ≡ old ++ part)
