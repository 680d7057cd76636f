-- What the map says of its entries, in terms of starts.
use Rattle.std.proofs.Common.{◌≡◌, refl, List, [], ◌∷◌, Less}
use Rattle.std.specs.List.{AllByRecursion, AllZip}
use Rattle.std.specs.List.Sorted.{IsStrictlySortedBy}
use Rattle.std.specs.Map.{keys_of}
use Rattle.system_keys.specs.Keys.{Key}
use Rattle.share_judge.specs.Steps.{StepStart, IsBefore, AreRising}
use Rattle.share_judge.proofs.Starts.{key_cmp, less}

-- a clone of an entry has the same key and the same step
abbrev pub IsSame : StepStart → StepStart → Type 0
IsSame e f = (f.0 ≡ e.0) × (f.1 ≡ e.1)

pub cloned : (es fs : List StepStart) → AllZip IsSame es fs → fs ≡ es
cloned [] [] same = refl
cloned [] (f ∷ fs) same = absurd same
cloned (e ∷ es) [] same = absurd same
cloned (e ∷ es) (f ∷ fs) same = λ i. (same.0.0 i, same.0.1 i) ∷ cloned es fs same.1 i

behind_of : (key : Key) (es : List StepStart) → AllByRecursion (λ (other : Key). key_cmp key other ≡ Less) (keys_of es) → IsBefore key es
behind_of key [] all = tt
behind_of key (e ∷ es) all = (less key e.0 all.0, behind_of key es all.1)

-- the keys of a map rise
pub starts_rise : (es : List StepStart) → IsStrictlySortedBy key_cmp (keys_of es) → AreRising es
unfolding IsStrictlySortedBy
starts_rise [] s = tt
starts_rise (e ∷ es) s = (behind_of e.0 es s.0, starts_rise es s.1)
