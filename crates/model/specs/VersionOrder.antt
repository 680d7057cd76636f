-- Lists in the order of the versions of their elements, whatever these are.
use Rattle.std.specs.Prelude.{◌<◌, ◌≤◌, List, [], ◌∷◌}
use Rattle.model.specs.Numbers.{Version}

-- the versions of the elements are strictly increasing, and all above `low`
abbrev pub Increase : {X : Type 0} → (version_of : X → Version) → (low : Version) → List X → Type 0
Increase version_of low [] = Unit {0}
Increase version_of low (x ∷ xs) = (low < version_of x) × Increase version_of (version_of x) xs

-- the versions of the elements never decrease, from `low` on
abbrev pub NeverDecrease :
    {X : Type 0} → (version_of : X → Version) → (low : Version) → List X → Type 0
NeverDecrease version_of low [] = Unit {0}
NeverDecrease version_of low (x ∷ xs) =
    (low ≤ version_of x) × NeverDecrease version_of (version_of x) xs

-- the version of the last element, or `version` if there is no element
abbrev pub last_version_or :
    {X : Type 0} → (version_of : X → Version) → (version : Version) → List X → Version
last_version_or version_of version [] = version
last_version_or version_of version (x ∷ xs) = last_version_or version_of (version_of x) xs
