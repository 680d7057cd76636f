-- What is read of the tokens of a text as they come, by the shapes that values have (this project's
-- profile). A reader's tokens are `old` before a call and `new` after it.
use Rattle.std.specs.Prelude.{◌≡◌, ℕ, List, length, Option, Some, None, IsSome, option_map}
use Rattle.std.specs.Prelude.{option_and_then}
use Rattle.json.specs.Token.{Token}
use Rattle.json.specs.Json as json
use Rattle.json.specs.Json.{value, items, members}
use Rattle.serde_json.specs.Data.{Data, Members, no_members}
use Rattle.serde_json.specs.Find.{get_member}
use Rattle.serde_json.specs.Read.{of_json, of_items, of_members, converted}
use Rattle.scripts.specs.Shapes.{each_shape}

-- ---- values and lists

-- what the shape makes of a value of the grammar
abbrev pub json_shape : {X : Type 0} → (Data → Option X) → json.Json → Option X
json_shape shape j = option_and_then shape (of_json j)

abbrev pub each_json : {X : Type 0} → (Data → Option X) → json.Items → Option (List X)
each_json shape js = option_and_then (each_shape shape) (of_items js)

-- a value comes first, nested no deeper than the number, and it stands for x
abbrev pub Takes : {X : Type 0}
    → (Data → Option X) → ℕ → List Token → X → List Token → Type 0
Takes shape depth old x new = converted (json_shape shape) (value depth old) ≡ Some (x, new)

-- the value d comes first
abbrev pub TakesData : ℕ → List Token → Data → List Token → Type 0
TakesData depth old d new = converted of_json (value depth old) ≡ Some (d, new)

-- the items of a list come first, and the bracket that closes it; they stand for xs
abbrev pub TakesEach : {X : Type 0}
    → (Data → Option X) → ℕ → List Token → List X → List Token → Type 0
TakesEach shape depth old xs new =
    converted (each_json shape) (items (value depth) (length old) old) ≡ Some (xs, new)

-- ---- objects

-- the fields of an object come first, and the brace that closes it
abbrev pub TakesMembers : ℕ → List Token → Members → List Token → Type 0
TakesMembers depth old ms new =
    converted (λ ms. of_members ms no_members) (members (value depth) (length old) old)
    ≡ Some (ms, new)

-- what is held of the field of this name: nothing exactly if the object has no such field
abbrev pub Slot : {X : Type 0} → (Data → Option X) → List ℕ → Option X → Members → Type 0
Slot shape name held ms = option_map shape (get_member name ms) ≡ option_map Some held

-- 1 for a field that is held
abbrev pub one : {X : Type 0} → Option X → ℕ
one None = 0
one (Some x) = 1

-- an empty slot is filled with what the value stands for
pub record Fills {X : Type 0} (shape : Data → Option X) (d : Data) (old new : Option X)
    : Type 0 where
  pub empty : old ≡ None
  pub filled : IsSome new
  pub value : shape d ≡ new

-- a value comes first, and fills the slot
abbrev pub TakesField : {X : Type 0} → (Data → Option X) → ℕ
    → List Token → Option X → Option X → List Token → Type 0
TakesField shape depth old before after new =
    (d : Data) × TakesData depth old d new × Fills shape d before after

-- nothing was made yet of the items of a list, or something that `is_from` says is of these items
abbrev pub IsFrom : {R X : Type 0} → (R → List X → Type 0) → Option R → Option (List X) → Type 0
IsFrom is_from None items = items ≡ None
IsFrom {X = X} is_from (Some made) items =
    (xs : List X) × (items ≡ Some xs) × is_from made xs
