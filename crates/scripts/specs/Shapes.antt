-- The shapes of JSON values: what a value stands for, where it has the shape (this project's
-- profile).
use Rattle.std.specs.Prelude.{ℕ, zero, suc, List, [], ◌∷◌, Bool, false, ◌==◌, nat_eq, nat_le}
use Rattle.std.specs.Prelude.{if◌then◌else◌, codes, Option, Some, None, option_map, ok_or, Result}
use Rattle.std.specs.Cmp.Lexicographic.{pointwise}
use Rattle.serde_json.specs.Data.{Data, Items, no_items, item, Members, no_members, member}
use Rattle.serde_json.specs.Find.{get, as_number, as_str, as_array, as_object, as_u64}
use Rattle.system_keys.specs.Text.{bytes_of}
use Rattle.model.specs.declared.verdict.Verdict.{Verdict}
use Rattle.model.specs.declared.verdict.Verdict.TheVariants.{Conflict, TooOld, Committed}
use Rattle.scripts.specs.declared.script_fault.ScriptFault.{ScriptFault}
use Rattle.scripts.specs.declared.script_fault.ScriptFault.TheVariants as faults

infixl 10 ◌>>=◌
abbrev pub ◌>>=◌ : {A B : Type 0} → Option A → (A → Option B) → Option B
None >>= f = None
(Some x) >>= f = f x

-- ---- numbers, texts

-- the greatest number of a script
abbrev pub number_limit : ℕ
number_limit = 9223372036854775807

abbrev pub number_within : ℕ → ℕ → Option ℕ
number_within limit n = if nat_le n limit then Some n else None

-- a whole number from 0 to the greatest, without a fraction or an exponent
abbrev pub number_shape : Data → Option ℕ
number_shape d = do
  number ← as_number d
  n ← as_u64 number
  number_within number_limit n

-- a text that spells bytes
abbrev pub bytes_shape : Data → Option (List ℕ)
bytes_shape d = do
  text ← as_str d
  bytes_of text

abbrev pub verdict_named : List ℕ → Option Verdict
verdict_named name =
    if pointwise nat_eq name (codes "conflict") then Some Conflict
    else if pointwise nat_eq name (codes "too_old") then Some TooOld
    else if pointwise nat_eq name (codes "committed") then Some Committed
    else None

-- the name of a verdict
abbrev pub verdict_shape : Data → Option Verdict
verdict_shape d = do
  name ← as_str d
  verdict_named name

-- ---- lists

-- each item has the shape
abbrev pub each_shape : {X : Type 0} → (Data → Option X) → Items → Option (List X)
each_shape shape no_items = Some []
each_shape shape (item d ds) = do
  x ← shape d
  option_map (λ xs. x ∷ xs) (each_shape shape ds)

-- a list whose items have the shape
abbrev pub list_shape : {X : Type 0} → (Data → Option X) → Data → Option (List X)
list_shape shape d = do
  items ← as_array d
  each_shape shape items

abbrev pub pair_of : Items → Option (List ℕ × List ℕ)
pair_of (item d (item e no_items)) = do
  x ← bytes_shape d
  y ← bytes_shape e
  Some (x, y)
pair_of _ = None

-- a list of two texts that spell bytes
abbrev pub pair_shape : Data → Option (List ℕ × List ℕ)
pair_shape d = do
  items ← as_array d
  pair_of items

-- ---- objects

abbrev pub count_members : Members → ℕ
count_members no_members = zero
count_members (member name d ms) = suc (count_members ms)

abbrev pub is_count : ℕ → Option ℕ → Bool
is_count n None = false
is_count n (Some m) = m == n

-- an object with this many fields
abbrev pub has_fields : ℕ → Data → Bool
has_fields n d = is_count n (option_map count_members (as_object d))

-- the field of this name is there, and has the shape
abbrev pub field_shape : {X : Type 0} → (Data → Option X) → List ℕ → Data → Option X
field_shape shape name d = do
  value ← get name d
  shape value

-- ---- reading a shape

-- what a value stands for, or BadShape
abbrev pub or_bad_shape : {X : Type 0} → Option X → Result X ScriptFault
or_bad_shape said = ok_or said faults.BadShape
