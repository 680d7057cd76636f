-- The checks of the keys, values and ranges of a script: the first fault in the order of the
-- script's lists (this project's profile).
use Rattle.std.specs.Prelude.{List, [], ◌∷◌, option_map, Result, Ok, Err}
use Rattle.system_keys.specs.declared.refusal.Refusal.{Refusal}
use Rattle.system_keys.specs.AsSpecified.{unless_fault}
use Rattle.system_keys.specs.declared.change.Change.{Change}
use Rattle.system_keys.specs.declared.change.Change.TheVariants as changes
use Rattle.system_keys.specs.Keys.{Range}
use Rattle.system_keys.specs.Limits.{set_fault, range_fault}
use Rattle.mutation.specs.Transactions.{range_from}
use Rattle.mutation.specs.declared.refusal.Refusal.TheVariants.{Key}
use Rattle.mutation.specs.declared.transaction.GivenRange.{GivenRange}
use Rattle.scripts.specs.declared.raw_change.RawChange.{RawChange}
use Rattle.scripts.specs.declared.raw_change.RawChange.TheVariants as raw
use Rattle.scripts.specs.declared.script_fault.ScriptFault.{ScriptFault}
use Rattle.scripts.specs.declared.script_fault.ScriptFault.TheVariants as faults

infixl 10 ◌>>=◌
abbrev pub ◌>>=◌ : {A B : Type 0}
    → Result A ScriptFault → (A → Result B ScriptFault) → Result B ScriptFault
(Ok x) >>= f = f x
(Err fault) >>= f = Err fault

-- the fault of a script that has this fault of a key, a value or a range
abbrev pub of_key : Refusal → ScriptFault
of_key refusal = faults.Refused (Key refusal)

-- the range, or its fault
abbrev pub checked_range : GivenRange → Result Range ScriptFault
checked_range range =
    unless_fault (option_map of_key (range_fault range.begin range.end)) (range_from range)

-- the change, or its fault
abbrev pub checked_change : RawChange → Result Change ScriptFault
checked_change (raw.Set key value) =
    unless_fault (option_map of_key (set_fault key value)) (changes.Set key value)
checked_change (raw.Clear begin end) =
    unless_fault (option_map of_key (range_fault begin end))
    (changes.Clear (record { begin = begin; end = end }))

abbrev pub with_first : {X : Type 0} → X → Result (List X) ScriptFault → Result (List X) ScriptFault
with_first x (Ok xs) = Ok (x ∷ xs)
with_first x (Err fault) = Err fault

-- all of a list, or the first fault
abbrev pub each_checked : {X Y : Type 0}
    → (X → Result Y ScriptFault) → List X → Result (List Y) ScriptFault
each_checked check [] = Ok []
each_checked check (x ∷ xs) = do
  y ← check x
  with_first y (each_checked check xs)
