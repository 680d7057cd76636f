-- The numbers and the names of refusals (this project's profile).
use Rattle.std.specs.Prelude.{ℕ, List, codes, Option, Some, None}
use Rattle.system_keys.specs.Refusals.{refusal_number as key_refusal_number}
use Rattle.system_keys.specs.Refusals.{refusal_name as key_refusal_name}
use Rattle.mutation.specs.declared.refusal.Refusal.{Refusal}
use Rattle.mutation.specs.declared.refusal.Refusal.TheVariants.{Key, BadStamp, BatchTooLarge}
use Rattle.mutation.specs.declared.refusal.Refusal.TheVariants.{OutOfMemory}

-- the number that is printed; `OutOfMemory` has none
abbrev pub refusal_number : Refusal → Option ℕ
refusal_number (Key refusal) = Some (key_refusal_number refusal)
refusal_number BadStamp = Some 15
refusal_number BatchTooLarge = Some 16
refusal_number OutOfMemory = None

-- the name that is printed after the number
abbrev pub refusal_name : Refusal → List ℕ
refusal_name (Key refusal) = key_refusal_name refusal
refusal_name BadStamp = codes "BadStamp"
refusal_name BatchTooLarge = codes "BatchTooLarge"
refusal_name OutOfMemory = codes "OutOfMemory"

-- the fault that a refusal stands for; out of memory stands for none
abbrev pub refusal_fault : Refusal → Option Refusal
refusal_fault OutOfMemory = None
refusal_fault refusal = Some refusal
