-- The numbers and the names of refusals and of faults of rows (this project's profile).
use Rattle.std.specs.Prelude.{ℕ, List, codes, Option, Some, None}
use Rattle.system_keys.specs.declared.refusal.Refusal.{Refusal}
use Rattle.system_keys.specs.declared.refusal.Refusal.TheVariants as refusals
use Rattle.system_keys.specs.declared.refusal.RowFault.{RowFault}
use Rattle.system_keys.specs.declared.refusal.RowFault.TheVariants as faults

-- the number that is printed
abbrev pub refusal_number : Refusal → ℕ
refusal_number refusals.KeyTooLong = 10
refusal_number refusals.ValueTooLong = 11
refusal_number refusals.KeyOutside = 12
refusal_number refusals.EmptyRange = 13
refusal_number refusals.BadRow = 14

-- the name that is printed after the number
abbrev pub refusal_name : Refusal → List ℕ
refusal_name refusals.KeyTooLong = codes "KeyTooLong"
refusal_name refusals.ValueTooLong = codes "ValueTooLong"
refusal_name refusals.KeyOutside = codes "KeyOutside"
refusal_name refusals.EmptyRange = codes "EmptyRange"
refusal_name refusals.BadRow = codes "BadRow"

-- the number of a fault of a row or of a text; `OutOfMemory` has none
abbrev pub row_fault_number : RowFault → Option ℕ
row_fault_number faults.Truncated = Some 1
row_fault_number faults.NotRising = Some 2
row_fault_number faults.Trailing = Some 3
row_fault_number faults.BadText = Some 4
row_fault_number faults.OutOfMemory = None

-- the name of a fault
abbrev pub row_fault_name : RowFault → List ℕ
row_fault_name faults.Truncated = codes "Truncated"
row_fault_name faults.NotRising = codes "NotRising"
row_fault_name faults.Trailing = codes "Trailing"
row_fault_name faults.BadText = codes "BadText"
row_fault_name faults.OutOfMemory = codes "OutOfMemory"

-- the fault that an error stands for; out of memory stands for none
abbrev pub row_fault : RowFault → Option RowFault
row_fault faults.OutOfMemory = None
row_fault fault = Some fault
