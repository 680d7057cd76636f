-- What a call returns whose result is specified, and which may run out of memory.
use Rattle.std.specs.Prelude.{◌≡◌, Option, Some, None, Result, Ok, Err, IsOk}

-- a value, unless it has a fault
abbrev pub unless_fault : {Y F : Type 0} → Option F → Y → Result Y F
unless_fault None x = Ok x
unless_fault (Some fault) x = Err fault

-- ---- of a call that finds every fault before it allocates

-- the error is the specified fault; or it is out of memory, which is no fault, and then a value is
-- specified
abbrev pub IsFaultOf : {Y F : Type 0} → Option F → Result Y F → Type 0
IsFaultOf None specified = IsOk specified
IsFaultOf (Some fault) specified = specified ≡ Err fault

-- the result is the specified value, as `view` sees it, or the specified fault; or it is out of
-- memory, and then a value is specified. `fault_of` says which fault an error is.
abbrev pub IsAsSpecified : {X Y E F : Type 0}
    → (E → Option F) → (X → Y) → Result X E → Result Y F → Type 0
IsAsSpecified fault_of view (Ok x) specified = specified ≡ Ok (view x)
IsAsSpecified fault_of view (Err error) specified = IsFaultOf (fault_of error) specified

-- ---- of a call that allocates before it has looked at its whole input

-- the same, but out of memory says nothing of what is specified
abbrev pub IsFaultIfAllocated : {Y F : Type 0} → Option F → Result Y F → Type 0
IsFaultIfAllocated None specified = Unit {0}
IsFaultIfAllocated (Some fault) specified = specified ≡ Err fault

abbrev pub IsAsSpecifiedIfAllocated : {X Y E F : Type 0}
    → (E → Option F) → (X → Y) → Result X E → Result Y F → Type 0
IsAsSpecifiedIfAllocated fault_of view (Ok x) specified = specified ≡ Ok (view x)
IsAsSpecifiedIfAllocated fault_of view (Err error) specified =
    IsFaultIfAllocated (fault_of error) specified
