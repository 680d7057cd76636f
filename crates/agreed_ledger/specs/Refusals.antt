-- The numbers and names of refusals (this project's profile).
use Rattle.std.specs.Prelude.{ℕ, List, codes, Option, Some, None}
use Rattle.facts.specs.declared.setting.NotSet.{NotSet}
use Rattle.facts.specs.declared.setting.NotSet.TheVariants as unset
use Rattle.agreed_ledger.specs.declared.refusal.Refusal.{Refusal}
use Rattle.agreed_ledger.specs.declared.refusal.Refusal.TheVariants.{BadConfig, NoSuchResolver}
use Rattle.agreed_ledger.specs.declared.refusal.Refusal.TheVariants.{NoSuchProxy, LedgerFull}
use Rattle.agreed_ledger.specs.declared.refusal.Refusal.TheVariants.{VersionsEnd, CellTaken}
use Rattle.agreed_ledger.specs.declared.refusal.Refusal.TheVariants.{OutOfMemory}

-- the number that is printed; `OutOfMemory` has none, and is never printed
abbrev pub refusal_number : Refusal → Option ℕ
refusal_number BadConfig = Some 17
refusal_number NoSuchResolver = Some 20
refusal_number NoSuchProxy = Some 32
refusal_number (LedgerFull rows) = Some 50
refusal_number VersionsEnd = Some 51
refusal_number CellTaken = Some 52
refusal_number OutOfMemory = None

abbrev pub refusal_name : Refusal → List ℕ
refusal_name BadConfig = codes "BadConfig"
refusal_name NoSuchResolver = codes "NoSuchResolver"
refusal_name NoSuchProxy = codes "NoSuchProxy"
refusal_name (LedgerFull rows) = codes "LedgerFull"
refusal_name VersionsEnd = codes "VersionsEnd"
refusal_name CellTaken = codes "CellTaken"
refusal_name OutOfMemory = codes "OutOfMemory"

-- The fault that a refusal names. `OutOfMemory` and `CellTaken` name none: the one comes from the
-- allocator, and the other from whoever set the cell.
abbrev pub refusal_fault : Refusal → Option Refusal
refusal_fault CellTaken = None
refusal_fault OutOfMemory = None
refusal_fault refusal = Some refusal

-- the refusal that says why a cell was not set
abbrev pub refusal_of : {K : Type 0} → NotSet K → Refusal
refusal_of unset.OutOfMemory = OutOfMemory
refusal_of (unset.Taken known) = CellTaken
