-- Why a cell was not set. *Profile*: all of it.
use Rattle.facts.specs.declared.setting.NotSet.{NotSet}
use Rattle.facts.specs.declared.setting.NotSet.TheVariants.{OutOfMemory, Taken}

-- if the cell was taken, this holds of what tells its value
abbrev pub IfTaken : {K : Type 0} → NotSet K → (K → Type 0) → Type 0
IfTaken OutOfMemory property = Unit {0}
IfTaken (Taken known) property = property known
