-- What a run writes, on small values.
use Rattle.std.specs.Prelude.{List, ℕ, Some, None, codes}
use Rattle.scripts.specs.Outputs.{done}
use Rattle.scripts.specs.Runs.{WritesTextOf}
use Rattle.scripts.specs.declared.status.RunStatus.{RunStatus}
use Rattle.scripts.specs.declared.status.RunStatus.TheVariants.{Done, ScriptRefused}
use Rattle.scripts.specs.declared.status.RunStatus.TheVariants.{DeviceFailed, OutOfMemory, ClusterRefused}

-- A run may leave a sink so that had the byte `o`, and end so. The input is `ab`, and the text of its
-- answer is the input.
abbrev pub MayWrite : (left : List ℕ) → RunStatus → Type 0
MayWrite left status = WritesTextOf done (Some (codes "ab")) (Some (codes "o")) (Some left) status

-- The sink gains the whole text of the answer to the input, and not that to other bytes, with the status
-- of the answer.
pub record TheWholeTextIsWritten : Type 0 where
  pub whole : MayWrite (codes "oab") Done
  pub a_byte_too_few : MayWrite (codes "oa") Done → ⊥
  pub a_byte_too_many : MayWrite (codes "oabb") Done → ⊥
  pub another_text : MayWrite (codes "oba") Done → ⊥
  pub another_status : MayWrite (codes "oab") ScriptRefused → ⊥
  pub unknown_input : WritesTextOf done None (Some (codes "o")) (Some (codes "ob")) Done

-- After a failed write the sink has gained a beginning of the text, and nothing else. No cluster refuses.
pub record ABeginningIsWritten : Type 0 where
  pub beginning : MayWrite (codes "oa") DeviceFailed
  pub nothing : MayWrite (codes "o") DeviceFailed
  pub no_beginning : MayWrite (codes "ob") DeviceFailed → ⊥
  pub a_byte_lost : MayWrite (codes "") DeviceFailed → ⊥
  pub out_of_memory : MayWrite (codes "ob") OutOfMemory → ⊥
  pub no_cluster : MayWrite (codes "o") ClusterRefused → ⊥
