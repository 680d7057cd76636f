-- What the exits of a run leave.
use Rattle.std.proofs.Common.{◌≡◌, ℕ, List, [], Option, Some, None, refl, subst}
use Rattle.std.specs.Io.KnownBytes.{Appends}
use Rattle.std.proofs.KnownBytes.{Appends-nil}
use Rattle.scripts.specs.Devices.{AppendsBeginning}
use Rattle.scripts.specs.Outputs.{OutputView}
use Rattle.scripts.specs.Runs.{BeginsOutput, IsInput, WritesOutput, WritesTextOf}
use Rattle.scripts.specs.Statuses.{IsWholeText}
use Rattle.scripts.specs.declared.status.RunStatus.{RunStatus}
use Rattle.scripts.specs.declared.status.RunStatus.TheVariants.{Done, ScriptRefused}
use Rattle.scripts.specs.declared.status.RunStatus.TheVariants.{DeviceFailed, OutOfMemory, ClusterRefused}

-- nothing was written
pub begins_nothing : (output_to : List ℕ → OutputView) (input old : Option (List ℕ))
    → BeginsOutput output_to input old old
begins_nothing output_to None old = ([], tt, ((output_to []).text, ([], refl, Appends-nil old)))
begins_nothing output_to (Some bytes) old = (bytes, refl, ((output_to bytes).text, ([], refl, Appends-nil old)))

-- a beginning of the text of the bytes that were read was written
pub begins_text : (output_to : List ℕ → OutputView) (input old new : Option (List ℕ)) (bytes text : List ℕ)
    → IsInput input bytes → text ≡ (output_to bytes).text → AppendsBeginning old new text
    → BeginsOutput output_to input old new
begins_text output_to input old new bytes text read is begun = (bytes, read, subst (AppendsBeginning old new) is begun)

-- the whole text of the bytes that were read was written
whole_text : (output_to : List ℕ → OutputView) (input old new : Option (List ℕ)) (bytes text : List ℕ) (status : RunStatus)
    → IsInput input bytes → text ≡ (output_to bytes).text → status ≡ (output_to bytes).status → Appends old new text
    → WritesOutput output_to input old new status
whole_text output_to input old new bytes text status read is ends put = (bytes, read, subst (Appends old new) is put, ends)

pub writes_text : (output_to : List ℕ → OutputView) (input old new : Option (List ℕ)) (bytes text : List ℕ) (status : RunStatus)
    → IsWholeText status → IsInput input bytes → text ≡ (output_to bytes).text → status ≡ (output_to bytes).status
    → Appends old new text → WritesTextOf output_to input old new status
writes_text output_to input old new bytes text Done ok read is ends put = whole_text output_to input old new bytes text Done read is ends put
writes_text output_to input old new bytes text ScriptRefused ok read is ends put = whole_text output_to input old new bytes text ScriptRefused read is ends put
writes_text output_to input old new bytes text DeviceFailed ok read is ends put = absurd ok
writes_text output_to input old new bytes text OutOfMemory ok read is ends put = absurd ok
writes_text output_to input old new bytes text ClusterRefused ok read is ends put = absurd ok
