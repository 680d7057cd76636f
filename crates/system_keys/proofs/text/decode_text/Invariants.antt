use Rattle.std.proofs.Common.{◌≡◌, length}
use Rattle.system_keys.specs.Text.{bytes_of}
use Rattle.system_keys.proofs.TextLaws.{behind_kept}
use Rattle.system_keys.proofs.text.decode_text.Given as goal

abbrev pub invariant-loop-rest : goal.invariant-loop-rest
invariant-loop-rest l = behind_kept l.bytes (bytes_of l.rest) ≡ bytes_of l.text

abbrev pub decreases-loop-rest : goal.decreases-loop-rest
decreases-loop-rest l = length l.rest
