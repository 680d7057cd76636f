use Rattle.std.proofs.Common.{◌≡◌, ◌+◌, ◌≤◌, length}
use Rattle.std.specs.Prelude.{option_map}
use Rattle.system_keys.specs.Text.{bytes_of}
use Rattle.system_keys.proofs.text.decoded_length.Given as goal

abbrev pub invariant-loop-rest : goal.invariant-loop-rest
invariant-loop-rest l = record {
  told : option_map (λ bytes. l.length + length bytes) (bytes_of l.rest) ≡ option_map length (bytes_of l.text);
  room : l.length + length l.rest ≤ length l.text;
}

abbrev pub decreases-loop-rest : goal.decreases-loop-rest
decreases-loop-rest l = length l.rest
