use Rattle.std.proofs.Common.{◌≡◌, ◌++◌, drop}
use Rattle.std.specs.Prelude.{string_bytes}
use Rattle.system_keys.specs.Text.{text_of}
use Rattle.system_keys.proofs.text.print_bytes.Given as goal

abbrev pub invariant-loop-byte : goal.invariant-loop-byte
invariant-loop-byte l = string_bytes l.text ++ text_of (drop l.byte-index l.bytes) ≡ text_of l.bytes
