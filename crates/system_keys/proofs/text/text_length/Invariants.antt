use Rattle.std.proofs.Common.{◌≡◌, ◌≤◌, ◌+◌, ◌-◌, ◌^◌, drop, length}
use Rattle.std.specs.Prelude.{min}
use Rattle.system_keys.specs.Text.{text_of}
use Rattle.system_keys.proofs.text.text_length.Given as goal

abbrev pub invariant-loop-byte : goal.invariant-loop-byte
invariant-loop-byte l = record {
  whole : min (l.length + length (text_of (drop l.byte-index l.bytes))) (2 ^ 64 - 1) ≡ min (length (text_of l.bytes)) (2 ^ 64 - 1);
  fits : l.length ≤ 2 ^ 64 - 1;
}
