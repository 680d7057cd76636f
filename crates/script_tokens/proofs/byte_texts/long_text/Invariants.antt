use Rattle.std.proofs.Common.{length, ◌-◌, ◌≤◌}
use Rattle.script_tokens.specs.Spelled.{SpellsUpTo}
use Rattle.script_tokens.proofs.byte_texts.long_text.Given as goal

abbrev pub invariant-loop-bytes : goal.invariant-loop-bytes
invariant-loop-bytes l = record {
  within : l.at ≤ length l.text;
  spelled : SpellsUpTo l.text l.start l.bytes.items l.at;
}

abbrev pub decreases-loop-bytes : goal.decreases-loop-bytes
decreases-loop-bytes l = length l.text - l.at
