use Rattle.std.proofs.Common.{length, take, ◌-◌, ◌≤◌}
use Rattle.script_tokens.specs.Spelled.{SpellsUpTo}
use Rattle.script_tokens.proofs.byte_texts.short_text.Given as goal

abbrev pub invariant-loop-start : goal.invariant-loop-start
invariant-loop-start l = record {
  within : l.at ≤ length l.text;
  room : l.count ≤ 112;
  spelled : SpellsUpTo l.text l.start (take l.count l.room) l.at;
}

abbrev pub decreases-loop-start : goal.decreases-loop-start
decreases-loop-start l = length l.text - l.at
