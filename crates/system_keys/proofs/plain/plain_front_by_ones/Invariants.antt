use Rattle.std.proofs.Common.{◌-◌, ◌≤◌, length}
use Rattle.system_keys.specs.Text.{ArePlain}
use Rattle.system_keys.proofs.plain.plain_front_by_ones.Given as goal

abbrev pub invariant-loop-length : goal.invariant-loop-length
invariant-loop-length l = record {
  within : l.length ≤ length l.text;
  plain : ArePlain l.text 0 l.length;
}

abbrev pub decreases-loop-length : goal.decreases-loop-length
decreases-loop-length l = length l.text - l.length
