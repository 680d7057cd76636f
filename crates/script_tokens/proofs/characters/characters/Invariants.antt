use Rattle.std.proofs.Common.{length, ◌-◌, ◌≤◌}
use Rattle.script_tokens.specs.Spelled.{StandsUpTo}
use Rattle.script_tokens.proofs.characters.characters.Given as goal

abbrev pub invariant-loop-found : goal.invariant-loop-found
invariant-loop-found l = record {
  within : l.at ≤ length l.text;
  stands : StandsUpTo l.text l.start l.found.items l.at;
}

abbrev pub decreases-loop-found : goal.decreases-loop-found
decreases-loop-found l = length l.text - l.at
