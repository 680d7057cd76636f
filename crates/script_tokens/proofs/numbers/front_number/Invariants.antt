use Rattle.std.proofs.Common.{length, take, ◌-◌, ◌^◌, ◌≡◌, ◌<◌, ◌≤◌}
use Rattle.std.specs.Str.Parse.{AllDigits, digits_value}
use Rattle.script_tokens.proofs.numbers.front_number.Given as goal

abbrev pub invariant-loop-count : goal.invariant-loop-count
invariant-loop-count l = record {
  value : l.number ≡ digits_value 10 (take l.count l.text);
  digits : AllDigits 10 (take l.count l.text);
  within : l.count ≤ length l.text;
  small : l.number < 10 ^ 19;
}

abbrev pub decreases-loop-count : goal.decreases-loop-count
decreases-loop-count l = length l.text - l.count
