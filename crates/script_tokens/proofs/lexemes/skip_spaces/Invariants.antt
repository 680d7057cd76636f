use Rattle.std.proofs.Common.{length, drop, ◌-◌, ◌≡◌}
use Rattle.json.specs.Lex.{between, lex}
use Rattle.script_tokens.proofs.lexemes.skip_spaces.Given as goal

abbrev pub invariant-loop-end : goal.invariant-loop-end
invariant-loop-end l = lex between (drop l.end l.text) ≡ lex between (drop l.at l.text)

abbrev pub decreases-loop-end : goal.decreases-loop-end
decreases-loop-end l = length l.text - l.end
