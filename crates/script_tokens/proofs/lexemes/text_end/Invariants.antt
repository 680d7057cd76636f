use Rattle.std.proofs.Common.{length, get_or, true, ◌+◌, ◌-◌, ◌≡◌, ◌<◌, ◌≤◌, ℕ}
use Rattle.script_tokens.specs.LeftTokens.{is_own_byte}
use Rattle.script_tokens.proofs.lexemes.text_end.Given as goal

abbrev pub invariant-loop-end : goal.invariant-loop-end
invariant-loop-end l = record {
  behind : l.start + 1 ≤ l.end;
  within : l.end ≤ length l.text;
  own : (i : ℕ) → l.start + 1 ≤ i → i < l.end → is_own_byte (get_or l.text i 0) ≡ true;
}

abbrev pub decreases-loop-end : goal.decreases-loop-end
decreases-loop-end l = length l.text - l.end
