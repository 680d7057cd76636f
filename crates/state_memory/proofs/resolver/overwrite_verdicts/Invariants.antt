-- If there are as many, those before i are copied.
use Rattle.std.proofs.Common.{◌≡◌, length, take}
use Rattle.state_memory.proofs.resolver.overwrite_verdicts.Given as goal

abbrev pub invariant-loop-i : goal.invariant-loop-i
invariant-loop-i l =
    record {
      as_many : length l.kept.items ≡ length l.fn.kept.items;
      copied : length l.fn.kept.items ≡ length l.verdicts → take l.i l.kept.items ≡ take l.i l.verdicts;
    }
