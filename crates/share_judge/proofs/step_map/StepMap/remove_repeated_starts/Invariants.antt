-- No key has another version, and those that are listed have this one.
use Rattle.share_judge.specs.Steps.{TellTheSame, AreRising, HaveVersion, starts_now}
use Rattle.share_judge.proofs.step_map.StepMap.remove_repeated_starts.Given as goal

abbrev pub invariant-loop-key : goal.invariant-loop-key
invariant-loop-key l =
    record {
      same : TellTheSame (starts_now l.fn.self) (starts_now l.self);
      rising : AreRising l.fn.self → AreRising l.self;
      listed : HaveVersion l.version (starts_now l.self) l.keys;
    }
