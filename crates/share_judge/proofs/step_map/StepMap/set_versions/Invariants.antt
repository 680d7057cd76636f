-- The keys that are left give what all give, and what was before the share stands.
use Rattle.std.proofs.Common.{◌≡◌, drop}
use Rattle.share_judge.specs.Steps.{AreRising, is_listed, marked, starts_now, starts_before}
use Rattle.share_judge.proofs.step_map.StepMap.set_versions.Given as goal

abbrev pub invariant-loop-key : goal.invariant-loop-key
invariant-loop-key l =
    record {
      now :
          marked (is_listed (drop l.key-index l.keys)) l.version (starts_now l.self)
          ≡ marked (is_listed l.keys) l.version (starts_now l.fn.self);
      before : starts_before l.version l.self ≡ starts_before l.version l.fn.self;
      rising : AreRising l.fn.self → AreRising l.self;
    }
