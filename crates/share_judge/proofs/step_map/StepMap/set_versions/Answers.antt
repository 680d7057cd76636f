-- One start more is marked, and after the last key all are.
use Rattle.std.proofs.Common.{◌∙◌, arith}
use Rattle.share_judge.specs.Steps.{starts_now}
use Rattle.share_judge.proofs.MapCalls.{mark_next, mark_all}
use Rattle.share_judge.proofs.step_map.StepMap.set_versions.Goals as goal

pub loop-key-preserved : goal.loop-key-preserved
loop-key-preserved c =
    record {
      now = mark_next c.args.keys.now c.loop-key.key-index c.key-item.result c.args.version _ (starts_now c.loop-key.self) (starts_now c.set_version.new.self) (omega (arith, c.loop-key-test.true)) c.key-item.is c.set_version.ensures.now c.loop-key.invariant.now;
      before = c.set_version.ensures.before ∙ c.loop-key.invariant.before;
      rising = λ was. c.set_version.ensures.rising;
    }

pub returns-clause-now : goal.returns-clause-now
returns-clause-now c = mark_all c.args.keys.now c.loop-key.key-index c.args.version _ (starts_now c.loop-key.self) (omega arith) c.loop-key.invariant.now
