-- With one start less, those that are left have their versions.
use Rattle.std.proofs.Common.{◌∙◌, arith}
use Rattle.share_judge.specs.declared.step.Step.{Step}
use Rattle.share_judge.specs.Steps.{starts_now}
use Rattle.share_judge.proofs.Readings.{read_rising}
use Rattle.share_judge.proofs.Repeated.{listed_at, same_listed}
use Rattle.share_judge.proofs.step_map.StepMap.remove_repeated_starts.Goals as goal

pub remove_start_if_repeated-requires : goal.remove_start_if_repeated-requires
remove_start_if_repeated-requires c = c.loop-key.invariant.listed c.key-item.result (listed_at c.args.keys.now c.loop-key.key-index c.key-item.result (omega (arith, c.loop-key-test.true)) c.key-item.is)

pub loop-key-preserved : goal.loop-key-preserved
loop-key-preserved c =
    let out = c.remove_start_if_repeated.ensures in
    let read = λ (step : Step). step.version in
    record {
      same = λ dropped. out.same dropped ∙ c.loop-key.invariant.same dropped;
      rising = λ was. out.rising;
      listed = same_listed c.args.version (starts_now c.loop-key.self) (starts_now c.remove_start_if_repeated.new.self) c.args.keys.now (read_rising read c.loop-key.self out.was_rising) (read_rising read c.remove_start_if_repeated.new.self out.rising) out.same c.loop-key.invariant.listed;
    }
