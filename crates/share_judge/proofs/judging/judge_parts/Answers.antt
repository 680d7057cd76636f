-- One part more is judged, and after the last all are.
use Rattle.std.proofs.Common.{◌∙◌, refl, arith}
use Rattle.share_judge.specs.declared.step.Step.{Step}
use Rattle.share_judge.specs.Versions.{all_now}
use Rattle.share_judge.specs.Steps.{starts_now}
use Rattle.share_judge.specs.Judged.{committed_writes}
use Rattle.share_judge.proofs.WithKeys.{all_rising}
use Rattle.share_judge.proofs.Repeated.{none_listed}
use Rattle.share_judge.proofs.JudgedParts.{none_judged, one_judged, all_judged}
use Rattle.share_judge.proofs.judging.judge_parts.Goals as goal

pub loop-part-init : goal.loop-part-init
loop-part-init c =
    record {
      judged =
          rw c.in_ok-verdicts.ensures.items
          (none_judged c.args.judging.window c.args.judging.dropped c.args.judging.version (all_now c.args.steps.now) c.args.parts.now (all_rising (λ (step : Step). step.version) c.args.steps.now c.alloc-alloc.ensures) c.requires.past c.requires.below c.requires.dropped);
      before = λ dropped. refl;
      order = c.alloc-alloc.ensures;
      listed = none_listed c.args.judging.version (starts_now c.args.steps.now.steps) c.new-listed.result.items c.new-listed.ensures.items;
    }

pub returns-in_err-write_if_committed-clause-before : goal.returns-in_err-write_if_committed-clause-before
returns-in_err-write_if_committed-clause-before c = λ dropped. c.write_if_committed.ensures.before dropped ∙ c.loop-part.invariant.before dropped

pub returns-in_err-push-clause-before : goal.returns-in_err-push-clause-before
returns-in_err-push-clause-before c = λ dropped. c.write_if_committed.ensures.before dropped ∙ c.loop-part.invariant.before dropped

pub loop-part-preserved : goal.loop-part-preserved
loop-part-preserved c =
    let written = c.in_ok-write_if_committed.ensures in
    record {
      judged =
          rw c.in_ok-push.ensures.items
          (one_judged c.args.judging.window c.args.judging.dropped c.args.judging.version (all_now c.args.steps.now) c.args.parts.now c.loop-part.part-index c.loop-part.verdicts.items (all_now c.loop-part.steps) (all_now c.write_if_committed.new.steps) (committed_writes c.in_ok-verdict.verdict c.part-item.result) c.part-item.result c.in_ok-verdict.verdict (omega (arith, c.loop-part-test.true)) c.part-item.is
          c.loop-part.invariant.judged c.in_ok-verdict.ensures refl written.over (all_rising (λ (step : Step). step.version) c.write_if_committed.new.steps c.write_if_committed.ensures.order));
      before = λ dropped. c.write_if_committed.ensures.before dropped ∙ c.loop-part.invariant.before dropped;
      order = c.write_if_committed.ensures.order;
      listed = written.listed c.loop-part.invariant.listed;
    }

pub returns-clause-judged : goal.returns-clause-judged
returns-clause-judged c = all_judged c.args.judging.window c.args.judging.dropped c.args.judging.version (all_now c.args.steps.now) c.args.parts.now c.loop-part.part-index c.loop-part.verdicts.items (all_now c.loop-part.steps) (omega (arith, c.loop-part-test.false)) c.loop-part.invariant.judged

pub write_if_committed-requires-clause-up_to : goal.write_if_committed-requires-clause-up_to
write_if_committed-requires-clause-up_to c = c.loop-part.invariant.judged.so_far.up_to
