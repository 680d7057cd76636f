-- The last start that is left is above the bound, decides the begin, or is passed by.
use Rattle.std.proofs.Common.{◌∙◌, ap, subst, arith, List}
use Rattle.share_judge.specs.declared.step.Step.{Step}
use Rattle.share_judge.specs.Steps.{StepStart, AreRising, starts_now}
use Rattle.share_judge.proofs.Starts.{starts_below}
use Rattle.share_judge.proofs.MapCalls.{left_below}
use Rattle.share_judge.proofs.Readings.{read_rising, read_back}
use Rattle.share_judge.proofs.WalkBack.{first_left, found_above, none_above, one_less, test_false, test_true}
use Rattle.share_judge.proofs.step_map.StepMap.has_version_above.Goals as goal

pub loop-key-init : goal.loop-key-init
loop-key-init c =
    first_left c.args.bound (record { begin = c.args.begin.now; end = c.args.end.now }) (starts_now c.args.self.now) (starts_now c.range-left.result) c.requires
    (read_rising (λ (step : Step). step.version) c.args.self.now (subst AreRising c.self.view_is c.self.invariant))
    (left_below c.self.inside.steps.entries c.range-left.result c.args.end.now (c.range-left.ensures.between tt) ∙ ap (λ (ss : List StepStart). starts_below c.args.end.now (starts_now ss)) c.self.view_is)

pub returns-then-bound-step : goal.returns-then-bound-step
returns-then-bound-step c =
    found_above c.args.bound (record { begin = c.args.begin.now; end = c.args.end.now }) (starts_now c.args.self.now) (starts_now c.loop-key.left) (starts_now c.next_back.new.self) (c.in-Some.key.now, c.in-Some.step.now.version) c.requires
    (ap starts_now c.in-Some.ensures.steps ∙ read_back (λ (step : Step). step.version) c.next_back.new.self (c.in-Some.key.now, c.in-Some.step.now)) (omega (arith, c.if-bound-step.true)) c.loop-key.invariant

pub returns-then-le : goal.returns-then-le
returns-then-le c =
    none_above c.args.bound (record { begin = c.args.begin.now; end = c.args.end.now }) (starts_now c.args.self.now) (starts_now c.loop-key.left) (starts_now c.next_back.new.self) (c.in-Some.key.now, c.in-Some.step.now.version) c.requires
    (ap starts_now c.in-Some.ensures.steps ∙ read_back (λ (step : Step). step.version) c.next_back.new.self (c.in-Some.key.now, c.in-Some.step.now)) (omega (arith, c.if-bound-step.false)) (test_false c.in-Some.key.now c.args.begin.now c.le.result c.le.ensures c.if-le.true) c.loop-key.invariant

pub loop-key-preserved : goal.loop-key-preserved
loop-key-preserved c =
    one_less c.args.bound (record { begin = c.args.begin.now; end = c.args.end.now }) (starts_now c.args.self.now) (starts_now c.loop-key.left) (starts_now c.next_back.new.self) (c.in-Some.key.now, c.in-Some.step.now.version)
    (ap starts_now c.in-Some.ensures.steps ∙ read_back (λ (step : Step). step.version) c.next_back.new.self (c.in-Some.key.now, c.in-Some.step.now)) (omega (arith, c.if-bound-step.false)) (test_true c.in-Some.key.now c.args.begin.now c.le.result c.le.ensures c.if-le.false) c.loop-key.invariant
