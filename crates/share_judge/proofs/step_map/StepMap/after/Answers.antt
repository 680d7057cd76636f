-- The first entry above the key is right after it, or nothing changes up to there.
use Rattle.std.proofs.Common.{◌∙◌, sym, ap, List}
use Rattle.system_keys.specs.Keys.{only}
use Rattle.share_judge.specs.declared.step.Step.{Step}
use Rattle.share_judge.specs.Steps.{StepStart, no_step, last_from, starts_now}
use Rattle.share_judge.proofs.After.{step_there, step_none, step_other}
use Rattle.share_judge.proofs.step_map.StepMap.after.Goals as goal

pub returns-in_default : goal.returns-in_default
returns-in_default c =
    ap (λ (step : Step). step.version) (c.at.ensures ∙ ap (λ (ss : List StepStart). last_from no_step ss c.args.key.now) (sym c.self.view_is))
    ∙ step_none c.self.inside.steps.entries c.args.key.now (sym (c.range-left.ensures.between tt) ∙ c.in_default.ensures.steps.0)
    ∙ ap (λ (ss : List StepStart). last_from 0 (starts_now ss) (only c.args.key.now).end) c.self.view_is

pub returns-then-is_right_after : goal.returns-then-is_right_after
returns-then-is_right_after c =
    step_there c.self.inside.steps.entries c.args.key.now (only c.args.key.now).end (c.in-Some.next.now, c.in-Some.step.now) c.next.new.self c.self.invariant (sym (c.range-left.ensures.between tt) ∙ c.in-Some.ensures.steps)
    (sym c.as_slice-2.ensures ∙ c.is_right_after.ensures.found c.if-is_right_after.true ∙ ap (λ k. (only k).end) c.as_slice.ensures)
    ∙ ap (λ (ss : List StepStart). last_from 0 (starts_now ss) (only c.args.key.now).end) c.self.view_is

pub returns : goal.returns
returns c =
    ap (λ (step : Step). step.version) (c.at-2.ensures ∙ ap (λ (ss : List StepStart). last_from no_step ss c.args.key.now) (sym c.self.view_is))
    ∙ step_other c.self.inside.steps.entries c.args.key.now (c.in-Some.next.now, c.in-Some.step.now) c.next.new.self c.self.invariant (sym (c.range-left.ensures.between tt) ∙ c.in-Some.ensures.steps)
    (λ is. c.is_right_after.ensures.other c.if-is_right_after.false (c.as_slice-2.ensures ∙ is ∙ ap (λ k. (only k).end) (sym c.as_slice.ensures)))
    ∙ ap (λ (ss : List StepStart). last_from 0 (starts_now ss) (only c.args.key.now).end) c.self.view_is
