-- The last start below the key is the last entry of the range.
use Rattle.std.proofs.Common.{◌∙◌, sym, ap, List}
use Rattle.share_judge.specs.Steps.{StepStart, last_before, starts_now}
use Rattle.share_judge.proofs.MapCalls.{found_before, none_before_key}
use Rattle.share_judge.proofs.step_map.StepMap.before.Goals as goal

pub returns-in-Some : goal.returns-in-Some
returns-in-Some c =
    found_before c.self.inside.steps.entries c.next_back.new.self (c.in-Some.field-0-0.now, c.in-Some.step.now) c.args.key.now c.self.invariant (sym (c.range.ensures.between tt) ∙ c.in-Some.ensures.steps)
    ∙ ap (λ (ss : List StepStart). last_before 0 (starts_now ss) c.args.key.now) c.self.view_is

pub returns-in-None : goal.returns-in-None
returns-in-None c =
    none_before_key c.self.inside.steps.entries c.args.key.now c.self.invariant (sym (c.range.ensures.between tt) ∙ c.in-None.ensures.steps.0)
    ∙ ap (λ (ss : List StepStart). last_before 0 (starts_now ss) c.args.key.now) c.self.view_is
