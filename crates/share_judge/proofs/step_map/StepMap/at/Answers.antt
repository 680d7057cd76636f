-- The last start up to the key is the last entry of the range.
use Rattle.std.proofs.Common.{◌∙◌, sym, ap, List}
use Rattle.share_judge.specs.Steps.{StepStart, no_step, last_from}
use Rattle.share_judge.proofs.MapCalls.{found_at, none_at}
use Rattle.share_judge.proofs.step_map.StepMap.at.Goals as goal

pub returns-in-Some : goal.returns-in-Some
returns-in-Some c =
    found_at no_step c.self.inside.steps.entries c.next_back.new.self (c.in-Some.field-0-0.now, c.in-Some.step.now) c.args.key.now c.self.invariant (sym (c.range.ensures.between tt) ∙ c.in-Some.ensures.steps)
    ∙ ap (λ (ss : List StepStart). last_from no_step ss c.args.key.now) c.self.view_is

pub returns-in-None : goal.returns-in-None
returns-in-None c =
    none_at no_step c.self.inside.steps.entries c.args.key.now c.self.invariant (sym (c.range.ensures.between tt) ∙ c.in-None.ensures.steps.0)
    ∙ ap (λ (ss : List StepStart). last_from no_step ss c.args.key.now) c.self.view_is
