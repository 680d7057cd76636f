-- A look-up finds what stands at the key.
use Rattle.std.proofs.Common.{◌∙◌, sym, ap, List}
use Rattle.share_judge.specs.Steps.{StepStart, no_step}
use Rattle.share_judge.specs.Versions.{at_key}
use Rattle.share_judge.proofs.AtKeys.{found_there, none_there}
use Rattle.share_judge.proofs.key_map.KeyMap.at.Goals as goal

pub returns-in-Some : goal.returns-in-Some
returns-in-Some c =
    found_there c.self.inside.steps.entries c.args.key.now c.in-Some.step.now (sym c.in-Some.ensures.value)
    ∙ ap (λ (ss : List StepStart). at_key no_step ss c.args.key.now) c.self.view_is

pub returns-in-None : goal.returns-in-None
returns-in-None c =
    none_there c.self.inside.steps.entries c.args.key.now (sym c.in-None.ensures.value)
    ∙ ap (λ (ss : List StepStart). at_key no_step ss c.args.key.now) c.self.view_is
