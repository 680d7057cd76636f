-- A clone of the map has the same starts.
use Rattle.std.proofs.Common.{◌∙◌, sym, subst}
use Rattle.share_judge.specs.Steps.{AreRising}
use Rattle.share_judge.proofs.MapStarts.{cloned}
use Rattle.share_judge.proofs.step_map.StepMapClone.clone.Goals as goal

pub returns : goal.returns
returns c = record { cases = cloned c.self.inside.steps.entries c.in_ok-clone.field-0.entries c.in_ok-clone.ensures.cases ∙ c.self.view_is }

pub invariant_of-result : goal.invariant_of-result
invariant_of-result c = subst AreRising (sym (cloned c.self.inside.steps.entries c.in_ok-clone.field-0.entries c.in_ok-clone.ensures.cases)) c.self.invariant
