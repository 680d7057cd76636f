-- The range is written at its ends if no start lies inside; else at each start between.
use Rattle.std.proofs.Common.{◌∙◌, ap₂, subst}
use Rattle.system_keys.specs.Keys.{is_key_below}
use Rattle.system_keys.proofs.KeyLaws.{begins_below}
use Rattle.share_judge.specs.Steps.{AreRising}
use Rattle.share_judge.proofs.step_map.StepMap.overwrite.Goals as goal

pub edges-edges-requires : goal.edges-edges-requires
edges-edges-requires c =
    ap₂ is_key_below (c.in_ok-begin.ensures ∙ c.begin.ensures.value) (c.in_ok-end.ensures ∙ c.end.ensures.value)
    ∙ begins_below c.args.range.now.begin c.args.range.now.end c.begin.ensures.kept

pub overwrite_between_starts-requires-clause-below : goal.overwrite_between_starts-requires-clause-below
overwrite_between_starts-requires-clause-below c =
    ap₂ is_key_below (c.in_ok-begin.ensures ∙ c.begin.ensures.value) (c.in_ok-end.ensures ∙ c.end.ensures.value)
    ∙ begins_below c.args.range.now.begin c.args.range.now.end c.begin.ensures.kept

pub overwrite_between_starts-requires-clause-rising : goal.overwrite_between_starts-requires-clause-rising
overwrite_between_starts-requires-clause-rising c = subst AreRising c.self.view_is c.self.invariant

pub overwrite_across_starts-requires-clause-below : goal.overwrite_across_starts-requires-clause-below
overwrite_across_starts-requires-clause-below c =
    ap₂ is_key_below (c.in_ok-begin.ensures ∙ c.begin.ensures.value) (c.in_ok-end.ensures ∙ c.end.ensures.value)
    ∙ begins_below c.args.range.now.begin c.args.range.now.end c.begin.ensures.kept

pub overwrite_across_starts-requires-clause-rising : goal.overwrite_across_starts-requires-clause-rising
overwrite_across_starts-requires-clause-rising c = subst AreRising c.self.view_is c.self.invariant
