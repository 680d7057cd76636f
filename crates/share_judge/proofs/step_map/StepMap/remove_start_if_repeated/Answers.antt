-- A start with the version of the step before tells nothing.
use Rattle.std.proofs.Common.{◌∙◌, sym, ap, subst, List}
use Rattle.share_judge.specs.Steps.{StepStart, AreRising, settled, last_from, last_before, starts_now}
use Rattle.share_judge.proofs.MapStarts.{starts_rise}
use Rattle.share_judge.proofs.MapCalls.{removed_now}
use Rattle.share_judge.proofs.step_map.StepMap.remove_start_if_repeated.Goals as goal

pub invariant_of-self : goal.invariant_of-self
invariant_of-self c = starts_rise _ c.remove.ensures.ordered

pub returns-then-before-version-clause-same : goal.returns-then-before-version-clause-same
returns-then-before-version-clause-same c = λ dropped.
    removed_now c.self.inside.steps.entries c.remove.new.self.entries c.args.key.now c.self.invariant
    (ap (λ (ss : List StepStart). last_from 0 (starts_now ss) c.args.key.now) c.self.view_is
    ∙ c.requires ∙ sym c.if-before-version.true ∙ c.before-2.ensures
    ∙ sym (ap (λ (ss : List StepStart). last_before 0 (starts_now ss) c.args.key.now) c.self.view_is))
    c.remove.ensures.entries dropped
    ∙ ap (λ (ss : List StepStart). settled dropped 0 (starts_now ss)) c.self.view_is

pub returns-then-before-version-clause-rising : goal.returns-then-before-version-clause-rising
returns-then-before-version-clause-rising c = starts_rise _ c.remove.ensures.ordered

pub returns-then-before-version-clause-was_rising : goal.returns-then-before-version-clause-was_rising
returns-then-before-version-clause-was_rising c = subst AreRising c.self.view_is c.self.invariant
