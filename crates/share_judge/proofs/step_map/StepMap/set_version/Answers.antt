-- What is written through the reference stands at the key, and without one there is no start at it.
use Rattle.std.proofs.Common.{◌∙◌, sym, ap, List}
use Rattle.std.specs.BTreeMap.{BTreeMap}
use Rattle.system_keys.specs.Keys.{Key}
use Rattle.share_judge.specs.declared.step.Step.{Step}
use Rattle.share_judge.specs.Steps.{StepStart, marked, is_same_key, starts_now, starts_before}
use Rattle.share_judge.proofs.MapStarts.{starts_rise}
use Rattle.share_judge.proofs.MapCalls.{marked_one, marked_before, none_to_mark}
use Rattle.share_judge.proofs.step_map.StepMap.set_version.Goals as goal

pub returns-in_default-clause-now : goal.returns-in_default-clause-now
returns-in_default-clause-now c =
    ap (λ (m : BTreeMap Key Step). starts_now m.entries) c.get_mut.follows.holds-at-none
    ∙ sym (none_to_mark c.self.inside.steps.entries c.args.key.now c.args.version (sym c.in_default.ensures.value))
    ∙ ap (λ (ss : List StepStart). marked (is_same_key c.args.key.now) c.args.version (starts_now ss)) c.self.view_is

pub returns-in_default-clause-before : goal.returns-in_default-clause-before
returns-in_default-clause-before c =
    ap (λ (m : BTreeMap Key Step). starts_before c.args.version m.entries) c.get_mut.follows.holds-at-none
    ∙ ap (λ (ss : List StepStart). starts_before c.args.version ss) c.self.view_is

pub invariant_of-self-2 : goal.invariant_of-self-2
invariant_of-self-2 c = starts_rise _ (c.get_mut.follows.holds c.over.result).4

pub returns-clause-now : goal.returns-clause-now
returns-clause-now c =
    marked_one c.self.inside.steps.entries (c.get_mut.follows.lender c.over.result).entries c.args.key.now c.args.version c.over.result c.self.invariant c.over.ensures.version (c.get_mut.follows.holds c.over.result).0
    ∙ ap (λ (ss : List StepStart). marked (is_same_key c.args.key.now) c.args.version (starts_now ss)) c.self.view_is

pub returns-clause-before : goal.returns-clause-before
returns-clause-before c =
    marked_before c.self.inside.steps.entries (c.get_mut.follows.lender c.over.result).entries c.args.key.now c.args.version c.in-Some.place.now c.over.result (sym c.in-Some.ensures.value) c.over.ensures.version c.over.ensures.before (c.get_mut.follows.holds c.over.result).0
    ∙ ap (λ (ss : List StepStart). starts_before c.args.version ss) c.self.view_is

pub returns-clause-rising : goal.returns-clause-rising
returns-clause-rising c = starts_rise _ (c.get_mut.follows.holds c.over.result).4
