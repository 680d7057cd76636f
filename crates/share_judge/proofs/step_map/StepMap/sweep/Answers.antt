-- What is left by the calls of the closure, one after another.
use Rattle.std.proofs.Common.{◌≡◌, ◌∙◌, refl, sym, ap, List, rules}
use Rattle.share_judge.specs.Steps.{StepStart, settled, starts_now}
use Rattle.share_judge.specs.contracts.step_map.fn.StepMap.sweep.retain as closure
use Rattle.share_judge.proofs.KeptWrites.{none_is}
use Rattle.share_judge.proofs.MapStarts.{starts_rise}
use Rattle.share_judge.proofs.MapCalls.{swept}
use Rattle.share_judge.proofs.step_map.StepMap.sweep.Goals as goal

pub invariant_of-self : goal.invariant_of-self
invariant_of-self c = starts_rise _ c.retain.ensures.ordered

pub returns-clause-starts : goal.returns-clause-starts
returns-clause-starts c =
    swept _ (λ f. (closure.captures f).bound ≡ c.args.bound) (λ f. (closure.captures f).last) c.args.bound (λ f k v b w f' i t. search rules) _ 0 refl (sym (none_is c.args.bound)) c.self.inside.steps.entries c.retain.new.self.entries c.retain.ensures.filtered
    ∙ ap (λ (ss : List StepStart). settled c.args.bound 0 (starts_now ss)) c.self.view_is

pub returns-clause-rising : goal.returns-clause-rising
returns-clause-rising c = starts_rise _ c.retain.ensures.ordered
