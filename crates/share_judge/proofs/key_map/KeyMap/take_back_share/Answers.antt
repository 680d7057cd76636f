-- What is left by the calls of the closure, one after another.
use Rattle.std.proofs.Common.{◌≡◌, ◌∙◌, refl, ap, arith, List, rules}
use Rattle.share_judge.specs.Steps.{StepStart, starts_before}
use Rattle.share_judge.specs.contracts.key_map.fn.KeyMap.take_back_share.retain as closure
use Rattle.share_judge.proofs.MapStarts.{starts_rise}
use Rattle.share_judge.proofs.MapCalls.{taken_back}
use Rattle.share_judge.proofs.key_map.KeyMap.take_back_share.Goals as goal

pub invariant_of-self : goal.invariant_of-self
invariant_of-self c = let most = c.self.invariant.1 in let less = c.retain.ensures.bound in (starts_rise _ c.retain.ensures.ordered, omega (arith, most, less))

pub returns-clause-back : goal.returns-clause-back
returns-clause-back c =
    taken_back _ (λ f. (closure.captures f).share ≡ c.args.share) c.args.share (λ f k v b w f' i t. search rules) _ refl c.self.inside.steps.entries c.retain.new.self.entries c.retain.ensures.filtered
    ∙ ap (λ (ss : List StepStart). starts_before c.args.share ss) c.self.view_is

pub returns-clause-rising : goal.returns-clause-rising
returns-clause-rising c = starts_rise _ c.retain.ensures.ordered
