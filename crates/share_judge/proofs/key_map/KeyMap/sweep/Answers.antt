-- What is left by the calls of the closure, one after another.
use Rattle.std.proofs.Common.{◌≡◌, ◌∙◌, refl, ap, arith, filter, nat_lt, rules}
use Rattle.share_judge.specs.Steps.{StepStart}
use Rattle.share_judge.specs.contracts.key_map.fn.KeyMap.sweep.retain as closure
use Rattle.share_judge.proofs.MapStarts.{starts_rise}
use Rattle.share_judge.proofs.MapCalls.{kept_above}
use Rattle.share_judge.proofs.key_map.KeyMap.sweep.Goals as goal

pub invariant_of-self : goal.invariant_of-self
invariant_of-self c = let most = c.self.invariant.1 in let less = c.retain.ensures.bound in (starts_rise _ c.retain.ensures.ordered, omega (arith, most, less))

pub returns-clause-keys : goal.returns-clause-keys
returns-clause-keys c =
    kept_above _ (λ f. (closure.captures f).bound ≡ c.args.bound) c.args.bound (λ f k v b w f' i t. search rules) _ refl c.self.inside.steps.entries c.retain.new.self.entries c.retain.ensures.filtered
    ∙ ap (filter (λ (key : StepStart). nat_lt c.args.bound key.1.version)) c.self.view_is

pub returns-clause-rising : goal.returns-clause-rising
returns-clause-rising c = starts_rise _ c.retain.ensures.ordered
