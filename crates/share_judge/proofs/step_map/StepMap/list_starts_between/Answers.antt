-- The keys of the entries of the range are those between.
use Rattle.std.proofs.Common.{◌∙◌, ◌++◌, ap, List}
use Rattle.std.specs.Map.{keys_of}
use Rattle.system_keys.specs.Keys.{Key}
use Rattle.share_judge.specs.Steps.{StepStart, keys_between}
use Rattle.share_judge.proofs.MapCalls.{between_held}
use Rattle.share_judge.proofs.step_map.StepMap.list_starts_between.Goals as goal

pub loop-key-init : goal.loop-key-init
loop-key-init c =
    ap (λ (more : List Key). c.args.keys.now.items ++ more)
    (ap keys_of
    (c.into_iter-key-iterator.ensures.into_iter_gives ∙ c.range-key-items.ensures.between tt
    ∙ between_held c.self.inside.steps.entries c.args.begin.now c.args.end.now)
    ∙ ap (λ (ss : List StepStart). keys_between c.args.begin.now c.args.end.now ss) c.self.view_is)
