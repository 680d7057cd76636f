-- The entries of the range are those of the keys in it.
use Rattle.std.proofs.Common.{◌∙◌, ap, List, nat_lt}
use Rattle.std.specs.List.{list_any}
use Rattle.system_keys.specs.Keys.{holds}
use Rattle.share_judge.specs.declared.step.Step.{Step}
use Rattle.share_judge.specs.Steps.{Start, StepStart, has_start_above, starts_now}
use Rattle.share_judge.proofs.MapCalls.{between_held}
use Rattle.share_judge.proofs.Readings.{read_passing}
use Rattle.share_judge.proofs.key_map.KeyMap.has_version_above.Goals as goal

pub loop-step-init : goal.loop-step-init
loop-step-init c =
    ap (λ (left : List StepStart). list_any (λ (s : Start). nat_lt c.args.bound s.1) (starts_now left))
    (c.into_iter-step-iterator.ensures.into_iter_gives ∙ c.range-step-items.ensures.between tt
    ∙ between_held c.self.inside.steps.entries c.args.begin.now c.args.end.now)
    ∙ ap (list_any (λ (s : Start). nat_lt c.args.bound s.1)) (read_passing (λ (step : Step). step.version) (holds (record { begin = c.args.begin.now; end = c.args.end.now })) c.self.inside.steps.entries)
    ∙ ap (λ (ss : List StepStart). has_start_above c.args.bound (starts_now ss) (record { begin = c.args.begin.now; end = c.args.end.now })) c.self.view_is
