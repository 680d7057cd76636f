-- A sweep changes no write.
use Rattle.std.proofs.Common.{◌∙◌}
use Rattle.share_judge.specs.declared.step.Step.{Step}
use Rattle.share_judge.specs.Versions.{all_now}
use Rattle.share_judge.proofs.WithKeys.{all_rising}
use Rattle.share_judge.proofs.KeptWrites.{swept_kept}
use Rattle.share_judge.proofs.VersionCalls.{swept_last, swept_past}
use Rattle.share_judge.proofs.StoodFor.{swept_seen}
use Rattle.share_judge.proofs.write_history.WriteHistory.sweep_if_grown.Goals as goal

pub invariant_of-self : goal.invariant_of-self
invariant_of-self c =
    let swept = c.sweep.ensures in
    swept_kept c.self.inside.last c.self.inside.dropped (all_now c.self.inside.steps) (all_now c.sweep.new.self) c.self.invariant (all_rising (λ (step : Step). step.version) c.sweep.new.self swept.order)
    (swept_past c.self.inside.dropped c.self.inside.steps c.sweep.new.self swept.old swept.order swept.steps c.self.invariant.past)
    (swept_last c.self.inside.dropped c.self.inside.steps c.sweep.new.self swept.old swept.order swept.steps swept.keys)

pub returns-then-len-max : goal.returns-then-len-max
returns-then-len-max c =
    let swept = c.sweep.ensures in
    swept_seen c.self.inside.window c.self.inside.last c.self.inside.dropped (all_now c.self.inside.steps) (all_now c.sweep.new.self) c.self.invariant.rising (all_rising (λ (step : Step). step.version) c.sweep.new.self swept.order)
    (swept_last c.self.inside.dropped c.self.inside.steps c.sweep.new.self swept.old swept.order swept.steps swept.keys)
    ∙ c.self.view_is
