-- What tells the same for the steps does so for both.
use Rattle.share_judge.specs.declared.step.Step.{Step}
use Rattle.share_judge.proofs.VersionCalls.{steps_same}
use Rattle.share_judge.proofs.version_map.VersionMap.remove_repeated_starts.Goals as goal

pub returns-clause-same : goal.returns-clause-same
returns-clause-same c =
    steps_same (λ (step : Step). step.version) c.args.self.now c.self.inside.steps c.self.inside.keys c.remove_repeated_starts.new.self c.self.view_is c.self.invariant.steps c.self.invariant.keys (c.remove_repeated_starts.ensures.rising c.self.invariant.steps) c.remove_repeated_starts.ensures.same
