-- What lies above the bound stays.
use Rattle.std.proofs.Common.{◌∙◌, min, ap}
use Rattle.share_judge.specs.Versions.{all_now}
use Rattle.share_judge.proofs.StoodFor.{forgets}
use Rattle.share_judge.proofs.write_history.WriteHistory.forget.Goals as goal

pub returns-clause-stands : goal.returns-clause-stands
returns-clause-stands c =
    forgets c.args.self.now c.sweep_if_grown.new.self c.self.inside.window c.self.inside.last c.self.inside.dropped c.max-self-inside.result c.args.oldest c.min-bound.result (all_now c.self.inside.steps) c.self.view_is c.sweep_if_grown.ensures c.self.invariant c.max-self-inside.ensures
    (c.min-bound.ensures ∙ ap (min c.args.oldest) c.saturating_sub.ensures)
