-- The starts that are counted begin the steps.
use Rattle.std.proofs.Common.{◌∙◌, sym, ap}
use Rattle.model.specs.WriteHistories.{WriteHistoryView, last_at}
use Rattle.share_judge.specs.Versions.{all_now}
use Rattle.share_judge.proofs.Counted.{counted}
use Rattle.share_judge.proofs.KeptWrites.{last_kept}
use Rattle.share_judge.proofs.write_history.WriteHistory.steps.Goals as goal

pub returns : goal.returns
returns c =
    counted c.self.inside.dropped c.count.result (all_now c.self.inside.steps) (last_at c.args.self.now.writes) c.self.invariant.rising
    (λ key. sym (ap (λ (h : WriteHistoryView). last_at h.writes key) c.self.view_is) ∙ last_kept c.self.inside.dropped (all_now c.self.inside.steps) key c.self.invariant.rising c.self.invariant.past)
    c.count.ensures
