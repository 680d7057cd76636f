-- The request is held back, and served from then on.
use Rattle.std.proofs.Common.{◌≡◌, ap, ◌∙◌, inr, true}
use Rattle.workers.specs.Desks.{DeskView}
use Rattle.workers.proofs.DeskLemmas.{keeps_trans}
use Rattle.workers.proofs.desk.Desk.take.Goals as goal

pub returns-clause-keeps : goal.returns-clause-keeps
returns-clause-keeps g c = keeps_trans _ _ _ c.hold_back-told.ensures.keeps c.offer_due.ensures.keeps

pub returns-clause-served : goal.returns-clause-served
returns-clause-served g c =
    λ own sound. c.offer_due.ensures.keeps.served sound c.args.pending.plain.row (inr (c.hold_back-told.ensures.held (c.offer_due.ensures.keeps.failed sound)))

pub returns-clause-late : goal.returns-clause-late
returns-clause-late g c =
    λ closed. let was : c.self.inside.closed ≡ true = ap (λ (v : DeskView). v.closed) c.self.view_is ∙ closed in absurd (cc)
