-- The journals of proxies that meet as Same are the same.
use Rattle.std.proofs.Common.{◌∙◌}
use Rattle.headline_uses.proofs.showing.journal_of_other.Goals as goal

pub returns-in-Same-clause-other : goal.returns-in-Same-clause-other
returns-in-Same-clause-other g c = c.journal.ensures.value ∙ c.in-Same.ensures.1
