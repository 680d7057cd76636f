use Rattle.model.proofs.Agreement.Sources.{journal_append, journal_push, journal_take}
use Rattle.model.proofs.laws.journal.journal_prefix_law.Goals as goal

pub returns : goal.returns
returns c = record { longer = journal_append; next = journal_push; first = journal_take }
