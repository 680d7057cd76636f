use Rattle.endings.proofs.Distances.{journal_is_prefix, ahead_journal, ahead_metadata}
use Rattle.endings.proofs.laws.distances.journals_are_prefixes_law.Goals as goal

pub returns : goal.returns
returns c = record { prefix = journal_is_prefix; journal = ahead_journal; metadata = ahead_metadata }
