use Rattle.model.proofs.Worlds.Runs.{turn_is, journal_kept, journal_grown}
use Rattle.model.proofs.laws.proxies.proxy_journal_law.Goals as goal

pub returns : goal.returns
returns c = record { turn = turn_is; kept = journal_kept; grown = journal_grown }
