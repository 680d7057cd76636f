use Rattle.sessions.proofs.EventLemmas.{goes_on_by_more}
use Rattle.sessions.proofs.LawLemmas.{known_goes_on}
use Rattle.sessions.proofs.laws.known_device_law.Goals as goal

pub returns-clause-known : goal.returns-clause-known
returns-clause-known g c = known_goes_on

pub returns-clause-in_turn : goal.returns-clause-in_turn
returns-clause-in_turn g c = goes_on_by_more
