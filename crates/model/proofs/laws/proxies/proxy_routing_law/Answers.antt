use Rattle.model.proofs.Proxies.Routings.{routing_is_of_its_journal, only_its_finish_changes_the_routing, a_finish_brings_its_version}
use Rattle.model.proofs.laws.proxies.proxy_routing_law.Goals as goal

pub returns : goal.returns
returns c = record { own = routing_is_of_its_journal; kept = only_its_finish_changes_the_routing; version = a_finish_brings_its_version }
