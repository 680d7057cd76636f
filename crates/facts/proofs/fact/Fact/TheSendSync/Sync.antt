use denote.RattleType.{RattleType}
use denote.Param.Send.{IsSync}
use Rattle.facts.proofs.Sent as sent
use Rattle.facts.specs.contracts.fact.Fact.{the_row}

pub sync : (T : RattleType) → IsSync (the_row T)
sync = sent.fact_sync
