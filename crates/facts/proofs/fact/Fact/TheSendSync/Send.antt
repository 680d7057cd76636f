use denote.RattleType.{RattleType}
use denote.Param.Send.{IsSend}
use Rattle.facts.proofs.Sent as sent
use Rattle.facts.specs.contracts.fact.Fact.{the_row}

pub send : (T : RattleType) → IsSend (the_row T)
send = sent.fact_send
