-- A send keeps the rule.
use Rattle.inboxes.proofs.Moves.{sends}
use Rattle.inboxes.proofs.rule.send.Goals as goal

pub send_as-requires-clause-rule : goal.send_as-requires-clause-rule
send_as-requires-clause-rule g c = (sends _ _ _ _ c.requires.sender c.requires.mine, λ items views h at. tt)
