-- A receive keeps the rule.
use Rattle.inboxes.proofs.Moves.{takes}
use Rattle.inboxes.proofs.rule.take_one.Goals as goal

pub recv_as-requires-clause-rule : goal.recv_as-requires-clause-rule
recv_as-requires-clause-rule g c = (takes _ _ c.requires.worker, λ items views h at. tt)
