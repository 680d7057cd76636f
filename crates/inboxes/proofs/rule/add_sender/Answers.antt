-- A new pass keeps the rule.
use Rattle.inboxes.proofs.Moves.{forks}
use Rattle.inboxes.proofs.rule.add_sender.Goals as goal

pub another-requires-clause-rule : goal.another-requires-clause-rule
another-requires-clause-rule g c = forks _ _ c.requires.worker
