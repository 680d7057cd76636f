-- A new inbox keeps the rule.
use Rattle.inboxes.proofs.Moves.{starts}
use Rattle.inboxes.proofs.rule.make_inbox.Goals as goal

pub bounded_with-requires-clause-rule : goal.bounded_with-requires-clause-rule
bounded_with-requires-clause-rule g c = starts
