use Rattle.agreed_ledger.proofs.Tickets.{tickets_continue, batches_have_the_move_before}
use Rattle.agreed_ledger.proofs.laws.sequencing_loses_nothing_law.Goals as goal

pub returns-clause-tickets : goal.returns-clause-tickets
returns-clause-tickets c = tickets_continue

pub returns-clause-moves : goal.returns-clause-moves
returns-clause-moves c = batches_have_the_move_before
