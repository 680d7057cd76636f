use Rattle.dated_owners.proofs.OneCount.{pieces_have_one_count, a_move_makes_three_pieces}
use Rattle.dated_owners.proofs.laws.one_count_of_pieces_law.Goals as goal

pub returns-clause-one_count : goal.returns-clause-one_count
returns-clause-one_count c = pieces_have_one_count

pub returns-clause-scenario : goal.returns-clause-scenario
returns-clause-scenario c = a_move_makes_three_pieces
