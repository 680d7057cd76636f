use Rattle.model.proofs.edges.record_edges.Goals as goal
use Rattle.model.proofs.EdgeCases.{the_dates_of_moves, the_owners_after_a_move}
use Rattle.model.proofs.EdgeCases.{the_oldest_version_of_a_record, the_shares_of_a_record}
use Rattle.model.proofs.EdgeCases.{the_resolvers_asked_of_three, the_requests_for_a_record}
use Rattle.model.proofs.EdgeCases.{the_journal_row_of_a_record}

pub returns : goal.returns
returns c = record {
  dates = the_dates_of_moves;
  owners = the_owners_after_a_move;
  oldest = the_oldest_version_of_a_record;
  shares = the_shares_of_a_record;
  three_resolvers = the_resolvers_asked_of_three;
  requests = the_requests_for_a_record;
  journal_row = the_journal_row_of_a_record;
}
