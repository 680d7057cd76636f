use Rattle.scenarios.proofs.stories.owner_scenarios.Goals as goal
use Rattle.scenarios.proofs.Scenarios.{reads_after_a_move_ask_both_owners, the_old_owner_says_conflict, dated_owners_of_three_resolvers, how_far_back_owners_are_remembered}

pub returns : goal.returns
returns c = record {
  both_owners = reads_after_a_move_ask_both_owners;
  old_owner = the_old_owner_says_conflict;
  three_resolvers = dated_owners_of_three_resolvers;
  remembered = how_far_back_owners_are_remembered;
}
