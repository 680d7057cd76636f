use Rattle.scenarios.proofs.stories.private_scenarios.Goals as goal
use Rattle.scenarios.proofs.Scenarios.{only_servers_with_a_tag_get_copies, other_keys_get_no_copies}
use Rattle.scenarios.proofs.Scenarios.{the_tag_after_the_batch_is_taken}
use Rattle.scenarios.proofs.Scenarios.{a_cleared_tag_gets_no_copies}

pub returns : goal.returns
returns c = record {
  tagged = only_servers_with_a_tag_get_copies;
  others = other_keys_get_no_copies;
  after = the_tag_after_the_batch_is_taken;
  cleared = a_cleared_tag_gets_no_copies;
}
