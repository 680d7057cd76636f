use Rattle.scenarios.proofs.stories.stamp_scenarios.Goals as goal
use Rattle.scenarios.proofs.Scenarios.{the_metadata_version_is_stamped, a_stamp_in_a_text, what_a_state_mutation_is}

pub returns : goal.returns
returns c = record {
  metadata_version = the_metadata_version_is_stamped;
  text = a_stamp_in_a_text;
  state = what_a_state_mutation_is;
}
