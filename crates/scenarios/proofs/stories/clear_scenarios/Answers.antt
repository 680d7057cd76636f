use Rattle.scenarios.proofs.stories.clear_scenarios.Goals as goal
use Rattle.scenarios.proofs.Scenarios.{the_tags_of_a_clear, a_clear_of_everything}

pub returns : goal.returns
returns c = record { tags = the_tags_of_a_clear; everything = a_clear_of_everything }
