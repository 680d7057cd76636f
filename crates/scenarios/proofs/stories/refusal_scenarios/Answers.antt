use Rattle.scenarios.proofs.stories.refusal_scenarios.Goals as goal
use Rattle.scenarios.proofs.Scenarios.{refusals_in_order, what_is_checked_first, the_last_version, the_greatest_version, what_a_proxy_has_acknowledged}

pub returns : goal.returns
returns c = record {
  in_order = refusals_in_order;
  checks = what_is_checked_first;
  last_version = the_last_version;
  greatest_version = the_greatest_version;
  acknowledged = what_a_proxy_has_acknowledged;
}
