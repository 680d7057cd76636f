use Rattle.scenarios.proofs.stories.memory_scenarios.Goals as goal
use Rattle.scenarios.proofs.Scenarios.{rows_are_remembered_for_a_proxy_that_is_late, repeats_and_replies_given_up, two_records_begun_at_once, two_proxies_meet}

pub returns : goal.returns
returns c = record {
  late_proxy = rows_are_remembered_for_a_proxy_that_is_late;
  repeats = repeats_and_replies_given_up;
  at_once = two_records_begun_at_once;
  meet = two_proxies_meet;
}
