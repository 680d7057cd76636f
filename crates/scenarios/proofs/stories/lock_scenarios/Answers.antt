use Rattle.scenarios.proofs.stories.lock_scenarios.Goals as goal
use Rattle.scenarios.proofs.Scenarios.{the_lock_over_two_proxies, a_state_transaction_under_the_lock, the_lock_is_taken_off, too_old_under_the_lock}

pub returns : goal.returns
returns c = record {
  plain = the_lock_over_two_proxies;
  state = a_state_transaction_under_the_lock;
  taken_off = the_lock_is_taken_off;
  too_old = too_old_under_the_lock;
}
