use Rattle.scenarios.proofs.stories.verdict_scenarios.Goals as goal
use Rattle.scenarios.proofs.Scenarios.{the_edge_of_the_window, two_orders_in_a_batch, a_false_conflict_through_two_resolvers, shares_judged}

pub returns : goal.returns
returns c = record {
  window = the_edge_of_the_window;
  orders = two_orders_in_a_batch;
  false_conflict = a_false_conflict_through_two_resolvers;
  shares = shares_judged;
}
