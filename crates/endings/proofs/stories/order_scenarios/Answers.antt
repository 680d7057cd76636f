use Rattle.endings.proofs.Scenarios.{two_orders_end_alike, a_proxy_waits_for_a_resolver, what_is_left_in_order, rows_remembered_for_the_slowest}
use Rattle.endings.proofs.stories.order_scenarios.Goals as goal

pub returns : goal.returns
returns c = record {
  alike = two_orders_end_alike;
  waits = a_proxy_waits_for_a_resolver;
  left = what_is_left_in_order;
  remembered = rows_remembered_for_the_slowest;
}
