use Rattle.endings.proofs.Orders.{one_world, ends_alike, proxy_ends_alike}
use Rattle.endings.proofs.laws.orders.one_end_law.Goals as goal

pub returns : goal.returns
returns c = record { one = one_world; alike = ends_alike; proxy = proxy_ends_alike }
