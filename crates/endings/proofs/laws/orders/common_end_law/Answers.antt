use Rattle.endings.proofs.Orders.{orders_meet}
use Rattle.endings.proofs.laws.orders.common_end_law.Goals as goal

pub returns : goal.returns
returns c = orders_meet
