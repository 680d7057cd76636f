use Rattle.endings.proofs.Replies.{unjudged_judged, same_replies}
use Rattle.endings.proofs.laws.orders.rows_judged_alike_law.Goals as goal

pub returns : goal.returns
returns c = record { unjudged = unjudged_judged; same = same_replies }
