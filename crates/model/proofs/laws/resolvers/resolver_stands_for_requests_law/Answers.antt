use Rattle.model.proofs.Resolvers.Growth.{new_stands, judging_adds, kept_rows_counted, kept_rows_rise, kept_replies_rise}
use Rattle.model.proofs.laws.resolvers.resolver_stands_for_requests_law.Goals as goal

pub returns : goal.returns
returns c = record { made = new_stands; judged = judging_adds; count = kept_rows_counted; rows = kept_rows_rise; replies = kept_replies_rise }
