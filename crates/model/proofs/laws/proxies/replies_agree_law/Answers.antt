use Rattle.model.proofs.Proxies.AgreeingReplies.{one_list, agreeing_do_not, agree_on_told}
use Rattle.model.proofs.laws.proxies.replies_agree_law.Goals as goal

pub returns : goal.returns
returns c = record { unique = one_list; agree = agreeing_do_not; told = agree_on_told }
