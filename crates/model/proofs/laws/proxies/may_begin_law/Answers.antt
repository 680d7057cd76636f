use Rattle.model.proofs.Proxies.Beginning.{a_later_record_may_begin}
use Rattle.model.proofs.laws.proxies.may_begin_law.Goals as goal

pub returns : goal.returns
returns c = a_later_record_may_begin
