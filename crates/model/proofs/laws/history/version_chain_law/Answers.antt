use Rattle.model.proofs.History.Chain.{version_before, numbers_at, versions_rise, oldest_rises, own_up_to_previous}
use Rattle.model.proofs.laws.history.version_chain_law.Goals as goal

pub returns : goal.returns
returns c = record { before = version_before; numbers = numbers_at; rise = versions_rise; oldest_rises = oldest_rises; own = own_up_to_previous }
