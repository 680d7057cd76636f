use Rattle.model.proofs.Proxies.Finishing.{world_replies, world_finish, world_journal}
use Rattle.model.proofs.laws.proxies.finish_in_world_law.Goals as goal

pub returns : goal.returns
returns c = record { replied = world_replies; answer = world_finish; journal = world_journal }
