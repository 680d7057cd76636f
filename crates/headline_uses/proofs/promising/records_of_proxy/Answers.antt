-- By the promise the records obey the rule of commit, and so they do by keys.
use Rattle.model.proofs.Serializability.ByKeys.{serial_by_keys}
use Rattle.locked_cluster.specs.Audits.{reached_records}
use Rattle.headline_uses.proofs.promising.records_of_proxy.Goals as goal

pub returns-clause-serial : goal.returns-clause-serial
returns-clause-serial g c = (serial_by_keys g.N.Naming.cells.config (reached_records c.args.one.now)).0 c.metadata_of_two.ensures.mine_is.serial
