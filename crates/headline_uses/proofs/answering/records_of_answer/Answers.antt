-- By the promise the records obey the rule of commit, and so they do by keys.
use Rattle.model.proofs.Serializability.ByKeys.{serial_by_keys}
use Rattle.headline_uses.proofs.answering.records_of_answer.Goals as goal

pub returns-clause-serial : goal.returns-clause-serial
returns-clause-serial g c = (serial_by_keys g.N.Naming.cells.config c.args.answer.now.records).0 c.metadata_of_two.ensures.answer_is.serial
