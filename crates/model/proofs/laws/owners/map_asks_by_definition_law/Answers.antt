use Rattle.model.proofs.Owners.Maps.{left_are_enough, readers_are, writers_are, answer_alike}
use Rattle.model.proofs.laws.owners.map_asks_by_definition_law.Goals as goal

pub returns : goal.returns
returns c = record { walks = left_are_enough; reads = readers_are; writes = writers_are; alike = answer_alike }
