use Rattle.model.proofs.Owners.FiniteTests.{asks_write_iff, asks_read_iff}
use Rattle.model.proofs.laws.owners.finite_asking_tests_law.Goals as goal

pub returns-clause-writes : goal.returns-clause-writes
returns-clause-writes c = asks_write_iff

pub returns-clause-reads : goal.returns-clause-reads
returns-clause-reads c = asks_read_iff
