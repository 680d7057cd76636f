-- the cells of the ledger that was just made
use Rattle.tests_threads.proofs.tests.of_agreed_ledger.a_batch_past_the_last_version_is_refused.Given as goal

abbrev pub ghosts-sequence_to_the_end : goal.ghosts-sequence_to_the_end
ghosts-sequence_to_the_end g a = record { cells = a.blank }
