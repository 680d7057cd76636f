-- the cells of the ledger that was just made
use Rattle.tests_threads.proofs.tests.of_agreed_ledger.four_threads_see_the_records_that_a_fifth_sequences.Given as goal

abbrev pub ghosts-look_in_threads : goal.ghosts-look_in_threads
ghosts-look_in_threads g a = record { cells = a.blank }
