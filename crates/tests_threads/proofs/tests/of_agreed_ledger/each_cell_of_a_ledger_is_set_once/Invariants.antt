-- the cells of the ledger that was just made
use Rattle.tests_threads.proofs.tests.of_agreed_ledger.each_cell_of_a_ledger_is_set_once.Given as goal

abbrev pub ghosts-look_at_ledger : goal.ghosts-look_at_ledger
ghosts-look_at_ledger g a = record { cells = a.blank }
