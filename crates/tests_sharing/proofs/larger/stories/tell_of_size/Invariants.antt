-- the cells of the ledger that was just made
use Rattle.tests_sharing.proofs.larger.stories.tell_of_size.Given as goal

abbrev pub ghosts-tell_over : goal.ghosts-tell_over
ghosts-tell_over g a = record { cells = a.blank }
