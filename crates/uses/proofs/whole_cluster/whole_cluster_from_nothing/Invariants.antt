-- the cells of the ledger that was just made
use Rattle.uses.proofs.whole_cluster.whole_cluster_from_nothing.Given as goal

abbrev pub ghosts-in_cluster : goal.ghosts-in_cluster
ghosts-in_cluster g a = record { cells = a.blank }
