-- the channels of the inboxes that were just made
use Rattle.tests_cluster.proofs.asking.stories.make_inboxes.Given as goal

abbrev pub ghosts-try_out : goal.ghosts-try_out
ghosts-try_out g a = record { places = a.blank }
