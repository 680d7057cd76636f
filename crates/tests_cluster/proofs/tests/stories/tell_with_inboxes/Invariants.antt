-- the channels of the inboxes that were just made
use Rattle.tests_cluster.proofs.tests.stories.tell_with_inboxes.Given as goal

abbrev pub ghosts-tell_with : goal.ghosts-tell_with
ghosts-tell_with g a = record { places = a.blank }
