use Rattle.endings.proofs.Distances.{none_known, known_up_to, later_knows_more}
use Rattle.endings.proofs.laws.distances.known_rows_law.Goals as goal

pub returns : goal.returns
returns c = record { none = none_known; known = known_up_to; later = later_knows_more }
