use Rattle.model.proofs.Owners.Maps.{new_stands, move_adds_one, forgetting_keeps, same_left}
use Rattle.model.proofs.laws.owners.map_stands_for_moves_law.Goals as goal

pub returns : goal.returns
returns c = record { made = new_stands; moved = move_adds_one; forgotten = forgetting_keeps; left = same_left }
