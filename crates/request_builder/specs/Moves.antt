-- Moves that are kept in chunks.
use Rattle.std.specs.Prelude.{List}
use Rattle.std.specs.List.{flat_map}
use Rattle.std.specs.Arc.{arc_value}
use Rattle.std.specs.declared.sync.Arc.{Arc}
use Rattle.model.specs.declared.moves.Move.{Move}

-- the moves of all chunks, in order
abbrev pub moves_in : {Z : Type 0} → List (Arc (List Move) Z) → List Move
moves_in chunks = flat_map arc_value chunks
