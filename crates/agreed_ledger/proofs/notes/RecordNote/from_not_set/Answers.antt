use Rattle.once_cell.specs.Once.{cell_name}
use Rattle.agreed_ledger.proofs.StretchLaws.{taken_cell}
use Rattle.agreed_ledger.proofs.notes.RecordNote.from_not_set.Goals as goal

pub from_fact-requires-clause-cell : goal.from_fact-requires-clause-cell
from_fact-requires-clause-cell g c = taken_cell c.args.why c.in-Taken.fact (cell_name c.args.cell.now) c.in-Taken.is c.requires.taken
