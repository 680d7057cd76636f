use Rattle.model.proofs.Shares.Askers.{known_in_is, journal_row_alike}
use Rattle.model.proofs.Agreement.Sources.{said_by_cell, said_of_one}
use Rattle.model.proofs.Agreement.Cells.{said_in_cell}
use Rattle.model.proofs.laws.agreement.agreeing_sources_law.Goals as goal

pub returns-clause-known : goal.returns-clause-known
returns-clause-known c = known_in_is

pub returns-clause-journal : goal.returns-clause-journal
returns-clause-journal c = journal_row_alike

pub returns-clause-said : goal.returns-clause-said
returns-clause-said c = said_by_cell

pub returns-clause-in_cell : goal.returns-clause-in_cell
returns-clause-in_cell c = said_in_cell

pub returns-clause-there : goal.returns-clause-there
returns-clause-there c = said_of_one
