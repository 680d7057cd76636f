-- By its type the answer has the cells, and they hold the definition's verdicts.
use Rattle.model.specs.Journal.{list_at}
use Rattle.headline_uses.proofs.JudgedCells.{has_verdicts}
use Rattle.headline_uses.proofs.showing.columns_of_answer.Goals as goal

pub returns-clause-verdicts : goal.returns-clause-verdicts
returns-clause-verdicts g c = λ r there.
    let answer = c.args.answer.now in
    let noted = c.records-records.ensures.kept in
    has_verdicts g.N.Naming.cells.config answer.records r (list_at answer.columns r) (noted.cells r there) (noted.verdicts r there)
