use Rattle.std.proofs.Common.{subst}
use Rattle.std.specs.Prelude.{MatchOption}
use Rattle.facts.specs.declared.fact.Fact.{Fact}
use Rattle.facts.specs.Stretches.{HasAt, Lacks, Stretch}
use Rattle.model.specs.Records.{Record}
use Rattle.agreed_ledger.proofs.StretchLaws.{cell_get, values_get}
use Rattle.agreed_ledger.proofs.records.Records.fact.Goals as goal

pub returns-clause-value : goal.returns-clause-value
returns-clause-value g c =
    subst (λ (s : Stretch Record). MatchOption c.get.result (Lacks s c.args.row) (λ (fact : Fact Record). HasAt s c.args.row fact.value)) c.self.view_is
    (values_get c.self.inside.stretch c.args.row c.get.result c.get.ensures)

pub returns-clause-cell : goal.returns-clause-cell
returns-clause-cell g c = cell_get g.N.Naming.cells.records c.self.inside.stretch c.args.row c.get.result c.self.invariant c.get.ensures
