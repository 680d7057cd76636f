use Rattle.std.proofs.Common.{length, subst}
use Rattle.facts.specs.Stretches.{Stretch}
use Rattle.model.specs.Records.{Record}
use Rattle.agreed_ledger.specs.Cells.{IsWithin}
use Rattle.agreed_ledger.proofs.StretchLaws.{values_within}
use Rattle.agreed_ledger.proofs.records.Records.end.Goals as goal

pub returns-clause-within : goal.returns-clause-within
returns-clause-within g c =
    let cells = g.N.Naming.cells.records in
    subst (λ (s : Stretch Record). IsWithin (length cells) s) c.self.view_is (values_within cells c.self.inside.stretch c.self.invariant)
