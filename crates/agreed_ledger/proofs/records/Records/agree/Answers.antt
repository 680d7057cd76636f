use Rattle.agreed_ledger.proofs.StretchLaws.{about_agree}
use Rattle.agreed_ledger.proofs.records.Records.agree.Goals as goal

pub agree-requires : goal.agree-requires
agree-requires g c = about_agree g.N.Naming.cells.records c.self.inside.stretch c.other.inside.stretch c.self.invariant c.other.invariant
