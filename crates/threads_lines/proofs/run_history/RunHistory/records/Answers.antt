-- The type keeps a history.
use Rattle.std.proofs.Common.{subst}
use Rattle.model.specs.Records.{IsHistory}
use Rattle.threads_lines.specs.Histories.{Known}
use Rattle.threads_lines.proofs.run_history.RunHistory.records.Goals as goal

pub returns-clause-kept : goal.returns-clause-kept
returns-clause-kept g c = subst (λ (known : Known). IsHistory g.N.Naming.cells.config known.records) c.self.view_is c.self.invariant.1
