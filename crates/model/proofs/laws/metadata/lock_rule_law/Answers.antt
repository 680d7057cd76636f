use Rattle.model.proofs.Metadata.Entries.{row_let_pass}
use Rattle.model.proofs.Metadata.Applied.{let_pass_iff}
use Rattle.model.proofs.laws.metadata.lock_rule_law.Goals as goal

pub returns-clause-passes : goal.returns-clause-passes
returns-clause-passes c = let_pass_iff

pub returns-clause-changes : goal.returns-clause-changes
returns-clause-changes c = row_let_pass
