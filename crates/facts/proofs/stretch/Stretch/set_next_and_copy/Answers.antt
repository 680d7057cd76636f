use Rattle.std.proofs.Common.{rules}
use Rattle.facts.proofs.stretch.Stretch.set_next_and_copy.Goals as goal

pub returns-clause-gained : goal.returns-clause-gained
returns-clause-gained g c = (c.in_ok-fact.fact, search rules, search rules, search rules)
