use Rattle.threads_lines.proofs.LawLemmas.{memory_ends_so, others_end_so}
use Rattle.threads_lines.proofs.laws.status_of_fault_law.Goals as goal

pub returns-clause-memory : goal.returns-clause-memory
returns-clause-memory g c = memory_ends_so

pub returns-clause-others : goal.returns-clause-others
returns-clause-others g c = others_end_so
