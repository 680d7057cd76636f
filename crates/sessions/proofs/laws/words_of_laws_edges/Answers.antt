use Rattle.sessions.proofs.EdgeLemmas.{answers_without_memory, reads_are_these, some_of_two}
use Rattle.sessions.proofs.laws.words_of_laws_edges.Goals as goal

pub returns : goal.returns
returns c = record { some = some_of_two; without_memory = answers_without_memory; reads = reads_are_these }
