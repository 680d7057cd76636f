use Rattle.model.proofs.Worlds.Runs.{completed_told, judged_told, again_told}
use Rattle.model.proofs.laws.worlds.answers_of_history_law.Goals as goal

pub returns : goal.returns
returns c = record { completed = completed_told; judged = judged_told; again = again_told }
