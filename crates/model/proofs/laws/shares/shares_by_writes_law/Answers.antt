use Rattle.model.proofs.Shares.ByWrites.{new_stands, verdicts_of_share, shares_add, forgetting_keeps, forgotten_unchanged}
use Rattle.model.proofs.laws.shares.shares_by_writes_law.Goals as goal

pub returns : goal.returns
returns c = record { made = new_stands; verdicts = verdicts_of_share; judged = shares_add; forgotten = forgetting_keeps; unchanged = forgotten_unchanged }
