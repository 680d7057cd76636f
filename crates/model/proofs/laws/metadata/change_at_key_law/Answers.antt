use Rattle.model.proofs.Metadata.Changes.{changed_set, changed_other, changed_not_kept, changed_cleared, changed_left}
use Rattle.model.proofs.laws.metadata.change_at_key_law.Goals as goal

pub returns : goal.returns
returns c = record { set = changed_set; other = changed_other; not_kept = changed_not_kept; cleared = changed_cleared; left = changed_left }
