use Rattle.model.proofs.Metadata.HeldLocks.{a_held_lock_is_in_the_metadata, a_held_lock_refuses_the_plain}
use Rattle.model.proofs.laws.outcomes.lock_stays_held_law.Goals as goal

pub returns : goal.returns
returns c = record { locked = a_held_lock_is_in_the_metadata; refused = a_held_lock_refuses_the_plain }
