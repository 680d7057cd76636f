-- The transactions that are left give, from the metadata so far, what all give.
use Rattle.std.proofs.Common.{◌≡◌, drop, fold}
use Rattle.model.specs.Metadata.{after_state}
use Rattle.metadata.proofs.kept_entries.KeptEntries.apply_states.Given as goal

abbrev pub invariant-loop-transaction : goal.invariant-loop-transaction
invariant-loop-transaction l = fold (after_state l.locked) l.self (drop l.transaction-index l.states) ≡ fold (after_state l.locked) l.fn.self l.states
