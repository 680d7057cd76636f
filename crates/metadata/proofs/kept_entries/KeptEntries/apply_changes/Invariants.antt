-- The changes that are left give, from the metadata so far, what all give.
use Rattle.std.proofs.Common.{◌≡◌, drop}
use Rattle.model.specs.Metadata.{after_changes}
use Rattle.metadata.proofs.kept_entries.KeptEntries.apply_changes.Given as goal

abbrev pub invariant-loop-change : goal.invariant-loop-change
invariant-loop-change l = after_changes l.self (drop l.change-index l.changes) ≡ after_changes l.fn.self l.changes
