-- The state mutations so far.
use Rattle.std.proofs.Common.{◌≡◌, filter, take}
use Rattle.system_keys.specs.Changes.{is_state}
use Rattle.mutation.proofs.stamped.Stamped.state_mutations.Given as goal

abbrev pub invariant-loop-change : goal.invariant-loop-change
invariant-loop-change l = l.mutations.items ≡ filter is_state (take l.change-index l.self.changes)
