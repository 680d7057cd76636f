-- What is left gives, from the entries so far, what all gives; what was displaced takes back what is put; and the servers stay.
use Rattle.std.proofs.Common.{◌≡◌, drop, fold}
use Rattle.model.specs.Metadata.{Entries, after_state}
use Rattle.metadata.specs.Overwrites.{TakesBack}
use Rattle.metadata.specs.SameServers.{HaveSameServers}
use Rattle.metadata.proofs.kept_entries.KeptEntries.put_states.Given as goal

abbrev pub invariant-loop-transaction : goal.invariant-loop-transaction
invariant-loop-transaction l = record {
  told : fold (after_state l.locked) l.self (drop l.transaction-index l.states) ≡ fold (after_state l.locked) l.fn.self l.states;
  takes : (before : Entries) → TakesBack l.fn.displaced.items before l.fn.self → TakesBack l.displaced.items before l.self;
  servers : HaveSameServers l.fn.self l.self;
}
