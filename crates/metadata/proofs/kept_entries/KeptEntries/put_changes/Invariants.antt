-- What is left gives, from the entries so far, what all gives; what was displaced takes back what is put; and the servers stay.
use Rattle.std.proofs.Common.{◌≡◌, drop}
use Rattle.model.specs.Metadata.{Entries, after_changes}
use Rattle.metadata.specs.Overwrites.{TakesBack}
use Rattle.metadata.specs.SameServers.{HaveSameServers}
use Rattle.metadata.proofs.kept_entries.KeptEntries.put_changes.Given as goal

abbrev pub invariant-loop-change : goal.invariant-loop-change
invariant-loop-change l = record {
  told : after_changes l.self (drop l.change-index l.changes) ≡ after_changes l.fn.self l.changes;
  takes : (before : Entries) → TakesBack l.fn.displaced.items before l.fn.self → TakesBack l.displaced.items before l.self;
  servers : HaveSameServers l.fn.self l.self;
}
