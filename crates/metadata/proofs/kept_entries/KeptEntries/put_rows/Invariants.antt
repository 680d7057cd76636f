-- What is left gives, from the entries so far, what all gives; what was displaced takes back what is put; and the servers stay.
use Rattle.std.proofs.Common.{◌≡◌, drop}
use Rattle.model.specs.Metadata.{Entries}
use Rattle.metadata.specs.Started.{after_rows}
use Rattle.metadata.specs.Overwrites.{TakesBack}
use Rattle.metadata.specs.SameServers.{HaveSameServers}
use Rattle.metadata.proofs.kept_entries.KeptEntries.put_rows.Given as goal

abbrev pub invariant-loop-row : goal.invariant-loop-row
invariant-loop-row l = record {
  told : after_rows l.self (drop l.row-index l.rows) ≡ after_rows l.fn.self l.rows;
  takes : (before : Entries) → TakesBack l.fn.displaced.items before l.fn.self → TakesBack l.displaced.items before l.self;
  servers : HaveSameServers l.fn.self l.self;
}
