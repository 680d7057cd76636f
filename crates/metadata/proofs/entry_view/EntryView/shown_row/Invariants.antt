-- The last entry that is left and not hidden serves the key; each is a row of the map; and they become fewer.
use Rattle.std.proofs.Common.{◌≡◌, length, None}
use Rattle.model.specs.Metadata.{IsInOrder, serving_entry, key_servers_entries}
use Rattle.metadata.specs.Overwrites.{entries_without}
use Rattle.metadata.proofs.ServingEntries.{last_left}
use Rattle.metadata.proofs.KeptTags.{AreRows}
use Rattle.metadata.proofs.HiddenRuns.{IsFront, own_rows}
use Rattle.metadata.proofs.entry_view.EntryView.shown_row.Given as goal

abbrev pub invariant-loop-found : goal.invariant-loop-found
invariant-loop-found l = record {
  last :
      last_left None l.self-inside.hidden.now l.up_to
      ≡ serving_entry (key_servers_entries (entries_without l.self-inside.hidden.now l.self-inside.entries.now)) l.key;
  rows : AreRows l.self-inside.entries.now l.up_to;
  front : IsFront l.up_to (own_rows l.self-inside.entries.now);
  order : IsInOrder l.self-inside.entries.now;
}

abbrev pub decreases-loop-found : goal.decreases-loop-found
decreases-loop-found l = length l.up_to
