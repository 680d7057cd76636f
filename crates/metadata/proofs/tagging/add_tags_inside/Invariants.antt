-- The tags of the entries that are left and not hidden, added to those so far, give what all entries of the range give; and those that are left are at the back of these.
use Rattle.std.proofs.Common.{◌≡◌, flat_map, filter, length}
use Rattle.model.specs.Metadata.{IsInOrder, entry_tags, key_servers_entries, is_entry_inside}
use Rattle.metadata.proofs.Tags.{added}
use Rattle.metadata.proofs.KeptTags.{AreRows}
use Rattle.metadata.proofs.HiddenRuns.{IsBack, inside_rows}
use Rattle.metadata.proofs.ServingEntries.{is_left}
use Rattle.metadata.proofs.tagging.add_tags_inside.Given as goal

abbrev pub invariant-loop-key : goal.invariant-loop-key
invariant-loop-key l = record {
  added :
      added l.tags.keys (flat_map (entry_tags l.entries) (filter (is_left l.entries-inside.hidden.now) l.inside))
      ≡ added l.fn.tags.keys (flat_map (entry_tags l.entries) (filter (is_entry_inside l.range) (key_servers_entries l.entries)));
  rows : AreRows l.entries-inside.entries.now l.inside;
  back : IsBack l.inside (inside_rows l.range l.entries-inside.entries.now);
  order : IsInOrder l.entries-inside.entries.now;
}

abbrev pub decreases-loop-key : goal.decreases-loop-key
decreases-loop-key l = length l.inside
