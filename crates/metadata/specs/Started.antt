-- Rows of a journal that are being applied to a metadata, and can be taken back until all is done.
use Rattle.std.specs.Prelude.{◌≡◌, List, Bool, false, fold}
use Rattle.system_keys.specs.Keys.{Key}
use Rattle.model.specs.declared.journal.JournalRow.{JournalRow}
use Rattle.model.specs.Metadata.{Entries, IsInOrder, AreKept, entry_value}
use Rattle.model.specs.Metadata.{after_journal_row}
use Rattle.metadata.specs.Overwrites.{Displaced, TakesBack, entries_without}
use Rattle.metadata.specs.CachedTags.{may_tag_some}
use Rattle.metadata.specs.ServerTables.{ServersTakeBack}

-- the metadata after some rows of the journal, one after another
abbrev pub after_rows : Entries → List JournalRow → Entries
after_rows entries rows = fold after_journal_row entries rows

-- What contracts see of rows that were started: the keys whose entries are still to be removed; what
-- stood where entries were put; the keys of the serverTag entries that were put; and the lock before
-- the last row.
pub record Started : Type 0 where
  pub removed : List Key
  pub displaced : List Displaced
  pub servers : List Key
  pub locked : Bool

-- The metadata is `now` because rows were started. It was `before`, and what takes back the entries
-- that were put gives that again; without those that are still to be removed it is `after`. None of
-- these gives a server a tag, so the tags of the rows are already those after.
pub record IsStarted (started : Started) (before after now : Entries) : Type 0 where
  pub left : entries_without started.removed now ≡ after
  pub takes : TakesBack started.displaced before now
  pub order : IsInOrder before
  pub kept : AreKept before
  pub servers : ServersTakeBack started.servers (entry_value before) (entry_value now)
  pub blank_server_tags : may_tag_some now started.removed ≡ false

-- the metadata is as it is because these rows were started, whatever it was before
pub record HasStarted (started : Started) (now : Entries) : Type 0 where
  pub before : Entries
  pub after : Entries
  pub is : IsStarted started before after now
