-- The fold of a journal, the lock, and the tags of keys.
use Rattle.std.specs.Prelude.{◌≡◌, List, [], ◌∷◌, ◌++◌, map, codes, true, false, None}
use Rattle.system_keys.specs.declared.change.Change.TheVariants as changes
use Rattle.model.specs.declared.verdict.Verdict.TheVariants.{Conflict, Committed}
use Rattle.model.specs.declared.journal.JournalRow.{JournalRow}
use Rattle.model.specs.Transactions.{locked_key}
use Rattle.model.specs.Metadata.{metadata, tags, tags_of_key, routing}
use Rattle.model.specs.Examples.{a, m, range, tag, far_tag, s1, s2, one_source, listing}
use Rattle.model.specs.Examples.{source_and_destination, tag_row, servers_row, version_row}
use Rattle.model.specs.Examples.{committed_by, journal_row_of}
use Rattle.scenarios.specs.Vocabulary.{tag_bytes, route}

-- no rows: nothing is locked, routed or tagged
abbrev pub AnEmptyJournal : Type 0
AnEmptyJournal =
    (routing 0 (metadata [])
    ≡ record { version = 0; locked = false; metadata_version = None; routes = [] })
    × (tags_of_key (metadata []) a ≡ [])

abbrev pub two_routes : List JournalRow
two_routes =
    journal_row_of 10
    (committed_by 2 true
    (changes.Set (tag_row s1) (tag_bytes 1) ∷ changes.Set (tag_row s2) (tag_bytes 2)
    ∷ changes.Set (servers_row []) (one_source s1) ∷ changes.Set (servers_row m) (one_source s2)
    ∷ []) ∷ []) ∷ []

-- two keyServers rows: the boundary belongs to the right one
abbrev pub TheBoundaryBelongsToTheRightRow : Type 0
TheBoundaryBelongsToTheRightRow =
    (routing 10 (metadata two_routes)
    ≡ record {
      version = 10;
      locked = false;
      metadata_version = None;
      routes = route [] (tag 1 ∷ []) ∷ route m (tag 2 ∷ []) ∷ [];
    })
    × (map (tags_of_key (metadata two_routes)) (a ∷ m ∷ codes "z" ∷ [])
    ≡ (tag 1 ∷ []) ∷ (tag 2 ∷ []) ∷ (tag 2 ∷ []) ∷ [])

abbrev pub refused_by_one : List JournalRow
refused_by_one =
    journal_row_of 10
    ((record {
      mutations = changes.Set (servers_row []) (one_source s1) ∷ [];
      lock_aware = false;
      verdicts = Committed ∷ Conflict ∷ [];
    }) ∷ []) ∷ []

-- a transaction that one resolver refused is not applied
abbrev pub OneResolverRefuses : Type 0
OneResolverRefuses =
    (routing 10 (metadata refused_by_one)
    ≡ record { version = 10; locked = false; metadata_version = None; routes = [] })
    × (tags_of_key (metadata refused_by_one) a ≡ [])

abbrev pub locked_once_a_row : List JournalRow
locked_once_a_row =
    journal_row_of 10
    (committed_by 1 true (changes.Set locked_key (codes "L") ∷ [])
    ∷ committed_by 1 false
    (changes.Set (tag_row s1) (tag_bytes 1) ∷ changes.Set (servers_row []) (one_source s1) ∷ [])
    ∷ [])
    ∷ journal_row_of 20 (committed_by 1 false (changes.Set version_row (codes "v") ∷ []) ∷ [])
    ∷ []

-- the lock refuses transactions that are not lock aware from the next row on, and not in its own
-- row
abbrev pub TheLockIsReadOnceARow : Type 0
TheLockIsReadOnceARow =
    (routing 20 (metadata locked_once_a_row)
    ≡ record {
      version = 20;
      locked = true;
      metadata_version = None;
      routes = route [] (tag 1 ∷ []) ∷ [];
    })
    × (tags_of_key (metadata locked_once_a_row) a ≡ tag 1 ∷ [])

abbrev pub tags_come_later : List JournalRow
tags_come_later =
    journal_row_of 10
    (committed_by 1 false (changes.Set (servers_row []) (one_source s1) ∷ []) ∷ [])
    ∷ journal_row_of 20 (committed_by 1 false (changes.Set (tag_row s1) (tag_bytes 1) ∷ []) ∷ [])
    ∷ journal_row_of 30
    (committed_by 1 false (changes.Set (servers_row m) (source_and_destination s1 s2) ∷ []) ∷ [])
    ∷ journal_row_of 40 (committed_by 1 false (changes.Set (tag_row s2) (tag_bytes 0) ∷ []) ∷ [])
    ∷ []

abbrev pub tags_are_cleared : List JournalRow
tags_are_cleared =
    tags_come_later
    ++ journal_row_of 50
    (committed_by 1 false (changes.Clear (range (tag_row []) (255 ∷ codes "/serverTag0")) ∷ [])
    ∷ []) ∷ []

-- tags follow the serverTag rows, whichever row came first, and go with them
abbrev pub TagsComeAndGoWithTheirRows : Type 0
TagsComeAndGoWithTheirRows =
    (routing 40 (metadata tags_come_later)
    ≡ record {
      version = 40;
      locked = false;
      metadata_version = None;
      routes = route [] (tag 1 ∷ []) ∷ route m (tag 0 ∷ tag 1 ∷ []) ∷ [];
    })
    × (map (tags_of_key (metadata tags_come_later)) (a ∷ m ∷ [])
    ≡ (tag 1 ∷ []) ∷ (tag 0 ∷ tag 1 ∷ []) ∷ [])
    × (routing 50 (metadata tags_are_cleared)
    ≡ record {
      version = 50;
      locked = false;
      metadata_version = None;
      routes = route [] [] ∷ route m [] ∷ [];
    })
    × (map (tags_of_key (metadata tags_are_cleared)) (a ∷ m ∷ []) ≡ [] ∷ [] ∷ [])

abbrev pub tags_are_listed : List JournalRow
tags_are_listed =
    journal_row_of 10
    (committed_by 1 false
    (changes.Set (servers_row []) listing ∷ changes.Set (servers_row m) (one_source s1) ∷ [])
    ∷ []) ∷ []

abbrev pub tags_are_given : List JournalRow
tags_are_given =
    tags_are_listed
    ++ journal_row_of 20 (committed_by 1 false (changes.Set (tag_row s1) (tag_bytes 7) ∷ []) ∷ [])
    ∷ []

-- a row that lists tags has them, whatever serverTag rows there are; a Clear has those of rows of
-- both forms
abbrev pub ARowListsItsTags : Type 0
ARowListsItsTags =
    (routing 10 (metadata tags_are_listed)
    ≡ record {
      version = 10;
      locked = false;
      metadata_version = None;
      routes = route [] (tag 1 ∷ tag 2 ∷ far_tag ∷ []) ∷ route m [] ∷ [];
    })
    × (map (tags_of_key (metadata tags_are_listed)) (a ∷ m ∷ [])
    ≡ (tag 1 ∷ tag 2 ∷ far_tag ∷ []) ∷ [] ∷ [])
    × (map (tags_of_key (metadata tags_are_given)) (a ∷ m ∷ [])
    ≡ (tag 1 ∷ tag 2 ∷ far_tag ∷ []) ∷ (tag 7 ∷ []) ∷ [])
    × (tags (metadata tags_are_given) (changes.Clear (range a (codes "z")))
    ≡ tag 1 ∷ tag 2 ∷ tag 7 ∷ far_tag ∷ [])
