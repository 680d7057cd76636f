-- Edge cases: small values for which one definition has exactly this value. They compute, or follow
-- by comparing numbers.
use Rattle.std.specs.Prelude.{◌≡◌, ℕ, List, [], ◌∷◌, ◌++◌, map, replicate, codes, true, false}
use Rattle.std.specs.Prelude.{nat_eq, if◌then◌else◌, Some, None, ◌+◌, Option, Ok, Err}
use Rattle.system_keys.specs.declared.change.Change.{Change}
use Rattle.system_keys.specs.declared.change.Change.TheVariants as changes
use Rattle.system_keys.specs.declared.location.Location.TheVariants as locations
use Rattle.system_keys.specs.declared.refusal.RowFault.TheVariants as faults
use Rattle.system_keys.specs.declared.tag.Tag.{Tag}
use Rattle.system_keys.specs.Keys.{Key, Range, only}
use Rattle.system_keys.specs.Locations.{location_at}
use Rattle.model.specs.Configs.{Config, IsConfig}
use Rattle.model.specs.declared.part.Part.{Part}
use Rattle.model.specs.declared.verdict.Verdict.{Verdict}
use Rattle.model.specs.declared.verdict.Verdict.TheVariants.{Conflict, TooOld, Committed}
use Rattle.model.specs.declared.journal.StateTxn.{StateTxn}
use Rattle.model.specs.declared.journal.JournalRow.{JournalRow}
use Rattle.model.specs.declared.outcome.Outcome.TheVariants as outcomes
use Rattle.model.specs.Outcomes.{outcome_of_verdict}
use Rattle.model.specs.declared.moves.Move.{Move}
use Rattle.model.specs.Owners.{owners}
use Rattle.model.specs.OwnerMaps.{DatesInOrder}
use Rattle.model.specs.World.{Again, NoSuchRow}
use Rattle.model.specs.Stamps.{Set, SetStamped, AdmittedTransaction, stamped_value, stamp, stamped_from}
use Rattle.model.specs.Transactions.{locked_key, StampedTransaction}
use Rattle.model.specs.Records.{Record, oldest}
use Rattle.model.specs.Shares.{asked, share}
use Rattle.model.specs.Metadata.{metadata, tags_of_key, routing, tags}
use Rattle.model.specs.World.{Sequence, Offer, Finish, MissingReply, Sequenced, Refused}
use Rattle.model.specs.declared.unseen.Carried.{Carried}
use Rattle.model.specs.declared.unseen.UnseenState.{UnseenState}
use Rattle.model.specs.Journal.{VerdictSource, history_verdicts, cell_verdicts, journal_row}
use Rattle.model.specs.Journal.{reply_row, reply_state_of}
use Rattle.model.specs.Requests.{request}
use Rattle.model.specs.Offers.{OfferResult, answer_to}
use Rattle.model.specs.Offers as offers
use Rattle.model.specs.Finishing.{MayBeMade}
use Rattle.model.specs.Agreed.{Columns}
use Rattle.model.specs.Examples.{cluster, told, a, b, m, n, range, m_to_t, mutating, judged}
use Rattle.model.specs.Examples.{completed, tag, s1, s2, s3, one_source, source_and_destination}
use Rattle.model.specs.Examples.{tag_row, servers_row, version_row, part, committed_by}
use Rattle.model.specs.Examples.{journal_row_of, listing, listed}

-- ---- the lock row

abbrev pub emptied_lock : List JournalRow
emptied_lock =
    journal_row_of 10 (committed_by 1 false (changes.Set locked_key [] ∷ []) ∷ [])
    ∷ journal_row_of 20 (committed_by 1 false (changes.Set version_row (codes "v") ∷ []) ∷ [])
    ∷ []

-- a lock row with an empty value is there, and locks nothing
abbrev pub AnEmptyValueIsNoLock : Type 0
AnEmptyValueIsNoLock =
    (metadata emptied_lock ≡ (locked_key, []) ∷ (version_row, codes "v") ∷ [])
    × (routing 20 (metadata emptied_lock)
    ≡ record { version = 20; locked = false; metadata_version = Some (codes "v"); routes = [] })

-- under the lock only a transaction that the resolvers committed is Locked
abbrev pub TheOutcomesUnderTheLock : Type 0
TheOutcomesUnderTheLock =
    (outcome_of_verdict Conflict true 20 0 ≡ outcomes.Conflict)
    × (outcome_of_verdict TooOld true 20 0 ≡ outcomes.TooOld)
    × (outcome_of_verdict Committed true 20 0 ≡ outcomes.Locked)

-- ---- tags

abbrev pub two_localities : List JournalRow
two_localities =
    journal_row_of 10
    (committed_by 1 false
    (changes.Set (tag_row s1) (1 ∷ 0 ∷ 2 ∷ []) ∷ changes.Set (tag_row s2) (0 ∷ 1 ∷ 2 ∷ [])
    ∷ changes.Set (servers_row []) (source_and_destination s1 s2) ∷ []) ∷ []) ∷ []

-- a tag with the lesser locality stands first, though its id is greater
abbrev pub TagsRiseByLocalityFirst : Type 0
TagsRiseByLocalityFirst =
    tags (metadata two_localities) (changes.Set a [])
    ≡ (record { locality = 0; id = 258 }) ∷ (record { locality = 1; id = 2 }) ∷ []

abbrev pub three_routes : List JournalRow
three_routes =
    journal_row_of 10
    (committed_by 1 false
    (changes.Set (tag_row s1) (0 ∷ 0 ∷ 1 ∷ []) ∷ changes.Set (tag_row s2) (0 ∷ 0 ∷ 2 ∷ [])
    ∷ changes.Set (tag_row s3) (0 ∷ 0 ∷ 3 ∷ [])
    ∷ changes.Set (servers_row b) (one_source s1) ∷ changes.Set (servers_row m) (one_source s2)
    ∷ changes.Set (servers_row n) (one_source s3) ∷ []) ∷ []) ∷ []

-- the tags of a Clear of the keys from one up to another
abbrev pub cleared_tags : Key → Key → List Tag
cleared_tags begin end = tags (metadata three_routes) (changes.Clear (range begin end))

-- rows at `b`, `m` and `n`: a Clear has no tag of a row at its end, and none of a key before the
-- first row
abbrev pub TheEndsOfAClear : Type 0
TheEndsOfAClear =
    (cleared_tags a b ≡ [])
    × (cleared_tags a (codes "c") ≡ tag 1 ∷ [])
    × (cleared_tags b m ≡ tag 1 ∷ [])
    × (cleared_tags (codes "c") n ≡ tag 1 ∷ tag 2 ∷ [])
    × (cleared_tags m n ≡ tag 2 ∷ [])
    × (cleared_tags n (codes "z") ≡ tag 3 ∷ [])

abbrev pub spoiled_rows : List JournalRow
spoiled_rows =
    journal_row_of 10
    (committed_by 1 false
    (changes.Set (tag_row s1) (0 ∷ 1 ∷ []) ∷ changes.Set (tag_row s2) (0 ∷ 0 ∷ 2 ∷ [])
    ∷ changes.Set (servers_row []) (source_and_destination s1 s2)
    ∷ changes.Set (servers_row m) (1 ∷ s2) ∷ []) ∷ []) ∷ []

-- a server whose tag does not decode adds none, and a row whose servers do not decode names none
abbrev pub RowsThatDoNotDecode : Type 0
RowsThatDoNotDecode =
    map (tags_of_key (metadata spoiled_rows)) (a ∷ n ∷ []) ≡ (tag 2 ∷ []) ∷ [] ∷ []

-- which values list tags, and the faults of such values; two zero bytes alone are two empty lists of servers
abbrev pub ValuesThatListTags : Type 0
ValuesThatListTags =
    (location_at listing ≡ Ok (locations.Tags listed))
    × (location_at (0 ∷ 0 ∷ 0 ∷ 0 ∷ [])
    ≡ Ok (locations.Tags (record { sources = []; destinations = [] })))
    × (location_at (0 ∷ 0 ∷ [])
    ≡ Ok (locations.Servers (record { sources = []; destinations = [] })))
    × (location_at (0 ∷ 0 ∷ 1 ∷ []) ≡ Err faults.Truncated)
    × (location_at (0 ∷ 0 ∷ 2 ∷ 0 ∷ 0 ∷ 2 ∷ 0 ∷ 0 ∷ 1 ∷ 0 ∷ []) ≡ Err faults.NotRising)
    × (location_at (0 ∷ 0 ∷ 3 ∷ 0 ∷ 0 ∷ 2 ∷ 0 ∷ 0 ∷ 2 ∷ []) ≡ Err faults.NotRising)
    × (location_at (0 ∷ 0 ∷ 0 ∷ 0 ∷ 0 ∷ []) ≡ Err faults.Trailing)

-- a list of tags that do not rise
abbrev pub falling_list : List ℕ
falling_list = 2 ∷ 0 ∷ 0 ∷ 2 ∷ 0 ∷ 0 ∷ 1 ∷ []

-- The first fault from the front: source tags that do not rise come before missing or further bytes,
-- and destination tags that do not rise before further bytes.
abbrev pub TheFirstFaultOfTwoLists : Type 0
TheFirstFaultOfTwoLists =
    (location_at (0 ∷ 0 ∷ falling_list) ≡ Err faults.NotRising)
    × (location_at (0 ∷ 0 ∷ falling_list ++ 0 ∷ 7 ∷ []) ≡ Err faults.NotRising)
    × (location_at (0 ∷ 0 ∷ 0 ∷ falling_list ++ 7 ∷ []) ≡ Err faults.NotRising)

-- ---- stamps

-- the bytes of a stamp are those of the version, the highest first, and then those of the number
abbrev pub TheBytesOfAStamp : Type 0
TheBytesOfAStamp = stamp 72623859790382856 2314 ≡ 1 ∷ 2 ∷ 3 ∷ 4 ∷ 5 ∷ 6 ∷ 7 ∷ 8 ∷ 9 ∷ 10 ∷ []

-- a place past the first 256 bytes, with text behind the stamp
abbrev pub AStampAmongText : Type 0
AStampAmongText =
    stamped_value 258 3 (replicate 268 97 ++ codes "xy" ++ 2 ∷ 1 ∷ 0 ∷ 0 ∷ [])
    ≡ replicate 258 97 ++ 0 ∷ 0 ∷ 0 ∷ 0 ∷ 0 ∷ 0 ∷ 1 ∷ 2 ∷ 0 ∷ 3 ∷ codes "xy"

abbrev pub stamping_a : AdmittedTransaction
stamping_a = mutating (SetStamped a (replicate 14 0) ∷ [])

abbrev pub stamped_a : ℕ → List Change
stamped_a number = changes.Set a (0 ∷ 0 ∷ 0 ∷ 0 ∷ 0 ∷ 0 ∷ 0 ∷ 10 ∷ 0 ∷ number ∷ []) ∷ []

-- each transaction of a batch is stamped with its own number, plain ones counted
abbrev pub EachStampHasItsNumber : Type 0
EachStampHasItsNumber =
    map (λ (t : StampedTransaction). t.changes)
    (stamped_from 10 0 (stamping_a ∷ mutating (Set b [] ∷ []) ∷ stamping_a ∷ stamping_a ∷ []))
    ≡ stamped_a 0 ∷ (changes.Set b [] ∷ []) ∷ stamped_a 2 ∷ stamped_a 3 ∷ []

-- ---- shares, requests and the journal row of one record

abbrev pub l_to_p : Range
l_to_p = range (codes "l") (codes "p")

abbrev pub set_tag_row : Change
set_tag_row = changes.Set (tag_row s1) (0 ∷ 0 ∷ 1 ∷ [])

abbrev pub set_version_row : Change
set_version_row = changes.Set version_row (codes "v")

-- a cluster whose window reaches back from 20 to 5
abbrev pub narrow : Config
narrow = record cluster { window = 15 }

-- a record of proxy 1 after a move of `[m, t)` at 21: ranges of both resolvers, of one, a state
-- transaction whose state mutation stands first, and a lock-aware one whose state mutation stands
-- last
abbrev pub mixed_record : Record
mixed_record =
    record {
      row = 4;
      previous = 20;
      version = 30;
      own_previous = 10;
      proxy = 1;
      moves = (record { range = m_to_t; date = 21; dest = 1 }) ∷ [];
      batch =
          (record {
            snapshot = 25;
            reads = only a ∷ only n ∷ [];
            writes = only b ∷ l_to_p ∷ [];
            changes = changes.Set b [] ∷ [];
            lock_aware = false;
          })
          ∷ (record {
            snapshot = 25;
            reads = only a ∷ [];
            writes = [];
            changes = [];
            lock_aware = false;
          })
          ∷ (record {
            snapshot = 10;
            reads = only n ∷ [];
            writes = [];
            changes = set_tag_row ∷ changes.Set a [] ∷ [];
            lock_aware = false;
          })
          ∷ (record {
            snapshot = 0;
            reads = [];
            writes = [];
            changes = changes.Set a [] ∷ set_version_row ∷ [];
            lock_aware = true;
          })
          ∷ [];
    }

-- a move of `[m, t)` to resolver 1
abbrev pub moved_at : ℕ → Move
moved_at date = record { range = m_to_t; date = date; dest = 1 }

-- moves may have the same date, but no move is dated before the one in front of it
abbrev pub TheDatesOfMoves : Type 0
TheDatesOfMoves =
    DatesInOrder 0 (moved_at 21 ∷ moved_at 21 ∷ moved_at 31 ∷ [])
    × ¬ DatesInOrder 0 (moved_at 21 ∷ moved_at 20 ∷ [])
    × MayBeMade 2 21 (moved_at 21 ∷ moved_at 21 ∷ moved_at 31 ∷ [])
    × ¬ MayBeMade 2 0 (moved_at 21 ∷ moved_at 20 ∷ [])
    × ¬ MayBeMade 2 22 (moved_at 21 ∷ [])
    × ¬ MayBeMade 1 0 (moved_at 21 ∷ [])

-- a move adds its destination to the owners of a key, from its own date on
abbrev pub TheOwnersAfterAMove : Type 0
TheOwnersAfterAMove =
    owners mixed_record.moves n
    ≡ (record { date = 0; resolver = 0 }) ∷ (record { date = 21; resolver = 1 }) ∷ []

-- the oldest version of a record is the window before its previous version
abbrev pub TheOldestVersionOfARecord : Type 0
TheOldestVersionOfARecord = oldest narrow mixed_record ≡ 5

abbrev pub share_of_0 : List Part
share_of_0 =
    part 0 25 (only a ∷ []) (only b ∷ l_to_p ∷ [])
    ∷ part 1 25 (only a ∷ []) []
    ∷ part 2 10 (only n ∷ only locked_key ∷ []) []
    ∷ part 3 0 [] []
    ∷ []

abbrev pub share_of_1 : List Part
share_of_1 =
    part 0 25 (only n ∷ []) (l_to_p ∷ []) ∷ part 2 10 (only n ∷ []) [] ∷ part 3 0 [] [] ∷ []

-- a share has the transactions that ask its resolver, each with its own snapshot and the whole
-- ranges that the resolver is asked about and no others; the lock row is read last
abbrev pub TheSharesOfARecord : Type 0
TheSharesOfARecord =
    (map (share narrow mixed_record) (0 ∷ 1 ∷ 2 ∷ [])
    ≡ share_of_0 ∷ share_of_1 ∷ (part 2 10 [] [] ∷ part 3 0 [] [] ∷ []) ∷ [])
    × (map (asked narrow mixed_record) mixed_record.batch
    ≡ (0 ∷ 1 ∷ []) ∷ (0 ∷ []) ∷ (0 ∷ 1 ∷ []) ∷ (0 ∷ 1 ∷ []) ∷ [])

-- in a cluster with more resolvers than proxies a state transaction asks each resolver, the last
-- one too
abbrev pub TheResolversAskedOfThree : Type 0
TheResolversAskedOfThree =
    map (asked (record narrow { resolvers = 3 }) mixed_record) mixed_record.batch
    ≡ (0 ∷ 1 ∷ []) ∷ (0 ∷ []) ∷ (0 ∷ 1 ∷ 2 ∷ []) ∷ (0 ∷ 1 ∷ 2 ∷ []) ∷ []

-- a request has the numbers of its record, the version received and the share; its marks carry
-- state mutations alone, and those to resolver 0 alone
abbrev pub TheRequestsForARecord : Type 0
TheRequestsForARecord =
    (request narrow mixed_record 5 0
    ≡ record {
      resolver = 0;
      proxy = 1;
      row = 4;
      previous = 20;
      version = 30;
      last_received = 5;
      share = share_of_0;
      states =
          (record {
            number = 2;
            carried = Some (record { mutations = set_tag_row ∷ []; lock_aware = false });
          })
          ∷ (record {
            number = 3;
            carried = Some (record { mutations = set_version_row ∷ []; lock_aware = true });
          })
          ∷ [];
    })
    × (request narrow mixed_record 5 1
    ≡ record {
      resolver = 1;
      proxy = 1;
      row = 4;
      previous = 20;
      version = 30;
      last_received = 5;
      share = share_of_1;
      states = (record { number = 2; carried = None }) ∷ (record { number = 3; carried = None })
          ∷ [];
    })

-- resolver 0 commits transaction 2 of row 4, and resolver 1 calls transaction 3 of it too old; all
-- else is refused
abbrev pub said_of_row_4 : VerdictSource
said_of_row_4 r row number =
    if nat_eq row 4
    then (if nat_eq number (r + 2) then (if nat_eq r 0 then Committed else TooOld) else Conflict)
    else Conflict

-- the journal row of the record has its state mutations alone and the verdicts of all resolvers in
-- order, and each resolver tells its own
abbrev pub TheJournalRowOfARecord : Type 0
TheJournalRowOfARecord =
    (journal_row cluster said_of_row_4 mixed_record
    ≡ journal_row_of 30
    ((record {
      mutations = set_tag_row ∷ [];
      lock_aware = false;
      verdicts = Committed ∷ Conflict ∷ [];
    })
    ∷ (record {
      mutations = set_version_row ∷ [];
      lock_aware = true;
      verdicts = Conflict ∷ TooOld ∷ [];
    })
    ∷ []))
    × (reply_row said_of_row_4 0 mixed_record
    ≡ record {
      version = 30;
      states =
          (record {
            verdict = Committed;
            carried = Some (record { mutations = set_tag_row ∷ []; lock_aware = false });
          })
          ∷ (record {
            verdict = Conflict;
            carried = Some (record { mutations = set_version_row ∷ []; lock_aware = true });
          })
          ∷ [];
    })
    × (reply_row said_of_row_4 1 mixed_record
    ≡ record {
      version = 30;
      states = (record { verdict = Conflict; carried = None })
          ∷ (record { verdict = TooOld; carried = None }) ∷ [];
    })

-- ---- missing verdicts

-- cells for the record: of resolver 0 two verdicts, though its share has four parts, of resolver 1
-- one for each of its three parts, and of resolver 2 no cell
abbrev pub some_cells : Columns
some_cells =
    ((Committed ∷ TooOld ∷ []) ∷ []) ∷ ((Committed ∷ Committed ∷ Committed ∷ []) ∷ []) ∷ []

-- what the cells say of the transactions of a row, 0 to 4, by resolver r
abbrev pub said_by_cells : ℕ → ℕ → List Verdict
said_by_cells r row =
    map (cell_verdicts narrow (mixed_record ∷ []) some_cells r row) (0 ∷ 1 ∷ 2 ∷ 3 ∷ 4 ∷ [])

abbrev pub five_conflicts : List Verdict
five_conflicts = replicate 5 Conflict

-- what cells do not have is Conflict: a verdict past the end of a cell, on a transaction that does
-- not ask or is not there, of a resolver without cells, and in a row without a record
abbrev pub CellsWithoutVerdicts : Type 0
CellsWithoutVerdicts =
    (said_by_cells 0 0 ≡ Committed ∷ TooOld ∷ Conflict ∷ Conflict ∷ Conflict ∷ [])
    × (said_by_cells 1 0 ≡ Committed ∷ Conflict ∷ Committed ∷ Committed ∷ Conflict ∷ [])
    × (said_by_cells 2 0 ≡ five_conflicts)
    × (said_by_cells 0 1 ≡ five_conflicts)

-- what a history does not have is Conflict: the verdict on a fifth transaction of its record, and
-- those in a second row
abbrev pub AHistoryWithoutVerdicts : Type 0
AHistoryWithoutVerdicts =
    (history_verdicts narrow (mixed_record ∷ []) 0 0 4 ≡ Conflict)
    × (map (history_verdicts narrow (mixed_record ∷ []) 0 1) (0 ∷ 1 ∷ 2 ∷ 3 ∷ 4 ∷ [])
    ≡ five_conflicts)

-- a state transaction with the verdicts of two resolvers
abbrev pub two_verdicts : StateTxn
two_verdicts =
    record { mutations = set_tag_row ∷ []; lock_aware = false; verdicts = Committed ∷ TooOld ∷ [] }

-- a state transaction as a resolver tells of it
abbrev pub told_state : Verdict → Option Carried → UnseenState
told_state verdict carried = record { verdict = verdict; carried = carried }

-- resolvers 0 and 1 tell their verdicts, and resolver 2, whose verdict is missing, tells Conflict
abbrev pub TooFewVerdicts : Type 0
TooFewVerdicts =
    map (λ (r : ℕ). reply_state_of r two_verdicts) (0 ∷ 1 ∷ 2 ∷ [])
    ≡ told_state Committed (Some (record { mutations = set_tag_row ∷ []; lock_aware = false }))
    ∷ told_state TooOld None
    ∷ told_state Conflict None
    ∷ []

-- ---- repeats, refusals, and the limits of numbers

-- a repeated request gets the same reply
abbrev pub ARepeatGetsTheSameReply : Type 0
ARepeatGetsTheSameReply =
    told cluster (Sequence 0 [] ∷ Offer 0 0 ∷ Offer 0 0 ∷ [])
    ≡ Sequenced 0 10
    ∷ judged 0 0 10 0 [] []
    ∷ Again (record {
      resolver = 0;
      proxy = 0;
      row = 0;
      version = 10;
      verdicts = [];
      unseen = [];
    })
    ∷ []

-- an unknown row is refused before an unknown resolver
abbrev pub AnUnknownRowIsRefusedFirst : Type 0
AnUnknownRowIsRefusedFirst = told cluster (Offer 9 2 ∷ []) ≡ Refused NoSuchRow ∷ []

-- what resolver 0 of two proxies answers to a request of proxy 2 whose version is not above its
-- previous version, to this resolver
abbrev pub answer_to_stranger : (resolver : ℕ) → OfferResult
answer_to_stranger resolver =
    answer_to 0 2 100 []
    (record (request narrow mixed_record 5 resolver) { proxy = 2; previous = 30 })

-- an unknown resolver is refused first, then an unknown proxy, and then versions out of order
abbrev pub StrangersAreRefusedFirst : Type 0
StrangersAreRefusedFirst =
    (answer_to_stranger 1 ≡ Err offers.WrongResolver)
    × (answer_to_stranger 0 ≡ Err offers.NoSuchProxy)

-- of several missing replies the one with the least number is named
abbrev pub TheFirstMissingReply : Type 0
TheFirstMissingReply =
    told cluster (Sequence 0 [] ∷ Finish 0 ∷ Offer 0 1 ∷ Finish 0 ∷ Offer 0 0 ∷ Finish 0 ∷ [])
    ≡ Sequenced 0 10
    ∷ Refused (MissingReply 0)
    ∷ judged 0 0 10 1 [] []
    ∷ Refused (MissingReply 0)
    ∷ judged 0 0 10 0 [] []
    ∷ completed 0 10 [] []
    ∷ []

abbrev pub of_numbers : (proxies resolvers window step : ℕ) → Config
of_numbers proxies resolvers window step =
    record { proxies = proxies; resolvers = resolvers; window = window; step = step }

-- the least and the greatest numbers of a cluster, and those just past them
abbrev pub TheLimitsOfACluster : Type 0
TheLimitsOfACluster =
    IsConfig (of_numbers 1 1 1 1)
    × IsConfig (of_numbers 64 64 1000000000 9223372036854775807)
    × ¬ IsConfig (of_numbers 0 1 1 1)
    × ¬ IsConfig (of_numbers 65 1 1 1)
    × ¬ IsConfig (of_numbers 1 0 1 1)
    × ¬ IsConfig (of_numbers 1 65 1 1)
    × ¬ IsConfig (of_numbers 1 1 0 1)
    × ¬ IsConfig (of_numbers 1 1 1000000001 1)
    × ¬ IsConfig (of_numbers 1 1 1 0)
    × ¬ IsConfig (of_numbers 1 1 1 9223372036854775808)
