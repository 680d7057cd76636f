-- Unseen and remembered rows, repeats, and proxies that run at once.
use Rattle.std.specs.Prelude.{◌≡◌, ℕ, List, [], ◌∷◌, ◌++◌, map, false}
use Rattle.system_keys.specs.declared.change.Change.TheVariants as changes
use Rattle.model.specs.declared.verdict.Verdict.TheVariants.{Committed}
use Rattle.model.specs.declared.journal.JournalRow.{JournalRow}
use Rattle.model.specs.declared.unseen.UnseenRow.{UnseenRow}
use Rattle.model.specs.declared.outcome.Outcome.TheVariants as outcomes
use Rattle.model.specs.Stamps.{Set, AdmittedTransaction}
use Rattle.model.specs.Records.{Record}
use Rattle.model.specs.World.{Event, Sequence, Offer, Finish, Early, GivenUp, Answer, Sequenced}
use Rattle.model.specs.World.{Refused, proxy_journal, proxy_metadata, remembered_by}
use Rattle.model.specs.Examples.{cluster, told, mutating, judged, completed, version_row}
use Rattle.model.specs.Examples.{committed_by, journal_row_of}
use Rattle.scenarios.specs.Vocabulary.{after, to_both, again, empty_row, set_row_by_0, set_row_by_1}
use Rattle.scenarios.specs.Vocabulary.{tagged}

abbrev pub versioning : ℕ → AdmittedTransaction
versioning i = mutating (Set version_row (i ∷ []) ∷ [])

-- proxy 0 sequences a batch, both resolvers judge it, and the proxy finishes it
abbrev pub whole_batch : ℕ → List Event
whole_batch row = Sequence 0 (versioning row ∷ []) ∷ to_both row ++ Finish 0 ∷ []

abbrev pub told_of_whole_batch : ℕ → ℕ → List Answer
told_of_whole_batch row version =
    Sequenced row version
    ∷ judged 0 row version 0 (Committed ∷ []) []
    ∷ judged 0 row version 1 (Committed ∷ []) []
    ∷ completed row version (outcomes.Committed version 0 ∷ [])
    (tagged 0 0 (changes.Set version_row (row ∷ [])) [] ∷ [])
    ∷ []

abbrev pub five_batches : List Event
five_batches = whole_batch 0 ++ whole_batch 1 ++ whole_batch 2 ++ whole_batch 3 ++ whole_batch 4

abbrev pub other_proxy_comes : List Event
other_proxy_comes = five_batches ++ Sequence 1 [] ∷ to_both 5 ++ Finish 1 ∷ []

abbrev pub versions_of : List Record → List ℕ
versions_of records = map (λ (rec : Record). rec.version) records

-- the row that sets the version to this byte, as resolver 0 tells of it
abbrev pub versioning_row : ℕ → ℕ → UnseenRow
versioning_row version i = set_row_by_0 version Committed (changes.Set version_row (i ∷ []))

-- rows that the other proxy has not seen are remembered until its first request, and sent with the
-- reply
abbrev pub RowsAreRememberedForAProxyThatIsLate : Type 0
RowsAreRememberedForAProxyThatIsLate =
    (map (λ (r : ℕ). versions_of (remembered_by cluster (after cluster five_batches) r))
    (0 ∷ 1 ∷ []) ≡ (10 ∷ 20 ∷ 30 ∷ 40 ∷ 50 ∷ []) ∷ (10 ∷ 20 ∷ 30 ∷ 40 ∷ 50 ∷ []) ∷ [])
    × (told cluster other_proxy_comes
    ≡ told_of_whole_batch 0 10 ++ told_of_whole_batch 1 20 ++ told_of_whole_batch 2 30
    ++ told_of_whole_batch 3 40 ++ told_of_whole_batch 4 50
    ++ Sequenced 5 60
    ∷ judged 1 5 60 0 []
    (versioning_row 10 0 ∷ versioning_row 20 1 ∷ versioning_row 30 2 ∷ versioning_row 40 3
    ∷ versioning_row 50 4 ∷ [])
    ∷ judged 1 5 60 1 []
    (map (λ (version : ℕ). set_row_by_1 version Committed) (10 ∷ 20 ∷ 30 ∷ 40 ∷ 50 ∷ []))
    ∷ completed 5 60 [] []
    ∷ [])
    × (map (proxy_metadata cluster (after cluster other_proxy_comes)) (0 ∷ 1 ∷ [])
    ≡ ((version_row, 4 ∷ []) ∷ []) ∷ ((version_row, 4 ∷ []) ∷ []) ∷ [])
    × (map (λ (r : ℕ). versions_of (remembered_by cluster (after cluster other_proxy_comes) r))
    (0 ∷ 1 ∷ []) ≡ (60 ∷ []) ∷ (60 ∷ []) ∷ [])

abbrev pub repeats : List Event
repeats =
    Sequence 0 [] ∷ Sequence 1 [] ∷ Sequence 1 [] ∷ Offer 0 0 ∷ Offer 0 0 ∷ Offer 2 0 ∷ Offer 0 1
    ∷ Finish 0 ∷ Sequence 0 []
    ∷ Offer 1 0 ∷ Offer 2 0 ∷ Offer 3 0 ∷ Offer 0 0 ∷ []

-- a repeat gets the same reply until the proxy has acknowledged it, and is given up then; a row
-- that comes too early is refused
abbrev pub RepeatsAndRepliesGivenUp : Type 0
RepeatsAndRepliesGivenUp =
    told cluster repeats
    ≡ Sequenced 0 10
    ∷ Sequenced 1 20
    ∷ Sequenced 2 30
    ∷ judged 0 0 10 0 [] []
    ∷ again 0 0 10 0 [] []
    ∷ Refused (Early 10)
    ∷ judged 0 0 10 1 [] []
    ∷ completed 0 10 [] []
    ∷ Sequenced 3 40
    ∷ judged 1 1 20 0 [] (empty_row 10 ∷ [])
    ∷ judged 1 2 30 0 [] []
    ∷ judged 0 3 40 0 [] (empty_row 20 ∷ empty_row 30 ∷ [])
    ∷ Refused (GivenUp 10)
    ∷ []

-- row 0 and row 2 are proxy 0's, row 1 is proxy 1's; proxy 0 begins its second before it finishes
-- its first
abbrev pub begun_at_once : List Event
begun_at_once =
    Sequence 0 (versioning 0 ∷ []) ∷ Sequence 1 (versioning 1 ∷ []) ∷ Sequence 0 (versioning 2 ∷ [])
    ∷ to_both 0

abbrev pub and_row_1 : List Event
and_row_1 = begun_at_once ++ to_both 1

abbrev pub and_row_2 : List Event
and_row_2 = and_row_1 ++ to_both 2

abbrev pub and_finished : List Event
and_finished = and_row_2 ++ Offer 0 0 ∷ Finish 0 ∷ Finish 0 ∷ []

abbrev pub versions_in : List JournalRow → List ℕ
versions_in rows = map (λ (row : JournalRow). row.version) rows

abbrev pub remembered_in : List Event → List (List ℕ)
remembered_in events =
    map (λ (r : ℕ). versions_of (remembered_by cluster (after cluster events) r)) (0 ∷ 1 ∷ [])

-- a proxy with two unfinished records gets each row once; a repeat is not given up, since the proxy
-- had received nothing when its records were made
abbrev pub TwoRecordsBegunAtOnce : Type 0
TwoRecordsBegunAtOnce =
    (told cluster and_finished
    ≡ Sequenced 0 10
    ∷ Sequenced 1 20
    ∷ Sequenced 2 30
    ∷ judged 0 0 10 0 (Committed ∷ []) []
    ∷ judged 0 0 10 1 (Committed ∷ []) []
    ∷ judged 1 1 20 0 (Committed ∷ []) (versioning_row 10 0 ∷ [])
    ∷ judged 1 1 20 1 (Committed ∷ []) (set_row_by_1 10 Committed ∷ [])
    ∷ judged 0 2 30 0 (Committed ∷ []) (versioning_row 20 1 ∷ [])
    ∷ judged 0 2 30 1 (Committed ∷ []) (set_row_by_1 20 Committed ∷ [])
    ∷ again 0 0 10 0 (Committed ∷ []) []
    ∷ completed 0 10 (outcomes.Committed 10 0 ∷ [])
    (tagged 0 0 (changes.Set version_row (0 ∷ [])) [] ∷ [])
    ∷ completed 2 30 (outcomes.Committed 30 0 ∷ [])
    (tagged 0 0 (changes.Set version_row (2 ∷ [])) [] ∷ [])
    ∷ [])
    × (map remembered_in (begun_at_once ∷ and_row_1 ∷ and_row_2 ∷ [])
    ≡ ((10 ∷ []) ∷ (10 ∷ []) ∷ []) ∷ ((20 ∷ []) ∷ (20 ∷ []) ∷ []) ∷ ((30 ∷ []) ∷ (30 ∷ []) ∷ [])
    ∷ [])
    × (versions_in (proxy_journal cluster (after cluster and_finished) 0) ≡ 10 ∷ 20 ∷ 30 ∷ [])

abbrev pub finished_out_of_order : List Event
finished_out_of_order =
    Sequence 0 (versioning 0 ∷ []) ∷ Sequence 1 (versioning 1 ∷ []) ∷ to_both 0 ++ to_both 1
    ++ Finish 1 ∷ Finish 0 ∷ []

-- the later record is finished first: the earlier one's journal is the beginning of the later one's
abbrev pub TwoProxiesMeet : Type 0
TwoProxiesMeet =
    (told cluster finished_out_of_order
    ≡ Sequenced 0 10
    ∷ Sequenced 1 20
    ∷ judged 0 0 10 0 (Committed ∷ []) []
    ∷ judged 0 0 10 1 (Committed ∷ []) []
    ∷ judged 1 1 20 0 (Committed ∷ []) (versioning_row 10 0 ∷ [])
    ∷ judged 1 1 20 1 (Committed ∷ []) (set_row_by_1 10 Committed ∷ [])
    ∷ completed 1 20 (outcomes.Committed 20 0 ∷ [])
    (tagged 0 0 (changes.Set version_row (1 ∷ [])) [] ∷ [])
    ∷ completed 0 10 (outcomes.Committed 10 0 ∷ [])
    (tagged 0 0 (changes.Set version_row (0 ∷ [])) [] ∷ [])
    ∷ [])
    × (map (λ (p : ℕ). proxy_journal cluster (after cluster finished_out_of_order) p) (0 ∷ 1 ∷ [])
    ≡ (journal_row_of 10 (committed_by 2 false (changes.Set version_row (0 ∷ []) ∷ []) ∷ []) ∷ [])
    ∷ (journal_row_of 10 (committed_by 2 false (changes.Set version_row (0 ∷ []) ∷ []) ∷ [])
    ∷ journal_row_of 20 (committed_by 2 false (changes.Set version_row (1 ∷ []) ∷ []) ∷ []) ∷ [])
    ∷ [])
    × (map (proxy_metadata cluster (after cluster finished_out_of_order)) (0 ∷ 1 ∷ [])
    ≡ ((version_row, 0 ∷ []) ∷ []) ∷ ((version_row, 1 ∷ []) ∷ []) ∷ [])
