-- Edge cases of what a proxy learns from replies: the rows that they tell, and each way for them to
-- disagree, with the versions at which they do. The first of these versions is the one that a
-- refusal names. They compute.
use Rattle.std.specs.Prelude.{◌≡◌, ℕ, List, [], ◌∷◌, map, true, false, Some, None}
use Rattle.system_keys.specs.declared.change.Change.{Change}
use Rattle.system_keys.specs.declared.change.Change.TheVariants as changes
use Rattle.system_keys.specs.Keys.{only}
use Rattle.model.specs.declared.verdict.Verdict.{Verdict}
use Rattle.model.specs.declared.verdict.Verdict.TheVariants.{Conflict, TooOld, Committed}
use Rattle.model.specs.declared.unseen.UnseenState.{UnseenState}
use Rattle.model.specs.declared.unseen.UnseenRow.{UnseenRow}
use Rattle.model.specs.declared.reply.Reply.{Reply}
use Rattle.model.specs.Records.{Record}
use Rattle.model.specs.Finishing.{Replies, replied_verdicts, unreplied, rows_by_replies, disagreements}
use Rattle.model.specs.Examples.{cluster, a, s1, s2, s3, tag_row, version_row, journal_row_of}

-- ---- replies that agree

-- a record at version 50 of proxy 0, which is at version 10: one transaction asks resolver 0 alone,
-- and a state transaction asks both resolvers
abbrev pub learning_record : Record
learning_record =
    record {
      row = 4;
      previous = 40;
      version = 50;
      own_previous = 10;
      proxy = 0;
      moves = [];
      batch =
          (record {
            snapshot = 0;
            reads = [];
            writes = only a ∷ [];
            changes = changes.Set a [] ∷ [];
            lock_aware = false;
          })
          ∷ (record {
            snapshot = 0;
            reads = [];
            writes = [];
            changes = changes.Set version_row [] ∷ [];
            lock_aware = true;
          })
          ∷ [];
    }

-- a state transaction as resolver 0 and as resolver 1 reply it
abbrev pub state_of_0 : Verdict → Change → UnseenState
state_of_0 verdict change =
    record {
      verdict = verdict;
      carried = Some (record { mutations = change ∷ []; lock_aware = false });
    }

abbrev pub state_of_1 : Verdict → UnseenState
state_of_1 verdict = record { verdict = verdict; carried = None }

abbrev pub unseen_row : ℕ → List UnseenState → UnseenRow
unseen_row version states = record { version = version; states = states }

-- the state transactions of the rows at 20 and at 30; the row at 40 has none
abbrev pub first_change : Change
first_change = changes.Set (tag_row s1) []

abbrev pub second_change : Change
second_change = changes.Set (tag_row s2) []

abbrev pub third_change : Change
third_change = changes.Set (tag_row s3) []

abbrev pub row_20_of_0 : UnseenRow
row_20_of_0 = unseen_row 20 (state_of_0 Committed first_change ∷ [])

abbrev pub row_30_of_0 : UnseenRow
row_30_of_0 =
    unseen_row 30
    (state_of_0 Committed second_change ∷ state_of_0 TooOld third_change ∷ [])

abbrev pub row_20_of_1 : UnseenRow
row_20_of_1 = unseen_row 20 (state_of_1 Conflict ∷ [])

abbrev pub row_30_of_1 : UnseenRow
row_30_of_1 = unseen_row 30 (state_of_1 Committed ∷ state_of_1 Committed ∷ [])

abbrev pub row_40 : UnseenRow
row_40 = unseen_row 40 []

abbrev pub row_50 : UnseenRow
row_50 = unseen_row 50 []

abbrev pub reply_of_0 : Reply
reply_of_0 =
    record {
      resolver = 0;
      proxy = 0;
      row = 4;
      version = 50;
      verdicts = Committed ∷ TooOld ∷ [];
      unseen = row_20_of_0 ∷ row_30_of_0 ∷ row_40 ∷ [];
    }

abbrev pub reply_of_1 : Reply
reply_of_1 =
    record {
      resolver = 1;
      proxy = 0;
      row = 4;
      version = 50;
      verdicts = Committed ∷ [];
      unseen = row_20_of_1 ∷ row_30_of_1 ∷ row_40 ∷ [];
    }

-- the replies of both resolvers
abbrev pub both : Reply → Reply → Replies
both of_0 of_1 = Some of_0 ∷ Some of_1 ∷ []

abbrev pub agreeing : Replies
agreeing = both reply_of_0 reply_of_1

-- the rows that these replies tell have the contents of resolver 0 and the verdicts of both
abbrev pub TheRowsThatRepliesTell : Type 0
TheRowsThatRepliesTell =
    (disagreements cluster 10 learning_record agreeing ≡ [])
    × (rows_by_replies 2 agreeing
    ≡ journal_row_of 20
    ((record {
      mutations = first_change ∷ [];
      lock_aware = false;
      verdicts = Committed ∷ Conflict ∷ [];
    }) ∷ [])
    ∷ journal_row_of 30
    ((record {
      mutations = second_change ∷ [];
      lock_aware = false;
      verdicts = Committed ∷ Committed ∷ [];
    })
    ∷ (record {
      mutations = third_change ∷ [];
      lock_aware = false;
      verdicts = TooOld ∷ Committed ∷ [];
    })
    ∷ [])
    ∷ journal_row_of 40 []
    ∷ [])

-- a verdict on the record stands at the place of its part in the share; what is not there is
-- Conflict, and so is a verdict of a resolver that has not replied
abbrev pub TheVerdictsThatRepliesHave : Type 0
TheVerdictsThatRepliesHave =
    (map (replied_verdicts cluster learning_record agreeing 0 4) (0 ∷ 1 ∷ 2 ∷ [])
    ≡ Committed ∷ TooOld ∷ Conflict ∷ [])
    × (map (replied_verdicts cluster learning_record agreeing 1 4) (0 ∷ 1 ∷ 2 ∷ [])
    ≡ Conflict ∷ Committed ∷ Conflict ∷ [])
    × (replied_verdicts cluster learning_record (Some reply_of_0 ∷ None ∷ []) 1 4 1 ≡ Conflict)

-- the resolvers whose replies have not come
abbrev pub RepliesThatHaveNotCome : Type 0
RepliesThatHaveNotCome =
    (unreplied 2 agreeing ≡ [])
    × (unreplied 2 (Some reply_of_0 ∷ None ∷ []) ≡ 1 ∷ [])
    × (unreplied 2 (None ∷ Some reply_of_1 ∷ []) ≡ 0 ∷ [])
    × (unreplied 2 (None ∷ None ∷ []) ≡ 0 ∷ 1 ∷ [])

-- ---- replies that disagree

-- the versions at which replies disagree if resolver 1 replies this, and if both do
abbrev pub disagreements_by_1 : Reply → List ℕ
disagreements_by_1 of_1 = disagreements cluster 10 learning_record (both reply_of_0 of_1)

abbrev pub disagreements_by : Reply → Reply → List ℕ
disagreements_by of_0 of_1 = disagreements cluster 10 learning_record (both of_0 of_1)

-- a reply to another row, version or proxy, or of another resolver, disagrees at the record
abbrev pub RepliesToAnotherRecord : Type 0
RepliesToAnotherRecord =
    (disagreements_by_1 (record reply_of_1 { row = 3 }) ≡ 50 ∷ [])
    × (disagreements_by_1 (record reply_of_1 { version = 40 }) ≡ 50 ∷ [])
    × (disagreements_by_1 (record reply_of_1 { proxy = 1 }) ≡ 50 ∷ [])
    × (disagreements_by_1 (record reply_of_1 { resolver = 0 }) ≡ 50 ∷ [])
    × (disagreements_by (record reply_of_0 { row = 5 }) reply_of_1 ≡ 50 ∷ [])

-- and so does one with fewer or more verdicts than its share has parts
abbrev pub OtherNumbersOfVerdicts : Type 0
OtherNumbersOfVerdicts =
    (disagreements_by_1 (record reply_of_1 { verdicts = [] }) ≡ 50 ∷ [])
    × (disagreements_by_1 (record reply_of_1 { verdicts = Committed ∷ Committed ∷ [] }) ≡ 50 ∷ [])
    × (disagreements_by (record reply_of_0 { verdicts = Committed ∷ [] }) reply_of_1 ≡ 50 ∷ [])

-- the record is checked before the rows
abbrev pub TheRecordIsCheckedFirst : Type 0
TheRecordIsCheckedFirst =
    disagreements_by (record reply_of_0 { unseen = [] }) (record reply_of_1 { row = 3 }) ≡ 50 ∷ []

-- the unseen rows of resolver 1, and those of both
abbrev pub rows_of_1 : List UnseenRow → List ℕ
rows_of_1 rows = disagreements_by_1 (record reply_of_1 { unseen = rows })

abbrev pub rows_of_both : List UnseenRow → List UnseenRow → List ℕ
rows_of_both of_0 of_1 =
    disagreements_by (record reply_of_0 { unseen = of_0 }) (record reply_of_1 { unseen = of_1 })

-- a row is missing in front, in the middle or at the end, in one reply: the rows disagree from its
-- version on
abbrev pub AMissingRow : Type 0
AMissingRow =
    (rows_of_1 (row_30_of_1 ∷ row_40 ∷ []) ≡ 20 ∷ 30 ∷ 40 ∷ [])
    × (rows_of_1 (row_20_of_1 ∷ row_40 ∷ []) ≡ 30 ∷ 40 ∷ [])
    × (rows_of_1 (row_20_of_1 ∷ row_30_of_1 ∷ []) ≡ 40 ∷ [])
    × (rows_of_both (row_20_of_0 ∷ row_30_of_0 ∷ []) (row_20_of_1 ∷ row_30_of_1 ∷ row_40 ∷ [])
    ≡ 40 ∷ [])

-- a row is missing in both replies; further places are tried only up to the end of those of
-- resolver 0
abbrev pub ARowMissingInBoth : Type 0
ARowMissingInBoth =
    (rows_of_both (row_30_of_0 ∷ row_40 ∷ []) (row_30_of_1 ∷ row_40 ∷ []) ≡ 20 ∷ 30 ∷ 40 ∷ [])
    × (rows_of_both (row_20_of_0 ∷ row_40 ∷ []) (row_20_of_1 ∷ row_40 ∷ []) ≡ 30 ∷ 40 ∷ [])
    × (rows_of_both (row_20_of_0 ∷ row_30_of_0 ∷ []) (row_20_of_1 ∷ row_30_of_1 ∷ []) ≡ 40 ∷ [])
    × (rows_of_both [] [] ≡ 20 ∷ [])

-- a row too many, in one reply, in the other, and in both
abbrev pub ARowTooMany : Type 0
ARowTooMany =
    (rows_of_1 (row_20_of_1 ∷ row_30_of_1 ∷ row_40 ∷ row_50 ∷ []) ≡ 50 ∷ [])
    × (rows_of_both (row_20_of_0 ∷ row_30_of_0 ∷ row_40 ∷ row_50 ∷ [])
    (row_20_of_1 ∷ row_30_of_1 ∷ row_40 ∷ []) ≡ 50 ∷ 60 ∷ [])
    × (rows_of_both (row_20_of_0 ∷ row_30_of_0 ∷ row_40 ∷ row_50 ∷ [])
    (row_20_of_1 ∷ row_30_of_1 ∷ row_40 ∷ row_50 ∷ []) ≡ 50 ∷ 60 ∷ [])

-- a version between two others, in one reply and in both
abbrev pub AVersionBetween : Type 0
AVersionBetween =
    (rows_of_1 (row_20_of_1 ∷ unseen_row 25 [] ∷ row_30_of_1 ∷ row_40 ∷ [])
    ≡ 30 ∷ 40 ∷ 50 ∷ [])
    × (rows_of_both (row_20_of_0 ∷ unseen_row 25 [] ∷ row_30_of_0 ∷ row_40 ∷ [])
    (row_20_of_1 ∷ unseen_row 25 [] ∷ row_30_of_1 ∷ row_40 ∷ []) ≡ 30 ∷ 40 ∷ 50 ∷ 60 ∷ [])

-- a row with another number of state transactions
abbrev pub OtherNumbersOfStateTransactions : Type 0
OtherNumbersOfStateTransactions =
    (rows_of_1 (row_20_of_1 ∷ unseen_row 30 (state_of_1 Committed ∷ []) ∷ row_40 ∷ []) ≡ 30 ∷ [])
    × (rows_of_1 (row_20_of_1 ∷ row_30_of_1 ∷ unseen_row 40 (state_of_1 Committed ∷ []) ∷ [])
    ≡ 40 ∷ [])

-- a state transaction without content from resolver 0, and one with content from resolver 1
abbrev pub ContentOfTheWrongResolver : Type 0
ContentOfTheWrongResolver =
    (rows_of_both (row_20_of_1 ∷ row_30_of_0 ∷ row_40 ∷ [])
    (row_20_of_1 ∷ row_30_of_1 ∷ row_40 ∷ []) ≡ 20 ∷ [])
    × (rows_of_1 (row_20_of_1 ∷ row_30_of_0 ∷ row_40 ∷ []) ≡ 30 ∷ [])
