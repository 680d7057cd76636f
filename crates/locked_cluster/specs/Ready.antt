-- The replies to a record by which its proxy may finish it. *Profile*: all of it.
use Rattle.std.specs.Prelude.{◌≡◌, ◌+◌, ◌<◌, List, length, take, slice_get, Some}
use Rattle.model.specs.Numbers.{ResolverNumber, RowNumber}
use Rattle.model.specs.Configs.{Config}
use Rattle.model.specs.Records.{Record, IsHistory}
use Rattle.model.specs.Journal.{history_verdicts, list_at}
use Rattle.model.specs.Agreed.{Columns, KnowsRows, AreVerdicts}
use Rattle.model.specs.Finishing.{Replies, AreRepliesBy}
use Rattle.locked_resolvers.specs.NotedReplies.{NotedReplyView}

-- the row of a record, the replies to it, the records up to it, and the verdict cells of each resolver
pub record ReadyView : Type 0 where
  pub row : RowNumber
  pub replies : Replies
  pub records : List Record
  pub columns : Columns

-- The records are a history, and the last of them is the record of the row. Each resolver's column
-- has a cell for each of them, with the definition's verdicts, and the replies are those that the
-- resolvers give to the record by these verdicts.
pub record IsReady (config : Config) (v : ReadyView) : Type 0 where
  pub rec : Record
  pub history : IsHistory config v.records
  pub last : length v.records ≡ v.row + 1
  pub there : slice_get v.records v.row ≡ Some rec
  pub cells :
      (r : ResolverNumber) → r < config.resolvers
      → KnowsRows (list_at v.columns r) (length v.records)
  pub verdicts : AreVerdicts config v.records v.columns
  pub replied :
      let verdict_by = history_verdicts config v.records in
      AreRepliesBy config verdict_by (take v.row v.records) rec v.replies

-- the replies of all resolvers to the record of the row, in the order of the resolvers
pub record AreRepliesOfAll (config : Config) (row : RowNumber) (replies : List NotedReplyView) :
    Type 0 where
  pub count : length replies ≡ config.resolvers
  pub each :
      (r : ResolverNumber) (noted : NotedReplyView) → slice_get replies r ≡ Some noted
      → (noted.reply.resolver ≡ r) × (noted.reply.row ≡ row)
