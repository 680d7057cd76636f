-- A reply that crosses threads, with the records and the verdict cells that it speaks of. *Profile*:
-- all of it.
use Rattle.std.specs.Prelude.{◌≡◌, ◌+◌, ◌<◌, List, length, take, slice_get, Some}
use Rattle.model.specs.Configs.{Config}
use Rattle.model.specs.Records.{Record, IsHistory}
use Rattle.model.specs.declared.reply.Reply.{Reply}
use Rattle.model.specs.Journal.{history_verdicts}
use Rattle.model.specs.World.{reply_of}
use Rattle.model.specs.Agreed.{Column, KnowsRows, IsVerdictColumn}
use Rattle.model.specs.Requests.{Request}

-- a reply, the records up to its row, and the verdict cells of its resolver
pub record NotedReplyView : Type 0 where
  pub reply : Reply
  pub records : List Record
  pub column : Column

-- The records are a history, and the last of them is the record of the reply's row. The resolver's
-- column has a cell for each of them, with the definition's verdicts, and the reply is the one that
-- the definition gives by these verdicts.
pub record IsNotedReply (config : Config) (v : NotedReplyView) : Type 0 where
  pub rec : Record
  pub history : IsHistory config v.records
  pub last : length v.records ≡ v.reply.row + 1
  pub there : slice_get v.records v.reply.row ≡ Some rec
  pub resolver : v.reply.resolver < config.resolvers
  pub cells : KnowsRows v.column (length v.records)
  pub verdicts : IsVerdictColumn config v.records v.reply.resolver v.column
  pub reply_is :
      let verdict_by = history_verdicts config v.records in
      v.reply ≡ reply_of config verdict_by v.reply.resolver (take v.reply.row v.records) rec

-- the reply is to this request: of its row, its proxy and its resolver
pub record IsReplyToRequest (q : Request) (reply : Reply) : Type 0 where
  pub resolver : reply.resolver ≡ q.resolver
  pub proxy : reply.proxy ≡ q.proxy
  pub row : reply.row ≡ q.row
  pub version : reply.version ≡ q.version
