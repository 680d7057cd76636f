-- The replies of all resolvers to a record that was begun.
use Rattle.std.specs.Prelude.{◌≡◌, ◌⊎◌, List, length, slice_get, Some}
use Rattle.model.specs.Numbers.{ResolverNumber}
use Rattle.model.specs.Configs.{Config}
use Rattle.model.specs.Records.{Record}
use Rattle.model.specs.Shares.{each_below}
use Rattle.model.specs.declared.reply.Reply.{Reply}
use Rattle.locked_cluster.specs.Begun.{BegunView}
use Rattle.locked_resolvers.specs.Asking.{AreNotAll, IsAskedRefusal}
use Rattle.locked_resolvers.specs.NotedReplies.{NotedReplyView}
use Rattle.locked_resolvers.specs.declared.refusal.Refusal.{Refusal}
use Rattle.locked_resolvers.specs.declared.refusal.Refusal.TheVariants as refusals

-- the reply is of this resolver, to this record
pub record IsReplyOf (r : ResolverNumber) (rec : Record) (reply : Reply) : Type 0 where
  pub resolver : reply.resolver ≡ r
  pub proxy : reply.proxy ≡ rec.proxy
  pub row : reply.row ≡ rec.row
  pub version : reply.version ≡ rec.version

-- each resolver of the cluster has replied to the record of the row, in the order of their numbers
pub record HaveAllReplied (config : Config) (begun : BegunView) (replies : List NotedReplyView) :
    Type 0 where
  pub rec : Record
  pub there : slice_get begun.records begun.row ≡ Some rec
  pub count : length replies ≡ config.resolvers
  pub each :
      (r : ResolverNumber) (noted : NotedReplyView) → slice_get replies r ≡ Some noted
      → IsReplyOf r rec noted.reply

-- Some resolvers, of these numbers, are not all of the cluster in order, and so they were not taken; or
-- they are, and asking them was refused.
abbrev pub IsAskEachRefusal : Config → List ResolverNumber → BegunView → Refusal → Type 0
IsAskEachRefusal config numbers begun refusal =
    ((refusal ≡ refusals.WrongResolver) × AreNotAll config numbers)
    ⊎ ((numbers ≡ each_below config.resolvers) × IsAskedRefusal config begun.requests refusal)
