-- What an audit and a confirmation find. *Profile*: all of it, but for the rule of commit.
use Rattle.std.specs.Prelude.{◌≡◌, ℕ, ◌<◌, ◌≤◌, List, length, take, slice_get, Some}
use Rattle.model.specs.Numbers.{ResolverNumber}
use Rattle.model.specs.Configs.{Config}
use Rattle.model.specs.Records.{Record, IsHistory, last_version}
use Rattle.model.specs.Journal.{history_verdicts, journal, list_at}
use Rattle.model.specs.Serial.{IsSerial}
use Rattle.model.specs.World.{finished_batch, up_to_version}
use Rattle.model.specs.Agreed.{KnowsRows, AreVerdicts, IsVerdictColumn}
use Rattle.locked_cluster.specs.Answers.{NotedFinishedView}
use Rattle.locked_resolvers.specs.Resolvers.{LockedResolverView}
use Rattle.locked_cluster.specs.Proxies.{LockedProxyView}
use Rattle.locked_cluster.specs.declared.audits.behind_by.BehindBy.{BehindBy}

-- the records that the proxy knows up to its version
abbrev pub reached_records : LockedProxyView → List Record
reached_records v = up_to_version v.proxy.version v.records

-- ---- an audit

-- The records up to the proxy's version are a history that ends at this version. The journal is the
-- definition's of this history. Each resolver has a verdict cell for each of the records, with the
-- definition's verdicts. The rule of commit holds of the history.
pub record IsAudited (config : Config) (v : LockedProxyView) : Type 0 where
  pub history : IsHistory config (reached_records v)
  pub last : last_version (reached_records v) ≡ v.proxy.version
  pub journal_is :
      let verdict_by = history_verdicts config (reached_records v) in
      v.proxy.journal ≡ journal config verdict_by (reached_records v)
  pub cells :
      (r : ResolverNumber) → r < config.resolvers
      → KnowsRows (list_at v.columns r) (length (reached_records v))
  pub verdicts : AreVerdicts config (reached_records v) v.columns
  pub serial : IsSerial config (reached_records v)

-- The resolver has reached the proxy's version or further. Its own records begin with those of the
-- proxy, and it has given the definition's verdicts on each of them.
pub record HasReached (config : Config) (v : LockedProxyView) (resolver : LockedResolverView) :
    Type 0 where
  pub reached : v.proxy.version ≤ resolver.memory.version
  pub records :
      take (length (reached_records v)) resolver.records ≡ reached_records v
  pub cells : KnowsRows resolver.column (length (reached_records v))
  pub verdicts :
      IsVerdictColumn config (reached_records v) resolver.memory.number resolver.column

-- every one of the resolvers has
abbrev pub HaveReached : Config → LockedProxyView → List LockedResolverView → Type 0
HaveReached config v resolvers =
    (place : ℕ) (resolver : LockedResolverView) → slice_get resolvers place ≡ Some resolver
    → HasReached config v resolver

-- the first of the resolvers whose version is below that of the proxy, by its number and its version
pub record IsFirstBehind
    (config : Config) (v : LockedProxyView) (resolvers : List LockedResolverView)
    (behind : BehindBy) : Type 0 where
  pub place : ℕ
  pub resolver : LockedResolverView
  pub there : slice_get resolvers place ≡ Some resolver
  pub sooner : HaveReached config v (take place resolvers)
  pub number : behind.resolver ≡ resolver.memory.number
  pub version : behind.version ≡ resolver.memory.version
  pub below : resolver.memory.version < v.proxy.version

-- ---- a confirmation

-- The proxy has reached the version of the answer or further. The answer is the definition's for the
-- record of its row among the records up to the proxy's version, by the verdicts of their history.
pub record IsConfirmed (config : Config) (v : LockedProxyView) (answer : NotedFinishedView) :
    Type 0 where
  pub reached : answer.finished.version ≤ v.proxy.version
  pub rec : Record
  pub there : slice_get (reached_records v) answer.finished.row ≡ Some rec
  pub finished_is :
      let h = reached_records v in
      answer.finished
      ≡ finished_batch config (history_verdicts config h) (take answer.finished.row h) rec
