-- What this project promises of the metadata of proxies, in one record. *Profile*, but for the rule
-- of commit.
use Rattle.std.specs.Prelude.{◌≡◌, ℕ, ◌+◌, ◌≤◌, ◌↔◌, List, length, take, slice_get, Some, Contains}
use Rattle.system_keys.specs.declared.change.Change.{Change}
use Rattle.model.specs.Numbers.{TransactionNumber, Version}
use Rattle.model.specs.Configs.{Config}
use Rattle.model.specs.Records.{Record, IsHistory, last_version}
use Rattle.model.specs.declared.outcome.Finished.{Finished}
use Rattle.model.specs.declared.outcome.Outcome.TheVariants.{Committed}
use Rattle.model.specs.declared.outcome.Tagged.{Tagged}
use Rattle.model.specs.Journal.{history_verdicts, journal}
use Rattle.model.specs.Metadata.{Entries, metadata}
use Rattle.model.specs.Serial.{Place, IsCommitted, IsSerial}
use Rattle.model.specs.World.{IsTaggedBy, finished_batch, up_to_version}
use Rattle.proxy_state.specs.Beginning.{rows_up_to}
use Rattle.locked_cluster.specs.Answers.{NotedFinishedView}
use Rattle.locked_cluster.specs.Audits.{IsConfirmed, reached_records}
use Rattle.locked_cluster.specs.Proxies.{LockedProxyView}

-- ---- the metadata of a proxy

-- the metadata of a history: the fold of its journal
abbrev pub history_metadata : Config → (history : List Record) → Entries
history_metadata config history =
    metadata (journal config (history_verdicts config history) history)

-- what the proxy shows at a version that it has reached: the fold of its journal up to this version
abbrev pub metadata_at : LockedProxyView → Version → Entries
metadata_at v version = metadata (rows_up_to version v.proxy.journal)

-- The records up to the proxy's version are a history that ends at this version. The metadata is
-- the fold, in the order of versions, of exactly the state transactions of these records that every
-- resolver committed and that the lock rule let pass (`journal` has the verdicts of all resolvers,
-- and `metadata` applies the rule). At an earlier version the proxy shows this fold of the records
-- up to that version. Of the transactions that these records commit, none read a range that another
-- wrote between its snapshot and itself.
pub record KeepsMetadata (config : Config) (v : LockedProxyView) (entries : Entries) : Type 0 where
  pub history : IsHistory config (reached_records v)
  pub last : last_version (reached_records v) ≡ v.proxy.version
  pub metadata_is :
      let verdict_by = history_verdicts config (reached_records v) in
      entries ≡ metadata (journal config verdict_by (reached_records v))
  pub metadata_at_is :
      (version : Version) → version ≤ v.proxy.version
      → metadata_at v version ≡ history_metadata config (up_to_version version (reached_records v))
  pub serial : IsSerial config (reached_records v)

-- ---- an answer

-- the finished batch tells the client of transaction n that it is committed
pub record TellsCommitted (finished : Finished) (n : TransactionNumber) : Type 0 where
  pub version : Version
  pub number : TransactionNumber
  pub told : slice_get finished.outcomes n ≡ Some (Committed version number)

-- the list has the mutation at this place of transaction n
pub record HasMutation
    (mutations : List Tagged) (n : TransactionNumber) (place : ℕ) (change : Change) : Type 0 where
  pub mutation : Tagged
  pub there : Contains mutations mutation
  pub number_is : mutation.number ≡ n
  pub place_is : mutation.place ≡ place
  pub change_is : mutation.change ≡ change

-- The records of the answer are a history, whose last record has the answer's row and version.
-- The answer is the definition's for it. A client is told Committed exactly if its transaction is
-- committed. Each mutation of each committed transaction of the record stands in the answer, and each
-- mutation in the answer has the tags, and the private copy, that the metadata after the record gives
-- it. Of the transactions that these records commit, none read a range that another wrote between its
-- snapshot and itself.
pub record IsTrueAnswer (config : Config) (answer : NotedFinishedView) : Type 0 where
  pub rec : Record
  pub history : IsHistory config answer.records
  pub length_is : length answer.records ≡ answer.finished.row + 1
  pub there : slice_get answer.records answer.finished.row ≡ Some rec
  pub last : last_version answer.records ≡ answer.finished.version
  pub finished_is :
      let verdict_by = history_verdicts config answer.records in
      answer.finished
      ≡ finished_batch config verdict_by (take answer.finished.row answer.records) rec
  pub told :
      (a : Place answer.records) → a.i ≡ answer.finished.row
      → TellsCommitted answer.finished a.n ↔ IsCommitted config answer.records a
  pub all_are_there :
      (a : Place answer.records) → a.i ≡ answer.finished.row → IsCommitted config answer.records a
      → (place : ℕ) (change : Change) → slice_get a.transaction.changes place ≡ Some change
      → HasMutation answer.finished.tagged a.n place change
  pub tags_are :
      let verdict_by = history_verdicts config answer.records in
      (tagged : Tagged) → Contains answer.finished.tagged tagged
      → IsTaggedBy (metadata (journal config verdict_by answer.records)) tagged
  pub serial : IsSerial config answer.records

-- The proxy, whose metadata these entries are, and the answer are of one history: the records of the
-- one that has come less far begin those of the other. A proxy that has reached the version of the
-- answer confirms it. At that very version the tags and the private copies of the answer are those that
-- the proxy's metadata gives.
pub record MeetsAnswer
    (config : Config) (v : LockedProxyView) (entries : Entries) (answer : NotedFinishedView) :
    Type 0 where
  pub begins :
      answer.finished.version ≤ v.proxy.version
      → up_to_version answer.finished.version (reached_records v) ≡ answer.records
  pub continues :
      v.proxy.version ≤ answer.finished.version
      → up_to_version v.proxy.version answer.records ≡ reached_records v
  pub confirmed : answer.finished.version ≤ v.proxy.version → IsConfirmed config v answer
  pub tags_are :
      answer.finished.version ≡ v.proxy.version
      → (tagged : Tagged) → Contains answer.finished.tagged tagged → IsTaggedBy entries tagged

-- ---- the promise

-- the proxies have the same records up to the version, and show the same metadata at it
pub record AgreeAt (version : Version) (one other : LockedProxyView) : Type 0 where
  pub records :
      up_to_version version (reached_records one) ≡ up_to_version version (reached_records other)
  pub metadata : metadata_at one version ≡ metadata_at other version

-- Of two proxies whose locks are held, their metadata, and an answer of any proxy of the cluster:
-- each keeps its metadata, and the two agree. The answer is true, and it and each of the proxies
-- are of one history.
pub record Headline
    (config : Config) (one other : LockedProxyView) (mine theirs : Entries)
    (answer : NotedFinishedView) : Type 0 where
  pub mine_is : KeepsMetadata config one mine
  pub theirs_is : KeepsMetadata config other theirs
  -- two proxies at one version have the same metadata
  pub agree : one.proxy.version ≡ other.proxy.version → mine ≡ theirs
  -- two proxies agree at every version that both have reached
  pub agree_at :
      (version : Version) → version ≤ one.proxy.version → version ≤ other.proxy.version
      → AgreeAt version one other
  pub answer_is : IsTrueAnswer config answer
  pub mine_meets : MeetsAnswer config one mine answer
  pub theirs_meet : MeetsAnswer config other theirs answer
