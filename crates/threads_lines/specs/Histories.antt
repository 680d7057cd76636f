-- The history that a run knows, and what is a start of it (this project's profile).
use Rattle.std.specs.Prelude.{◌≡◌, ◌+◌, ◌≤◌, ℕ, List, [], length, slice_get, take, Some}
use Rattle.model.specs.Records.{Record, last_version, records_of_proxy}
use Rattle.locked_cluster.specs.Answers.{NotedFinishedView}
use Rattle.locked_cluster.specs.Proxies.{LockedProxyView}
use Rattle.locked_resolvers.specs.Resolvers.{LockedResolverView}

-- what a run knows: records from row 0 on, and how many batches it saw finished, closings among them
pub record Known : Type 0 where
  pub records : List Record
  pub finished : ℕ

abbrev pub nothing_known : Known
nothing_known = record { records = []; finished = 0 }

-- these are the first of those records
abbrev pub IsStartOf : (known records : List Record) → Type 0
IsStartOf known records = known ≡ take (length known) records

-- The batch was seen finished, at a row beyond all records that were known. The records up to it are
-- known then.
pub record SeesFinished (noted : NotedFinishedView) (before after : Known) : Type 0 where
  pub kept : IsStartOf before.records after.records
  pub beyond : length before.records ≤ noted.finished.row
  pub learned : IsStartOf noted.records after.records
  pub counted : after.finished ≡ before.finished + 1

-- What another knew is known then too: the records of both are a start of one history, and the numbers
-- of batches that they saw finished are added.
pub record Joins (other before after : Known) : Type 0 where
  pub kept : IsStartOf before.records after.records
  pub learned : IsStartOf other.records after.records
  pub counted : after.finished ≡ before.finished + other.finished

-- the records of each proxy are a start of the history
abbrev pub AreOfProxies : (proxies : List LockedProxyView) → (history : List Record) → Type 0
AreOfProxies proxies history =
    (place : ℕ) (v : LockedProxyView) → slice_get proxies place ≡ Some v
    → IsStartOf v.records history

-- the proxy has finished its records of the history: it is at the version of the last of them, or at 0 if
-- it has none
abbrev pub HasFinishedAll : (history : List Record) → LockedProxyView → Type 0
HasFinishedAll history v =
    v.proxy.version ≡ last_version (records_of_proxy v.proxy.number history)

-- the resolver has judged as many records as the history has
abbrev pub HasJudgedAll : (history : List Record) → LockedResolverView → Type 0
HasJudgedAll history w = length w.records ≡ length history

-- the records of each resolver are a start of the history
abbrev pub AreOfResolvers :
    (resolvers : List LockedResolverView) → (history : List Record) → Type 0
AreOfResolvers resolvers history =
    (place : ℕ) (w : LockedResolverView) → slice_get resolvers place ≡ Some w
    → IsStartOf w.records history
