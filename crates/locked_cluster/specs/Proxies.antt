-- What a proxy's lock keeps, and what beginning and finishing do to it. *Profile*, but for what a
-- proxy answers.
use Rattle.std.specs.Prelude.{◌≡◌, ℕ, ◌+◌, ◌*◌, ◌<◌, ◌≤◌, List, [], ◌∷◌, length, take, Option, Some, None}
use Rattle.std.specs.Prelude.{slice_get, replicate, Bool, false, nat_lt}
use Rattle.model.specs.Numbers.{ProxyNumber, RowNumber, Version}
use Rattle.model.specs.Configs.{Config, IsConfig}
use Rattle.model.specs.declared.journal.JournalRow.{JournalRow}
use Rattle.model.specs.Records.{Record, last_moves, last_version, records_of_proxy}
use Rattle.model.specs.Metadata.{metadata, routing}
use Rattle.model.specs.Agreed.{Columns, IsAgreed, IsKnownJournal, AreVerdicts}
use Rattle.model.specs.Finishing.{ProxyView, HoldsMoves, HasBegun, HasFinished}
use Rattle.agreed_ledger.specs.Sequencing.{TicketView}
use Rattle.locked_cluster.specs.Begun.{BegunView, requests_to_all, with_records}
use Rattle.locked_cluster.specs.Ready.{ReadyView}
use Rattle.locked_cluster.specs.Answers.{NotedFinishedView, NotedRoutingView}
use Rattle.locked_resolvers.specs.declared.refusal.Refusal.{Refusal}
use Rattle.locked_resolvers.specs.declared.refusal.Refusal.TheVariants as refusals

-- A proxy under its lock: what it begins and finishes, the records up to the one last begun, and the
-- verdict cells of each resolver.
pub record LockedProxyView : Type 0 where
  pub proxy : ProxyView
  pub records : List Record
  pub columns : Columns

-- each record that was begun stands among these records, at its row
abbrev pub StandAmong : List Record → (begun : List Record) → Type 0
StandAmong records begun =
    (place : ℕ) (rec : Record) → slice_get begun place ≡ Some rec
    → slice_get records rec.row ≡ Some rec

-- each record that was begun is of the proxy of this number
abbrev pub AreOwn : ProxyNumber → (begun : List Record) → Type 0
AreOwn p begun =
    (place : ℕ) (rec : Record) → slice_get begun place ≡ Some rec → rec.proxy ≡ p

-- The records begun follow one another: the first follows this proxy's record of `version`, and `last`
-- is the version of the last one, or `version` if there is none.
abbrev pub FollowOneAnother : (version last : Version) → (begun : List Record) → Type 0
FollowOneAnother version last [] = last ≡ version
FollowOneAnother version last (rec ∷ later) =
    (rec.own_previous ≡ version) × FollowOneAnother rec.version last later

-- The view is agreed with the ledger up to the row of the proxy's version, the cells of these rows
-- hold the definition's verdicts, and the journal is made of these rows by the cells. (The metadata is
-- always the fold of the journal.) The version is the version of this proxy's last record among these rows,
-- or 0. The records begun and not finished are of this proxy, stand among the records, and follow one
-- another; the last record is the one begun last, and the map of owners holds its moves.
pub record IsLockedProxy (config : Config) (v : LockedProxyView) : Type 0 where
  pub config_is : IsConfig config
  pub config_of : v.proxy.config ≡ config
  pub number : v.proxy.number < config.proxies
  pub agreed : IsAgreed config v.records v.columns (length v.proxy.journal)
  pub verdicts : AreVerdicts config (take (length v.proxy.journal) v.records) v.columns
  pub journal_is :
      IsKnownJournal config v.records v.columns (length v.proxy.journal) v.proxy.journal
  pub version : v.proxy.version ≡ length v.proxy.journal * config.step
  pub own_version :
      let finished = take (length v.proxy.journal) v.records in
      v.proxy.version ≡ last_version (records_of_proxy v.proxy.number finished)
  pub own : AreOwn v.proxy.number v.proxy.begun
  pub begun : StandAmong v.records v.proxy.begun
  pub follow : FollowOneAnother v.proxy.version v.proxy.last_begun v.proxy.begun
  pub last_begun : v.proxy.last_begun ≡ last_version v.records
  pub moves : HoldsMoves v.proxy (last_moves v.records)

-- the proxy of this number before its first record: no record is begun, and no verdict cell is known
pub record IsNewLockedProxy (config : Config) (p : ProxyNumber) (v : LockedProxyView) : Type 0 where
  pub number : v.proxy.number ≡ p
  pub version : v.proxy.version ≡ 0
  pub journal : v.proxy.journal ≡ []
  pub begun : v.proxy.begun ≡ []
  pub records : v.records ≡ []
  pub columns : v.columns ≡ replicate config.resolvers []

-- ---- beginning

-- the record is of this proxy, and follows the one that it began last
pub record MayFollow (v : ProxyView) (rec : Record) : Type 0 where
  pub own : rec.proxy ≡ v.number
  pub follows : rec.own_previous ≡ v.last_begun

-- The record of the ticket was begun: it is the last of those begun, its records are those of the
-- lock, and the requests for it are the definition's, with the proxy's version as last received.
pub record BeginsTicket
    (config : Config) (before : LockedProxyView) (ticket : TicketView)
    (after : LockedProxyView) (begun : BegunView) : Type 0 where
  pub rec : Record
  pub there : slice_get ticket.records ticket.row ≡ Some rec
  pub may : MayFollow before.proxy rec
  pub begins : HasBegun before.proxy after.proxy rec
  pub records : after.records ≡ ticket.records
  pub columns : after.columns ≡ before.columns
  pub row : begun.row ≡ ticket.row
  pub begun_records : begun.records ≡ ticket.records
  pub requests :
      let plain = requests_to_all config rec before.proxy.version in
      begun.requests ≡ with_records ticket.records plain

-- Each refusal of a record that is to begin comes only by its cause: it is of another proxy; or it is
-- of this one, and does not follow the record begun last; or it does, and an allocation failed.
abbrev pub IsBeginRefusalOf : ProxyView → Record → Refusal → Type 0
IsBeginRefusalOf v rec refusals.NotMine = rec.proxy ≡ v.number → ⊥
IsBeginRefusalOf v rec (refusals.OutOfOrder expected) =
    (rec.proxy ≡ v.number) × (rec.own_previous ≡ v.last_begun → ⊥) × (expected ≡ v.last_begun)
IsBeginRefusalOf v rec refusals.OutOfMemory = MayFollow v rec
IsBeginRefusalOf v rec refusal = ⊥

-- the same of the record of a ticket
abbrev pub IsBeginRefusal : LockedProxyView → TicketView → Refusal → Type 0
IsBeginRefusal v ticket refusal =
    (rec : Record) × (slice_get ticket.records ticket.row ≡ Some rec)
    × IsBeginRefusalOf v.proxy rec refusal

-- ---- finishing

-- the row of the first of the records begun: the one that is finished next
abbrev pub first_row : (begun : List Record) → Option RowNumber
first_row [] = None
first_row (rec ∷ later) = Some rec.row

-- a record of an earlier row is still to be finished
abbrev pub awaits_row_before : (begun : List Record) → RowNumber → Bool
awaits_row_before [] row = false
awaits_row_before (rec ∷ later) row = nat_lt rec.row row

-- the record of the row, the last of these, is of the proxy of this number
abbrev pub IsOfProxy : ProxyNumber → RowNumber → List Record → Type 0
IsOfProxy p row records = (rec : Record) → slice_get records row ≡ Some rec → rec.proxy ≡ p

-- The finished record is one of the proxy's own. The proxy is at the version of the answer, and has its
-- records and its verdict cells.
pub record ShowsFinished (noted : NotedFinishedView) (v : LockedProxyView) : Type 0 where
  pub own : IsOfProxy v.proxy.number noted.finished.row noted.records
  pub version : v.proxy.version ≡ noted.finished.version
  pub records : take (noted.finished.row + 1) v.records ≡ noted.records
  pub columns : v.columns ≡ noted.columns

-- The proxy finished the record of the row, which was the one to be finished next, by the replies: its
-- journal grew by the rows that it had not seen and by the record's own. The lock has the verdict
-- cells that came with the replies, and so has the answer.
pub record FinishesReady
    (before : LockedProxyView) (ready : ReadyView)
    (after : LockedProxyView) (noted : NotedFinishedView) : Type 0 where
  pub in_turn : first_row before.proxy.begun ≡ Some ready.row
  pub finishes : HasFinished before.proxy after.proxy ready.replies noted.finished
  pub row : noted.finished.row ≡ ready.row
  pub shown : ShowsFinished noted after
  pub records : after.records ≡ before.records
  pub columns : after.columns ≡ ready.columns
  pub noted_records : noted.records ≡ ready.records
  pub noted_columns : noted.columns ≡ ready.columns

-- Each refusal of a finish comes only by its cause: the record is not the one that is finished next,
-- whose row is named; or it is, and an allocation failed.
abbrev pub IsFinishRefusal : LockedProxyView → ReadyView → Refusal → Type 0
IsFinishRefusal v ready (refusals.OutOfTurn expected) =
    (expected ≡ first_row v.proxy.begun) × (expected ≡ Some ready.row → ⊥)
IsFinishRefusal v ready refusals.OutOfMemory = first_row v.proxy.begun ≡ Some ready.row
IsFinishRefusal v ready refusal = ⊥

-- ---- routings

-- the routing at the version by these rows of the journal, with the records and cells of the lock
pub record ShowsRouting
    (v : LockedProxyView) (version : Version) (rows : List JournalRow) (noted : NotedRoutingView) :
    Type 0 where
  pub reached : version ≤ v.proxy.version
  pub routing_is : noted.routing ≡ routing version (metadata rows)
  pub records : noted.records ≡ v.records
  pub columns : noted.columns ≡ v.columns

-- Each refusal of a routing comes only by its cause: the version is above the proxy's, which is named;
-- or it is not, and an allocation failed.
abbrev pub IsRoutingRefusal : LockedProxyView → Version → Refusal → Type 0
IsRoutingRefusal v version (refusals.NotReached reached) =
    (v.proxy.version < version) × (reached ≡ v.proxy.version)
IsRoutingRefusal v version refusals.OutOfMemory = version ≤ v.proxy.version
IsRoutingRefusal v version refusal = ⊥
