-- What a proxy learns from the replies to its record, and how a proxy begins and finishes records.
-- A proxy knows its own records; of other proxies it knows only what the resolvers reply. Release
-- 7.1, `CommitProxyServer.actor.cpp`, getResolution, applyMetadataEffect and
-- determineCommittedTransactions; what differs is marked *profile*.
use Rattle.std.specs.Prelude.{◌≡◌, ℕ, suc, ◌+◌, ◌*◌, ◌<◌, ◌≤◌, List, [], ◌∷◌, ◌++◌, length, take}
use Rattle.std.specs.Prelude.{drop, map, filter, Bool, false, ◌&&◌, not, if◌then◌else◌, nat_eq}
use Rattle.std.specs.Prelude.{nat_le}
use Rattle.std.specs.Prelude.{slice_get, Option, Some, None, unwrap_or, is_some, Contains, IsTrue}
use Rattle.std.specs.List.{list_all}
use Rattle.model.specs.Numbers.{Version, ResolverNumber, ProxyNumber, TransactionNumber}
use Rattle.model.specs.Configs.{Config}
use Rattle.model.specs.declared.moves.Move.{Move}
use Rattle.model.specs.declared.verdict.Verdict.{Verdict}
use Rattle.model.specs.declared.verdict.Verdict.TheVariants.{Conflict}
use Rattle.model.specs.declared.journal.StateTxn.{StateTxn}
use Rattle.model.specs.declared.journal.JournalRow.{JournalRow}
use Rattle.model.specs.declared.unseen.Carried.{Carried}
use Rattle.model.specs.declared.unseen.UnseenState.{UnseenState}
use Rattle.model.specs.declared.unseen.UnseenRow.{UnseenRow}
use Rattle.model.specs.declared.reply.Reply.{Reply}
use Rattle.model.specs.declared.outcome.Finished.{Finished}
use Rattle.model.specs.Transactions.{StampedTransaction}
use Rattle.model.specs.Records.{Record}
use Rattle.model.specs.OwnerMaps.{OwnerMapView, StandsForMoves}
use Rattle.model.specs.Shares.{share, asks, each_below}
use Rattle.model.specs.Journal.{VerdictSource, verdict_or_conflict, journal_row, reply_row_of}
use Rattle.model.specs.Journal.{HaveVerdictCount}
use Rattle.model.specs.World.{reply_with, finished_after}

-- ---- replies

-- a place for each resolver, filled once its reply has come
abbrev pub Replies : Type 0
Replies = List (Option Reply)

-- the reply of resolver r, or None if it has not come
abbrev pub reply_from : Replies → (r : ResolverNumber) → Option Reply
reply_from replies r = unwrap_or (slice_get replies r) None

-- the verdicts of a reply, or none if it has not come
abbrev pub verdicts_of_reply : Option Reply → List Verdict
verdicts_of_reply None = []
verdicts_of_reply (Some reply) = reply.verdicts

-- the unseen rows of a reply, or none if it has not come
abbrev pub unseen_of_reply : Option Reply → List UnseenRow
unseen_of_reply None = []
unseen_of_reply (Some reply) = reply.unseen

-- The verdicts on a record by the replies to it, whatever row is named: the verdict of resolver r on
-- transaction n stands at the place of its part in the share of r.
unfoldable pub replied_verdicts : Config → Record → Replies → VerdictSource
replied_verdicts config rec replies r i n =
    verdict_or_conflict (share config rec r) (verdicts_of_reply (reply_from replies r)) n

-- of the resolvers of a cluster, those whose replies have not come, in increasing order
abbrev pub unreplied : (resolvers : ℕ) → Replies → List ResolverNumber
unreplied resolvers replies =
    filter (λ r. not (is_some (reply_from replies r))) (each_below resolvers)

-- ---- replies that agree

-- the reply is of resolver r to this record, and has a verdict for each part of the share of r
pub record IsReplyTo (config : Config) (rec : Record) (r : ResolverNumber) (reply : Reply) :
    Type 0 where
  pub resolver : reply.resolver ≡ r
  pub proxy : reply.proxy ≡ rec.proxy
  pub row : reply.row ≡ rec.row
  pub version : reply.version ≡ rec.version
  pub verdicts : length reply.verdicts ≡ length (share config rec r)

-- the first row is one step after `version`, each further one a step after the row before it, and
-- the last is of version `end`; if there is no row, `version` is `end`
abbrev pub LeadTo : (step : ℕ) (version end : Version) → List JournalRow → Type 0
LeadTo step version end [] = version ≡ end
LeadTo step version end (row ∷ rows) =
    (row.version ≡ version + step) × LeadTo step row.version end rows

-- The replies to a record agree on these rows, as those after `version` and before the record: each
-- resolver replied to the record, and its unseen rows are its part of these rows.
pub record AgreeOnRows
    (config : Config) (version : Version) (rec : Record) (replies : Replies)
    (rows : List JournalRow) : Type 0 where
  pub replied :
      (r : ResolverNumber) → r < config.resolvers
      → (reply : Reply) × (reply_from replies r ≡ Some reply) × IsReplyTo config rec r reply
      × (reply.unseen ≡ map (reply_row_of r) rows)
  pub verdicts :
      (row : JournalRow) → Contains rows row → HaveVerdictCount config.resolvers row
  pub lead : LeadTo config.step version rec.previous rows

-- The replies to a record are those that the resolvers give by a source of verdicts, after the
-- records `before` it: each has the rows that the proxy has not seen, and on its own share the
-- verdicts of the source.
abbrev pub AreRepliesBy :
    Config → VerdictSource → (before : List Record) (rec : Record) → Replies → Type 0
AreRepliesBy config verdict_by before rec replies =
    (r : ResolverNumber) → r < config.resolvers
    → (verdicts : List Verdict)
    × (reply_from replies r ≡ Some (reply_with verdicts verdict_by r before rec))
    × (length verdicts ≡ length (share config rec r))
    × ((n : TransactionNumber) (t : StampedTransaction) → slice_get rec.batch n ≡ Some t
    → IsTrue (asks config rec r t)
    → verdict_or_conflict (share config rec r) verdicts n ≡ verdict_by r rec.row n)

-- ---- the rows that replies tell

-- the content of a state transaction as resolver 0 replies it, and nothing if it has none
abbrev pub copy_content : UnseenState → Carried
copy_content state =
    unwrap_or state.carried (record { mutations = []; lock_aware = false })

-- the verdict in state transaction j of a row, or Conflict if it is missing
abbrev pub verdict_in_row : Option UnseenRow → (j : ℕ) → Verdict
verdict_in_row None j = Conflict
verdict_in_row (Some row) j =
    unwrap_or (slice_get (map (λ (state : UnseenState). state.verdict) row.states) j) Conflict

-- the unseen row at place k of the reply of resolver r, if there is one
abbrev pub row_from : Replies → (k : ℕ) (r : ResolverNumber) → Option UnseenRow
row_from replies k r = slice_get (unseen_of_reply (reply_from replies r)) k

-- state transaction j of row k: the content that resolver 0 replies, and the verdict that each
-- resolver replies
abbrev pub state_by_replies :
    (resolvers : ℕ) → Replies → (k j : ℕ) → (of_0 : UnseenState) → StateTxn
state_by_replies resolvers replies k j state =
    record {
      mutations = (copy_content state).mutations;
      lock_aware = (copy_content state).lock_aware;
      verdicts =
          map (λ (r : ResolverNumber). verdict_in_row (row_from replies k r) j)
          (each_below resolvers);
    }

-- the state transactions of row k, numbered from j
abbrev pub states_by_replies_from :
    (resolvers : ℕ) → Replies → (k j : ℕ) → (of_0 : List UnseenState) → List StateTxn
states_by_replies_from resolvers replies k j [] = []
states_by_replies_from resolvers replies k j (state ∷ states) =
    state_by_replies resolvers replies k j state
    ∷ states_by_replies_from resolvers replies k (suc j) states

-- row k: the version that resolver 0 replies, and the state transactions
abbrev pub row_by_replies : (resolvers : ℕ) → Replies → (k : ℕ) → (of_0 : UnseenRow) → JournalRow
row_by_replies resolvers replies k row =
    record {
      version = row.version;
      states = states_by_replies_from resolvers replies k 0 row.states;
    }

-- the rows from place k on
abbrev pub rows_by_replies_from :
    (resolvers : ℕ) → Replies → (k : ℕ) → (of_0 : List UnseenRow) → List JournalRow
rows_by_replies_from resolvers replies k [] = []
rows_by_replies_from resolvers replies k (row ∷ rows) =
    row_by_replies resolvers replies k row ∷ rows_by_replies_from resolvers replies (suc k) rows

-- the rows that the replies tell, if they agree: the versions and the contents of resolver 0, and
-- the verdicts of all resolvers
abbrev pub rows_by_replies : (resolvers : ℕ) → Replies → List JournalRow
rows_by_replies resolvers replies =
    rows_by_replies_from resolvers replies 0 (unseen_of_reply (reply_from replies 0))

-- ---- replies that disagree

-- the test of `IsReplyTo`
abbrev pub is_reply_to : Config → Record → (r : ResolverNumber) → Option Reply → Bool
is_reply_to config rec r None = false
is_reply_to config rec r (Some reply) =
    nat_eq reply.resolver r
    && nat_eq reply.proxy rec.proxy
    && nat_eq reply.row rec.row
    && nat_eq reply.version rec.version
    && nat_eq (length reply.verdicts) (length (share config rec r))

-- Resolver 0 replies the content of each state transaction, and the others none. *Profile*: a reply
-- with content that it should not have, or without content that it should have, disagrees.
abbrev pub has_content_for : (r : ResolverNumber) → UnseenState → Bool
has_content_for r state = if nat_eq r 0 then is_some state.carried else not (is_some state.carried)

-- the row that resolver r replies is of this version, and has this number of state transactions
abbrev pub row_fits : Version → (count : ℕ) (r : ResolverNumber) → Option UnseenRow → Bool
row_fits version count r None = false
row_fits version count r (Some row) =
    nat_eq row.version version
    && nat_eq (length row.states) count
    && list_all (has_content_for r) row.states

-- the version that should stand at place k of the unseen rows, after `version`
abbrev pub version_at : (step : ℕ) (version : Version) (k : ℕ) → Version
version_at step version k = version + suc k * step

-- At place k of the unseen rows all replies fit together. If resolver 0 has a row there, the
-- version that should stand there is not above `end`, and each resolver has a row of that version,
-- with as many state transactions as resolver 0. If resolver 0 has none, no resolver has one, and
-- the place before is of version `end`.
abbrev pub place_fits_by :
    Config → (version end : Version) → Replies → (k : ℕ) → (of_0 : Option UnseenRow) → Bool
place_fits_by config version end replies k None =
    nat_eq (version + k * config.step) end
    && list_all (λ r. not (is_some (row_from replies k r))) (each_below config.resolvers)
place_fits_by config version end replies k (Some row) =
    nat_le (version_at config.step version k) end
    && list_all
    (λ r. row_fits (version_at config.step version k) (length row.states) r (row_from replies k r))
    (each_below config.resolvers)

abbrev pub place_fits : Config → (version end : Version) → Replies → (k : ℕ) → Bool
place_fits config version end replies k =
    place_fits_by config version end replies k (row_from replies k 0)

-- the places of the unseen rows at which the replies do not fit together, up to the first place at
-- which resolver 0 has no row
abbrev pub misfits : Config → (version end : Version) → Replies → List ℕ
misfits config version end replies =
    filter (λ k. not (place_fits config version end replies k))
    (each_below (suc (length (unseen_of_reply (reply_from replies 0)))))

-- each resolver replied to this record
abbrev pub are_replies_to : Config → Record → Replies → Bool
are_replies_to config rec replies =
    list_all (λ r. is_reply_to config rec r (reply_from replies r)) (each_below config.resolvers)

-- The versions at which the replies to a record disagree, in order, where the proxy is at
-- `version`. If some reply is not to the record, or has another number of verdicts than its share
-- has parts, it is the version of the record. Otherwise they are the versions that should stand at
-- the places of unseen rows that do not fit. *Profile*: all of it.
unfoldable pub disagreements : Config → Version → Record → Replies → List Version
disagreements config version rec replies =
    if are_replies_to config rec replies
    then map (version_at config.step version) (misfits config version rec.previous replies)
    else rec.version ∷ []

-- ---- a proxy

-- A proxy: its number, its cluster, the map of owners after the moves of the record last begun, and
-- how many moves these are; the version last begun, the records begun and not finished, the
-- earliest first, its version, which is that of the record last finished, and its journal.
pub record ProxyView : Type 0 where
  pub number : ProxyNumber
  pub config : Config
  pub owned : OwnerMapView
  pub moved : ℕ
  pub last_begun : Version
  pub begun : List Record
  pub version : Version
  pub journal : List JournalRow

-- the map of the proxy stands for these moves, and they are as many as the proxy counts
pub record HoldsMoves (v : ProxyView) (moves : List Move) : Type 0 where
  pub stands : StandsForMoves v.owned moves
  pub count : v.moved ≡ length moves

-- the moves may be made one after another from `date` on: their dates never decrease, and each goes
-- to a resolver of the cluster
abbrev pub MayBeMade : (resolvers date : ℕ) → List Move → Type 0
MayBeMade resolvers date [] = Unit {0}
MayBeMade resolvers date (m ∷ moves) =
    (date ≤ m.date) × (m.dest < resolvers) × MayBeMade resolvers m.date moves

-- What a caller of `begin` keeps. The version of the record is one step after its previous version,
-- which is not below the version of this proxy's record before. Its moves begin with those that the
-- map of the proxy stands for, and the further ones may be made.
pub record MayBegin (v : ProxyView) (rec : Record) : Type 0 where
  pub moves : List Move
  pub holds : HoldsMoves v moves
  pub version : rec.version ≡ rec.previous + v.config.step
  pub own : rec.own_previous ≤ rec.previous
  pub kept_moves : take (length moves) rec.moves ≡ moves
  pub further_moves :
      MayBeMade v.config.resolvers v.owned.last_date (drop (length moves) rec.moves)

-- the proxy began a record: the record is the last of those begun, and the map holds its moves
pub record HasBegun (v new : ProxyView) (rec : Record) : Type 0 where
  pub number : new.number ≡ v.number
  pub config : new.config ≡ v.config
  pub holds : HoldsMoves new rec.moves
  pub last_begun : new.last_begun ≡ rec.version
  pub begun : new.begun ≡ v.begun ++ rec ∷ []
  pub version : new.version ≡ v.version
  pub journal : new.journal ≡ v.journal

-- The proxy after it finished a record by these replies, with these unseen rows; `rest` are the
-- records begun later. Its journal grows by the unseen rows and by the record's own row.
abbrev pub proxy_view_after :
    ProxyView → Record → (rest : List Record) → Replies → (rows : List JournalRow) → ProxyView
proxy_view_after v rec rest replies rows =
    let own_row = journal_row v.config (replied_verdicts v.config rec replies) rec in
    record v {
      begun = rest;
      version = rec.version;
      journal = v.journal ++ rows ++ own_row ∷ [];
    }

-- the proxy finished the earliest record that it had begun, by these replies: they agree on the
-- rows that it had not seen, and the finished batch is the record's after these rows
pub record HasFinished (v new : ProxyView) (replies : Replies) (finished : Finished) :
    Type 0 where
  pub rec : Record
  pub rest : List Record
  pub rows : List JournalRow
  pub begun : v.begun ≡ rec ∷ rest
  pub agree : AgreeOnRows v.config v.version rec replies rows
  pub after : new ≡ proxy_view_after v rec rest replies rows
  pub finished_is :
      finished
      ≡ finished_after v.config (replied_verdicts v.config rec replies) (v.journal ++ rows) rec
