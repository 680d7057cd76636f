-- The verdicts of the resolvers on a history, the journal that they give, and what each resolver
-- replies and remembers of it. Release 7.1, `Resolver.actor.cpp`, resolveBatch; what differs is
-- marked *profile*. These are the definitions, over records. Requests.antt defines the replies and
-- the memory of a resolver over requests, which follow these by `requests_tell_records_law`. Within this module
-- `journal_row` is the definition, and `reply_row` follows it by `reply_rows_law`.
use Rattle.std.specs.Prelude.{◌≡◌, ℕ, zero, suc, ◌<◌, min, List, [], ◌∷◌, take, map, filter, Bool}
use Rattle.std.specs.Prelude.{nat_eq, nat_lt, IsTrue, if◌then◌else◌, slice_get, Option, Some, None}
use Rattle.std.specs.Prelude.{unwrap_or, length, Contains}
use Rattle.system_keys.specs.Changes.{is_state}
use Rattle.model.specs.Numbers.{Version, ResolverNumber, ProxyNumber, RowNumber, TransactionNumber}
use Rattle.model.specs.Configs.{Config}
use Rattle.model.specs.declared.part.Part.{Part}
use Rattle.model.specs.declared.verdict.Verdict.{Verdict}
use Rattle.model.specs.declared.verdict.Verdict.TheVariants.{Conflict, Committed}
use Rattle.model.specs.declared.journal.StateTxn.{StateTxn}
use Rattle.model.specs.declared.journal.JournalRow.{JournalRow}
use Rattle.model.specs.declared.unseen.Carried.{Carried}
use Rattle.model.specs.declared.unseen.UnseenState.{UnseenState}
use Rattle.model.specs.declared.unseen.UnseenRow.{UnseenRow}
use Rattle.model.specs.Transactions.{StampedTransaction, is_state_transaction}
use Rattle.model.specs.Records.{Record, last_version, records_of_proxy}
use Rattle.model.specs.Shares.{share, asks, each_below}
use Rattle.model.specs.Verdicts.{verdict_of}

-- ---- where verdicts come from

-- the verdict of each resolver on each transaction of each record
abbrev pub VerdictSource : Type 0
VerdictSource = (resolver : ResolverNumber) (row : RowNumber) (number : TransactionNumber) → Verdict

-- The verdict of resolver r on transaction n of `rec`, after the records `before` it. The last
-- argument is the transaction; if it is None, the verdict is missing and counts as Conflict.
abbrev pub history_verdict_in_record :
    Config → ResolverNumber → (before : List Record) (rec : Record) (n : TransactionNumber)
    → Option StampedTransaction → Verdict
history_verdict_in_record config r before rec n None = Conflict
history_verdict_in_record config r before rec n (Some t) =
    verdict_of config r before rec (take n rec.batch) t

-- The verdict of resolver r on transaction n of row i of a history. The last argument is the row's
-- record; if it is None, the verdict is missing and counts as Conflict.
abbrev pub history_verdict_in_row :
    Config → (h : List Record) (r : ResolverNumber) (i : RowNumber) (n : TransactionNumber)
    → Option Record → Verdict
history_verdict_in_row config h r i n None = Conflict
history_verdict_in_row config h r i n (Some rec) =
    history_verdict_in_record config r (take i h) rec n (slice_get rec.batch n)

-- the verdicts of the resolvers on a history: of resolver r on transaction n of row i, and Conflict
-- if the history has no such transaction
unfoldable pub history_verdicts : Config → (h : List Record) → VerdictSource
history_verdicts config h r i n = history_verdict_in_row config h r i n (slice_get h i)

-- The verdict on the part with number n, in a list with one verdict for each part of a share. A
-- missing verdict counts as Conflict.
abbrev pub verdict_or_conflict : List Part → List Verdict → (n : TransactionNumber) → Verdict
verdict_or_conflict [] verdicts n = Conflict
verdict_or_conflict (part ∷ parts) [] n = Conflict
verdict_or_conflict (part ∷ parts) (verdict ∷ verdicts) n =
    if nat_eq part.number n then verdict else verdict_or_conflict parts verdicts n

-- element i of a list of lists, or the empty list if there is no such element
abbrev pub list_at : {X : Type 0} → List (List X) → (i : ℕ) → List X
list_at [] i = []
list_at (list ∷ lists) zero = list
list_at (list ∷ lists) (suc i) = list_at lists i

-- The verdict of resolver r on transaction n of a record, by the verdicts in its cell. The last
-- argument is the record; if it is None, the verdict is missing and counts as Conflict.
abbrev pub cell_verdict_in_row :
    Config → (verdicts : List Verdict) → ResolverNumber → TransactionNumber → Option Record
    → Verdict
cell_verdict_in_row config verdicts r n None = Conflict
cell_verdict_in_row config verdicts r n (Some rec) = verdict_or_conflict (share config rec r) verdicts n

-- The verdicts of the resolvers by verdict cells. There is a column of cells for each resolver, a
-- cell for each row, and in it a verdict for each part of the resolver's share. A verdict counts as
-- Conflict if its cell is missing or too short.
unfoldable pub cell_verdicts :
    Config → (h : List Record) (columns : List (List (List Verdict))) → VerdictSource
cell_verdicts config h columns r i n =
    cell_verdict_in_row config (list_at (list_at columns r) i) r n (slice_get h i)

-- A cell of resolver r has Committed for transaction n of the record. The transaction asks r, so
-- that the share has a part of that number, and the verdict at the part's place in the cell is
-- Committed.
pub record CellCommits
    (config : Config) (rec : Record) (r : ResolverNumber) (n : TransactionNumber)
    (verdicts : List Verdict) : Type 0 where
  pub transaction : StampedTransaction
  pub there : slice_get rec.batch n ≡ Some transaction
  pub asking : IsTrue (asks config rec r transaction)
  pub place : ℕ
  pub part : Part
  pub part_there : slice_get (share config rec r) place ≡ Some part
  pub number : part.number ≡ n
  pub committed : slice_get verdicts place ≡ Some Committed

-- two sources agree on a record: they give the same verdict of each resolver on each transaction
-- that asks it
pub record AgreeOn (config : Config) (verdict_by other : VerdictSource) (rec : Record) :
    Type 0 where
  pub same :
      (r : ResolverNumber) (n : TransactionNumber) (t : StampedTransaction)
      → r < config.resolvers → slice_get rec.batch n ≡ Some t → IsTrue (asks config rec r t)
      → verdict_by r rec.row n ≡ other r rec.row n

-- ---- the journal

-- a state transaction, number n of the record: its state mutations, its lock-aware flag, and the
-- verdict of every resolver
abbrev pub state_of :
    Config → VerdictSource → Record → (n : TransactionNumber) → StampedTransaction → StateTxn
state_of config verdict_by rec n t =
    record {
      mutations = filter is_state t.changes;
      lock_aware = t.lock_aware;
      verdicts =
          map (λ (r : ResolverNumber). verdict_by r rec.row n) (each_below config.resolvers);
    }

-- the state transactions among some transactions of the record, numbered from n
abbrev pub states_from :
    Config → VerdictSource → Record → (n : TransactionNumber) → List StampedTransaction
    → List StateTxn
states_from config verdict_by rec n [] = []
states_from config verdict_by rec n (t ∷ ts) =
    if is_state_transaction t
    then state_of config verdict_by rec n t ∷ states_from config verdict_by rec (suc n) ts
    else states_from config verdict_by rec (suc n) ts

-- the journal row of a record: its version and its state transactions
unfoldable pub journal_row : Config → VerdictSource → Record → JournalRow
journal_row config verdict_by rec =
    record { version = rec.version; states = states_from config verdict_by rec 0 rec.batch }

-- the journal of some records: a row for each
unfoldable pub journal : Config → VerdictSource → List Record → List JournalRow
journal config verdict_by h = map (journal_row config verdict_by) h

-- ---- what a resolver replies of it

-- The content of a state transaction that resolver r gets and replies. Resolver 0 gets its state
-- mutations and its lock-aware flag, and the others get nothing.
abbrev pub carried_to : ResolverNumber → StampedTransaction → Option Carried
carried_to r t =
    let content : Carried =
    record { mutations = filter is_state t.changes; lock_aware = t.lock_aware } in
    if nat_eq r 0 then Some content else None

-- what resolver r replies of the state transactions among some transactions of the record, numbered
-- from n
abbrev pub reply_states_from :
    VerdictSource → ResolverNumber → Record → (n : TransactionNumber) → List StampedTransaction
    → List UnseenState
reply_states_from verdict_by r rec n [] = []
reply_states_from verdict_by r rec n (t ∷ ts) =
    let rest = reply_states_from verdict_by r rec (suc n) ts in
    if is_state_transaction t
    then record { verdict = verdict_by r rec.row n; carried = carried_to r t } ∷ rest
    else rest

-- the row of a record as resolver r replies it
unfoldable pub reply_row : VerdictSource → ResolverNumber → Record → UnseenRow
reply_row verdict_by r rec =
    record { version = rec.version; states = reply_states_from verdict_by r rec 0 rec.batch }

-- The part of a state transaction that resolver r replies: its verdict (Conflict if it is missing),
-- and from resolver 0 the mutations and the lock-aware flag.
abbrev pub reply_state_of : ResolverNumber → StateTxn → UnseenState
reply_state_of r t =
    record {
      verdict = unwrap_or (slice_get t.verdicts r) Conflict;
      carried =
          if nat_eq r 0
          then Some (record { mutations = t.mutations; lock_aware = t.lock_aware })
          else None;
    }

-- the part of a journal row that resolver r replies
abbrev pub reply_row_of : ResolverNumber → JournalRow → UnseenRow
reply_row_of r row = record { version = row.version; states = map (reply_state_of r) row.states }

-- each state transaction of the row has this many verdicts
abbrev pub HaveVerdictCount : (resolvers : ℕ) → JournalRow → Type 0
HaveVerdictCount resolvers row =
    (t : StateTxn) → Contains row.states t → length t.verdicts ≡ resolvers

-- the record's version is above this one
abbrev pub is_after : Version → Record → Bool
is_after version rec = nat_lt version rec.version

-- The rows that the record's proxy has not seen, as resolver r replies them: those after that
-- proxy's record before, and before this one. *Profile*: a row without state transactions is also
-- replied, as an empty one.
unfoldable pub unseen :
    VerdictSource → ResolverNumber → (before : List Record) (rec : Record) → List UnseenRow
unseen verdict_by r before rec =
    map (reply_row verdict_by r) (filter (is_after rec.own_previous) before)

-- ---- what a resolver remembers

-- the least number of a list, or 0 if the list is empty
abbrev pub least : List ℕ → ℕ
least [] = 0
least (n ∷ []) = n
least (n ∷ m ∷ ns) = min n (least (m ∷ ns))

-- The version that every proxy has reached with its requests: the least of their last records'
-- versions, and 0 while some proxy has no record. Release 7.1 reads it from a map of the proxies'
-- last versions.
abbrev pub oldest_proxy_version : Config → (judged : List Record) → Version
oldest_proxy_version config judged =
    let reached_by = λ (p : ProxyNumber). last_version (records_of_proxy p judged) in
    least (map reached_by (each_below config.proxies))

-- The records whose rows a resolver remembers after it judged these: those that some proxy has not
-- reached. Release 7.1 drops the others at each request.
unfoldable pub remembered : Config → (judged : List Record) → List Record
remembered config judged = filter (is_after (oldest_proxy_version config judged)) judged
