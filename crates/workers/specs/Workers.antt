-- What a worker serves of the messages that it took. *Profile*: all of it.
use Rattle.std.specs.Prelude.{◌≡◌, ℕ, ◌+◌, ◌<◌, ◌≤◌, List, [], ◌∷◌, ◌++◌, slice_get, Some}
use Rattle.std.specs.Prelude.{◌⊎◌, Bool, false, ◌||◌, IsFalse, IsTrue}
use Rattle.facts.specs.Stretches.{end_of}
use Rattle.model.specs.Numbers.{ResolverNumber, RowNumber}
use Rattle.agreed_ledger.specs.Cells.{ColumnView}
use Rattle.inboxes.specs.declared.views.MessageView.{MessageView}
use Rattle.inboxes.specs.declared.views.MessageKind.TheVariants as kinds
use Rattle.inboxes.specs.Ends.{WorkerPassView}
use Rattle.inboxes.specs.Sending.{ends_in}
use Rattle.workers.specs.Desks.{DeskView, IsEmptyIfClosed, IsSettled, Serves, has_failed, new_desk}

-- the message is a request to resolver r of the row
pub record IsRequestOf (r : ResolverNumber) (row : RowNumber) (message : MessageView) : Type 0 where
  pub kind : message.kind ≡ kinds.Request
  pub to : message.to ≡ r
  pub row_is : message.row ≡ row

-- one of the messages is a request to resolver r of the row
abbrev pub IsAsked : ResolverNumber → List MessageView → RowNumber → Type 0
IsAsked r messages row =
    (place : ℕ) × (message : MessageView) × (slice_get messages place ≡ Some message)
    × IsRequestOf r row message

-- Each row that was asked is served, unless the worker has failed: it was judged, or a request of it
-- is held back.
abbrev pub ServesAsked : ResolverNumber → List MessageView → DeskView → Type 0
ServesAsked r messages v =
    IsFalse (has_failed v) → (row : RowNumber) → IsAsked r messages row → Serves v row

-- one of the messages is a Close
abbrev pub HasClose : List MessageView → Type 0
HasClose messages =
    (place : ℕ) × (message : MessageView) × (slice_get messages place ≡ Some message)
    × (message.kind ≡ kinds.Close)

-- one of the messages is a request to resolver r
abbrev pub HasRequest : ResolverNumber → List MessageView → Type 0
HasRequest r messages = (row : RowNumber) × IsAsked r messages row

-- The worker of resolver r holds a request back, or was refused memory, only if it took a request
-- to resolver r. It is closed only if it took such a request or a Close.
pub record HasCause (r : ResolverNumber) (messages : List MessageView) (v : DeskView) : Type 0 where
  pub held : (v.held ≡ []) ⊎ HasRequest r messages
  pub wanted : IsTrue v.wanted → HasRequest r messages
  pub closed : IsTrue v.closed → HasClose messages ⊎ HasRequest r messages

-- A worker: what it took, what it keeps of it, how many proxies have not sent their End yet, and
-- whether its inbox has no sender left.
pub record WorkerView : Type 0 where
  pub taken : WorkerPassView
  pub desk : DeskView
  pub proxies_left : ℕ
  pub cut_off : Bool

-- the worker of resolver r, of this number of proxies, before the first message
abbrev pub new_worker : ResolverNumber → (proxies : ℕ) → WorkerView
new_worker r proxies = record {
  taken = record { resolver = r; got = [] };
  desk = new_desk r;
  proxies_left = proxies;
  cut_off = false;
}

-- The worker of resolver r serves each row that was asked, and holds back no request whose turn has
-- come. It is closed if it took a Close, and then holds nothing back. It has failed only if it took
-- a Close or a request to resolver r. It took an End for each of the proxies but those that are
-- left.
pub record IsWorkerOf (r : ResolverNumber) (proxies : ℕ) (v : WorkerView) : Type 0 where
  pub taken : v.taken.resolver ≡ r
  pub resolver : v.desk.column.resolver ≡ r
  pub first : v.desk.column.rows.first ≡ 0
  pub served : ServesAsked r v.taken.got v.desk
  pub settled : IsSettled v.desk
  pub closed : HasClose v.taken.got → IsTrue v.desk.closed
  pub emptied : IsEmptyIfClosed v.desk
  pub cause : HasCause r v.taken.got v.desk
  pub ends : v.proxies_left + ends_in v.taken.got ≡ proxies

-- what was taken before was taken, in order, and perhaps more
pub record HasTakenMore (before after : WorkerPassView) : Type 0 where
  pub resolver : after.resolver ≡ before.resolver
  pub more : List MessageView
  pub got : after.got ≡ before.got ++ more

-- a worker that is closed, was refused memory or is cut off stays so
pub record StaysFailed (before after : WorkerView) : Type 0 where
  pub closed : IsTrue before.desk.closed → IsTrue after.desk.closed
  pub wanted : IsTrue before.desk.wanted → IsTrue after.desk.wanted
  pub cut_off : IsTrue before.cut_off → IsTrue after.cut_off

-- one message more was taken, or none, since the inbox has no sender left
abbrev pub TakesOne : (before after : WorkerView) → Type 0
TakesOne before after =
    ((message : MessageView)
    × (after.taken ≡ record before.taken { got = before.taken.got ++ message ∷ [] })
    × (after.cut_off ≡ before.cut_off))
    ⊎ ((after.taken ≡ before.taken) × IsTrue after.cut_off)

-- A worker that has ended: what it took, the verdict cells of the rows that its resolver judged, as
-- far as it knows them, whether it was closed, whether it was refused memory, and whether it was cut
-- off: its inbox had no sender left.
pub record EndedView : Type 0 where
  pub taken : WorkerPassView
  pub column : ColumnView
  pub closed : Bool
  pub wanted : Bool
  pub cut_off : Bool

-- Unless the worker was closed or was refused memory, each row was judged up to which it took a
-- request of each row.
abbrev pub HasServed : EndedView → Type 0
HasServed v =
    IsFalse (v.closed || v.wanted) → (row : RowNumber)
    → ((asked : RowNumber) → asked ≤ row → IsAsked v.taken.resolver v.taken.got asked)
    → row < end_of v.column.rows

-- The column is its resolver's, from row 0, and no request was dropped whose turn came.
-- The worker was closed if it took a Close. It was closed only if it took a Close or a request to
-- its resolver, and refused memory only if it took such a request. It took this number of Ends, unless it
-- was cut off.
pub record IsEnded (proxies : ℕ) (v : EndedView) : Type 0 where
  pub resolver : v.column.resolver ≡ v.taken.resolver
  pub first : v.column.rows.first ≡ 0
  pub served : HasServed v
  pub told : HasClose v.taken.got → IsTrue v.closed
  pub closed_by : IsTrue v.closed → HasClose v.taken.got ⊎ HasRequest v.taken.resolver v.taken.got
  pub wanted_by : IsTrue v.wanted → HasRequest v.taken.resolver v.taken.got
  pub ends : IsFalse v.cut_off → ends_in v.taken.got ≡ proxies
