-- How a run goes by its inboxes: each worker took what each proxy sent to it, and each proxy sent one
-- request for each of its batches, and one End (this project's profile).
use Rattle.std.specs.Prelude.{◌≡◌, ◌+◌, ℕ, List, [], ◌∷◌, ◌++◌, All, false, length, map, slice_get}
use Rattle.std.specs.Prelude.{Some}
use Rattle.model.specs.Configs.{Config}
use Rattle.model.specs.Numbers.{ProxyNumber}
use Rattle.model.specs.Records.{Record, records_of_proxy}
use Rattle.inboxes.specs.Delivers.{of_proxy}
use Rattle.inboxes.specs.Ends.{AreSenders, ProxyView, SenderView}
use Rattle.inboxes.specs.MessageViews.{end_view}
use Rattle.inboxes.specs.Sending.{AreEndedSenders}
use Rattle.inboxes.specs.declared.views.MessageKind.TheVariants as kinds
use Rattle.inboxes.specs.declared.views.MessageView.{MessageView}
use Rattle.threads_lines.specs.Threads.{AreInPlace}
use Rattle.workers.specs.Workers.{EndedView}

-- what a proxy sent to each resolver, once it has ended
pub record IsEndedSide (config : Config) (side : ProxyView) : Type 0 where
  pub senders : AreSenders side.proxy config.resolvers side.ends
  pub ended : AreEndedSenders side.proxy side.ends

-- the number of the proxy
abbrev pub proxy_of : ProxyView → ProxyNumber
proxy_of side = side.proxy

-- the ended sides of the proxies of these numbers, in order
abbrev pub AreEndedSides : (numbers : List ProxyNumber) → (sides : List ProxyView) → Type 0
AreEndedSides numbers sides = map proxy_of sides ≡ numbers

-- the message is a request
abbrev pub IsRequest : MessageView → Type 0
IsRequest message = message.kind ≡ kinds.Request

-- the messages are requests, and last the End of the proxy
abbrev pub AreRequestsAndEnd : ProxyNumber → List MessageView → Type 0
AreRequestsAndEnd p messages =
    (requests : List MessageView) × All IsRequest requests × (messages ≡ requests ++ end_view p ∷ [])

-- The worker took what this end sent, in order, and nothing else of the proxy: so many messages, requests
-- and the End of the proxy. It was not closed.
pub record IsTaken (messages : ℕ) (worker : EndedView) (sender : SenderView) : Type 0 where
  pub not_closed : worker.closed ≡ false
  pub resolver : sender.resolver ≡ worker.taken.resolver
  pub taken : of_proxy sender.proxy worker.taken.got ≡ sender.put
  pub requests : AreRequestsAndEnd sender.proxy sender.put
  pub count : length sender.put ≡ messages

-- no message of this end was refused, and the worker of its resolver took so many of them, all
pub record IsDelivered (messages : ℕ) (workers : List EndedView) (sender : SenderView) : Type 0 where
  pub accepted : sender.gone ≡ false
  pub worker : EndedView
  pub there : slice_get workers sender.resolver ≡ Some worker
  pub taken : IsTaken messages worker sender

-- how many messages the proxy sends to each resolver: one for each of its records of the history, its
-- closing among them, and its End
abbrev pub messages_of : (history : List Record) → ProxyNumber → ℕ
messages_of history p = length (records_of_proxy p history) + 1

-- the proxy has an end to each resolver, and through each all its messages were delivered
pub record IsSideDelivered (config : Config) (history : List Record) (workers : List EndedView)
    (side : ProxyView) : Type 0 where
  pub senders : AreSenders side.proxy config.resolvers side.ends
  pub delivered : All (IsDelivered (messages_of history side.proxy) workers) side.ends

-- The proxies are all of the cluster, in order, and there is a worker for each resolver. Whatever a proxy
-- sent was delivered: to each resolver one request for each of its records, and its End.
pub record GoesByInboxes (config : Config) (history : List Record)
    (sides : List ProxyView) (workers : List EndedView) : Type 0 where
  pub all_sides : length sides ≡ config.proxies
  pub in_order : AreInPlace (map proxy_of sides)
  pub all_workers : length workers ≡ config.resolvers
  pub each : All (IsSideDelivered config history workers) sides

-- there are such sides and workers: the run of this history went by its inboxes
abbrev pub HasGoneByInboxes : Config → (history : List Record) → Type 0
HasGoneByInboxes config history =
    (sides : List ProxyView) × (workers : List EndedView) × GoesByInboxes config history sides workers

-- the history and the text of a run
pub record RunView : Type 0 where
  pub history : List Record
  pub text : List ℕ
