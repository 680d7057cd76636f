-- What a proxy's inboxes send, take up and refuse. *Profile*: all of it.
use Rattle.std.specs.Prelude.{◌≡◌, ◌≢◌, ◌⊎◌, ℕ, List, [], ◌∷◌, ◌++◌, slice_get, Option, None}
use Rattle.std.specs.Prelude.{Some, Result, Ok, Err, IsTrue}
use Rattle.model.specs.Requests.{Request}
use Rattle.inboxes.specs.declared.views.MessageView.{MessageView}
use Rattle.inboxes.specs.Ends.{AreSenders, ProxyView, SenderView}
use Rattle.inboxes.specs.Sending.{IsSentTo}
use Rattle.inboxes.specs.MessageViews.{close_view, request_view}
use Rattle.locked_resolvers.specs.NotedReplies.{NotedReplyView, IsReplyToRequest}
use Rattle.locked_resolvers.specs.Requests.{RequestView}
use Rattle.locked_resolvers.specs.declared.refusal.Refusal.{Refusal}
use Rattle.workers.specs.declared.worker_answer.WorkerAnswer.{WorkerAnswer}
use Rattle.workers.specs.declared.worker_answer.WorkerAnswer.TheVariants as answers

-- the request was sent to its resolver, as one of the proxy whose ends these are
abbrev pub IsRequestSent : Request → (before after : ProxyView) → Type 0
IsRequestSent q before after =
    IsSentTo q.resolver (request_view before.proxy q.resolver q.row) before after

-- the requests were sent so, one after the other
abbrev pub AreRequestsSent : List RequestView → (before after : ProxyView) → Type 0
AreRequestsSent [] before after = after ≡ before
AreRequestsSent (q ∷ requests) before after =
    (between : ProxyView)
    × IsRequestSent q.plain before between × AreRequestsSent requests between after

-- the message is among those that were sent through the end, or the worker's end is gone
abbrev pub HasBeenSent : MessageView → SenderView → Type 0
HasBeenSent message e =
    ((before after : List MessageView) × (e.put ≡ before ++ message ∷ after)) ⊎ IsTrue e.gone

-- each of the requests was sent to its resolver, as one of the proxy whose ends these are
abbrev pub AreAllSent : List RequestView → ProxyView → Type 0
AreAllSent requests v =
    (place : ℕ) (q : RequestView) → slice_get requests place ≡ Some q
    → (e : SenderView) × (slice_get v.ends q.plain.resolver ≡ Some e)
    × HasBeenSent (request_view v.proxy q.plain.resolver q.plain.row) e

-- The ends are those to this number of resolvers, and through each the proxy's Close was sent last, or the
-- worker's end is gone.
pub record HasClosed (resolvers : ℕ) (v : ProxyView) : Type 0 where
  pub senders : AreSenders v.proxy resolvers v.ends
  pub each :
      (k : ℕ) (e : SenderView) → slice_get v.ends k ≡ Some e
      → ((before : List MessageView) × (e.put ≡ before ++ close_view v.proxy ∷ [])) ⊎ IsTrue e.gone

-- What an answer gives to the request: the reply if it is to the request, the refusal if this request
-- was refused, and otherwise nothing.
abbrev pub Gives :
    {N : Type 0} → Request → WorkerAnswer N → Option (Result NotedReplyView Refusal) → Type 0
Gives q (answers.Replied noted) given =
    (IsReplyToRequest q noted.reply × (given ≡ Some (Ok noted)))
    ⊎ ((IsReplyToRequest q noted.reply → ⊥) × (given ≡ None))
Gives q (answers.Refused refused) given =
    ((refused.request.plain ≡ q) × (given ≡ Some (Err refused.refusal)))
    ⊎ ((refused.request.plain ≢ q) × (given ≡ None))
