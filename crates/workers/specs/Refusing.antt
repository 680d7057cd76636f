-- What a resolver answers to the requests that its worker offers. *Profile*: all of it.
use Rattle.std.specs.Prelude.{◌≡◌, ◌≢◌, ◌⊎◌, Bool, IsTrue, MatchBool, Option, None, Some}
use Rattle.model.specs.Numbers.{Version}
use Rattle.model.specs.Requests.{Request}
use Rattle.locked_resolvers.specs.Requests.{RequestView}
use Rattle.locked_resolvers.specs.Resolvers.{LockedResolverView, HasOffered, IsNotEarly}
use Rattle.locked_resolvers.specs.Resolvers.{IsOfferRefusal, closed_resolver}
use Rattle.locked_resolvers.specs.NotedReplies.{NotedReplyView}
use Rattle.locked_resolvers.specs.declared.refusal.Refusal.{Refusal}
use Rattle.locked_resolvers.specs.declared.refusal.Refusal.TheVariants as refusals
use Rattle.workers.specs.declared.worker_answer.WorkerAnswer.{WorkerAnswer}
use Rattle.workers.specs.declared.worker_answer.WorkerAnswer.TheVariants as answers

-- what an answer tells: the refusal, or None, that there is a reply
abbrev pub told_by : {N : Type 0} → WorkerAnswer N → Option Refusal
told_by (answers.Replied noted) = None
told_by (answers.Refused refused) = Some refused.refusal

-- the resolver is the same, or the same but closed
abbrev pub IsSameOrClosed : (before after : LockedResolverView) → Type 0
IsSameOrClosed before after = (after ≡ before) ⊎ (after ≡ closed_resolver before)

-- with a closed worker the resolver is closed, and otherwise it is the same
abbrev pub IsClosedWith : (closed : Bool) → (before after : LockedResolverView) → Type 0
IsClosedWith closed before after = MatchBool closed (after ≡ closed_resolver before) (after ≡ before)

-- The refusal that is told of an offer of the request: the one that the resolver gave, as it was
-- before. A request to another resolver, and one that came too early, are refused as closed.
abbrev pub IsToldRefusal : LockedResolverView → Request → Refusal → Type 0
IsToldRefusal asked q refusal =
    ((q.resolver ≡ asked.memory.number) × IsNotEarly refusal × IsOfferRefusal asked q refusal)
    ⊎ ((refusal ≡ refusals.Closed)
    × ((q.resolver ≢ asked.memory.number)
    ⊎ ((version : Version) × IsOfferRefusal asked q (refusals.Early version))))

-- The answer to an offer of the request: the reply that the resolver gave, or why it gave none. Only if
-- the resolver is closed afterwards, the answer tells that it is.
abbrev pub IsAnswerOf :
    {N : Type 0} → (asked : LockedResolverView) → RequestView → (left : LockedResolverView)
    → WorkerAnswer N → Type 0
IsAnswerOf asked request left (answers.Replied noted) = HasOffered asked request left noted
IsAnswerOf asked request left (answers.Refused refused) =
    (refused.request ≡ request) × IsToldRefusal asked request.plain refused.refusal
    × (refused.refusal ≡ refusals.Closed → IsTrue left.closed)

-- Whoever asked was told of the offer of the request: that there is a reply, which the resolver gave, or
-- why there is none; and that the resolver is closed only if it is, afterwards.
abbrev pub IsToldOf :
    (asked : LockedResolverView) → RequestView → (left : LockedResolverView)
    → (told : Option Refusal) → Type 0
IsToldOf asked request left None = (noted : NotedReplyView) × HasOffered asked request left noted
IsToldOf asked request left (Some refusal) =
    IsToldRefusal asked request.plain refusal × (refusal ≡ refusals.Closed → IsTrue left.closed)
