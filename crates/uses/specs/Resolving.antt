-- A resolver that replied, with the cell that its reply stands in.
use Rattle.std.specs.Prelude.{◌≡◌, ◌⊎◌, ◌+◌, ◌≤◌, List, ◌++◌, take, slice_get, Some, Ok, IsFalse}
use Rattle.model.specs.Records.{Record}
use Rattle.model.specs.declared.reply.Reply.{Reply}
use Rattle.model.specs.Agreed.{Column}
use Rattle.model.specs.Offers.{OfferResult}
use Rattle.model.specs.Offers as offers
use Rattle.state_memory.specs.Answers.{GainsRequest}
use Rattle.locked_resolvers.specs.Requests.{RequestView}
use Rattle.locked_resolvers.specs.NotedReplies.{NotedReplyView, IsReplyToRequest}
use Rattle.locked_resolvers.specs.Resolvers.{AnswerHas, LockedResolverView, closed_resolver}
use Rattle.locked_resolvers.specs.Resolvers.{HasOffered, IsOfferRefusal, after_refusal}
use Rattle.locked_resolvers.specs.declared.refusal.Refusal.{Refusal}
use Rattle.locked_resolvers.specs.declared.refusal.Refusal.TheVariants as refusals

-- The reply is to the request, and the resolver that it is to is open and has reached its version. The
-- verdicts of the reply stand in the resolver's cell of the row, and the resolver has the records that
-- the reply was made by.
pub record StandsInItsCell
    (request : RequestView) (noted : NotedReplyView) (v : LockedResolverView) : Type 0 where
  pub is_open : IsFalse v.closed
  pub number : v.memory.number ≡ request.plain.resolver
  pub reply_to : IsReplyToRequest request.plain noted.reply
  pub reached : request.plain.version ≤ v.memory.version
  pub noted_records : noted.records ≡ request.records
  pub records : take (request.plain.row + 1) v.records ≡ request.records
  pub cell : slice_get v.column request.plain.row ≡ Some noted.reply.verdicts

-- the definition gives this reply, for the first time or again
abbrev pub GivesReply : Reply → OfferResult → Type 0
GivesReply reply answer = (answer ≡ Ok (offers.Judged reply)) ⊎ (answer ≡ Ok (offers.Again reply))

-- The reply is the definition's, and stands in its cell. The resolver was open, and is the same one. It
-- keeps the records and cells that it had; and it either stands for the request after all that it stood
-- for, or remembers what it did.
pub record RepliesInItsCell
    (before : LockedResolverView) (request : RequestView)
    (after : LockedResolverView) (noted : NotedReplyView) : Type 0 where
  pub stands : StandsInItsCell request noted after
  pub answer : AnswerHas before.memory request.plain (GivesReply noted.reply)
  pub was_open : IsFalse before.closed
  pub number : after.memory.number ≡ before.memory.number
  pub memory : GainsRequest before.memory request.plain after.memory ⊎ (after.memory ≡ before.memory)
  pub records : (more : List Record) × (after.records ≡ before.records ++ more)
  pub column : (more : Column) × (after.column ≡ before.column ++ more)

-- the resolver is as it was, or it is closed and otherwise as it was
abbrev pub KeepsAll : (before after : LockedResolverView) → Type 0
KeepsAll before after = (after ≡ before) ⊎ (after ≡ closed_resolver before)

-- One of two offers of the request was refused: there was no memory for a copy of the request, and
-- nothing was offered; or the first offer was refused; or the second was, after a reply to the first.
abbrev pub RefusesOneOfTwo :
    (before : LockedResolverView) → RequestView → (after : LockedResolverView) → Refusal → Type 0
RefusesOneOfTwo before request after refusal =
    ((refusal ≡ refusals.OutOfMemory) × (after ≡ before))
    ⊎ ((IsOfferRefusal before request.plain refusal × (after ≡ after_refusal before refusal))
    ⊎ ((between : LockedResolverView) × (noted : NotedReplyView)
    × HasOffered before request between noted
    × IsOfferRefusal between request.plain refusal × (after ≡ after_refusal between refusal)))
