-- Calls of a proxy, and of its replies, that have no fault are refused with `OutOfMemory` alone.
use Rattle.std.proofs.Common.{◌≡◌, refl, ap, ◌∙◌, ℕ, zero, suc, ◌<◌, List, [], ◌∷◌, ◌++◌, length, replicate, slice_get, Option, Some, None, arith}
use Rattle.model.specs.Finishing.{Replies}
use Rattle.model.specs.declared.reply.Reply.{Reply}
use Rattle.proxy_state.specs.Beginning.{refusal_fault}
use Rattle.proxy_state.specs.Refusals.{place_fault, put_fault}
use Rattle.proxy_state.specs.declared.refusal.Refusal.{Refusal}
use Rattle.proxy_state.specs.declared.refusal.Refusal.TheVariants as refusals

-- a refusal that names no fault is `OutOfMemory`
pub wants_memory : (refusal : Refusal) → refusal_fault refusal ≡ None → refusal ≡ refusals.OutOfMemory
wants_memory refusals.WrongResolver none = absurd (cc)
wants_memory refusals.NotMine none = absurd (cc)
wants_memory (refusals.OutOfOrder expected) none = absurd (cc)
wants_memory (refusals.OutOfTurn expected) none = absurd (cc)
wants_memory (refusals.MissingReply resolver) none = absurd (cc)
wants_memory (refusals.RepliesDisagree version) none = absurd (cc)
wants_memory (refusals.NotReached version) none = absurd (cc)
wants_memory (refusals.DoubleReply resolver) none = absurd (cc)
wants_memory refusals.OutOfMemory none = refl

-- the first of some empty places is empty
first_is_empty : {X : Type 0} (front : List (Option X)) (more n : ℕ) → n ≡ length front → 0 < more → slice_get (front ++ replicate more None) n ≡ Some None
first_is_empty front zero n is some = absurd (omega (arith, some))
first_is_empty [] (suc more) zero is some = refl
first_is_empty [] (suc more) (suc n) is some = absurd (omega (arith, is))
first_is_empty (y ∷ ys) (suc more) zero is some = absurd (omega (arith, is))
first_is_empty (y ∷ ys) (suc more) (suc n) is some = first_is_empty ys (suc more) n (omega (arith, is)) some

-- the next reply, of the first resolver whose place is empty, is put there
pub no_next_fault : (replies front : Replies) (more k : ℕ) (reply : Reply) → replies ≡ front ++ replicate more None → reply.resolver ≡ k → k ≡ length front → 0 < more → put_fault replies reply ≡ None
no_next_fault replies front more k reply is resolver behind some =
    (λ i. place_fault (resolver i) (slice_get (is i) (resolver i))) ∙ ap (place_fault k) (first_is_empty front more k behind some)
