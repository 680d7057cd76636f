-- Requests that are asked one after another, of resolvers in the order of their numbers.
use Rattle.std.proofs.Common.{◌≡◌, sym, ap, ◌∙◌, subst, ℕ, ◌+◌, ◌<◌, ◌⊎◌, inl, inr, List, [], ◌∷◌, ◌++◌, length, take, slice_get, Option, None, Some, length-append, arith}
use Rattle.std.proofs.lemmas.Option.{slice_get_within}
use Rattle.model.specs.Configs.{Config}
use Rattle.model.specs.Shares.{each_below}
use Rattle.model.proofs.History.Growth.{push_cases}
use Rattle.model.proofs.Journals.ReplyRows.{length-each_below, slice_get-each_below}
use Rattle.locked_resolvers.specs.Requests.{RequestView}
use Rattle.locked_resolvers.specs.NotedReplies.{NotedReplyView, IsReplyToRequest}
use Rattle.locked_resolvers.specs.Asking.{AreRepliesInOrder, AreTaken, IsAskAllRefusal, IsAskRefusal}
use Rattle.locked_resolvers.specs.declared.refusal.Refusal.{Refusal}
use Rattle.locked_resolvers.proofs.Lists.{take_next}

-- one reply more, to the next request
pub order_next : (requests : List RequestView) (k : ℕ) (q : RequestView) (replies : List NotedReplyView) (noted : NotedReplyView) → slice_get requests k ≡ Some q → AreRepliesInOrder (take k requests) replies → IsReplyToRequest q.plain noted.reply → AreRepliesInOrder (take (k + 1) requests) (replies ++ noted ∷ [])
order_next requests k q replies noted at so_far to = subst (λ (qs : List RequestView). AreRepliesInOrder qs (replies ++ noted ∷ [])) (sym (take_next requests k q at)) longer
  where
    longer : AreRepliesInOrder (take k requests ++ q ∷ []) (replies ++ noted ∷ [])
    longer =
        record {
          count = let count = so_far.count in omega (arith, count, length-append replies (noted ∷ []), length-append (take k requests) (q ∷ []));
          each = λ place p n at_p at_n. by place p n (push_cases (take k requests) q place p at_p) (push_cases replies noted place n at_n);
        }
      where
        by : (place : ℕ) (p : RequestView) (n : NotedReplyView) → ((place ≡ length (take k requests)) × (q ≡ p)) ⊎ ((place < length (take k requests)) × (slice_get (take k requests) place ≡ Some p))
            → ((place ≡ length replies) × (noted ≡ n)) ⊎ ((place < length replies) × (slice_get replies place ≡ Some n)) → IsReplyToRequest p.plain n.reply
        by place p n (inl last_q) (inl last_n) = subst (λ (r : RequestView). IsReplyToRequest r.plain n.reply) last_q.1 (subst (λ (m : NotedReplyView). IsReplyToRequest q.plain m.reply) last_n.1 to)
        by place p n (inl last_q) (inr sooner_n) = let count = so_far.count in absurd (omega (arith, count, last_q.0, sooner_n.0))
        by place p n (inr sooner_q) (inl last_n) = let count = so_far.count in absurd (omega (arith, count, last_n.0, sooner_q.0))
        by place p n (inr sooner_q) (inr sooner_n) = so_far.each place p n sooner_q.1 sooner_n.1

-- what refuses one of the requests refuses them all
pub one_refused : (config : Config) (whose : Option ℕ) (requests : List RequestView) (k : ℕ) (q : RequestView) (refusal : Refusal) → AreTaken whose requests → slice_get requests k ≡ Some q → IsAskRefusal config q refusal → IsAskAllRefusal config whose requests refusal
one_refused config whose requests k q refusal taken at (inl memory) = inr (taken, inl memory)
one_refused config whose requests k q refusal taken at (inr refused) = inr (taken, inr (k, q, at, refused))

-- a way to ask that takes the requests of every proxy takes these
pub all_taken : (requests : List RequestView) → AreTaken None requests
all_taken requests place q at = tt

-- ---- the numbers of all resolvers

-- each number of a resolver of the cluster stands at its place
pub resolver_within : (numbers : List ℕ) (count r : ℕ) → numbers ≡ each_below count → r < count → r < length numbers
resolver_within numbers count r is below = let all : length numbers ≡ count = ap (λ (ns : List ℕ). length ns) is ∙ length-each_below count in omega (arith, all, below)

pub number_at : (numbers : List ℕ) (count r n : ℕ) → numbers ≡ each_below count → r < count → slice_get numbers r ≡ Some n → n ≡ r
number_at numbers count r n is below at = same n r (sym at ∙ ap (λ (ns : List ℕ). slice_get ns r) is ∙ slice_get-each_below count r below)
  where
    same : (a b : ℕ) → Some a ≡ Some b → a ≡ b
    same a b both = cc

-- a number that does not stand at its place
pub wrong_number : (numbers : List ℕ) (k n count : ℕ) → slice_get numbers k ≡ Some n → (n ≡ k → ⊥) → numbers ≡ each_below count → ⊥
wrong_number numbers k n count at apart is =
    apart (same n k (sym at ∙ ap (λ (ns : List ℕ). slice_get ns k) is ∙ slice_get-each_below count k below))
  where
    within : k < length numbers
    within = slice_get_within numbers k n at

    below : k < count
    below = let all : length numbers ≡ count = ap (λ (ns : List ℕ). length ns) is ∙ length-each_below count in omega (arith, all, within)

    same : (a b : ℕ) → Some a ≡ Some b → a ≡ b
    same a b both = cc

-- a list of another length
pub wrong_count : (numbers : List ℕ) (count : ℕ) → (length numbers ≡ count → ⊥) → numbers ≡ each_below count → ⊥
wrong_count numbers count apart is = apart (ap (λ (ns : List ℕ). length ns) is ∙ length-each_below count)
