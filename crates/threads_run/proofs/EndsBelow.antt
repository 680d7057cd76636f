-- The ends of the inboxes, and the resolvers that are there.
use Rattle.std.proofs.Common.{◌≡◌, ◌<◌, get_or, ℕ, List, arith}
use Rattle.std.specs.List.{All}
use Rattle.std.proofs.lemmas.Option.{slice_get-get_or}
use Rattle.inboxes.specs.Ends.{IsEach}

-- each end of an inbox is of a resolver that is there
pub ends_below : (count resolvers : ℕ) (ends : List ℕ) → IsEach (λ (resolver : ℕ). resolver) count ends → resolvers ≡ count → All (λ (end : ℕ). end < resolvers) ends
ends_below count resolvers ends each same k d below =
    let is : get_or ends k d ≡ k = each.1 k (get_or ends k d) (slice_get-get_or ends k d below) in
    omega (arith, is, below, same, each.0)
