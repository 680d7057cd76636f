-- The greater of three versions, in another order.
use Rattle.std.proofs.Common.{◌≡◌, ◌∙◌, ap, ℕ, max, arith}
use Rattle.model.specs.OwnerMaps.{readers}
use Rattle.request_builder.proofs.asked_resolvers.readers_back_to.Goals as goal

pub returns : goal.returns
returns c =
    let map_of = c.args.owners.now in
    let bound : max c.max.result map_of.oldest ≡ max c.args.snapshot (max map_of.oldest c.args.oldest) = omega (arith, c.max.ensures) in
    λ moves asks. c.readers.ensures moves asks ∙ ap (λ (n : ℕ). readers map_of.resolvers moves n c.args.range.now) bound
