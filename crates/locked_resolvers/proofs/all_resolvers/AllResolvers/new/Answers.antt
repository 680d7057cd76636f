-- The resolvers are not all there, or not in order.
use Rattle.std.proofs.Common.{◌≡◌, refl, ap, ℕ, List, inr, arith}
use Rattle.model.specs.Configs.{Config}
use Rattle.locked_resolvers.proofs.AskedRequests.{wrong_count, wrong_number}
use Rattle.locked_resolvers.proofs.Lists.{got}
use Rattle.locked_resolvers.proofs.all_resolvers.AllResolvers.new.Goals as goal

pub returns-then-resolvers-count : goal.returns-then-resolvers-count
returns-then-resolvers-count g c =
    let config : Config = g.N.Naming.cells.config in
    let numbers : List ℕ = c.args.resolvers.now in
    let count : c.resolvers-count.result ≡ c.config-config.result.now.resolvers = c.resolvers-count.ensures.value in
    let same : c.config-config.result.now.resolvers ≡ config.resolvers = ap (λ (n : Config). n.resolvers) c.config-config.ensures.value in
    (refl, inr (λ is. wrong_count numbers config.resolvers (λ all. omega (arith, all, count, same, c.if-resolvers-count.true)) is))

pub returns-then-number : goal.returns-then-number
returns-then-number g c =
    let config : Config = g.N.Naming.cells.config in
    let numbers : List ℕ = c.args.resolvers.now in
    let k = c.loop-number.number in
    let n = c.index-resolvers-number.result in
    (refl, inr (λ is. wrong_number numbers k n config.resolvers (got numbers k n (omega arith) c.index-resolvers-number.is) (λ same. omega (arith, same, c.number.ensures, c.if-number.true)) is))
