-- The resolver that the request names is there, and has refused it.
use Rattle.std.proofs.Common.{◌≡◌, ◌∙◌, ap, subst, ℕ, ◌<◌, List, length, slice_get, Some, false, true, nat_lt, inr, arith}
use Rattle.std.proofs.lemmas.Bool.{lt-ltb}
use Rattle.model.specs.Requests.{Request}
use Rattle.locked_resolvers.specs.Requests.{RequestView}
use Rattle.locked_resolvers.specs.Resolvers.{IsResolveRefusal}
use Rattle.locked_resolvers.proofs.AskedRequests.{number_at, resolver_within}
use Rattle.locked_resolvers.proofs.Lists.{got}
use Rattle.locked_resolvers.proofs.all_resolvers.AllResolvers.ask.Goals as goal

pub unreachable-requires : goal.unreachable-requires
unreachable-requires g c =
    let config = g.N.Naming.cells.config in
    let numbers : List ℕ = c.args.self.now.resolvers.now in
    let r = c.resolver-resolver.result in
    let named : r ≡ c.args.request.now.plain.resolver = c.resolver-resolver.ensures ∙ ap (λ (q : Request). q.resolver) c.plain.ensures.value in
    let there = c.plain.ensures.kept.resolver in
    let within : r < length numbers = resolver_within numbers config.resolvers r c.args.self.now.all (omega (arith, named, there)) in
    let has : nat_lt r (length numbers) ≡ true = lt-ltb r (length numbers) within in
    let lacks : false ≡ nat_lt r (length numbers) = c.in_default.ensures.lookup.0 in
    absurd (cc)

pub returns-in-Err-clause-refused : goal.returns-in-Err-clause-refused
returns-in-Err-clause-refused g c =
    let config = g.N.Naming.cells.config in
    let numbers : List ℕ = c.args.self.now.resolvers.now in
    let r = c.resolver-resolver.result in
    let named : r ≡ c.args.request.now.plain.resolver = c.resolver-resolver.ensures ∙ ap (λ (q : Request). q.resolver) c.plain.ensures.value in
    let there = c.plain.ensures.kept.resolver in
    let below : r < config.resolvers = omega (arith, named, there) in
    let within : r < length numbers = resolver_within numbers config.resolvers r c.args.self.now.all below in
    let at : slice_get numbers r ≡ Some c.in-Some.shared.now = got numbers r c.in-Some.shared.now within c.in-Some.ensures.lookup.1 in
    let same = number_at numbers config.resolvers r c.in-Some.shared.now c.args.self.now.all below at in
    let refused = c.in-Err.ensures.refused in
    inr (subst (λ (n : ℕ). IsResolveRefusal config n c.args.request.now c.in-Err.refused.refusal) (same ∙ named)
    (subst (λ (q : RequestView). IsResolveRefusal config c.in-Some.shared.now q c.in-Err.refused.refusal) c.in_ok-copy.ensures refused))
