-- The refusal is that of the resolver under the lock.
use Rattle.std.proofs.Common.{◌≡◌, subst, IfErr, rules}
use Rattle.locked_resolvers.specs.Resolvers.{IsOfferRefusal, LockedResolverView, TellsTaken}
use Rattle.locked_resolvers.proofs.shared_resolver.ResolverGuard.offer.Goals as goal

pub returns-clause-refused : goal.returns-clause-refused
returns-clause-refused g c =
    let shown : c.deref_mut.result.now ≡ c.args.self.now = search rules in
    subst (λ (v : LockedResolverView). IfErr c.offer-answer.result (λ refused. IsOfferRefusal v c.args.request.plain refused.refusal)) shown c.offer-answer.ensures.refused

pub returns-clause-taken : goal.returns-clause-taken
returns-clause-taken g c =
    let shown : c.deref_mut.result.now ≡ c.args.self.now = search rules in
    subst (λ (v : LockedResolverView). IfErr c.offer-answer.result (λ refused. TellsTaken c.args.request.plain.row v.memory.number refused.refusal refused.taken)) shown c.offer-answer.ensures.taken
