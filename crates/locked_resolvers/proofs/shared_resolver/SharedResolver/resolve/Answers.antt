-- A call that has waited is not refused as early, and by the resolver of its number, of its history.
use Rattle.std.proofs.Common.{◌≡◌, subst, ℕ, rules, false}
use Rattle.facts.specs.Stretches.{Agree}
use Rattle.locked_resolvers.specs.Resolvers.{IsLockedResolver, TellsTaken, is_early}
use Rattle.locked_resolvers.proofs.RefusedOffers.{agreed_before}
use Rattle.locked_resolvers.proofs.ServedRequests.{not_early}
use Rattle.locked_resolvers.proofs.shared_resolver.SharedResolver.resolve.Goals as goal

pub returns-clause-refused : goal.returns-clause-refused
returns-clause-refused g c =
    let waited : is_early c.wait_while-guard.result.value c.args.request.plain ≡ false = search rules in
    let number : c.wait_while-guard.result.value.memory.number ≡ c.args.self.now = search rules in
    let keeps : IsLockedResolver g.N.Naming.cells.config c.wait_while-guard.result.value = search rules in
    let v = c.wait_while-guard.result.value in
    let refused = c.in-Err.refused in
    let agree : Agree 0 v.records 0 c.args.request.records = agreed_before v c.offer.new.self c.args.request refused.request refused.refusal c.records.result.now c.records-in-Err.result.now c.in-Err.ensures.left c.in-Err.ensures.back c.records.ensures.value c.records-in-Err.ensures.value c.agree.ensures in
    (not_early g.N.Naming.cells.config v c.args.request.plain refused.refusal keeps waited c.in-Err.ensures.refused, (v, keeps, number, agree, c.in-Err.ensures.refused))

pub returns-clause-taken : goal.returns-clause-taken
returns-clause-taken g c =
    let number : c.wait_while-guard.result.value.memory.number ≡ c.args.self.now = search rules in
    subst (λ (r : ℕ). TellsTaken c.args.request.plain.row r c.in-Err.refused.refusal c.in-Err.refused.taken) number c.in-Err.ensures.taken
