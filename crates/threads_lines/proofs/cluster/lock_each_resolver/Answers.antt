-- One more resolver is locked.
use Rattle.std.proofs.Common.{◌≡◌, ◌∙◌, ◌+◌, ◌<◌, [], ◌∷◌, List, sym, ap, subst, length, slice_get, Some, length-append, arith}
use Rattle.std.proofs.lemmas.Option.{slice_get-get_or}
use Rattle.locked_resolvers.specs.Resolvers.{LockedResolverView}
use Rattle.threads_lines.specs.Guards.{AreResolversKept}
use Rattle.threads_lines.proofs.GuardLemmas.{one_more_resolver}
use Rattle.threads_lines.proofs.cluster.lock_each_resolver.Goals as goal

pub loop-resolver-preserved : goal.loop-resolver-preserved
loop-resolver-preserved g c =
    let config = g.N.Naming.cells.config in
    let resolvers = c.args.resolvers.now in
    let l = c.loop-resolver in
    let k = l.resolver-index in
    let number = c.resolver-item.result in
    let guard = c.lock.result in
    let grown = c.in_ok-push.ensures.items in
    let within : k < length resolvers = omega arith in
    let at : slice_get resolvers k ≡ Some number = slice_get-get_or resolvers k number within ∙ ap Some (sym c.resolver-item.is) in
    let last : slice_get resolvers (length l.guards.items) ≡ Some guard.memory.number = ap (slice_get resolvers) l.invariant.count ∙ at ∙ ap Some (sym c.lock.ensures.number) in
    record {
      count = ap (λ (ws : List LockedResolverView). length ws) grown ∙ length-append l.guards.items (guard ∷ []) ∙ ap (λ n. n + 1) l.invariant.count;
      kept = subst (λ (ws : List LockedResolverView). AreResolversKept config resolvers ws) (sym grown) (one_more_resolver config resolvers l.guards.items guard c.lock.ensures.kept last l.invariant.kept);
    }
