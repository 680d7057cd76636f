-- One more proxy is locked.
use Rattle.std.proofs.Common.{◌≡◌, ◌∙◌, ◌+◌, ◌<◌, [], ◌∷◌, List, sym, ap, subst, length, slice_get, Some, length-append, arith}
use Rattle.std.proofs.lemmas.Option.{slice_get-get_or}
use Rattle.locked_cluster.specs.Proxies.{LockedProxyView}
use Rattle.threads_lines.specs.Guards.{AreProxiesKept}
use Rattle.threads_lines.proofs.GuardLemmas.{one_more_proxy}
use Rattle.threads_lines.proofs.cluster.lock_each_proxy.Goals as goal

pub loop-proxy-preserved : goal.loop-proxy-preserved
loop-proxy-preserved g c =
    let config = g.N.Naming.cells.config in
    let proxies = c.args.proxies.now in
    let l = c.loop-proxy in
    let k = l.proxy-index in
    let number = c.proxy-item.result in
    let guard = c.lock.result in
    let grown = c.in_ok-push.ensures.items in
    let within : k < length proxies = omega arith in
    let at : slice_get proxies k ≡ Some number = slice_get-get_or proxies k number within ∙ ap Some (sym c.proxy-item.is) in
    let last : slice_get proxies (length l.guards.items) ≡ Some guard.proxy.number = ap (slice_get proxies) l.invariant.count ∙ at ∙ ap Some (sym c.lock.ensures.number) in
    record {
      count = ap (λ (ws : List LockedProxyView). length ws) grown ∙ length-append l.guards.items (guard ∷ []) ∙ ap (λ n. n + 1) l.invariant.count;
      kept = subst (λ (ws : List LockedProxyView). AreProxiesKept config proxies ws) (sym grown) (one_more_proxy config proxies l.guards.items guard c.lock.ensures.kept last l.invariant.kept);
    }
