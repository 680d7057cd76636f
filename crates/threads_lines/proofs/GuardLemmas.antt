-- Proxies and resolvers that are locked.
use Rattle.std.proofs.Common.{◌≡◌, ◌∙◌, ◌<◌, ◌⊎◌, inl, inr, ℕ, List, [], ◌∷◌, ◌++◌, sym, ap, subst, length, slice_get, Some}
use Rattle.std.specs.Prelude.{Result, Ok, Err, IfOk}
use Rattle.model.specs.Configs.{Config}
use Rattle.model.proofs.History.Growth.{push_cases}
use Rattle.locked_cluster.specs.Proxies.{LockedProxyView, IsLockedProxy}
use Rattle.locked_resolvers.specs.Resolvers.{LockedResolverView, IsLockedResolver}
use Rattle.threads_lines.specs.Guards.{AreLockedProxies, AreLockedResolvers, AreProxiesKept, AreResolversKept}
use Rattle.threads_lines.specs.Threads.{AreInPlace}

-- one more proxy was locked
pub one_more_proxy : (config : Config) (numbers : List ℕ) (proxies : List LockedProxyView) (v : LockedProxyView) → IsLockedProxy config v
    → slice_get numbers (length proxies) ≡ Some v.proxy.number → AreProxiesKept config numbers proxies → AreProxiesKept config numbers (proxies ++ v ∷ [])
one_more_proxy config numbers proxies v kept at before place found there = by (push_cases proxies v place found there)
  where
    by : ((place ≡ length proxies) × (v ≡ found)) ⊎ ((place < length proxies) × (slice_get proxies place ≡ Some found)) → IsLockedProxy config found × (slice_get numbers place ≡ Some found.proxy.number)
    by (inl (last, same)) = (subst (λ (w : LockedProxyView). IsLockedProxy config w) same kept, ap (slice_get numbers) last ∙ at ∙ ap (λ (w : LockedProxyView). Some w.proxy.number) same)
    by (inr (within, earlier)) = before place found earlier

-- one more resolver was locked
pub one_more_resolver : (config : Config) (numbers : List ℕ) (resolvers : List LockedResolverView) (w : LockedResolverView) → IsLockedResolver config w
    → slice_get numbers (length resolvers) ≡ Some w.memory.number → AreResolversKept config numbers resolvers → AreResolversKept config numbers (resolvers ++ w ∷ [])
one_more_resolver config numbers resolvers w kept at before place found there = by (push_cases resolvers w place found there)
  where
    by : ((place ≡ length resolvers) × (w ≡ found)) ⊎ ((place < length resolvers) × (slice_get resolvers place ≡ Some found)) → IsLockedResolver config found × (slice_get numbers place ≡ Some found.memory.number)
    by (inl (last, same)) = (subst (λ (v : LockedResolverView). IsLockedResolver config v) same kept, ap (slice_get numbers) last ∙ at ∙ ap (λ (v : LockedResolverView). Some v.memory.number) same)
    by (inr (within, earlier)) = before place found earlier

-- the locks of all proxies, whose numbers are their places
pub locked_proxies : (config : Config) (numbers : List ℕ) (proxies : List LockedProxyView) → AreInPlace numbers → length numbers ≡ config.proxies
    → length proxies ≡ length numbers → AreProxiesKept config numbers proxies → AreLockedProxies config proxies
locked_proxies config numbers proxies in_place all count are = record {
  count = count ∙ all;
  each = λ place v there. let (kept, at) = are place v there in (kept, in_place place v.proxy.number at);
}

-- the locks of all resolvers, whose numbers are their places
pub locked_resolvers : (config : Config) (numbers : List ℕ) (resolvers : List LockedResolverView) → AreInPlace numbers → length numbers ≡ config.resolvers
    → length resolvers ≡ length numbers → AreResolversKept config numbers resolvers → AreLockedResolvers config resolvers
locked_resolvers config numbers resolvers in_place all count are = record {
  count = count ∙ all;
  each = λ place w there. let (kept, at) = are place w there in (kept, in_place place w.memory.number at);
}

-- the same of what locks all proxies
pub all_proxies : {G E : Type 0} (config : Config) (numbers slice : List ℕ) (result : Result G E) (items : G → List LockedProxyView)
    → slice ≡ numbers → AreInPlace numbers → length numbers ≡ config.proxies
    → IfOk result (λ guards. length (items guards) ≡ length slice) → IfOk result (λ guards. AreProxiesKept config slice (items guards))
    → IfOk result (λ guards. AreLockedProxies config (items guards))
all_proxies config numbers slice (Ok guards) items same in_place all count kept =
    locked_proxies config slice (items guards) (subst AreInPlace (sym same) in_place) (ap (λ (ns : List ℕ). length ns) same ∙ all) count kept
all_proxies config numbers slice (Err error) items same in_place all count kept = search

-- the same of what locks all resolvers
pub all_resolvers : {G E : Type 0} (config : Config) (numbers slice : List ℕ) (result : Result G E) (items : G → List LockedResolverView)
    → slice ≡ numbers → AreInPlace numbers → length numbers ≡ config.resolvers
    → IfOk result (λ guards. length (items guards) ≡ length slice) → IfOk result (λ guards. AreResolversKept config slice (items guards))
    → IfOk result (λ guards. AreLockedResolvers config (items guards))
all_resolvers config numbers slice (Ok guards) items same in_place all count kept =
    locked_resolvers config slice (items guards) (subst AreInPlace (sym same) in_place) (ap (λ (ns : List ℕ). length ns) same ∙ all) count kept
all_resolvers config numbers slice (Err error) items same in_place all count kept = search
