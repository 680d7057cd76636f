-- Lists of new parts, one part longer; and lists of replies.
use Rattle.std.proofs.Common.{◌≡◌, refl, sym, ap, ◌∙◌, subst, ℕ, zero, suc, ◌+◌, ◌-◌, ◌<◌, ◌⊎◌, inl, inr, List, [], ◌∷◌, ◌++◌, length, length-append, length-take-le, take, replicate, slice_get, slice_set, Option, Some, None, arith}
use Rattle.model.specs.Configs.{Config, IsConfig}
use Rattle.model.specs.Records.{last_version}
use Rattle.model.specs.Requests.{Request}
use Rattle.model.specs.World.{World, initial_world}
use Rattle.model.proofs.Worlds.InStep.{new_in_step}
use Rattle.turn_world.specs.Kept.{IsKept}
use Rattle.model.specs.declared.reply.Reply.{Reply}
use Rattle.model.specs.ResolverMemory.{ResolverView}
use Rattle.model.specs.Finishing.{ProxyView}
use Rattle.model.specs.Turns.{IsNewResolver, IsNewProxy, AreInStep}
use Rattle.std.proofs.lemmas.List.{length-map, map-append}
use Rattle.model.proofs.History.Growth.{push_cases}
use Rattle.model.proofs.Resolvers.Requests.{take_suc}
use Rattle.state_memory.specs.Kept.{kept_reply}
use Rattle.turn_world.specs.Parts.{AreNewResolvers, AreNewProxies, kept_replies_at}

pub no_resolvers : (config : Config) → AreNewResolvers config 0 []
no_resolvers config = record { count_is = refl; each = λ r v at. absurd (cc) }

pub one_more_resolver : (config : Config) (n m : ℕ) (made new : List ResolverView) (v : ResolverView) → m ≡ suc n → new ≡ made ++ v ∷ [] → IsNewResolver config n v → AreNewResolvers config n made → AreNewResolvers config m new
one_more_resolver config n m made new v next is one are =
    record {
      count_is = ap length is ∙ length-append made (v ∷ []) ∙ (let many = are.count_is in omega (arith, many, next));
      each = λ r u at. by r u (push_cases made v r u (ap (λ xs. slice_get xs r) (sym is) ∙ at));
    }
  where
    by : (r : ℕ) (u : ResolverView) → ((r ≡ length made) × (v ≡ u)) ⊎ ((r < length made) × (slice_get made r ≡ Some u)) → IsNewResolver config r u
    by r u (inl last) = subst (λ (k : ℕ). IsNewResolver config k u) (sym (last.0 ∙ are.count_is)) (subst (IsNewResolver config n) last.1 one)
    by r u (inr there) = are.each r u there.1

pub no_proxies : (config : Config) → AreNewProxies config 0 []
no_proxies config = record { count_is = refl; each = λ p v at. absurd (cc) }

pub one_more_proxy : (config : Config) (n m : ℕ) (made new : List ProxyView) (v : ProxyView) → m ≡ suc n → new ≡ made ++ v ∷ [] → IsNewProxy config n v → AreNewProxies config n made → AreNewProxies config m new
one_more_proxy config n m made new v next is one are =
    record {
      count_is = ap length is ∙ length-append made (v ∷ []) ∙ (let many = are.count_is in omega (arith, many, next));
      each = λ p u at. by p u (push_cases made v p u (ap (λ xs. slice_get xs p) (sym is) ∙ at));
    }
  where
    by : (p : ℕ) (u : ProxyView) → ((p ≡ length made) × (v ≡ u)) ⊎ ((p < length made) × (slice_get made p ≡ Some u)) → IsNewProxy config p u
    by p u (inl last) = subst (λ (k : ℕ). IsNewProxy config k u) (sym (last.0 ∙ are.count_is)) (subst (IsNewProxy config n) last.1 one)
    by p u (inr there) = are.each p u there.1

-- the next empty place is filled
pub fill_next : (xs : List (Option Reply)) (k : ℕ) (x : Reply) (i : ℕ) → i ≡ length xs → slice_set (xs ++ replicate (suc k) None) i (Some x) ≡ (xs ++ Some x ∷ []) ++ replicate k None
fill_next [] k x zero is = refl
fill_next [] k x (suc i) is = absurd (omega (arith, is))
fill_next (y ∷ ys) k x zero is = absurd (omega (arith, is))
fill_next (y ∷ ys) k x (suc i) is = ap (λ zs. y ∷ zs) (fill_next ys k x i (omega (arith, is)))

pub kept_new : (config : Config) (w : World) (resolvers : List ResolverView) (proxies : List ProxyView) (requests : List (List Request)) → IsConfig config → w ≡ initial_world config → requests ≡ [] → AreNewResolvers config config.resolvers resolvers → AreNewProxies config config.proxies proxies → IsKept config w resolvers proxies requests 0
kept_new config w resolvers proxies requests limits world none of_resolvers of_proxies =
    record {
      parts = parts_at;
      last_is = ap (λ (x : World). last_version x.history) (sym world);
      below = omega arith;
    }
  where
    parts_at : AreInStep config w resolvers proxies requests
    parts_at = subst (λ (x : World). AreInStep config x resolvers proxies requests) (sym world) (subst (AreInStep config (initial_world config) resolvers proxies) (sym none) (new_in_step config resolvers proxies limits of_resolvers.count_is of_proxies.count_is of_resolvers.each of_proxies.each))

-- one place more: filled with the reply that the resolver keeps
pub kept_next : (resolvers : List ResolverView) (p version i : ℕ) (v : ResolverView) (reply : Reply) (replies filled : List (Option Reply)) → i < length resolvers → slice_get resolvers i ≡ Some v → kept_reply v p version ≡ Some reply → replies ≡ kept_replies_at (take i resolvers) p version ++ replicate (length resolvers - i) None → filled ≡ slice_set replies i (Some reply)
    → filled ≡ kept_replies_at (take (i + 1) resolvers) p version ++ replicate (length resolvers - (i + 1)) None
kept_next resolvers p version i v reply replies filled within at kept is put =
    put
    ∙ ap (λ (rs : List (Option Reply)). slice_set rs i (Some reply)) (is ∙ ap (λ (n : ℕ). kept_replies_at (take i resolvers) p version ++ replicate n None) count)
    ∙ fill_next (kept_replies_at (take i resolvers) p version) (length resolvers - (i + 1)) reply i (sym (length-map (take i resolvers) (λ (u : ResolverView). kept_reply u p version) ∙ length-take-le i resolvers (omega (arith, within))))
    ∙ ap (λ (rs : List (Option Reply)). rs ++ replicate (length resolvers - (i + 1)) None) one
  where
    count : length resolvers - i ≡ suc (length resolvers - (i + 1))
    count = omega (arith, within)

    suc_is : suc i ≡ i + 1
    suc_is = omega arith

    one : kept_replies_at (take i resolvers) p version ++ Some reply ∷ [] ≡ kept_replies_at (take (i + 1) resolvers) p version
    one = ap (λ (found : Option Reply). kept_replies_at (take i resolvers) p version ++ found ∷ []) (sym kept) ∙ sym (map-append (λ (u : ResolverView). kept_reply u p version) (take i resolvers) (v ∷ [])) ∙ ap (λ (vs : List ResolverView). kept_replies_at vs p version) (take_suc resolvers i v at ∙ ap (λ (n : ℕ). take n resolvers) suc_is)
