-- A resolver of the cluster that is closed, and what it refuses.
use Rattle.std.proofs.Common.{◌≡◌, refl, ap, ◌∙◌, ℕ, zero, suc, ◌<◌, inr, List, [], ◌∷◌, length, slice_get, Some, true, arith}
use Rattle.model.specs.Configs.{Config, IsConfig}
use Rattle.model.specs.Records.{Record}
use Rattle.model.specs.ResolverMemory.{ProxyMemory, ResolverView, StandsForRequests}
use Rattle.model.specs.WriteHistories.{StandsForShares}
use Rattle.model.proofs.Resolvers.Growth.{new_stands}
use Rattle.locked_resolvers.specs.Requests.{RequestView}
use Rattle.locked_resolvers.specs.Resolvers.{LockedResolverView, IsLockedResolver, IsNotEarly, IsResolveRefusal, WasRefusedBy}
use Rattle.locked_resolvers.specs.Asking.{IsAskRefusal}
use Rattle.locked_resolvers.specs.declared.refusal.Refusal.{Refusal}
use Rattle.locked_resolvers.specs.declared.refusal.Refusal.TheVariants as refusals

-- what is kept of this number of proxies without requests
no_requests : ℕ → List ProxyMemory
no_requests zero = []
no_requests (suc n) = record { last = 0; acknowledged = 0; replies = [] } ∷ no_requests n

count_of : (n : ℕ) → length (no_requests n) ≡ n
unfolding no_requests
count_of zero = refl
count_of (suc n) = ap (λ k. suc k) (count_of n)

each_new : (n p : ℕ) (one : ProxyMemory) → slice_get (no_requests n) p ≡ Some one → one ≡ record { last = 0; acknowledged = 0; replies = [] }
unfolding no_requests
each_new zero p one at = absurd (cc)
each_new (suc n) zero one at = first (record { last = 0; acknowledged = 0; replies = [] }) one at
  where
    first : (a b : ProxyMemory) → Some a ≡ Some b → b ≡ a
    first a b both = cc
each_new (suc n) (suc p) one at = each_new n p one at

-- the memory of a resolver of the cluster before its first request
new_memory : Config → ℕ → ResolverView
new_memory config r =
    record {
      number = r;
      version = 0;
      written = record { window = config.window; last = 0; writes = [] };
      rows = [];
      proxies = no_requests config.proxies;
    }

no_shares : (window : ℕ) → StandsForShares (record { window = window; last = 0; writes = [] }) [] 0
no_shares window =
    record {
      rising = tt;
      last = refl;
      in_window = omega arith;
      same = λ key. refl;
    }

memory_stands : (config : Config) (r : ℕ) → StandsForRequests (new_memory config r) []
unfolding new_memory
memory_stands config r =
    new_stands (new_memory config r) (record {
      version = refl;
      written = no_shares config.window;
      rows = refl;
      proxies = λ p one at. each_new config.proxies p one at;
    })

-- the resolver, closed before its first request
closed_one : Config → ℕ → LockedResolverView
closed_one config r = record { memory = new_memory config r; records = []; column = []; closed = true }

closed_kept : (config : Config) (r : ℕ) → IsConfig config → r < config.resolvers → IsLockedResolver config (closed_one config r)
unfolding closed_one new_memory
closed_kept config r limits there =
    record {
      config_is = limits;
      there = there;
      history = λ i rec at. absurd (cc);
      cells = refl;
      verdicts = λ i rec at. absurd (cc);
      proxies = count_of config.proxies;
      window = refl;
      stands =
          record {
            received = λ (rec : Record). 0;
            before = λ row rec at. omega arith;
            requests = memory_stands config r;
          };
    }

-- a closed resolver refuses the request
pub closed_refuses : (config : Config) (q : RequestView) → IsConfig config → q.plain.resolver < config.resolvers → IsResolveRefusal config q.plain.resolver q refusals.Closed
unfolding closed_one new_memory
closed_refuses config q limits there = (tt, (closed_one config q.plain.resolver, closed_kept config q.plain.resolver limits there, refl, (λ i j x y same at_x at_y. absurd (cc)), refl))

pub closed_asked : (config : Config) (q : RequestView) → IsConfig config → q.plain.resolver < config.resolvers → IsAskRefusal config q refusals.Closed
closed_asked config q limits there = inr (closed_refuses config q limits there)

-- the resolver that the request names refused it, and not as early
pub offer_refused : (config : Config) (r : ℕ) (q : RequestView) (refusal : Refusal) → IsNotEarly refusal → r ≡ q.plain.resolver → WasRefusedBy config r q refusal → IsAskRefusal config q refusal
offer_refused config r q refusal late same (v, kept, number, agree, refused) = inr (late, (v, kept, number ∙ same, agree, refused))
