-- What is asked of all resolvers. *Profile*: all of it.
use Rattle.std.specs.Prelude.{◌≡◌, ◌≢◌, ◌⊎◌, ℕ, List, [], length, slice_get, Option, None, Some}
use Rattle.model.specs.Numbers.{ProxyNumber, ResolverNumber}
use Rattle.model.specs.Configs.{Config}
use Rattle.model.specs.Requests.{Request}
use Rattle.model.specs.Shares.{each_below}
use Rattle.locked_resolvers.specs.Requests.{RequestView}
use Rattle.locked_resolvers.specs.NotedReplies.{NotedReplyView, IsReplyToRequest}
use Rattle.locked_resolvers.specs.Resolvers.{IsResolveRefusal}
use Rattle.locked_resolvers.specs.declared.refusal.Refusal.{Refusal}
use Rattle.locked_resolvers.specs.declared.refusal.Refusal.TheVariants as refusals

-- These are not all resolvers of the cluster in the order of their numbers. An empty list never is, since
-- a cluster has a resolver.
abbrev pub AreNotAll : Config → List ResolverNumber → Type 0
AreNotAll config numbers = (numbers ≡ []) ⊎ (numbers ≢ each_below config.resolvers)

-- the requests are of one record, each to a resolver of its own
pub record AreOfOneRecord (requests : List RequestView) : Type 0 where
  pub one_row :
      (i j : ℕ) (q other : RequestView)
      → slice_get requests i ≡ Some q → slice_get requests j ≡ Some other
      → q.plain.row ≡ other.plain.row
  pub own_resolvers :
      (i j : ℕ) (q other : RequestView)
      → slice_get requests i ≡ Some q → slice_get requests j ≡ Some other
      → q.plain.resolver ≡ other.plain.resolver → i ≡ j

-- the replies stand in the order of the requests, each of its request's row, proxy and resolver
pub record AreRepliesInOrder
    (requests : List RequestView) (replies : List NotedReplyView) : Type 0 where
  pub count : length replies ≡ length requests
  pub each :
      (place : ℕ) (q : RequestView) (noted : NotedReplyView)
      → slice_get requests place ≡ Some q → slice_get replies place ≡ Some noted
      → IsReplyToRequest q.plain noted.reply

-- An allocation failed; or a resolver of the number that the request names, in some state that its
-- lock may keep and of the request's history, refuses the request so.
abbrev pub IsAskRefusal : Config → RequestView → Refusal → Type 0
IsAskRefusal config q refusal =
    (refusal ≡ refusals.OutOfMemory) ⊎ IsResolveRefusal config q.plain.resolver q refusal

-- Whose requests a way to ask takes: those of this proxy alone, or, with None, those of every proxy. The
-- request is one that it takes.
abbrev pub IsTaken : (whose : Option ProxyNumber) → Request → Type 0
IsTaken None q = Unit {0}
IsTaken (Some p) q = q.proxy ≡ p

-- each request is one that it takes
abbrev pub AreTaken : (whose : Option ProxyNumber) → List RequestView → Type 0
AreTaken whose requests =
    (place : ℕ) (q : RequestView) → slice_get requests place ≡ Some q → IsTaken whose q.plain

-- the request at this place is one that it does not take
abbrev pub IsForeignAt : (whose : Option ProxyNumber) → List RequestView → (place : ℕ) → Type 0
IsForeignAt whose requests place =
    (q : RequestView) × (slice_get requests place ≡ Some q) × (IsTaken whose q.plain → ⊥)

-- one of the requests is one that it does not take
abbrev pub HasForeign : (whose : Option ProxyNumber) → List RequestView → Type 0
HasForeign whose requests = (place : ℕ) × IsForeignAt whose requests place

-- An allocation failed; or a resolver of the number that one of the requests names, in some state
-- that its lock may keep and of that request's history, refuses that request so.
abbrev pub IsAskedRefusal : Config → List RequestView → Refusal → Type 0
IsAskedRefusal config requests refusal =
    (refusal ≡ refusals.OutOfMemory)
    ⊎ ((place : ℕ) × (q : RequestView)
    × (slice_get requests place ≡ Some q)
    × IsResolveRefusal config q.plain.resolver q refusal)

-- One of the requests is one that the way to ask does not take, and so none was asked. Or it takes
-- each, and an allocation failed, or a resolver refuses one of them so.
abbrev pub IsAskAllRefusal :
    Config → (whose : Option ProxyNumber) → List RequestView → Refusal → Type 0
IsAskAllRefusal config whose requests refusal =
    ((refusal ≡ refusals.NotMine) × HasForeign whose requests)
    ⊎ (AreTaken whose requests × IsAskedRefusal config requests refusal)
