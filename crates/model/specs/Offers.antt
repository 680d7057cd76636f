-- What a resolver answers to any request, computed from the requests that it has judged. Release
-- 7.1, `Resolver.actor.cpp`, resolveBatch; what differs is marked *profile*. For the requests of a
-- history's records, `offer_answer_law` says that these answers are those of a world, World.antt.
use Rattle.std.specs.Prelude.{◌≡◌, ℕ, ◌<◌, ◌≤◌, List, [], ◌∷◌, ◌++◌, map, filter, take, Bool, not}
use Rattle.std.specs.Prelude.{◌&&◌, nat_eq, nat_lt, nat_le, if◌then◌else◌, slice_get}
use Rattle.std.specs.Prelude.{slice_index, Option, Some, None, Result, Ok, Err}
use Rattle.model.specs.Numbers.{Version, ResolverNumber, ProxyNumber}
use Rattle.model.specs.Configs.{Config}
use Rattle.model.specs.declared.reply.Reply.{Reply}
use Rattle.model.specs.Records.{Record}
use Rattle.model.specs.Requests.{Request, request, request_reply}
use Rattle.model.specs.Requests.{last_request_version}
use Rattle.model.specs.Acknowledged.{acknowledged_requests}
use Rattle.model.specs.World.{World}
use Rattle.model.specs.World as world

-- ---- answers

-- The answer to a request that is served: it is judged, or the reply that it got is given again.
pub data OfferAnswer : Type 0 where
  Judged : (reply : Reply) → OfferAnswer
  Again : (reply : Reply) → OfferAnswer

-- Why a request is refused. `Early` and `OutsideChain` have the version of the last request that
-- the resolver judged, 0 if there is none, and `GivenUp` has the version that the proxy has
-- acknowledged. *Profile*: all of them; release 7.1 answers no such request.
pub data OfferFault : Type 0 where
  WrongResolver : OfferFault
  NoSuchProxy : OfferFault
  OutsideChain : (version : Version) → OfferFault
  GivenUp : (acknowledged : Version) → OfferFault
  Early : (version : Version) → OfferFault

abbrev pub OfferResult : Type 0
OfferResult = Result OfferAnswer OfferFault

-- ---- the replies that are kept

-- the replies to some requests, judged one after another, where `before` were judged before them
abbrev pub replies_to : (window : ℕ) (before requests : List Request) → List Reply
replies_to window before [] = []
replies_to window before (q ∷ rest) =
    request_reply window before q ∷ replies_to window (before ++ q ∷ []) rest

-- the reply is to this proxy, and above the version that the proxy has acknowledged
abbrev pub is_kept_for : (p : ProxyNumber) (acknowledged : Version) → Reply → Bool
is_kept_for p acknowledged reply = nat_eq reply.proxy p && nat_lt acknowledged reply.version

-- the replies that a resolver keeps for a proxy after it judged these requests: those that the
-- proxy has not acknowledged with them
unfoldable pub kept_replies :
    (window : ℕ) (judged : List Request) (p : ProxyNumber) → List Reply
kept_replies window judged p =
    filter (is_kept_for p (acknowledged_requests p judged)) (replies_to window [] judged)

-- of some replies, the first of a version
abbrev pub reply_at : Version → List Reply → Option Reply
reply_at version [] = None
reply_at version (reply ∷ replies) =
    if nat_eq reply.version version then Some reply else reply_at version replies

-- ---- the answer to a request

-- A request that is not above the resolver's version gets its reply again while the reply is kept.
-- *Profile*: otherwise it is refused. It is given up if its proxy has acknowledged that version,
-- and else outside the chain.
abbrev pub answer_again : (kept : Option Reply) (version acknowledged last : Version) → OfferResult
answer_again (Some reply) version acknowledged last = Ok (Again reply)
answer_again None version acknowledged last =
    if nat_le version acknowledged then Err (GivenUp acknowledged) else Err (OutsideChain last)

-- A request whose versions are in order comes again, in its turn, or too early. *Profile*: release
-- 7.1 holds an early request back, and has no request whose previous version is passed.
abbrev pub answer_in_order :
    (window : ℕ) (judged : List Request) (last : Version) (q : Request) → OfferResult
answer_in_order window judged last q =
    let acknowledged = acknowledged_requests q.proxy judged in
    if nat_le q.version last
    then answer_again (reply_at q.version (kept_replies window judged q.proxy))
    q.version acknowledged last
    else if nat_lt last q.previous then Err (Early last)
    else if nat_lt q.previous last then Err (OutsideChain last)
    else Ok (Judged (request_reply window judged q))

-- the versions of a request are in order: the proxy had received nothing after the previous
-- version, which is below the request's own
abbrev pub is_in_order : Request → Bool
is_in_order q = nat_lt q.previous q.version && nat_le q.last_received q.previous

-- What resolver `number` of a cluster of `proxies` proxies answers to a request, after it judged the
-- others. *Profile*: the order in which requests are refused.
unfoldable pub answer_to :
    (number proxies window : ℕ) (judged : List Request) (q : Request) → OfferResult
answer_to number proxies window judged q =
    let last = last_request_version judged in
    if not (nat_eq q.resolver number) then Err WrongResolver
    else if nat_le proxies q.proxy then Err NoSuchProxy
    else if not (is_in_order q) then Err (OutsideChain last)
    else answer_in_order window judged last q

-- ---- lists of requests that were judged in their turn

-- the resolver judges this request next, after those before it
pub record IsInTurn (number proxies : ℕ) (before : List Request) (q : Request) : Type 0 where
  pub resolver : q.resolver ≡ number
  pub proxy : q.proxy < proxies
  pub previous : q.previous ≡ last_request_version before
  pub version : q.previous < q.version
  pub received : q.last_received ≤ q.previous

-- each request came in its turn, after those before it
abbrev pub AreInTurn : (number proxies : ℕ) (judged : List Request) → Type 0
AreInTurn number proxies judged =
    (i : ℕ) (q : Request) → slice_get judged i ≡ Some q
    → IsInTurn number proxies (take i judged) q

-- ---- the requests of a world

-- the request for a record to resolver r, as its proxy sent it
abbrev pub sent_request : Config → World → (r : ResolverNumber) → Record → Request
sent_request config w r rec = request config rec (slice_index w.received rec.row) r

-- the requests that resolver r of a world has judged
unfoldable pub judged_requests : Config → World → (r : ResolverNumber) → List Request
judged_requests config w r =
    map (sent_request config w r) (take (slice_index w.judged_counts r) w.history)

-- what a world answers to an Offer when its resolver answers this; no request of a world is outside
-- the chain
abbrev pub world_answer : OfferResult → Option world.Answer
world_answer (Ok (Judged reply)) = Some (world.Judged reply)
world_answer (Ok (Again reply)) = Some (world.Again reply)
world_answer (Err WrongResolver) = Some (world.Refused world.WrongResolver)
world_answer (Err NoSuchProxy) = Some (world.Refused world.NoSuchProxy)
world_answer (Err (OutsideChain version)) = None
world_answer (Err (GivenUp acknowledged)) = Some (world.Refused (world.GivenUp acknowledged))
world_answer (Err (Early version)) = Some (world.Refused (world.Early version))
