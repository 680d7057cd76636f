-- What a resolver keeps, and which lists of requests it stands for, whatever it has forgotten.
-- Release 7.1, `Resolver.actor.cpp`, resolveBatch; what differs is marked *profile*.
use Rattle.std.specs.Prelude.{◌≡◌, ℕ, max, List, [], ◌∷◌, ◌++◌, length, map, filter, nat_eq}
use Rattle.std.specs.Prelude.{nat_lt, nat_le, Bool, not, if◌then◌else◌, slice_get, slice_set, Option, Some}
use Rattle.std.specs.Prelude.{None, Result, Ok, Err}
use Rattle.model.specs.Numbers.{Version, ResolverNumber, ProxyNumber}
use Rattle.model.specs.declared.reply.Reply.{Reply}
use Rattle.model.specs.declared.unseen.UnseenRow.{UnseenRow}
use Rattle.model.specs.declared.verdict.Verdict.{Verdict}
use Rattle.model.specs.Journal.{least}
use Rattle.model.specs.Requests.{Request, request_reply_row, request_reply_rows, requests_of_proxy}
use Rattle.model.specs.Requests.{last_request_version, request_oldest_proxy_version}
use Rattle.model.specs.Acknowledged.{acknowledged_requests}
use Rattle.model.specs.WriteHistories.{WriteHistoryView, StandsForShares, shares_of}
use Rattle.model.specs.Offers.{OfferFault, WrongResolver, NoSuchProxy, OutsideChain, GivenUp, Early}
use Rattle.model.specs.Offers.{kept_replies, reply_at, is_in_order, AreInTurn}

-- ---- what is kept

-- What a resolver keeps of one proxy: the version of its last request, the version that it has
-- acknowledged, and the replies that it has not acknowledged, in the order of their versions.
pub record ProxyMemory : Type 0 where
  pub last : Version
  pub acknowledged : Version
  pub replies : List Reply

-- What a resolver keeps: its number, the version of the last request that it judged, the writes of
-- the transactions that it committed, the rows that some proxy has not seen, in the order of their
-- versions, and its memory of each proxy.
pub record ResolverView : Type 0 where
  pub number : ResolverNumber
  pub version : Version
  pub written : WriteHistoryView
  pub rows : List UnseenRow
  pub proxies : List ProxyMemory

-- the row is above this version
abbrev pub is_row_above : Version → UnseenRow → Bool
is_row_above version row = nat_lt version row.version

-- what a resolver keeps of proxy p after it judged these requests
abbrev pub proxy_memory : (window : ℕ) (judged : List Request) (p : ProxyNumber) → ProxyMemory
proxy_memory window judged p =
    record {
      last = last_request_version (requests_of_proxy p judged);
      acknowledged = acknowledged_requests p judged;
      replies = kept_replies window judged p;
    }

-- The resolver stands for these requests: they came in their turn, and it keeps what a resolver
-- keeps after it judged them. Of their writes it may have forgotten those up to some version.
pub record StandsForRequests (v : ResolverView) (judged : List Request) : Type 0 where
  pub in_turn : AreInTurn v.number (length v.proxies) judged
  pub version : v.version ≡ last_request_version judged
  pub forgotten : Version
  pub written : StandsForShares v.written (shares_of judged) forgotten
  pub rows :
      v.rows
      ≡ filter (is_row_above (request_oldest_proxy_version (length v.proxies) judged))
      (request_reply_rows v.written.window [] judged)
  pub proxies :
      (p : ProxyNumber) (one : ProxyMemory) → slice_get v.proxies p ≡ Some one
      → one ≡ proxy_memory v.written.window judged p

-- ---- what a resolver does, by what it keeps

-- what a resolver does with a request that it does not refuse: it gives a reply again, or it judges
-- the request
pub data Decision : Type 0 where
  GiveAgain : (reply : Reply) → Decision
  Judge : Decision

-- it gives the reply that it keeps again, and refuses the request if it keeps none
abbrev pub course_again :
    (kept : Option Reply) (version acknowledged last : Version) → Result Decision OfferFault
course_again (Some reply) version acknowledged last = Ok (GiveAgain reply)
course_again None version acknowledged last =
    if nat_le version acknowledged then Err (GivenUp acknowledged) else Err (OutsideChain last)

-- what it does with a request of the proxy of which it keeps this
abbrev pub course_of_proxy :
    (last : Version) (q : Request) → Option ProxyMemory → Result Decision OfferFault
course_of_proxy last q None = Err NoSuchProxy
course_of_proxy last q (Some one) =
    if not (is_in_order q) then Err (OutsideChain last)
    else if nat_le q.version last
    then course_again (reply_at q.version one.replies) q.version one.acknowledged last
    else if nat_lt last q.previous then Err (Early last)
    else if nat_lt q.previous last then Err (OutsideChain last)
    else Ok Judge

-- what it does with any request, by what it keeps alone
unfoldable pub course : ResolverView → Request → Result Decision OfferFault
course v q =
    if not (nat_eq q.resolver v.number) then Err WrongResolver
    else course_of_proxy v.version q (slice_get v.proxies q.proxy)

-- the rows that it tells the proxy of which it keeps this
abbrev pub rows_to_tell : ResolverView → ProxyMemory → List UnseenRow
rows_to_tell v one = filter (is_row_above one.last) v.rows

-- the reply to a request with these verdicts
abbrev pub reply_by_memory : ResolverView → ProxyMemory → Request → List Verdict → Reply
reply_by_memory v one q verdicts =
    record {
      resolver = q.resolver;
      proxy = q.proxy;
      row = q.row;
      version = q.version;
      verdicts = verdicts;
      unseen = rows_to_tell v one;
    }

-- what it keeps of a proxy after it judged its request and gave it this reply
abbrev pub proxy_after : ProxyMemory → Request → Reply → ProxyMemory
proxy_after one q reply =
    let acknowledged = max one.acknowledged q.last_received in
    let is_unacknowledged = λ (kept : Reply). nat_lt acknowledged kept.version in
    record {
      last = q.version;
      acknowledged = acknowledged;
      replies = filter is_unacknowledged one.replies ++ reply ∷ [];
    }

-- the version that every proxy has reached, by what is kept of each
abbrev pub reached_by_all : List ProxyMemory → Version
reached_by_all proxies = least (map (λ (one : ProxyMemory). one.last) proxies)

-- what a resolver keeps after it judged a request of this proxy with these verdicts, where it keeps
-- these writes
abbrev pub memory_after :
    ResolverView → ProxyMemory → Request → List Verdict → (written : WriteHistoryView) → ResolverView
memory_after v one q verdicts written =
    let reply = reply_by_memory v one q verdicts in
    let proxies = slice_set v.proxies q.proxy (proxy_after one q reply) in
    let rows = v.rows ++ request_reply_row q verdicts ∷ [] in
    record {
      number = v.number;
      version = q.version;
      written = written;
      rows = filter (is_row_above (reached_by_all proxies)) rows;
      proxies = proxies;
    }
