-- The request of a proxy to a resolver for a record, and what the resolver computes from requests
-- alone. Release 7.1: the request, `CommitProxyServer.actor.cpp`, ResolutionRequestBuilder; the
-- rest, `Resolver.actor.cpp`, resolveBatch. What differs is marked *profile*. The definitions are
-- those over records, in Records.antt, Verdicts.antt, Journal.antt and World.antt. For the requests
-- of a history's records, `requests_tell_records_law` says that these agree with them: the verdicts, the rows and
-- the reply, and with these the unseen rows, and the requests remembered. `enough_requests_remembered_law`
-- says of any requests that those remembered are enough.
use Rattle.std.specs.Prelude.{ℕ, suc, List, [], ◌∷◌, ◌++◌, map, filter, flat_map, nat_eq, nat_lt}
use Rattle.std.specs.Prelude.{if◌then◌else◌}
use Rattle.model.specs.Numbers.{Version, ResolverNumber, ProxyNumber, RowNumber, TransactionNumber}
use Rattle.model.specs.Configs.{Config}
use Rattle.model.specs.declared.part.Part.{Part}
use Rattle.model.specs.declared.verdict.Verdict.{Verdict}
use Rattle.model.specs.declared.reply.Reply.{Reply}
use Rattle.model.specs.declared.unseen.StateMark.{StateMark}
use Rattle.model.specs.declared.unseen.UnseenState.{UnseenState}
use Rattle.model.specs.declared.unseen.UnseenRow.{UnseenRow}
use Rattle.model.specs.Transactions.{StampedTransaction, is_state_transaction}
use Rattle.model.specs.Records.{Record, last_version_by, oldest}
use Rattle.model.specs.Shares.{share_back_to, each_below}
use Rattle.model.specs.Verdicts.{JudgedPart, judged_at, verdicts_after}
use Rattle.model.specs.Journal.{carried_to, verdict_or_conflict, least}

-- ---- the request

-- the marks of the state transactions among some transactions, numbered from n, in the request to
-- resolver r
abbrev pub marks_from :
    ResolverNumber → (n : TransactionNumber) → List StampedTransaction → List StateMark
marks_from r n [] = []
marks_from r n (t ∷ ts) =
    if is_state_transaction t
    then record { number = n; carried = carried_to r t } ∷ marks_from r (suc n) ts
    else marks_from r (suc n) ts

-- A request: the numbers of the record, the resolver's share, and the marks of the state
-- transactions. `last_received` is the version of the last record that the proxy had finished when
-- it began this one, or 0.
pub record Request : Type 0 where
  pub resolver : ResolverNumber
  pub proxy : ProxyNumber
  pub row : RowNumber
  pub previous : Version
  pub version : Version
  pub last_received : Version
  pub share : List Part
  pub states : List StateMark

-- the request for a record to resolver r, where owners are remembered back to `oldest`; its share
-- may be empty
unfoldable pub request_back_to :
    (oldest : Version) → Record → (last_received : Version) → ResolverNumber → Request
request_back_to oldest rec last_received r =
    record {
      resolver = r;
      proxy = rec.proxy;
      row = rec.row;
      previous = rec.previous;
      version = rec.version;
      last_received = last_received;
      share = share_back_to oldest rec r;
      states = marks_from r 0 rec.batch;
    }

-- the request for a record to resolver r, by the record's own oldest version
abbrev pub request : Config → Record → (last_received : Version) → ResolverNumber → Request
request config rec last_received r = request_back_to (oldest config rec) rec last_received r

-- ---- what a resolver computes from the requests alone

-- the parts of some requests, in the order of judging
abbrev pub judged_of : List Request → List JudgedPart
judged_of requests = flat_map (λ (q : Request). judged_at q.version q.share) requests

-- the verdicts on a request, one for each part of its share, after the requests `before` it
unfoldable pub request_verdicts :
    (window : ℕ) (before : List Request) (q : Request) → List Verdict
request_verdicts window before q =
    verdicts_after window (judged_of before) (judged_at q.version q.share)

-- a marked state transaction, with the verdict on its part
abbrev pub reply_state_of_mark : List Part → List Verdict → StateMark → UnseenState
reply_state_of_mark parts verdicts mark =
    record { verdict = verdict_or_conflict parts verdicts mark.number; carried = mark.carried }

-- the row of a request as its resolver replies it, by the verdicts on the request
unfoldable pub request_reply_row : Request → List Verdict → UnseenRow
request_reply_row q verdicts =
    record { version = q.version; states = map (reply_state_of_mark q.share verdicts) q.states }

-- the rows of some requests as their resolver replies them, judged one after another, where
-- `before` were judged before them
abbrev pub request_reply_rows : (window : ℕ) (before requests : List Request) → List UnseenRow
request_reply_rows window before [] = []
request_reply_rows window before (q ∷ rest) =
    request_reply_row q (request_verdicts window before q)
    ∷ request_reply_rows window (before ++ q ∷ []) rest

-- the requests of one proxy, in order
abbrev pub requests_of_proxy : (p : ProxyNumber) (requests : List Request) → List Request
requests_of_proxy p requests = filter (λ (q : Request). nat_eq q.proxy p) requests

-- the version of the last request, or 0 if there is none
abbrev pub last_request_version : List Request → Version
last_request_version requests = last_version_by (λ (q : Request). q.version) requests

-- the rows that the proxy of a request has not seen: those after its request before
abbrev pub request_unseen :
    (window : ℕ) (before : List Request) (q : Request) → List UnseenRow
request_unseen window before q =
    let reached = last_request_version (requests_of_proxy q.proxy before) in
    filter (λ (row : UnseenRow). nat_lt reached row.version) (request_reply_rows window [] before)

-- the reply to a request, after the requests `before` it
unfoldable pub request_reply : (window : ℕ) (before : List Request) (q : Request) → Reply
request_reply window before q =
    record {
      resolver = q.resolver;
      proxy = q.proxy;
      row = q.row;
      version = q.version;
      verdicts = request_verdicts window before q;
      unseen = request_unseen window before q;
    }

-- the version that every proxy has reached with its requests
abbrev pub request_oldest_proxy_version : (proxies : ℕ) (judged : List Request) → Version
request_oldest_proxy_version proxies judged =
    let reached_by = λ (p : ProxyNumber). last_request_version (requests_of_proxy p judged) in
    least (map reached_by (each_below proxies))

-- the requests whose rows a resolver remembers after it judged these: those that some proxy has not
-- reached
unfoldable pub remembered_requests : (proxies : ℕ) (judged : List Request) → List Request
remembered_requests proxies judged =
    let reached = request_oldest_proxy_version proxies judged in
    filter (λ (q : Request). nat_lt reached q.version) judged
