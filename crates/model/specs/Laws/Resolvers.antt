-- Statements of what a resolver is asked, remembers, and answers.
use Rattle.std.specs.Prelude.{◌≡◌, ◌<◌, ℕ, List, map, slice_get, Some, take, ◌≤◌, [], ◌∷◌, ◌++◌}
use Rattle.std.specs.Prelude.{filter, nat_lt, slice_index, Contains, length, Result, Ok, Err}
use Rattle.model.specs.Configs.{Config}
use Rattle.model.specs.Records.{Record, IsHistory, last_version, records_of_proxy}
use Rattle.model.specs.Verdicts.{share_verdicts, judged_at, verdicts_after}
use Rattle.model.specs.Journal.{history_verdicts, reply_row, remembered, VerdictSource, is_after}
use Rattle.model.specs.Journal.{unseen, oldest_proxy_version}
use Rattle.model.specs.Requests.{Request, request, request_back_to, request_verdicts}
use Rattle.model.specs.Requests.{request_reply_row, request_reply, remembered_requests}
use Rattle.model.specs.Requests.{request_reply_rows, requests_of_proxy, last_request_version}
use Rattle.model.specs.Requests.{request_unseen, request_oldest_proxy_version}
use Rattle.model.specs.RequestRules.{KeepsRequestRule, part_numbers}
use Rattle.model.specs.World.{reply_of, World, Event, Offer, Judged, IsSound, handle_event}
use Rattle.model.specs.World.{greatest, acknowledged}
use Rattle.model.specs.declared.reply.Reply.{Reply}
use Rattle.model.specs.Offers.{answer_to, AreInTurn, sent_request, judged_requests, world_answer}
use Rattle.model.specs.Offers.{OfferResult, OfferFault, Judged, Again}
use Rattle.model.specs.declared.unseen.UnseenRow.{UnseenRow}
use Rattle.model.specs.Acknowledged.{acknowledged_requests}
use Rattle.model.specs.WriteHistories.{WriteHistoryView, ShareAt, StandsForShares, all_judged}
use Rattle.model.specs.WriteHistories.{shares_of}
use Rattle.model.specs.VersionOrder.{Increase}
use Rattle.model.specs.ResolverMemory.{ResolverView, ProxyMemory, StandsForRequests, Decision}
use Rattle.model.specs.ResolverMemory.{GiveAgain, Judge, course, reply_by_memory, memory_after}

-- the requests for some records to a resolver, where `received` is what each proxy had received
abbrev pub requests_for : Config → (Record → ℕ) → ℕ → List Record → List Request
requests_for config received resolver records =
    map (λ (rec : Record). request config rec (received rec) resolver) records

-- its verdicts on the requests are those on its share of each record, whatever was received
abbrev pub RequestVerdictsAreOfTheShare : Type 0
RequestVerdictsAreOfTheShare =
    (config : Config) (received : Record → ℕ) (resolver : ℕ) (before : List Record) (rec : Record)
    → request_verdicts config.window (requests_for config received resolver before)
    (request config rec (received rec) resolver)
    ≡ share_verdicts config resolver before rec

-- the row that it makes of a request is the row of the record
abbrev pub RequestRowsAreOfTheRecord : Type 0
RequestRowsAreOfTheRecord =
    (config : Config) (history : List Record) (resolver row received : ℕ) (rec : Record)
    → IsHistory config history → slice_get history row ≡ Some rec
    → request_reply_row (request config rec received resolver)
    (share_verdicts config resolver (take row history) rec)
    ≡ reply_row (history_verdicts config history) resolver rec

-- its reply to a request is the reply to the record
abbrev pub RequestRepliesAreOfTheRecord : Type 0
RequestRepliesAreOfTheRecord =
    (config : Config) (received : Record → ℕ) (history : List Record) (resolver row : ℕ)
    (rec : Record)
    → IsHistory config history → slice_get history row ≡ Some rec
    → request_reply config.window (requests_for config received resolver (take row history))
    (request config rec (received rec) resolver)
    ≡ reply_of config (history_verdicts config history) resolver (take row history) rec

-- the requests whose rows it remembers are those for the records that it remembers
abbrev pub RememberedRequestsAreOfTheRecords : Type 0
RememberedRequestsAreOfTheRecords =
    (config : Config) (received : Record → ℕ) (resolver : ℕ) (judged : List Record)
    → remembered_requests config.proxies (requests_for config received resolver judged)
    ≡ requests_for config received resolver (remembered config judged)

-- the request for any record to any resolver keeps the rule, however far back owners are remembered
abbrev pub RequestsKeepTheRule : Type 0
RequestsKeepTheRule =
    (oldest : ℕ) (rec : Record) (received resolver : ℕ)
    → KeepsRequestRule (request_back_to oldest rec received resolver)

-- of two parts of a request that keeps the rule, the later one has the greater number
abbrev pub LaterPartsHaveGreaterNumbers : Type 0
LaterPartsHaveGreaterNumbers =
    (q : Request) (place later_place number later_number : ℕ)
    → KeepsRequestRule q → place < later_place
    → slice_get (part_numbers q.share) place ≡ Some number
    → slice_get (part_numbers q.share) later_place ≡ Some later_number
    → number < later_number

-- what a world answers to an Offer is what the resolver answers to the request for the row, by the
-- requests that it has judged
abbrev pub OffersAreAnsweredByRequests : Type 0
OffersAreAnsweredByRequests =
    (config : Config) (w : World) (row r : ℕ) (rec : Record)
    → 1 ≤ config.step → IsSound config w → r < config.resolvers
    → slice_get w.history row ≡ Some rec
    → world_answer (answer_to r config.proxies config.window (judged_requests config w r)
    (sent_request config w r rec))
    ≡ Some (handle_event config w (Offer row r)).answer

-- the requests that a resolver of a world has judged came in their turn
abbrev pub JudgedRequestsCameInTurn : Type 0
JudgedRequestsCameInTurn =
    (config : Config) (w : World) (r : ℕ)
    → 1 ≤ config.step → IsSound config w → r < config.resolvers
    → AreInTurn r config.proxies (judged_requests config w r)

-- an event that is not an Offer to it leaves the requests that a resolver has judged
abbrev pub OtherEventsLeaveTheJudged : Type 0
OtherEventsLeaveTheJudged =
    (config : Config) (w : World) (event : Event) (r : ℕ)
    → IsSound config w → r < config.resolvers → ((row : ℕ) → ¬ (event ≡ Offer row r))
    → judged_requests config (handle_event config w event).world r ≡ judged_requests config w r

-- an Offer that is judged adds the request for its row
abbrev pub AJudgedOfferAddsItsRequest : Type 0
AJudgedOfferAddsItsRequest =
    (config : Config) (w : World) (row r : ℕ) (rec : Record) (reply : Reply)
    → IsSound config w → r < config.resolvers → slice_get w.history row ≡ Some rec
    → (handle_event config w (Offer row r)).answer ≡ Judged reply
    → judged_requests config (handle_event config w (Offer row r)).world r
    ≡ judged_requests config w r ++ sent_request config w r rec ∷ []

-- an Offer that is not judged changes nothing
abbrev pub OtherOffersChangeNothing : Type 0
OtherOffersChangeNothing =
    (config : Config) (w : World) (row r : ℕ)
    → ((reply : Reply) → ¬ ((handle_event config w (Offer row r)).answer ≡ Judged reply))
    → (handle_event config w (Offer row r)).world ≡ w

-- the version that every proxy has reached is at or below the last version of each proxy
abbrev pub OldestProxyVersionIsABound : Type 0
OldestProxyVersionIsABound =
    (config : Config) (judged : List Record) (proxy : ℕ) → proxy < config.proxies
    → oldest_proxy_version config judged ≤ last_version (records_of_proxy proxy judged)

-- and it is the last version of one of them
abbrev pub OldestProxyVersionIsOfAProxy : Type 0
OldestProxyVersionIsOfAProxy =
    (config : Config) (judged : List Record) → 0 < config.proxies
    → (proxy : ℕ) × (proxy < config.proxies)
    × (oldest_proxy_version config judged ≡ last_version (records_of_proxy proxy judged))

-- what a resolver remembers contains all records that the next record's proxy has not seen
abbrev pub RememberedRecordsAreEnough : Type 0
RememberedRecordsAreEnough =
    (config : Config) (history : List Record) (row : ℕ) (rec : Record)
    → IsHistory config history → slice_get history row ≡ Some rec
    → filter (is_after rec.own_previous) (remembered config (take row history))
    ≡ filter (is_after rec.own_previous) (take row history)

-- so the rows that the proxy has not seen can be computed from them
abbrev pub UnseenRowsAreRemembered : Type 0
UnseenRowsAreRemembered =
    (config : Config) (verdict_by : VerdictSource) (history : List Record) (resolver row : ℕ)
    (rec : Record)
    → IsHistory config history → slice_get history row ≡ Some rec
    → unseen verdict_by resolver (remembered config (take row history)) rec
    ≡ unseen verdict_by resolver (take row history) rec

-- with one record more, a resolver need only forget from what it remembered
abbrev pub RememberedRecordsShrink : Type 0
RememberedRecordsShrink =
    (config : Config) (history : List Record) (rec : Record)
    → IsHistory config (history ++ rec ∷ [])
    → remembered config (history ++ rec ∷ [])
    ≡ filter (is_after (oldest_proxy_version config (history ++ rec ∷ [])))
    (remembered config history ++ rec ∷ [])

-- the version that every proxy has reached is at or below the last version of each proxy
abbrev pub OldestRequestVersionIsABound : Type 0
OldestRequestVersionIsABound =
    (proxies : ℕ) (judged : List Request) (proxy : ℕ) → proxy < proxies
    → request_oldest_proxy_version proxies judged
    ≤ last_request_version (requests_of_proxy proxy judged)

-- and it is the last version of one of them
abbrev pub OldestRequestVersionIsOfAProxy : Type 0
OldestRequestVersionIsOfAProxy =
    (proxies : ℕ) (judged : List Request) → 0 < proxies
    → (proxy : ℕ) × (proxy < proxies)
    × (request_oldest_proxy_version proxies judged
    ≡ last_request_version (requests_of_proxy proxy judged))

-- of some requests, those above a version
abbrev pub requests_above : ℕ → List Request → List Request
requests_above version requests = filter (λ (one : Request). nat_lt version one.version) requests

-- the remembered requests contain all that the proxy of a request has not seen
abbrev pub RememberedRequestsAreEnough : Type 0
RememberedRequestsAreEnough =
    (proxies : ℕ) (before : List Request) (next : Request) → next.proxy < proxies
    → requests_above (last_request_version (requests_of_proxy next.proxy before))
    (remembered_requests proxies before)
    ≡ requests_above (last_request_version (requests_of_proxy next.proxy before)) before

-- of some rows, those above a version
abbrev pub rows_above : ℕ → List UnseenRow → List UnseenRow
rows_above version rows = filter (λ (row : UnseenRow). nat_lt version row.version) rows

-- so the unseen rows can be computed from the rows above the version that every proxy has reached
abbrev pub UnseenRequestRowsAreRemembered : Type 0
UnseenRequestRowsAreRemembered =
    (proxies window : ℕ) (before : List Request) (next : Request) → next.proxy < proxies
    → rows_above (last_request_version (requests_of_proxy next.proxy before))
    (rows_above (request_oldest_proxy_version proxies before)
    (request_reply_rows window [] before))
    ≡ request_unseen window before next

-- with one request more, not below its proxy's last one, a resolver need only forget from what it
-- remembered
abbrev pub RememberedRequestsShrink : Type 0
RememberedRequestsShrink =
    (proxies : ℕ) (judged : List Request) (next : Request)
    → last_request_version (requests_of_proxy next.proxy judged) ≤ next.version
    → remembered_requests proxies (judged ++ next ∷ [])
    ≡ requests_above (request_oldest_proxy_version proxies (judged ++ next ∷ []))
    (remembered_requests proxies judged ++ next ∷ [])

-- and its rows grow by the row of that request
abbrev pub ReplyRowsGrowByARow : Type 0
ReplyRowsGrowByARow =
    (window : ℕ) (before : List Request) (next : Request)
    → request_reply_rows window [] (before ++ next ∷ [])
    ≡ request_reply_rows window [] before
    ++ request_reply_row next (request_verdicts window before next) ∷ []

-- the version that a proxy has acknowledged to a resolver is the greatest that the requests of that
-- proxy, among those that the resolver has judged, say that the proxy had received
abbrev pub AcknowledgedIsByRequests : Type 0
AcknowledgedIsByRequests =
    (config : Config) (world : World) (judged_count resolver proxy : ℕ) → IsSound config world
    → acknowledged world judged_count proxy
    ≡ acknowledged_requests proxy
    (requests_for config (λ (rec : Record). slice_index world.received rec.row) resolver
    (take judged_count world.history))

-- no number of a list is above the greatest
abbrev pub GreatestIsABound : Type 0
GreatestIsABound = (numbers : List ℕ) (one : ℕ) → Contains numbers one → one ≤ greatest numbers

-- the greatest number of a list that is not empty is in the list
abbrev pub GreatestIsInTheList : Type 0
GreatestIsInTheList = (numbers : List ℕ) → ¬ (numbers ≡ []) → Contains numbers (greatest numbers)

-- the greatest of no numbers is 0
abbrev pub GreatestOfNoneIsZero : Type 0
GreatestOfNoneIsZero = greatest [] ≡ 0

-- the answer to a request on this course, which gets this reply if it is judged
abbrev pub answer_on_course : (reply : Reply) → Result Decision OfferFault → OfferResult
answer_on_course reply (Ok (GiveAgain kept)) = Ok (Again kept)
answer_on_course reply (Ok Judge) = Ok (Judged reply)
answer_on_course reply (Err fault) = Err fault

-- whatever requests a resolver stands for, it answers by what it keeps as the definition does by
-- the requests
abbrev pub MemoryGivesTheAnswer : Type 0
MemoryGivesTheAnswer =
    (v : ResolverView) (judged : List Request) (q : Request) → StandsForRequests v judged
    → answer_to v.number (length v.proxies) v.written.window judged q
    ≡ answer_on_course (request_reply v.written.window judged q) (course v q)

-- the verdicts on the share, after the shares of the requests, are those on the request
abbrev pub VerdictsAreOfTheShares : Type 0
VerdictsAreOfTheShares =
    (window : ℕ) (judged : List Request) (q : Request)
    → verdicts_after window (all_judged (shares_of judged)) (judged_at q.version q.share)
    ≡ request_verdicts window judged q

-- so the reply that a resolver makes by what it keeps is the reply of the definition
abbrev pub MemoryGivesTheReply : Type 0
MemoryGivesTheReply =
    (v : ResolverView) (one : ProxyMemory) (judged : List Request) (q : Request)
    → StandsForRequests v judged → slice_get v.proxies q.proxy ≡ Some one
    → reply_by_memory v one q (request_verdicts v.written.window judged q)
    ≡ request_reply v.written.window judged q

-- a new resolver, which keeps nothing, stands for no requests
pub record IsNewMemory (v : ResolverView) : Type 0 where
  pub version : v.version ≡ 0
  pub written : StandsForShares v.written [] 0
  pub rows : v.rows ≡ []
  pub proxies :
      (p : ℕ) (one : ProxyMemory) → slice_get v.proxies p ≡ Some one
      → one ≡ record { last = 0; acknowledged = 0; replies = [] }

abbrev pub NewMemoryStandsForNoRequests : Type 0
NewMemoryStandsForNoRequests = (v : ResolverView) → IsNewMemory v → StandsForRequests v []

-- a share with the version of its request
abbrev pub share_of : Request → ShareAt
share_of q = record { version = q.version; parts = q.share }

-- a resolver that has judged one more request in its turn stands for one more request, if its
-- writes stand for one more share
abbrev pub JudgingAddsARequest : Type 0
JudgingAddsARequest =
    (v : ResolverView) (one : ProxyMemory) (judged : List Request) (q : Request) (written : WriteHistoryView)
    (forgotten : ℕ)
    → StandsForRequests v judged → course v q ≡ Ok Judge
    → slice_get v.proxies q.proxy ≡ Some one → written.window ≡ v.written.window
    → StandsForShares written (shares_of judged ++ share_of q ∷ []) forgotten
    → StandsForRequests
    (memory_after v one q (request_verdicts v.written.window judged q) written)
    (judged ++ q ∷ [])

-- a resolver keeps as many rows as requests are remembered
abbrev pub RowsAreOfTheRemembered : Type 0
RowsAreOfTheRemembered =
    (v : ResolverView) (judged : List Request) → StandsForRequests v judged
    → length v.rows ≡ length (remembered_requests (length v.proxies) judged)

-- the versions of some rows are strictly increasing, and all above `version`
abbrev pub RowsRise : (version : ℕ) → List UnseenRow → Type 0
RowsRise version rows = Increase (λ (row : UnseenRow). row.version) version rows

-- the rows are kept in the order of their versions
abbrev pub KeptRowsRise : Type 0
KeptRowsRise =
    (v : ResolverView) (judged : List Request) → StandsForRequests v judged → RowsRise 0 v.rows

-- the versions of some replies are strictly increasing, and all above `version`
abbrev pub RepliesRise : (version : ℕ) → List Reply → Type 0
RepliesRise version replies = Increase (λ (reply : Reply). reply.version) version replies

-- and so are the replies to a proxy
abbrev pub KeptRepliesRise : Type 0
KeptRepliesRise =
    (v : ResolverView) (judged : List Request) (p : ℕ) (one : ProxyMemory)
    → StandsForRequests v judged → slice_get v.proxies p ≡ Some one → RepliesRise 0 one.replies
