-- A cluster that carries out events one after another, without threads: what its resolvers, its
-- proxies and the requests between them keep of its world. *Profile*: all of it.
use Rattle.std.specs.Prelude.{◌≡◌, ◌≤◌, List, [], map, drop, length, slice_get, slice_index}
use Rattle.std.specs.Prelude.{Some, Result, Ok, Err}
use Rattle.model.specs.Numbers.{ResolverNumber, ProxyNumber, RowNumber}
use Rattle.model.specs.Configs.{Config, IsConfig}
use Rattle.model.specs.Records.{Record, last_version, last_moves, records_of_proxy}
use Rattle.model.specs.Shares.{each_below}
use Rattle.model.specs.Requests.{Request}
use Rattle.model.specs.Offers.{sent_request, judged_requests}
use Rattle.model.specs.ResolverMemory.{ResolverView, StandsForRequests}
use Rattle.model.specs.Finishing.{ProxyView, HoldsMoves}
use Rattle.model.specs.World.{World, Event, Answer, Refusal, IsSound, handle_event}
use Rattle.model.specs.World.{finished_version, proxy_journal}
use Rattle.model.specs.World as world

-- a cluster: its numbers, and the state of its world
pub record TurnCluster : Type 0 where
  pub config : Config
  pub world : World

-- an answer that is a refusal is a failure, and every other is a success
abbrev pub success_or_refusal : Answer → Result Answer Refusal
success_or_refusal (world.Sequenced row version) = Ok (world.Sequenced row version)
success_or_refusal (world.Moved date) = Ok (world.Moved date)
success_or_refusal (world.Judged reply) = Ok (world.Judged reply)
success_or_refusal (world.Again reply) = Ok (world.Again reply)
success_or_refusal (world.FinishedBatch finished) = Ok (world.FinishedBatch finished)
success_or_refusal (world.Refused refusal) = Err refusal

-- the answer of a cluster to an event
abbrev pub answer_to_event : TurnCluster → Event → Result Answer Refusal
answer_to_event cluster event =
    success_or_refusal (handle_event cluster.config cluster.world event).answer

-- the cluster after an event
abbrev pub after_event : TurnCluster → Event → TurnCluster
after_event cluster event =
    record cluster { world = (handle_event cluster.config cluster.world event).world }

-- ---- what the parts keep

-- the resolver is number r of the world: it stands for the requests that r has judged
pub record IsResolverOf (config : Config) (w : World) (r : ResolverNumber) (v : ResolverView) :
    Type 0 where
  pub number : v.number ≡ r
  pub proxies : length v.proxies ≡ config.proxies
  pub window : v.written.window ≡ config.window
  pub stands : StandsForRequests v (judged_requests config w r)

-- The proxy is number p of the world. Its map of owners holds the moves of its last record. It has
-- begun all its records, and finished as many of them as the world says; its journal is that of the
-- history up to its version.
pub record IsProxyOf (config : Config) (w : World) (p : ProxyNumber) (v : ProxyView) : Type 0 where
  pub number : v.number ≡ p
  pub config_is : v.config ≡ config
  pub holds : HoldsMoves v (last_moves (records_of_proxy p w.history))
  pub last_begun : v.last_begun ≡ last_version (records_of_proxy p w.history)
  pub begun : v.begun ≡ drop (slice_index w.finished p) (records_of_proxy p w.history)
  pub version : v.version ≡ finished_version w p
  pub journal : v.journal ≡ proxy_journal config w p

-- the requests for a record, as its proxy sent them, one to each resolver
abbrev pub sent_requests : Config → World → Record → List Request
sent_requests config w rec =
    map (λ (r : ResolverNumber). sent_request config w r rec) (each_below config.resolvers)

-- The resolvers and the proxies are those of the world, and so are the requests for each record. No
-- record has received more than its proxy has finished, so the resolvers still keep the replies to
-- each record that is not finished.
pub record AreInStep
    (config : Config) (w : World) (resolvers : List ResolverView) (proxies : List ProxyView)
    (requests : List (List Request)) : Type 0 where
  pub limits : IsConfig config
  pub sound : IsSound config w
  pub resolver_count : length resolvers ≡ config.resolvers
  pub proxy_count : length proxies ≡ config.proxies
  pub each_resolver :
      (r : ResolverNumber) (v : ResolverView) → slice_get resolvers r ≡ Some v → IsResolverOf config w r v
  pub each_proxy :
      (p : ProxyNumber) (v : ProxyView) → slice_get proxies p ≡ Some v → IsProxyOf config w p v
  pub requests_are : requests ≡ map (sent_requests config w) w.history
  pub received :
      (i : RowNumber) (rec : Record) → slice_get w.history i ≡ Some rec
      → slice_index w.received i ≤ finished_version w rec.proxy

-- ---- what new parts keep

-- a resolver before its first request
pub record IsNewResolver (config : Config) (r : ResolverNumber) (v : ResolverView) : Type 0 where
  pub number : v.number ≡ r
  pub proxies : length v.proxies ≡ config.proxies
  pub window : v.written.window ≡ config.window
  pub stands : StandsForRequests v []

-- a proxy before its first record
pub record IsNewProxy (config : Config) (p : ProxyNumber) (v : ProxyView) : Type 0 where
  pub number : v.number ≡ p
  pub config_is : v.config ≡ config
  pub holds : HoldsMoves v []
  pub last_begun : v.last_begun ≡ 0
  pub begun : v.begun ≡ []
  pub version : v.version ≡ 0
  pub journal : v.journal ≡ []
