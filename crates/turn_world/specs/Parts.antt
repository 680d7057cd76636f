-- What the calls on one resolver or one proxy of a cluster leave.
use Rattle.std.specs.Prelude.{◌≡◌, ℕ, List, map, filter, length, slice_get, slice_index, slice_set, nat_le}
use Rattle.std.specs.Prelude.{Some, None, Result, Ok, Err}
use Rattle.model.specs.Numbers.{ResolverNumber, ProxyNumber, Version}
use Rattle.model.specs.Configs.{Config}
use Rattle.model.specs.Records.{Record}
use Rattle.model.specs.Shares.{each_below}
use Rattle.model.specs.Requests.{Request}
use Rattle.model.specs.ResolverMemory.{ResolverView}
use Rattle.model.specs.Finishing.{ProxyView, Replies, MayBegin, HasBegun, HasFinished}
use Rattle.model.specs.declared.outcome.Finished.{Finished}
use Rattle.model.specs.declared.reply.Reply.{Reply}
use Rattle.model.specs.Turns.{IsNewResolver, IsNewProxy}
use Rattle.proxy_state.specs.Beginning.{begin_fault, requests_for}
use Rattle.proxy_state.specs.Finishing.{finish_fault}
use Rattle.state_memory.specs.declared.answer.Answer.{Answer}
use Rattle.state_memory.specs.declared.answer.Answer.TheVariants as offered
use Rattle.state_memory.specs.declared.refusal.Refusal.{Refusal}
use Rattle.state_memory.specs.Answers.{AnswersAfterJudged, GainsRequest}
use Rattle.state_memory.specs.Kept.{kept_reply}

-- ---- a record that begins

-- proxy p is there, and may begin the record
abbrev pub MayBeginAt : List ProxyView → (p : ProxyNumber) (rec : Record) → Type 0
MayBeginAt proxies p rec =
    (v : ProxyView) × (slice_get proxies p ≡ Some v) × MayBegin v rec × (begin_fault v rec ≡ None)

-- proxy p began the record and sent these requests; the others are as before
pub record IsBegunAt
    (before : List ProxyView) (p : ProxyNumber) (rec : Record) (requests : List Request)
    (after : List ProxyView) : Type 0 where
  pub v : ProxyView
  pub new : ProxyView
  pub at : slice_get before p ≡ Some v
  pub after_is : after ≡ slice_set before p new
  pub begun : HasBegun v new rec
  pub requests_are : requests ≡ requests_for v rec

-- ---- a request that is offered

-- resolver r judged the request: its list of requests is one longer, and the others are as before
pub record HasJudgedAt
    (before : List ResolverView) (r : ResolverNumber) (v : ResolverView) (q : Request)
    (after : List ResolverView) : Type 0 where
  pub new : ResolverView
  pub after_is : after ≡ slice_set before r new
  pub gains : GainsRequest v q new
  pub number : new.number ≡ v.number
  pub proxies : length new.proxies ≡ length v.proxies
  pub window : new.written.window ≡ v.written.window

-- the resolvers after an answer of resolver r, of which this was kept before
abbrev pub AreAfterAnswer :
    (before : List ResolverView) (r : ResolverNumber) (v : ResolverView) (q : Request)
    → Result Answer Refusal → (after : List ResolverView) → Type 0
AreAfterAnswer before r v q (Ok (offered.Judged reply)) after = HasJudgedAt before r v q after
AreAfterAnswer before r v q (Ok (offered.Again reply)) after = after ≡ before
AreAfterAnswer before r v q (Err refusal) after = after ≡ before

-- resolver r answered the request
pub record IsOfferedAt
    (before : List ResolverView) (r : ResolverNumber) (q : Request) (result : Result Answer Refusal)
    (after : List ResolverView) : Type 0 where
  pub v : ResolverView
  pub at : slice_get before r ≡ Some v
  pub answer : AnswersAfterJudged v q result
  pub after_is : AreAfterAnswer before r v q result after

-- ---- a record that is finished

-- the replies that the resolvers keep for a proxy at a version, one for each resolver
abbrev pub kept_replies_at : List ResolverView → (p : ProxyNumber) (version : Version) → Replies
kept_replies_at resolvers p version = map (λ (v : ResolverView). kept_reply v p version) resolvers

-- proxy p is there, and does not refuse to finish its earliest record by these replies
abbrev pub MayFinishAt : List ProxyView → (p : ProxyNumber) → Replies → Type 0
MayFinishAt proxies p replies =
    (v : ProxyView) × (slice_get proxies p ≡ Some v) × (finish_fault v replies ≡ None)

-- proxy p finished its earliest record by these replies; the others are as before
pub record IsFinishedAt
    (before : List ProxyView) (p : ProxyNumber) (replies : Replies) (finished : Finished)
    (after : List ProxyView) : Type 0 where
  pub v : ProxyView
  pub new : ProxyView
  pub at : slice_get before p ≡ Some v
  pub after_is : after ≡ slice_set before p new
  pub has : HasFinished v new replies finished

-- ---- new parts

-- these are the first `count` resolvers of the cluster, before their first request
pub record AreNewResolvers (config : Config) (count : ℕ) (made : List ResolverView) : Type 0 where
  pub count_is : length made ≡ count
  pub each :
      (r : ResolverNumber) (v : ResolverView) → slice_get made r ≡ Some v → IsNewResolver config r v

-- these are the first `count` proxies of the cluster, before their first record
pub record AreNewProxies (config : Config) (count : ℕ) (made : List ProxyView) : Type 0 where
  pub count_is : length made ≡ count
  pub each : (p : ProxyNumber) (v : ProxyView) → slice_get made p ≡ Some v → IsNewProxy config p v

-- ---- replies that are kept

-- each resolver keeps a reply for the proxy at the version, and the reply names the resolver
abbrev pub AreAllKept : List ResolverView → (p : ProxyNumber) (version : Version) → Type 0
AreAllKept resolvers p version =
    (r : ResolverNumber) (v : ResolverView) → slice_get resolvers r ≡ Some v
    → (reply : Reply) × (kept_reply v p version ≡ Some reply) × (reply.resolver ≡ r)

-- the resolvers that have not judged the row, by how many rows each has judged, in increasing order
abbrev pub missing_of : (row : ℕ) (judged_counts : List ℕ) → List ResolverNumber
missing_of row judged_counts =
    filter (λ (r : ResolverNumber). nat_le (slice_index judged_counts r) row)
    (each_below (length judged_counts))
