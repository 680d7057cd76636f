-- The requests for a record that was begun are of that record, and so are the replies to them.
use Rattle.std.proofs.Common.{◌≡◌, refl, sym, ap, ◌∙◌, ℕ, zero, suc, ◌<◌, List, [], ◌∷◌, length, slice_get, Option, Some, option_map, arith}
use Rattle.std.proofs.lemmas.List.{length-map}
use Rattle.std.proofs.lemmas.Option.{slice_get-map, slice_get_within}
use Rattle.model.specs.Configs.{Config}
use Rattle.model.specs.Records.{Record}
use Rattle.model.specs.Shares.{each_below}
use Rattle.model.specs.Requests.{Request, request, request_back_to}
use Rattle.model.proofs.History.Chain.{element_at}
use Rattle.model.proofs.Journals.ReplyRows.{length-each_below, slice_get-each_below}
use Rattle.locked_resolvers.specs.Requests.{RequestView}
use Rattle.locked_resolvers.specs.NotedReplies.{NotedReplyView}
use Rattle.locked_cluster.specs.Begun.{BegunView, IsBegun, requests_to_all, with_records}
use Rattle.locked_resolvers.specs.Asking.{AreOfOneRecord, AreRepliesInOrder}
use Rattle.uses.specs.Asking.{HaveAllReplied, IsReplyOf}

-- the request is to this resolver, for this record
record IsFor (r : ℕ) (rec : Record) (q : Request) : Type 0 where
  resolver : q.resolver ≡ r
  proxy : q.proxy ≡ rec.proxy
  row : q.row ≡ rec.row
  version : q.version ≡ rec.version

is_for : (config : Config) (rec : Record) (last_received r : ℕ) → IsFor r rec (request config rec last_received r)
unfolding request_back_to
is_for config rec last_received r = record { resolver = refl; proxy = refl; row = refl; version = refl }

-- the request at a place of those to all resolvers
request_at : (config : Config) (rec : Record) (last_received r : ℕ) (q : Request) → slice_get (requests_to_all config rec last_received) r ≡ Some q → q ≡ request config rec last_received r
request_at config rec last_received r q at = same q (request config rec last_received r) (slice_get (requests_to_all config rec last_received) r) at here
  where
    within : r < length (requests_to_all config rec last_received)
    within = slice_get_within (requests_to_all config rec last_received) r q at

    count : length (requests_to_all config rec last_received) ≡ config.resolvers
    count = length-map (each_below config.resolvers) (request config rec last_received) ∙ length-each_below config.resolvers

    here : slice_get (requests_to_all config rec last_received) r ≡ Some (request config rec last_received r)
    here =
        slice_get-map (request config rec last_received) (each_below config.resolvers) r
        ∙ ap (option_map (request config rec last_received)) (slice_get-each_below config.resolvers r (omega (arith, within, count)))

    same : (a b : Request) (found : Option Request) → found ≡ Some a → found ≡ Some b → a ≡ b
    same a b found is_a is_b = cc

-- the request at a place, without the records
plain_at : (records : List Record) (requests : List Request) (place : ℕ) (q : RequestView) → slice_get (with_records records requests) place ≡ Some q → slice_get requests place ≡ Some q.plain
plain_at records [] place q at = absurd (cc)
plain_at records (p ∷ requests) zero q at =
    let same : (record { plain = p; records = records }) ≡ q = first (record { plain = p; records = records }) q at in
    ap (λ (r : RequestView). Some r.plain) same
  where
    first : (a b : RequestView) → Some a ≡ Some b → a ≡ b
    first a b both = cc
plain_at records (p ∷ requests) (suc place) q at = plain_at records requests place q at

for_at : (config : Config) (v : BegunView) (place : ℕ) (q : RequestView) → (is : IsBegun config v) → slice_get v.requests place ≡ Some q → IsFor place is.rec q.plain
for_at config v place q is at =
    let plain = plain_at v.records (requests_to_all config is.rec is.last_received) place q (ap (λ (qs : List RequestView). slice_get qs place) (sym is.requests) ∙ at) in
    let found = request_at config is.rec is.last_received place q.plain plain in
    let numbers = is_for config is.rec is.last_received place in
    record {
      resolver = ap (λ (p : Request). p.resolver) found ∙ numbers.resolver;
      proxy = ap (λ (p : Request). p.proxy) found ∙ numbers.proxy;
      row = ap (λ (p : Request). p.row) found ∙ numbers.row;
      version = ap (λ (p : Request). p.version) found ∙ numbers.version;
    }

pub of_one_record : (config : Config) (v : BegunView) → IsBegun config v → AreOfOneRecord v.requests
of_one_record config v is =
    record {
      one_row = λ i j q other at_q at_other. (for_at config v i q is at_q).row ∙ sym (for_at config v j other is at_other).row;
      own_resolvers = λ i j q other at_q at_other same. sym (for_at config v i q is at_q).resolver ∙ same ∙ (for_at config v j other is at_other).resolver;
    }

count_of : (config : Config) (v : BegunView) → IsBegun config v → length v.requests ≡ config.resolvers
count_of config v is =
    ap (λ (qs : List RequestView). length qs) is.requests
    ∙ length-map (requests_to_all config is.rec is.last_received) (λ (q : Request). record { plain = q; records = v.records })
    ∙ length-map (each_below config.resolvers) (request config is.rec is.last_received)
    ∙ length-each_below config.resolvers

pub all_replied : (config : Config) (v : BegunView) (replies : List NotedReplyView) → IsBegun config v → AreRepliesInOrder v.requests replies → HaveAllReplied config v replies
all_replied config v replies is answered =
    record { rec = is.rec; there = is.there; count = answered.count ∙ count_of config v is; each = each }
  where
    each : (r : ℕ) (noted : NotedReplyView) → slice_get replies r ≡ Some noted → IsReplyOf r is.rec noted.reply
    each r noted at =
        let within : r < length replies = slice_get_within replies r noted at in
        let count = answered.count in
        let asked = element_at v.requests r (omega (arith, count, within)) in
        let numbers = for_at config v r asked.0 is asked.1 in
        let to = answered.each r asked.0 noted asked.1 at in
        record {
          resolver = to.resolver ∙ numbers.resolver;
          proxy = to.proxy ∙ numbers.proxy;
          row = to.row ∙ numbers.row;
          version = to.version ∙ numbers.version;
        }

-- the proxy of a request is that of the record
pub proxy_at : (config : Config) (v : BegunView) (place : ℕ) (q : RequestView) → (is : IsBegun config v) → slice_get v.requests place ≡ Some q → q.plain.proxy ≡ is.rec.proxy
proxy_at config v place q is at = (for_at config v place q is at).proxy
