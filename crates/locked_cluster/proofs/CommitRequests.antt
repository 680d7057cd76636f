-- The requests for a record that was begun, and the replies to them.
use Rattle.std.proofs.Common.{◌≡◌, refl, sym, ap, ◌∙◌, ℕ, zero, suc, ◌<◌, ◌≤◌, List, [], ◌∷◌, ◌++◌, length, slice_get, Some, arith}
use Rattle.std.proofs.lemmas.List.{length-map}
use Rattle.std.specs.Prelude.{Option, None}
use Rattle.std.proofs.lemmas.Option.{same_Some, slice_get_within}
use Rattle.model.specs.Configs.{Config}
use Rattle.model.specs.Records.{Record}
use Rattle.model.specs.Shares.{each_below}
use Rattle.model.specs.Stamps.{AdmittedTransaction}
use Rattle.model.specs.Requests.{Request, request, request_back_to}
use Rattle.model.specs.World.{record_after}
use Rattle.model.proofs.History.Growth.{slice_get-push}
use Rattle.model.proofs.History.Chain.{element_at}
use Rattle.model.proofs.Journals.ReplyRows.{length-each_below}
use Rattle.model.proofs.Verdicts.Places.{row_at}
use Rattle.agreed_ledger.specs.Sequencing.{SequencedView, TicketView, HasSequenced}
use Rattle.locked_resolvers.specs.Requests.{RequestView}
use Rattle.locked_resolvers.specs.NotedReplies.{NotedReplyView}
use Rattle.locked_cluster.specs.Begun.{BegunView, IsBegun, requests_to_all, with_records}
use Rattle.locked_cluster.specs.Ready.{AreRepliesOfAll}
use Rattle.locked_resolvers.specs.Asking.{AreOfOneRecord, AreRepliesInOrder, AreTaken, IsTaken}
use Rattle.locked_cluster.specs.Commits.{HoldsBatch, TakesProxy, TakesRecord}
use Rattle.locked_cluster.proofs.ProxyBegins.{request_at}

-- the numbers of the request at a place
record HasNumbers (v : BegunView) (place : ℕ) (q : RequestView) : Type 0 where
  resolver : q.plain.resolver ≡ place
  row : q.plain.row ≡ v.row

-- the request at a place, without the records
plain_at : (records : List Record) (requests : List Request) (place : ℕ) (q : RequestView) → slice_get (with_records records requests) place ≡ Some q → slice_get requests place ≡ Some q.plain
plain_at records [] place q at = absurd (cc)
plain_at records (p ∷ requests) zero q at =
    let same : (record { plain = p; records = records }) ≡ q = first (record { plain = p; records = records }) q at in
    ap (λ (r : RequestView). Some r.plain) same
  where
    first : (a b : RequestView) → Some a ≡ Some b → a ≡ b
    first a b both = cc
plain_at records (p ∷ requests) (suc place) q at = plain_at records requests place q at

row_of : (config : Config) (rec : Record) (last_received r : ℕ) → (request config rec last_received r).row ≡ rec.row
unfolding request_back_to
row_of config rec last_received r = refl

resolver_of : (config : Config) (rec : Record) (last_received r : ℕ) → (request config rec last_received r).resolver ≡ r
unfolding request_back_to
resolver_of config rec last_received r = refl

numbers_at : (config : Config) (v : BegunView) (place : ℕ) (q : RequestView) → IsBegun config v → slice_get v.requests place ≡ Some q → HasNumbers v place q
numbers_at config v place q is at =
    let plain = plain_at v.records (requests_to_all config is.rec is.last_received) place q (ap (λ (qs : List RequestView). slice_get qs place) (sym is.requests) ∙ at) in
    let found = request_at config is.rec is.last_received place q.plain plain in
    record {
      resolver = ap (λ (p : Request). p.resolver) found.1 ∙ resolver_of config is.rec is.last_received place;
      row = ap (λ (p : Request). p.row) found.1 ∙ row_of config is.rec is.last_received place ∙ row_at config v.records v.row is.rec is.history is.there;
    }

pub of_one_record : (config : Config) (v : BegunView) → IsBegun config v → AreOfOneRecord v.requests
of_one_record config v is =
    record {
      one_row = λ i j q other at_q at_other. (numbers_at config v i q is at_q).row ∙ sym (numbers_at config v j other is at_other).row;
      own_resolvers = λ i j q other at_q at_other same. sym (numbers_at config v i q is at_q).resolver ∙ same ∙ (numbers_at config v j other is at_other).resolver;
    }

count_of : (config : Config) (v : BegunView) → IsBegun config v → length v.requests ≡ config.resolvers
count_of config v is =
    ap (λ (qs : List RequestView). length qs) is.requests
    ∙ length-map (requests_to_all config is.rec is.last_received) (λ (q : Request). record { plain = q; records = v.records })
    ∙ length-map (each_below config.resolvers) (request config is.rec is.last_received)
    ∙ length-each_below config.resolvers

-- replies in the order of the requests are those of all resolvers
pub replies_of_all : (config : Config) (v : BegunView) (replies : List NotedReplyView) → IsBegun config v → AreRepliesInOrder v.requests replies → AreRepliesOfAll config v.row replies
replies_of_all config v replies is answered =
    record { count = answered.count ∙ count_of config v is; each = each }
  where
    each : (r : ℕ) (noted : NotedReplyView) → slice_get replies r ≡ Some noted → (noted.reply.resolver ≡ r) × (noted.reply.row ≡ v.row)
    each r noted at =
        let within : r < length replies = slice_get_within replies r noted at in
        let count = answered.count in
        let asked = element_at v.requests r (omega (arith, within, count)) in
        let numbers = numbers_at config v r asked.0 is asked.1 in
        let to = answered.each r asked.0 noted asked.1 at in
        (to.resolver ∙ numbers.resolver, to.row ∙ numbers.row)

-- ---- whose requests the way to ask takes

proxy_of : (config : Config) (rec : Record) (last_received r : ℕ) → (request config rec last_received r).proxy ≡ rec.proxy
unfolding request_back_to
proxy_of config rec last_received r = refl

takes_one : (whose : Option ℕ) (q : Request) (p : ℕ) → q.proxy ≡ p → IsTaken whose q → TakesProxy whose p
takes_one None q p same taken = taken
takes_one (Some only) q p same taken = sym same ∙ taken

-- it takes one of a record's requests, so it takes those of the record's proxy
pub takes_record : (config : Config) (v : BegunView) (whose : Option ℕ) → 1 ≤ config.resolvers → IsBegun config v → AreTaken whose v.requests → TakesRecord whose v
takes_record config v whose some is taken rec at =
    let count = count_of config v is in
    let (q, here) = element_at v.requests 0 (omega (arith, some, count)) in
    let plain = plain_at v.records (requests_to_all config is.rec is.last_received) 0 q (ap (λ (qs : List RequestView). slice_get qs 0) (sym is.requests) ∙ here) in
    let found = request_at config is.rec is.last_received 0 q.plain plain in
    let own : q.plain.proxy ≡ is.rec.proxy = ap (λ (p : Request). p.proxy) found.1 ∙ proxy_of config is.rec is.last_received 0 in
    let same : is.rec ≡ rec = same_Some is.rec rec (sym is.there ∙ at) in
    takes_one whose q.plain rec.proxy (own ∙ ap (λ (r : Record). r.proxy) same) (taken 0 q here)

-- ---- a batch that got its record

pub sequenced_holds : (config : Config) (before after : SequencedView) (p : ℕ) (batch : List AdmittedTransaction) (t : TicketView) → HasSequenced config before p batch after t → HoldsBatch p t.row t.records batch
sequenced_holds config before after p batch t has =
    record {
      rec = rec;
      there = (λ i. slice_get (told i) (has.row i)) ∙ slice_get-push before.records rec;
      own = refl;
      batch_is = refl;
    }
  where
    rec : Record
    rec = record_after config before.records before.moves p batch

    told : t.records ≡ before.records ++ rec ∷ []
    told = has.told ∙ has.records
