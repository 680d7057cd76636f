-- The requests and the asked lists by the lists of a map that asks as the record's moves do.
use Rattle.std.proofs.Common.{◌≡◌, ℕ, zero, suc, ◌<◌, refl, sym, ap, ap₂, ◌∙◌, List, [], ◌∷◌, ◌++◌, map, arith}
use Rattle.std.proofs.lemmas.List.{map-append}
use Rattle.model.specs.declared.part.Part.{Part}
use Rattle.model.specs.declared.unseen.StateMark.{StateMark}
use Rattle.model.specs.Transactions.{StampedTransaction}
use Rattle.model.specs.Records.{Record}
use Rattle.model.specs.Shares.{each_below, share_back_to, asked_back_to}
use Rattle.model.specs.Requests.{request_back_to}
use Rattle.model.specs.OwnerMaps.{OwnerMapView, AsksAs}
use Rattle.request_builder.specs.declared.asked_resolvers.AskedResolvers.{AskedResolvers}
use Rattle.request_builder.specs.AskedResolvers.{asked_resolvers_of, back_to, AreAllAskedResolvers, request_for_resolver, asked_by}
use Rattle.request_builder.proofs.AskedLists.{parts_are, marks_are, asked_are}

-- ---- the requests

request_is : (map_of : OwnerMapView) (rec : Record) (last_received r : ℕ) → r < map_of.resolvers → request_for_resolver rec last_received (map (asked_resolvers_of map_of rec.moves) rec.batch) r ≡ request_back_to map_of.oldest rec last_received r
unfolding request_back_to share_back_to
request_is map_of rec last_received r below =
    ap₂ (λ (share : List Part) (states : List StateMark). record { resolver = r; proxy = rec.proxy; row = rec.row; previous = rec.previous; version = rec.version; last_received = last_received; share = share; states = states })
    (parts_are map_of rec r 0 rec.batch below) (marks_are map_of rec.moves r 0 rec.batch)

-- functions that agree below n give the same list of the numbers below n
map_below : {X : Type 0} (f g : ℕ → X) (n : ℕ) → ((r : ℕ) → r < n → f r ≡ g r) → map f (each_below n) ≡ map g (each_below n)
map_below {X} f g zero same = refl
map_below {X} f g (suc n) same =
    map-append f (each_below n) (n ∷ [])
    ∙ ap₂ (λ (xs : List X) (x : X). xs ++ x ∷ []) (map_below f g n (λ r below. same r (omega arith))) (same n (omega arith))
    ∙ sym (map-append g (each_below n) (n ∷ []))

pub requests_are : (map_of : OwnerMapView) (oldest : ℕ) (rec : Record) (last_received : ℕ) (askings : List AskedResolvers) → AsksAs map_of rec.moves → AreAllAskedResolvers oldest map_of rec.batch askings
    → map (request_for_resolver rec last_received askings) (each_below map_of.resolvers) ≡ map (request_back_to (back_to oldest map_of).oldest rec last_received) (each_below map_of.resolvers)
requests_are map_of oldest rec last_received askings asks asked =
    let far = back_to oldest map_of in
    ap (λ (list : List AskedResolvers). map (request_for_resolver rec last_received list) (each_below map_of.resolvers)) (asked rec.moves asks)
    ∙ map_below (request_for_resolver rec last_received (map (asked_resolvers_of far rec.moves) rec.batch)) (request_back_to far.oldest rec last_received) far.resolvers (request_is far rec last_received)

-- ---- the asked lists

each_asked : (map_of : OwnerMapView) (rec : Record) (ts : List StampedTransaction) → map (asked_by map_of.resolvers) (map (asked_resolvers_of map_of rec.moves) ts) ≡ map (asked_back_to map_of.oldest map_of.resolvers rec) ts
each_asked map_of rec [] = refl
each_asked map_of rec (t ∷ ts) = ap₂ (λ (xs : List ℕ) (xss : List (List ℕ)). xs ∷ xss) (asked_are map_of rec t) (each_asked map_of rec ts)

pub asked_lists_are : (map_of : OwnerMapView) (oldest : ℕ) (rec : Record) (askings : List AskedResolvers) → AsksAs map_of rec.moves → AreAllAskedResolvers oldest map_of rec.batch askings
    → map (asked_by map_of.resolvers) askings ≡ map (asked_back_to (back_to oldest map_of).oldest map_of.resolvers rec) rec.batch
asked_lists_are map_of oldest rec askings asks asked =
    ap (map (asked_by map_of.resolvers)) (asked rec.moves asks) ∙ each_asked (back_to oldest map_of) rec rec.batch
