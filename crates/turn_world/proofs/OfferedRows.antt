-- A resolver gets the request for a row.
use Rattle.std.proofs.Common.{◌≡◌, refl, sym, ap, ◌∙◌, subst, ℕ, zero, suc, ◌+◌, ◌<◌, ◌≤◌, List, [], ◌∷◌, ◌++◌, map, take, length, slice_get, slice_index, slice_set, Bool, true, false, nat_le, Option, Some, None, option_map, ◌⊎◌, inl, inr, arith}
use Rattle.std.specs.Prelude.{Ok, Err, IsOk, unwrap_or}
use Rattle.std.proofs.lemmas.Bool.{le-leb, leb-true, leb-false}
use Rattle.std.proofs.lemmas.Option.{slice_get-map}
use Rattle.system_keys.specs.AsSpecified.{IsFaultOf}
use Rattle.model.specs.Configs.{Config}
use Rattle.model.specs.declared.reply.Reply.{Reply}
use Rattle.model.specs.Records.{Record}
use Rattle.model.specs.Shares.{each_below}
use Rattle.model.specs.Requests.{Request, last_request_version}
use Rattle.model.specs.Offers.{OfferResult, sent_request, judged_requests, answer_to, world_answer}
use Rattle.model.specs.Offers as offers
use Rattle.model.specs.ResolverMemory.{ResolverView, StandsForRequests}
use Rattle.model.specs.Finishing.{ProxyView}
use Rattle.model.specs.World.{World, Answer, Offer, Handled, NoSuchRow, WrongResolver, handle_event}
use Rattle.model.specs.World as world
use Rattle.model.specs.Turns.{TurnCluster, success_or_refusal, answer_to_event, after_event, AreInStep, sent_requests}
use Rattle.model.specs.Laws.Worlds.{IsOffered}
use Rattle.model.proofs.Worlds.Offers.{answers_as_world, judged_row_next, judged_in_step}
use Rattle.model.proofs.Resolvers.Judged.{others_change_nothing}
use Rattle.model.proofs.Resolvers.Growth.{up_to_last_request}
use Rattle.model.proofs.Resolvers.Offers.{judged_in_turn}
use Rattle.model.proofs.Verdicts.Places.{slice_get-take_back}
use Rattle.model.proofs.Journals.ReplyRows.{slice_get-each_below}
use Rattle.request_builder.specs.declared.header.RequestHeader.{RequestHeader}
use Rattle.state_memory.specs.Answers.{fault_of as offer_fault}
use Rattle.state_memory.specs.declared.refusal.Refusal.{Refusal as Offered}
use Rattle.state_memory.specs.declared.refusal.Refusal.TheVariants as offer_refusals
use Rattle.turn_world.specs.Events.{fault_of}
use Rattle.turn_world.specs.KeptRequests.{HasNumbersOf, bare_request, kept_request}
use Rattle.turn_world.specs.Kept.{IsKept, IsJudgedByAll, IsRowKept, AreRowsKept, records_of, requests_of}
use Rattle.turn_world.specs.Parts.{HasJudgedAt}
use Rattle.turn_world.specs.Steps.{passed_on, IsOfTheWorld}
use Rattle.turn_world.specs.declared.refusal.Refusal.{Refusal}
use Rattle.turn_world.specs.declared.refusal.Refusal.TheVariants as refusals
use Rattle.turn_world.specs.declared.kept_record.KeptRecord.{KeptRecord}
use Rattle.turn_world.proofs.RepeatedRequests.{repeats_alike, never_judged}
use Rattle.turn_world.proofs.RowNumbers.{own_numbers}

no_element : {X : Type 0} (xs : List X) (i : ℕ) → length xs ≤ i → slice_get xs i ≡ None
no_element [] i past = refl
no_element (x ∷ xs) zero past = absurd (omega (arith, past))
no_element (x ∷ xs) (suc i) past = no_element xs i (omega (arith, past))

pub no_row : (config : Config) (rows : List KeptRecord) (w : World) (now : TurnCluster) (row r : ℕ) → w.history ≡ records_of rows → (record { config = config; world = w }) ≡ now → length rows ≤ row → answer_to_event now (Offer row r) ≡ Err NoSuchRow
unfolding handle_event
no_row config rows w now row r is view past =
    let none : slice_get w.history row ≡ None = ap (λ (h : List Record). slice_get h row) is ∙ slice_get-map (λ (x : KeptRecord). x.rec.known) rows row ∙ ap (option_map (λ (x : KeptRecord). x.rec.known)) (no_element rows row past) in
    ap (λ (t : TurnCluster). answer_to_event t (Offer row r)) (sym view) ∙ rw none refl

pub record_at : (rows : List KeptRecord) (row : ℕ) (one : KeptRecord) → slice_get rows row ≡ Some one → slice_get (records_of rows) row ≡ Some one.rec.known
record_at rows row one at = slice_get-map (λ (x : KeptRecord). x.rec.known) rows row ∙ ap (option_map (λ (x : KeptRecord). x.rec.known)) at

pub no_resolver : (config : Config) (w : World) (now : TurnCluster) (row r : ℕ) (rec : Record) → (record { config = config; world = w }) ≡ now → slice_get w.history row ≡ Some rec → config.resolvers ≤ r → answer_to_event now (Offer row r) ≡ Err WrongResolver
unfolding handle_event
no_resolver config w now row r rec view at past =
    let unknown : nat_le config.resolvers r ≡ true = le-leb config.resolvers r past in
    ap (λ (t : TurnCluster). answer_to_event t (Offer row r)) (sym view) ∙ rw (at, unknown) refl

-- the requests for a row are those that were sent for its record
pub requests_at : (config : Config) (w : World) (rows : List KeptRecord) (row : ℕ) (one : KeptRecord) → w.history ≡ records_of rows → requests_of rows ≡ map (sent_requests config w) w.history → slice_get rows row ≡ Some one → one.sent.known ≡ sent_requests config w one.rec.known
requests_at config w rows row one is sent at =
    let left : slice_get (requests_of rows) row ≡ Some one.sent.known = slice_get-map (λ (x : KeptRecord). x.sent.known) rows row ∙ ap (option_map (λ (x : KeptRecord). x.sent.known)) at in
    let right : slice_get (requests_of rows) row ≡ Some (sent_requests config w one.rec.known) = ap (λ (qs : List (List Request)). slice_get qs row) sent ∙ slice_get-map (sent_requests config w) w.history row ∙ ap (option_map (sent_requests config w)) (ap (λ (h : List Record). slice_get h row) is ∙ record_at rows row one at) in
    let both : Some one.sent.known ≡ Some (sent_requests config w one.rec.known) = sym left ∙ right in
    cc

-- what the world answers, by what the resolver answers
pub judged_told : (specified : OfferResult) (answer : Answer) (reply : Reply) → world_answer specified ≡ Some answer → specified ≡ Ok (offers.Judged reply) → answer ≡ world.Judged reply
judged_told specified answer reply told is = let both : Some (world.Judged reply) ≡ Some answer = ap world_answer (sym is) ∙ told in cc

pub again_told : (specified : OfferResult) (answer : Answer) (reply : Reply) → world_answer specified ≡ Some answer → specified ≡ Ok (offers.Again reply) → answer ≡ world.Again reply
again_told specified answer reply told is = let both : Some (world.Again reply) ≡ Some answer = ap world_answer (sym is) ∙ told in cc

pub in_chain : (specified : OfferResult) (answer : Answer) (refusal : Offered) → world_answer specified ≡ Some answer → IsFaultOf (offer_fault refusal) specified → IsOfTheWorld refusal
in_chain specified answer (offer_refusals.OutsideChain version) told is = let both : None ≡ Some answer = ap world_answer (sym is) ∙ told in absurd (cc)
in_chain specified answer offer_refusals.WrongResolver told is = tt
in_chain specified answer offer_refusals.NoSuchProxy told is = tt
in_chain specified answer (offer_refusals.GivenUp acknowledged) told is = tt
in_chain specified answer (offer_refusals.Early version) told is = tt
in_chain specified answer offer_refusals.OutOfMemory told is = tt

told_fault : (specified : OfferResult) (answer : Answer) (fault : offers.OfferFault) (why : world.Refusal) (result known : Refusal) → fault_of known ≡ Some why → world_answer (Err fault) ≡ Some (world.Refused why) → world_answer specified ≡ Some answer → specified ≡ Err fault → Some known ≡ Some result → IsFaultOf (fault_of result) (success_or_refusal answer)
told_fault specified answer fault why result known known_is passed told is same =
    let both : Some (world.Refused why) ≡ Some answer = sym passed ∙ ap world_answer (sym is) ∙ told in
    let answer_is : world.Refused why ≡ answer = cc in
    let result_is : known ≡ result = cc in
    subst (λ (f : Option world.Refusal). IsFaultOf f (success_or_refusal answer)) (sym known_is ∙ ap fault_of result_is) (ap success_or_refusal (sym answer_is))

served : (specified : OfferResult) (answer : Answer) → world_answer specified ≡ Some answer → IsOk specified → IsOk (success_or_refusal answer)
served (Ok (offers.Judged reply)) answer told ok = let is : world.Judged reply ≡ answer = cc in subst (λ (a : Answer). IsOk (success_or_refusal a)) is refl
served (Ok (offers.Again reply)) answer told ok = let is : world.Again reply ≡ answer = cc in subst (λ (a : Answer). IsOk (success_or_refusal a)) is refl
served (Err fault) answer told ok = absurd (cc)

pub refused_told : (specified : OfferResult) (answer : Answer) (refusal : Offered) (result : Refusal) → world_answer specified ≡ Some answer → IsFaultOf (offer_fault refusal) specified → passed_on refusal ≡ Some result → IsFaultOf (fault_of result) (success_or_refusal answer)
refused_told specified answer offer_refusals.WrongResolver result told is same = told_fault specified answer _ _ result _ refl refl told is same
refused_told specified answer offer_refusals.NoSuchProxy result told is same = told_fault specified answer _ _ result _ refl refl told is same
refused_told specified answer (offer_refusals.OutsideChain version) result told is same = absurd (cc)
refused_told specified answer (offer_refusals.GivenUp acknowledged) result told is same = told_fault specified answer _ _ result _ refl refl told is same
refused_told specified answer (offer_refusals.Early version) result told is same = told_fault specified answer _ _ result _ refl refl told is same
refused_told specified answer offer_refusals.OutOfMemory result told is same = let known : refusals.OutOfMemory ≡ result = cc in subst (λ (x : Refusal). IsFaultOf (fault_of x) (success_or_refusal answer)) known (served specified answer told is)

-- the answer to the event, from the answer of the world
pub event_answer : (config : Config) (w : World) (now : TurnCluster) (row r : ℕ) (answer : Answer) → (record { config = config; world = w }) ≡ now → (handle_event config w (Offer row r)).answer ≡ answer → answer_to_event now (Offer row r) ≡ success_or_refusal answer
event_answer config w now row r answer view is = ap (λ (t : TurnCluster). answer_to_event t (Offer row r)) (sym view) ∙ ap success_or_refusal is

pub judged_kept : (config : Config) (w : World) (row r : ℕ) (rec : Record) (v : ResolverView) (q : Request) (resolvers after : List ResolverView) (proxies : List ProxyView) (requests : List (List Request)) (last : ℕ) (reply : Reply) → IsKept config w resolvers proxies requests last → IsOffered config w row r rec v resolvers proxies requests → q ≡ sent_request config w r rec → (handle_event config w (Offer row r)).answer ≡ world.Judged reply → HasJudgedAt resolvers r v q after
    → IsKept config (record w { judged_counts = slice_set w.judged_counts r (row + 1) }) after proxies requests last
judged_kept config w row r rec v q resolvers after proxies requests last reply keeps is_offered q_is answered judged =
    record {
      parts = subst (λ (x : World). AreInStep config x after proxies requests) (judged_row_next config w row r rec v resolvers proxies requests reply is_offered answered)
          (subst (λ (rs : List ResolverView). AreInStep config (handle_event config w (Offer row r)).world rs proxies requests) (sym judged.after_is)
          (judged_in_step config w row r rec v judged.new resolvers proxies requests reply is_offered answered judged.number judged.proxies judged.window
          (subst (λ (s : Request). StandsForRequests judged.new (judged_requests config w r ++ s ∷ [])) q_is (judged.gains (judged_requests config w r) (answers_as_world config w row r rec v resolvers proxies requests is_offered).0))));
      last_is = keeps.last_is;
      below = keeps.below;
    }

pub judged_after : (config : Config) (w : World) (now : TurnCluster) (row r : ℕ) (rec : Record) (v : ResolverView) (resolvers : List ResolverView) (proxies : List ProxyView) (requests : List (List Request)) (reply : Reply) → (record { config = config; world = w }) ≡ now → IsOffered config w row r rec v resolvers proxies requests → (handle_event config w (Offer row r)).answer ≡ world.Judged reply
    → (record { config = config; world = record w { judged_counts = slice_set w.judged_counts r (row + 1) } }) ≡ after_event now (Offer row r)
judged_after config w now row r rec v resolvers proxies requests reply view is_offered answered =
    ap (λ (x : World). record { config = config; world = x }) (sym (judged_row_next config w row r rec v resolvers proxies requests reply is_offered answered)) ∙ ap (λ (t : TurnCluster). after_event t (Offer row r)) view

pub again_after : (config : Config) (w : World) (now : TurnCluster) (row r : ℕ) (reply : Reply) → (record { config = config; world = w }) ≡ now → (handle_event config w (Offer row r)).answer ≡ world.Again reply → (record { config = config; world = w }) ≡ after_event now (Offer row r)
again_after config w now row r reply view answered =
    ap (λ (x : World). record { config = config; world = x }) (sym (others_change_nothing config w row r (λ other same. let both : world.Again reply ≡ world.Judged other = sym answered ∙ same in absurd (cc)))) ∙ ap (λ (t : TurnCluster). after_event t (Offer row r)) view

-- what is known where a resolver has answered what is kept of the request for a row
pub record Known (config : Config) (w : World) (row r : ℕ) (one : KeptRecord) (v : ResolverView) (q : Request) (resolvers : List ResolverView) (proxies : List ProxyView) (requests : List (List Request)) : Type 0 where
  pub is_offered : IsOffered config w row r one.rec.known v resolvers proxies requests
  pub stands : StandsForRequests v (judged_requests config w r)
  pub told : world_answer (answer_to v.number (length v.proxies) v.written.window (judged_requests config w r) q) ≡ Some (handle_event config w (Offer row r)).answer
  pub judged : (reply : Reply) → answer_to v.number (length v.proxies) v.written.window (judged_requests config w r) q ≡ Ok (offers.Judged reply) → (q ≡ sent_request config w r one.rec.known) × (slice_index w.judged_counts r ≤ row)

pub own_request : (config : Config) (w : World) (rec : Record) (r : ℕ) → r < config.resolvers → slice_get (sent_requests config w rec) r ≡ Some (sent_request config w r rec)
own_request config w rec r there = slice_get-map (λ (s : ℕ). sent_request config w s rec) (each_below config.resolvers) r ∙ ap (option_map (λ (s : ℕ). sent_request config w s rec)) (slice_get-each_below config.resolvers r there)

judged_at : (config : Config) (w : World) (row r : ℕ) (rec : Record) → slice_get w.history row ≡ Some rec → row < slice_index w.judged_counts r → slice_get (judged_requests config w r) row ≡ Some (sent_request config w r rec)
unfolding judged_requests
judged_at config w row r rec at passed =
    slice_get-map (sent_request config w r) (take (slice_index w.judged_counts r) w.history) row
    ∙ ap (option_map (sent_request config w r)) (slice_get-take_back w.history (slice_index w.judged_counts r) row rec passed at)

-- the request that is offered for a row: the one that was sent, or, once its resolver has judged the
-- row, one with its numbers
record IsOfferedFor (judged_count row : ℕ) (sent q : Request) : Type 0 where
  numbers : HasNumbersOf sent q
  whole : judged_count ≤ row → q ≡ sent

offered_for : (counts : List ℕ) (row r : ℕ) (one : KeptRecord) (sent : Request) (header : RequestHeader) → r < length counts → IsRowKept counts row one → slice_get one.sent.known r ≡ Some sent → HasNumbersOf sent (bare_request header) → IsOfferedFor (slice_index counts r) row sent (kept_request one.kept.requests.items r header)
offered_for counts row r one sent header within is at numbers = by is.requests
  where
    by : (one.kept.requests.items ≡ one.sent.known) ⊎ ((one.kept.requests.items ≡ []) × IsJudgedByAll counts row) → IsOfferedFor (slice_index counts r) row sent (kept_request one.kept.requests.items r header)
    by (inl whole) =
        let q_is : kept_request one.kept.requests.items r header ≡ sent = ap (λ (qs : List Request). kept_request qs r header) whole ∙ ap (λ (found : Option Request). unwrap_or found (bare_request header)) at in
        record { numbers = subst (HasNumbersOf sent) (sym q_is) (own_numbers sent); whole = λ left. q_is }
    by (inr (none, judged)) =
        let q_is : kept_request one.kept.requests.items r header ≡ bare_request header = ap (λ (qs : List Request). kept_request qs r header) none in
        record { numbers = subst (HasNumbersOf sent) (sym q_is) numbers; whole = λ left. absurd (omega (arith, left, judged r within)) }

known : (config : Config) (w : World) (rows : List KeptRecord) (row r : ℕ) (one : KeptRecord) (v : ResolverView) (header : RequestHeader) (resolvers : List ResolverView) (proxies : List ProxyView) (last : ℕ) → w.history ≡ records_of rows → IsKept config w resolvers proxies (requests_of rows) last → AreRowsKept w.judged_counts rows → r < config.resolvers → slice_get rows row ≡ Some one → HasNumbersOf (sent_request config w r one.rec.known) (bare_request header) → slice_get resolvers r ≡ Some v
    → Known config w row r one v (kept_request one.kept.requests.items r header) resolvers proxies (requests_of rows)
known config w rows row r one v header resolvers proxies last is keeps all there at numbers at_v =
    by (nat_le (slice_index w.judged_counts r) row) refl
  where
    rec : Record
    rec = one.rec.known

    q : Request
    q = kept_request one.kept.requests.items r header

    at_rec : slice_get w.history row ≡ Some rec
    at_rec = ap (λ (h : List Record). slice_get h row) is ∙ record_at rows row one at

    is_offered : IsOffered config w row r rec v resolvers proxies (requests_of rows)
    is_offered = record { parts = keeps.parts; there = there; resolver_is = at_v; record_is = at_rec }

    at_sent : slice_get one.sent.known r ≡ Some (sent_request config w r rec)
    at_sent = ap (λ (qs : List Request). slice_get qs r) (requests_at config w rows row one is keeps.parts.requests_are at) ∙ own_request config w rec r there

    offered : IsOfferedFor (slice_index w.judged_counts r) row (sent_request config w r rec) q
    offered = offered_for w.judged_counts row r one (sent_request config w r rec) header (omega (arith, there, keeps.parts.sound.judged_counts)) (all row one at) at_sent numbers

    answers : StandsForRequests v (judged_requests config w r) × (world_answer (answer_to v.number (length v.proxies) v.written.window (judged_requests config w r) (sent_request config w r rec)) ≡ Some (handle_event config w (Offer row r)).answer)
    answers = answers_as_world config w row r rec v resolvers proxies (requests_of rows) is_offered

    by : (t : Bool) → nat_le (slice_index w.judged_counts r) row ≡ t → Known config w row r one v q resolvers proxies (requests_of rows)
    by true e =
        let left : slice_index w.judged_counts r ≤ row = leb-true (slice_index w.judged_counts r) row e in
        let q_is = offered.whole left in
        record { is_offered = is_offered; stands = answers.0; told = ap (λ (s : Request). world_answer (answer_to v.number (length v.proxies) v.written.window (judged_requests config w r) s)) q_is ∙ answers.1; judged = λ reply told. (q_is, left) }
    by false e =
        let passed : row < slice_index w.judged_counts r = leb-false (slice_index w.judged_counts r) row e in
        let up_to : (sent_request config w r rec).version ≤ last_request_version (judged_requests config w r) = up_to_last_request r config.proxies (judged_requests config w r) row (sent_request config w r rec) (judged_in_turn config w r keeps.parts.limits.step.0 keeps.parts.sound there) (judged_at config w row r rec at_rec passed) in
        let alike = repeats_alike v.number (length v.proxies) v.written.window (judged_requests config w r) (sent_request config w r rec) q offered.numbers up_to in
        record {
          is_offered = is_offered;
          stands = answers.0;
          told = ap world_answer alike ∙ answers.1;
          judged = λ reply told. absurd (never_judged v.number (length v.proxies) v.written.window (judged_requests config w r) (sent_request config w r rec) reply up_to (sym alike ∙ told));
        }

-- the same of what the cluster sees, where the resolver answered the request that stands for the one that was sent
pub known_offer : (config : Config) (w : World) (rows : List KeptRecord) (now : TurnCluster) (row r : ℕ) (one : KeptRecord) (kept : List Request) (header : RequestHeader) (v : ResolverView) (resolvers : List ResolverView) (proxies : List ProxyView) (last : ℕ) → (record { config = config; world = w }) ≡ now → w.history ≡ records_of rows → IsKept config w resolvers proxies (requests_of rows) last → AreRowsKept w.judged_counts rows → r < config.resolvers → slice_get rows row ≡ Some one
    → ((rec : Record) → slice_get now.world.history row ≡ Some rec → HasNumbersOf (sent_request now.config now.world r rec) (bare_request header)) → kept ≡ one.kept.requests.items → slice_get resolvers r ≡ Some v → Known config w row r one v (kept_request kept r header) resolvers proxies (requests_of rows)
known_offer config w rows now row r one kept header v resolvers proxies last view is keeps all there at numbers kept_is at_v =
    subst (λ (qs : List Request). Known config w row r one v (kept_request qs r header) resolvers proxies (requests_of rows)) (sym kept_is)
    (known config w rows row r one v header resolvers proxies last is keeps all there at (own one.rec.known (ap (λ (h : List Record). slice_get h row) is ∙ record_at rows row one at)) at_v)
  where
    own : (rec : Record) → slice_get w.history row ≡ Some rec → HasNumbersOf (sent_request config w r rec) (bare_request header)
    own = subst (λ (t : TurnCluster). (rec : Record) → slice_get t.world.history row ≡ Some rec → HasNumbersOf (sent_request t.config t.world r rec) (bare_request header)) (sym view) numbers
