-- The parts of a cluster stay in step with its world when a resolver judges a request; and a refused event changes nothing.
use Rattle.std.proofs.Common.{◌≡◌, refl, sym, ap, ◌∙◌, subst, ℕ, suc, ◌+◌, ◌<◌, ◌⊎◌, inl, inr, List, [], ◌∷◌, ◌++◌, length, take, Bool, true, false, nat_le, nat_lt, if◌then◌else◌, slice_get, slice_index, slice_set, Option, Some, None, arith}
use Rattle.std.proofs.lemmas.Bool.{ltb-false}
use Rattle.std.proofs.lemmas.List.{length-set}
use Rattle.std.proofs.lemmas.Option.{slice_get_within}
use Rattle.model.specs.Configs.{Config, version_limit}
use Rattle.model.specs.declared.reply.Reply.{Reply}
use Rattle.model.specs.Records.{Record, last_version, records_of_proxy}
use Rattle.model.specs.Shares.{each_below}
use Rattle.model.specs.Journal.{history_verdicts}
use Rattle.model.specs.Requests.{Request}
use Rattle.model.specs.Offers.{answer_to, sent_request, judged_requests, world_answer}
use Rattle.model.specs.ResolverMemory.{ResolverView, StandsForRequests}
use Rattle.model.specs.Finishing.{ProxyView}
use Rattle.model.specs.World.{World, Event, Sequence, MoveRange, Offer, Finish, Handled, Judged, Again, Refused, Refusal, Early, GivenUp, IsSound, next_record, handle_event, handle_offer, handle_finish, finish_record, missing_replies, reply_of, handle_offer_at, acknowledged, refuse, proxy_journal}
use Rattle.model.specs.Turns.{IsResolverOf, AreInStep}
use Rattle.model.specs.Laws.Worlds.{IsOffered}
use Rattle.model.proofs.Worlds.InStep.{set_places, same_proxy, same_resolver}
use Rattle.model.proofs.Resolvers.Judged.{others_leave, judged_adds}
use Rattle.model.proofs.Resolvers.Offers.{offers_are_answered, offer_is}
use Rattle.model.proofs.Verdicts.Places.{row_at}
use Rattle.model.proofs.Worlds.Runs.{journal_kept}
use Rattle.model.proofs.Worlds.Histories.{happens_sound}

-- ---- a refused event

either_unchanged : (w : World) (why : Refusal) (t : Bool) (first second : Handled) → (first.answer ≡ Refused why → first.world ≡ w) → (second.answer ≡ Refused why → second.world ≡ w) → (if t then first else second).answer ≡ Refused why → (if t then first else second).world ≡ w
either_unchanged w why true first second one other = one
either_unchanged w why false first second one other = other

pub refused_unchanged : (config : Config) (w : World) (event : Event) (why : Refusal) → (handle_event config w event).answer ≡ Refused why → (handle_event config w event).world ≡ w
unfolding handle_event
refused_unchanged config w (Sequence p batch) why =
    either_unchanged w why (nat_le config.proxies p) _ _ (λ told. refl) (either_unchanged w why (nat_le version_limit (next_record config w p batch).version) _ _ (λ told. refl) (λ told. absurd (cc)))
refused_unchanged config w (MoveRange range dest) why = either_unchanged w why (nat_le config.resolvers dest) _ _ (λ told. refl) (λ told. absurd (cc))
refused_unchanged config w (Offer row r) why = by (slice_get w.history row)
  where
    by : (found : Option Record) → (handle_offer config w row r found).answer ≡ Refused why → (handle_offer config w row r found).world ≡ w
    by None = λ told. refl
    by (Some rec) =
        either_unchanged w why (nat_le config.resolvers r) _ _ (λ told. refl)
        (either_unchanged w why (nat_lt (slice_index w.judged_counts r) rec.row) _ _ (λ told. refl)
        (either_unchanged w why (nat_lt rec.row (slice_index w.judged_counts r)) _ _
        (either_unchanged w why (nat_le rec.version (acknowledged w (slice_index w.judged_counts r) rec.proxy)) _ _ (λ told. refl) (λ told. refl))
        (λ told. absurd (cc))))
refused_unchanged config w (Finish p) why = either_unchanged w why (nat_le config.proxies p) _ _ (λ told. refl) (by (slice_get (records_of_proxy p w.history) (slice_index w.finished p)))
  where
    waits : (rec : Record) (waiting : List ℕ) → (finish_record config w p rec waiting).answer ≡ Refused why → (finish_record config w p rec waiting).world ≡ w
    waits rec [] = λ told. absurd (cc)
    waits rec (r ∷ rs) = λ told. refl

    by : (found : Option Record) → (handle_finish config w p found).answer ≡ Refused why → (handle_finish config w p found).world ≡ w
    by None = λ told. refl
    by (Some rec) = waits rec (missing_replies w rec.row (each_below config.resolvers))

-- ---- a resolver gets a request

pub answers_as_world : (config : Config) (w : World) (row r : ℕ) (rec : Record) (v : ResolverView) (resolvers : List ResolverView) (proxies : List ProxyView) (requests : List (List Request)) → IsOffered config w row r rec v resolvers proxies requests
    → StandsForRequests v (judged_requests config w r) × (world_answer (answer_to v.number (length v.proxies) v.written.window (judged_requests config w r) (sent_request config w r rec)) ≡ Some (handle_event config w (Offer row r)).answer)
answers_as_world config w row r rec v resolvers proxies requests offered =
    let is : IsResolverOf config w r v = offered.parts.each_resolver r v offered.resolver_is in (
      is.stands,
      (λ i. world_answer (answer_to (is.number i) (is.proxies i) (is.window i) (judged_requests config w r) (sent_request config w r rec)))
          ∙ offers_are_answered config w row r rec offered.parts.limits.step.0 offered.parts.sound offered.there offered.record_is,
    )

pub judged_row_next : (config : Config) (w : World) (row r : ℕ) (rec : Record) (v : ResolverView) (resolvers : List ResolverView) (proxies : List ProxyView) (requests : List (List Request)) (reply : Reply) → IsOffered config w row r rec v resolvers proxies requests → (handle_event config w (Offer row r)).answer ≡ Judged reply
    → (handle_event config w (Offer row r)).world ≡ record w { judged_counts = slice_set w.judged_counts r (row + 1) }
judged_row_next config w row r rec v resolvers proxies requests reply offered answered =
    ap (λ (handled : Handled). handled.world) is
    ∙ by (nat_lt (slice_index w.judged_counts r) rec.row) (nat_lt rec.row (slice_index w.judged_counts r)) (nat_le rec.version (acknowledged w (slice_index w.judged_counts r) rec.proxy)) refl refl (ap (λ (handled : Handled). handled.answer) (sym is) ∙ answered)
  where
    own : Reply
    own = reply_of config (history_verdicts config w.history) r (take row w.history) rec

    is : handle_event config w (Offer row r) ≡ handle_offer_at w (slice_index w.judged_counts r) r own
    is = offer_is config w row r rec offered.there offered.record_is

    by : (early again acknowledging : Bool) → nat_lt (slice_index w.judged_counts r) rec.row ≡ early → nat_lt rec.row (slice_index w.judged_counts r) ≡ again →
        let handled : Handled =
        if early then refuse w (Early (last_version (take (slice_index w.judged_counts r) w.history)))
        else if again then (if acknowledging then refuse w (GivenUp (acknowledged w (slice_index w.judged_counts r) rec.proxy)) else record { world = w; answer = Again own })
        else record { world = record w { judged_counts = slice_set w.judged_counts r (suc (slice_index w.judged_counts r)) }; answer = Judged own } in
        handled.answer ≡ Judged reply → handled.world ≡ record w { judged_counts = slice_set w.judged_counts r (row + 1) }
    by true again acknowledging first second told = absurd (cc)
    by false true true first second told = absurd (cc)
    by false true false first second told = absurd (cc)
    by false false acknowledging first second told =
        let row_is : rec.row ≡ row = row_at config w.history row rec offered.parts.sound.sequencer.history offered.record_is in
        let next : suc (slice_index w.judged_counts r) ≡ row + 1 = omega (arith, row_is, ltb-false (slice_index w.judged_counts r) rec.row first, ltb-false rec.row (slice_index w.judged_counts r) second) in
        ap (λ (n : ℕ). record w { judged_counts = slice_set w.judged_counts r n }) next

pub judged_in_step : (config : Config) (w : World) (row r : ℕ) (rec : Record) (v new : ResolverView) (resolvers : List ResolverView) (proxies : List ProxyView) (requests : List (List Request)) (reply : Reply) → IsOffered config w row r rec v resolvers proxies requests → (handle_event config w (Offer row r)).answer ≡ Judged reply
    → new.number ≡ v.number → length new.proxies ≡ length v.proxies → new.written.window ≡ v.written.window → StandsForRequests new (judged_requests config w r ++ sent_request config w r rec ∷ [])
    → AreInStep config (handle_event config w (Offer row r)).world (slice_set resolvers r new) proxies requests
judged_in_step config w row r rec v new resolvers proxies requests reply offered answered number count window stands =
    subst (λ (x : World). AreInStep config x (slice_set resolvers r new) proxies requests) (sym world_is)
    (record {
      limits = parts.limits;
      sound = subst (IsSound config) world_is (happens_sound config w (Offer row r) parts.sound);
      resolver_count = length-set resolvers r new ∙ parts.resolver_count;
      proxy_count = parts.proxy_count;
      each_resolver = λ s u at. by s u (set_places resolvers r new s u at);
      each_proxy = λ p u at. same_proxy config w x p u refl refl (ap (λ (y : World). proxy_journal config y p) (sym world_is) ∙ journal_kept config w (Offer row r) p parts.limits parts.sound (λ same. absurd (cc))) (parts.each_proxy p u at);
      requests_are = parts.requests_are;
      received = parts.received;
    })
  where
    parts : AreInStep config w resolvers proxies requests
    parts = offered.parts

    x : World
    x = record w { judged_counts = slice_set w.judged_counts r (row + 1) }

    world_is : (handle_event config w (Offer row r)).world ≡ x
    world_is = judged_row_next config w row r rec v resolvers proxies requests reply offered answered

    is : IsResolverOf config w r v
    is = parts.each_resolver r v offered.resolver_is

    judged : judged_requests config x r ≡ judged_requests config w r ++ sent_request config w r rec ∷ []
    judged = ap (λ (y : World). judged_requests config y r) (sym world_is) ∙ judged_adds config w row r rec reply parts.sound offered.there offered.record_is answered

    by : (s : ℕ) (u : ResolverView) → ((s ≡ r) × (u ≡ new)) ⊎ ((s ≡ r → ⊥) × (slice_get resolvers s ≡ Some u)) → IsResolverOf config x s u
    by s u (inr (other, at)) =
        let there : s < config.resolvers = omega (arith, slice_get_within resolvers s u at, parts.resolver_count) in
        same_resolver config w x s u (ap (λ (y : World). judged_requests config y s) (sym world_is) ∙ others_leave config w (Offer row r) s parts.sound there (λ k same. let one : r ≡ s = cc in other (sym one))) (parts.each_resolver s u at)
    by s u (inl (here, same)) =
        subst (λ (k : ℕ). IsResolverOf config x k u) (sym here)
        (subst (IsResolverOf config x r) (sym same)
        (record {
          number = number ∙ is.number;
          proxies = count ∙ is.proxies;
          window = window ∙ is.window;
          stands = subst (StandsForRequests new) (sym judged) stands;
        }))
