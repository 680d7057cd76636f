-- What a resolver answers to the requests of a world is what the world answers to their Offers.
use Rattle.std.proofs.Common.{◌≡◌, refl, sym, ap, ◌∙◌, subst, ℕ, zero, suc, ◌+◌, ◌<◌, ◌≤◌, ◌⊎◌, inl, inr, List, [], ◌∷◌, ◌++◌, map, length, take, filter, Bool, true, false, cond, nat_eq, nat_le, nat_lt, if◌then◌else◌, slice_get, slice_index, Option, Some, None, append_assoc, append-nil, option_map, arith}
use Rattle.std.specs.Prelude.{Ok, Err}
use Rattle.std.proofs.lemmas.Bool.{cases_order, lt-ltb, le-ltb, lt-leb, le-leb, leb-false, eq-eqb, ne_eqb, ltb-true, leb-true, and_parts}
use Rattle.std.proofs.lemmas.List.{take-map}
use Rattle.std.proofs.lemmas.Option.{slice_get-map, slice_get_within}
use Rattle.model.specs.Configs.{Config}
use Rattle.model.specs.declared.reply.Reply.{Reply}
use Rattle.model.specs.Records.{Record, Follows, last_version}
use Rattle.model.specs.Journal.{history_verdicts}
use Rattle.model.specs.Requests.{Request, request, request_back_to, request_reply, last_request_version}
use Rattle.model.specs.Acknowledged.{acknowledged_requests}
use Rattle.model.specs.Offers.{Judged, OutsideChain, GivenUp, Early, replies_to, is_kept_for, kept_replies, reply_at, answer_again, answer_in_order, answer_to, IsInTurn, AreInTurn, sent_request, judged_requests, world_answer}
use Rattle.model.specs.World.{World, Offer, Handled, IsSound, reply_of, acknowledged, handle_repeat, handle_offer_at, handle_offer, handle_event, refuse}
use Rattle.model.specs.World as world
use Rattle.model.proofs.Resolvers.Acknowledged.{acknowledged_is}
use Rattle.model.proofs.History.Chain.{element_at, last_versions_rise, up_to_front}
use Rattle.model.proofs.History.Growth.{index_there}
use Rattle.model.proofs.Resolvers.Remembered.{last_request-push}
use Rattle.model.proofs.Owners.Moves.{last_version_at}
use Rattle.model.proofs.Verdicts.Places.{slice_get-take, slice_get-take_back, row_at, take-take_le}
use Rattle.model.proofs.Resolvers.Requests.{requests_for, take_suc, last_of_requests, request_reply_is}

-- ---- the answer to a request whose versions are in order

pub answer_known : (number proxies window : ℕ) (judged : List Request) (q : Request) → q.resolver ≡ number → q.proxy < proxies → q.previous < q.version → q.last_received ≤ q.previous →
    answer_to number proxies window judged q ≡ answer_in_order window judged (last_request_version judged) q
unfolding answer_to
answer_known number proxies window judged q own there above received =
    let same : nat_eq q.resolver number ≡ true = eq-eqb q.resolver number own in
    let known : nat_le proxies q.proxy ≡ false = lt-leb proxies q.proxy there in
    let rises : nat_lt q.previous q.version ≡ true = lt-ltb q.previous q.version above in
    let had : nat_le q.last_received q.previous ≡ true = le-leb q.last_received q.previous received in
    rw (same, known, rises, had) refl

-- it comes too early
pub answer_early : (window : ℕ) (judged : List Request) (last : ℕ) (q : Request) → last < q.previous → q.previous < q.version →
    answer_in_order window judged last q ≡ Err (Early last)
answer_early window judged last q early above =
    let new : nat_le q.version last ≡ false = lt-leb q.version last (omega (arith, early, above)) in
    let before : nat_lt last q.previous ≡ true = lt-ltb last q.previous early in
    rw (new, before) refl

-- it comes in its turn
pub answer_judged : (window : ℕ) (judged : List Request) (last : ℕ) (q : Request) → q.previous ≡ last → q.previous < q.version →
    answer_in_order window judged last q ≡ Ok (Judged (request_reply window judged q))
answer_judged window judged last q next above =
    let new : nat_le q.version last ≡ false = lt-leb q.version last (omega (arith, next, above)) in
    let not_early : nat_lt last q.previous ≡ false = le-ltb last q.previous (omega (arith, next)) in
    let not_late : nat_lt q.previous last ≡ false = le-ltb q.previous last (omega (arith, next)) in
    rw (new, not_early, not_late) refl

-- it comes again
pub answer_repeat : (window : ℕ) (judged : List Request) (last : ℕ) (q : Request) → q.version ≤ last →
    answer_in_order window judged last q ≡ answer_again (reply_at q.version (kept_replies window judged q.proxy)) q.version (acknowledged_requests q.proxy judged) last
answer_repeat window judged last q passed = let old : nat_le q.version last ≡ true = le-leb q.version last passed in rw old refl

-- ---- which reply is kept

-- no reply that the proxy has acknowledged is kept
none_kept : (p acknowledged version : ℕ) (replies : List Reply) → version ≤ acknowledged → reply_at version (filter (is_kept_for p acknowledged) replies) ≡ None
none_kept p acknowledged version [] up_to = refl
none_kept p acknowledged version (reply ∷ replies) up_to = by (is_kept_for p acknowledged reply) refl (none_kept p acknowledged version replies up_to)
  where
    by : (b : Bool) → is_kept_for p acknowledged reply ≡ b → reply_at version (filter (is_kept_for p acknowledged) replies) ≡ None → reply_at version (cond b (reply ∷ filter (is_kept_for p acknowledged) replies) (filter (is_kept_for p acknowledged) replies)) ≡ None
    by true kept rest =
        let above : acknowledged < reply.version = ltb-true acknowledged reply.version (and_parts (nat_eq reply.proxy p) (nat_lt acknowledged reply.version) kept).1 in
        let other : nat_eq reply.version version ≡ false = ne_eqb reply.version version (λ same. omega (arith, same, above, up_to)) in
        rw other rest
    by false dropped rest = rest

-- the request stands at one place at most
abbrev pub StandsOnce : List Request → ℕ → Request → Type 0
StandsOnce requests i q = (j : ℕ) (s : Request) → slice_get requests j ≡ Some s → s.version ≡ q.version → j ≡ i

kept_from : (window p acknowledged : ℕ) (before rest : List Request) (i : ℕ) (q : Request) → slice_get rest i ≡ Some q → StandsOnce rest i q → q.proxy ≡ p → acknowledged < q.version →
    reply_at q.version (filter (is_kept_for p acknowledged) (replies_to window before rest)) ≡ Some (request_reply window (before ++ take i rest) q)
unfolding request_reply
kept_from window p acknowledged before [] i q at once own above = absurd (cc)
kept_from window p acknowledged before (s ∷ rest) zero q at once own above =
    let same : s ≡ q = cc in
    let proxy : nat_eq s.proxy p ≡ true = eq-eqb s.proxy p (ap (λ (t : Request). t.proxy) same ∙ own) in
    let version : s.version ≡ q.version = ap (λ (t : Request). t.version) same in
    let past : nat_lt acknowledged s.version ≡ true = lt-ltb acknowledged s.version (omega (arith, version, above)) in
    let here : nat_eq s.version q.version ≡ true = eq-eqb s.version q.version version in
    rw (proxy, past, here) (λ k. Some (request_reply window (sym (append-nil before) k) (same k)))
kept_from window p acknowledged before (s ∷ rest) (suc i) q at once own above =
    by (is_kept_for p acknowledged (request_reply window before s)) (kept_from window p acknowledged (before ++ s ∷ []) rest i q at later own above)
  where
    later : StandsOnce rest i q
    later j t there same = let found : suc j ≡ suc i = once (suc j) t there same in omega (arith, found)

    other : nat_eq s.version q.version ≡ false
    other = ne_eqb s.version q.version (λ same. let first : 0 ≡ suc i = once 0 s refl same in omega (arith, first))

    goes_on : (before ++ s ∷ []) ++ take i rest ≡ before ++ s ∷ take i rest
    goes_on = append_assoc before (s ∷ []) (take i rest)

    replies : List Reply
    replies = filter (is_kept_for p acknowledged) (replies_to window (before ++ s ∷ []) rest)

    by : (b : Bool) → reply_at q.version replies ≡ Some (request_reply window ((before ++ s ∷ []) ++ take i rest) q)
        → reply_at q.version (cond b (request_reply window before s ∷ replies) replies) ≡ Some (request_reply window (before ++ s ∷ take i rest) q)
    by true found = rw other (found ∙ ap (λ (earlier : List Request). Some (request_reply window earlier q)) goes_on)
    by false found = found ∙ ap (λ (earlier : List Request). Some (request_reply window earlier q)) goes_on

-- ---- requests that came in their turn

-- the previous version of a request is at or above the version of each request before it
pub turns_rise : (number proxies : ℕ) (judged : List Request) (i j : ℕ) (a b : Request) → AreInTurn number proxies judged → i < j → slice_get judged i ≡ Some a → slice_get judged j ≡ Some b → a.version ≤ b.previous
turns_rise number proxies judged i zero a b turns less at_a at_b = absurd (omega arith)
turns_rise number proxies judged i (suc j) a b turns less at_a at_b =
    let within : suc j < length judged = slice_get_within judged (suc j) b at_b in
    let middle = element_at judged j (omega arith) in
    let last : last_request_version (take (suc j) judged) ≡ middle.0.version = ap last_request_version (sym (take_suc judged j middle.0 middle.1)) ∙ last_request-push (take j judged) middle.0 in
    let next : b.previous ≡ last_request_version (take (suc j) judged) = (turns (suc j) b at_b).previous in
    by middle.0 middle.1 (next ∙ last) (cases_order i j) (λ below. turns_rise number proxies judged i j a middle.0 turns below at_a middle.1)
  where
    by : (m : Request) → slice_get judged j ≡ Some m → b.previous ≡ m.version → (i ≡ j) ⊎ ((i < j) ⊎ (j < i)) → (i < j → a.version ≤ m.previous) → a.version ≤ b.previous
    by m at_m previous (inl same) earlier =
        let one : Some a ≡ Some m = sym at_a ∙ ap (slice_get judged) same ∙ at_m in
        let is : a ≡ m = cc in
        omega (arith, previous, ap (λ (q : Request). q.version) is)
    by m at_m previous (inr (inl below)) earlier =
        let up : a.version ≤ m.previous = earlier below in
        let rises : m.previous < m.version = (turns j m at_m).version in
        omega (arith, previous, up, rises)
    by m at_m previous (inr (inr above)) earlier = absurd (omega (arith, less, above))

-- so each stands at one place
pub stands_once : (number proxies : ℕ) (judged : List Request) (i : ℕ) (q : Request) → AreInTurn number proxies judged → slice_get judged i ≡ Some q → StandsOnce judged i q
stands_once number proxies judged i q turns at j s there same = by (cases_order j i)
  where
    by : (j ≡ i) ⊎ ((j < i) ⊎ (i < j)) → j ≡ i
    by (inl one) = one
    by (inr (inl below)) =
        let up : s.version ≤ q.previous = turns_rise number proxies judged j i s q turns below there at in
        let rises : q.previous < q.version = (turns i q at).version in
        absurd (omega (arith, same, up, rises))
    by (inr (inr above)) =
        let up : q.version ≤ s.previous = turns_rise number proxies judged i j q s turns above at there in
        let rises : s.previous < s.version = (turns j s there).version in
        absurd (omega (arith, same, up, rises))

-- the reply that is kept for a request that was judged, until its proxy has acknowledged it
pub kept_at : (number proxies window : ℕ) (judged : List Request) (i : ℕ) (q : Request) → AreInTurn number proxies judged → slice_get judged i ≡ Some q → acknowledged_requests q.proxy judged < q.version →
    reply_at q.version (kept_replies window judged q.proxy) ≡ Some (request_reply window (take i judged) q)
unfolding kept_replies
kept_at number proxies window judged i q turns at above =
    kept_from window q.proxy (acknowledged_requests q.proxy judged) [] judged i q at (stands_once number proxies judged i q turns at) refl above

pub given_up : (window : ℕ) (judged : List Request) (p version : ℕ) → version ≤ acknowledged_requests p judged → reply_at version (kept_replies window judged p) ≡ None
unfolding kept_replies
given_up window judged p version up_to = none_kept p (acknowledged_requests p judged) version (replies_to window [] judged) up_to

-- ---- the requests of a world

pub requests_are : (config : Config) (w : World) (r : ℕ) → judged_requests config w r ≡ requests_for config (λ (rec : Record). slice_index w.received rec.row) r (take (slice_index w.judged_counts r) w.history)
unfolding judged_requests
requests_are config w r = refl

pub judged_within : (config : Config) (w : World) (r : ℕ) → IsSound config w → r < config.resolvers → slice_index w.judged_counts r ≤ length w.history
judged_within config w r sound there = sound.judged_there r (slice_index w.judged_counts r) (index_there w.judged_counts r (omega (arith, there, sound.judged_counts)))

-- a record's request comes in its turn after those for the records before it
pub sent_in_turn : (config : Config) (w : World) (row r : ℕ) (rec : Record) → 1 ≤ config.step → IsSound config w → slice_get w.history row ≡ Some rec →
    IsInTurn r config.proxies (requests_for config (λ (s : Record). slice_index w.received s.row) r (take row w.history)) (sent_request config w r rec)
unfolding request_back_to
sent_in_turn config w row r rec stepping sound at =
    let follows : Follows config (take row w.history) rec = sound.sequencer.history row rec at in
    let version : rec.version ≡ rec.previous + config.step = follows.version in
    let within : row < length w.history = slice_get_within w.history row rec at in
    let had : slice_get w.received row ≡ Some (slice_index w.received row) = index_there w.received row (omega (arith, within, sound.received)) in
    let up_to : slice_index w.received row ≤ rec.previous = sound.received_before row (slice_index w.received row) rec at had in
    let own : rec.row ≡ row = row_at config w.history row rec sound.sequencer.history at in
    record {
      resolver = refl;
      proxy = follows.proxy;
      previous = follows.previous ∙ sym (last_of_requests config (λ (s : Record). slice_index w.received s.row) r (take row w.history));
      version = omega (arith, version, stepping);
      received = subst (λ (k : ℕ). slice_index w.received k ≤ rec.previous) (sym own) up_to;
    }

-- a request among those for some records is that for the record at its place
sent_at : (config : Config) (received : Record → ℕ) (r : ℕ) (records : List Record) (i : ℕ) (q : Request) → slice_get (requests_for config received r records) i ≡ Some q →
    (rec : Record) × (slice_get records i ≡ Some rec) × (q ≡ request config rec (received rec) r)
sent_at config received r [] i q at = absurd (cc)
sent_at config received r (rec ∷ records) zero q at = let same : request config rec (received rec) r ≡ q = cc in (rec, refl, sym same)
sent_at config received r (rec ∷ records) (suc i) q at = sent_at config received r records i q at

pub judged_in_turn : (config : Config) (w : World) (r : ℕ) → 1 ≤ config.step → IsSound config w → r < config.resolvers → AreInTurn r config.proxies (judged_requests config w r)
unfolding judged_requests
judged_in_turn config w r stepping sound there i q at =
    let found = sent_at config (λ (s : Record). slice_index w.received s.row) r (take (slice_index w.judged_counts r) w.history) i q at in
    let place = slice_get-take w.history (slice_index w.judged_counts r) i found.0 found.1 in
    let turn : IsInTurn r config.proxies (requests_for config (λ (s : Record). slice_index w.received s.row) r (take i w.history)) (sent_request config w r found.0) = sent_in_turn config w i r found.0 stepping sound place.1 in
    let before : take i (requests_for config (λ (s : Record). slice_index w.received s.row) r (take (slice_index w.judged_counts r) w.history)) ≡ requests_for config (λ (s : Record). slice_index w.received s.row) r (take i w.history) =
    take-map (sent_request config w r) i (take (slice_index w.judged_counts r) w.history) ∙ ap (λ (h : List Record). map (sent_request config w r) h) (take-take_le w.history i (slice_index w.judged_counts r) (let below : i < slice_index w.judged_counts r = place.0 in omega (arith, below))) in
    subst (λ (s : Request). IsInTurn r config.proxies (take i (requests_for config (λ (s : Record). slice_index w.received s.row) r (take (slice_index w.judged_counts r) w.history))) s) (sym found.2)
    (subst (λ (earlier : List Request). IsInTurn r config.proxies earlier (sent_request config w r found.0)) (sym before) turn)

-- ---- the answers of a world

pub offer_is : (config : Config) (w : World) (row r : ℕ) (rec : Record) → r < config.resolvers → slice_get w.history row ≡ Some rec →
    handle_event config w (Offer row r) ≡ handle_offer_at w (slice_index w.judged_counts r) r (reply_of config (history_verdicts config w.history) r (take row w.history) rec)
unfolding handle_event
offer_is config w row r rec there at =
    ap (λ (found : Option Record). handle_offer config w row r found) at
    ∙ ap (λ (t : Bool). if t then refuse w world.WrongResolver else handle_offer_at w (slice_index w.judged_counts r) r (reply_of config (history_verdicts config w.history) r (take row w.history) rec)) (lt-leb config.resolvers r there)

-- the resolver's answer, by the version that it has reached
sent_answer : (config : Config) (w : World) (row r : ℕ) (rec : Record) → 1 ≤ config.step → IsSound config w → slice_get w.history row ≡ Some rec →
    answer_to r config.proxies config.window (judged_requests config w r) (sent_request config w r rec) ≡ answer_in_order config.window (judged_requests config w r) (last_version (take (slice_index w.judged_counts r) w.history)) (sent_request config w r rec)
sent_answer config w row r rec stepping sound at =
    let turn = sent_in_turn config w row r rec stepping sound at in
    answer_known r config.proxies config.window (judged_requests config w r) (sent_request config w r rec) turn.resolver turn.proxy turn.version turn.received
    ∙ ap (λ (last : ℕ). answer_in_order config.window (judged_requests config w r) last (sent_request config w r rec)) (ap last_request_version (requests_are config w r) ∙ last_of_requests config (λ (s : Record). slice_index w.received s.row) r (take (slice_index w.judged_counts r) w.history))

offered_early : (config : Config) (w : World) (row r : ℕ) (rec : Record) → 1 ≤ config.step → IsSound config w → slice_get w.history row ≡ Some rec → slice_index w.judged_counts r < row →
    world_answer (answer_to r config.proxies config.window (judged_requests config w r) (sent_request config w r rec)) ≡ Some (handle_offer_at w (slice_index w.judged_counts r) r (reply_of config (history_verdicts config w.history) r (take row w.history) rec)).answer
unfolding request_back_to
offered_early config w row r rec stepping sound at early =
    let before : nat_lt (slice_index w.judged_counts r) rec.row ≡ true = lt-ltb (slice_index w.judged_counts r) rec.row (omega (arith, early, row_at config w.history row rec sound.sequencer.history at)) in
    rw before (ap world_answer (sent_answer config w row r rec stepping sound at ∙ answer_early config.window (judged_requests config w r) (last_version (take (slice_index w.judged_counts r) w.history)) (sent_request config w r rec) below turn.version))
  where
    turn : IsInTurn r config.proxies (requests_for config (λ (s : Record). slice_index w.received s.row) r (take row w.history)) (sent_request config w r rec)
    turn = sent_in_turn config w row r rec stepping sound at

    below : last_version (take (slice_index w.judged_counts r) w.history) < rec.previous
    below =
        let within : row < length w.history = slice_get_within w.history row rec at in
        let first = element_at w.history (slice_index w.judged_counts r) (omega (arith, within, early)) in
        let follows : Follows config (take (slice_index w.judged_counts r) w.history) first.0 = sound.sequencer.history (slice_index w.judged_counts r) first.0 first.1 in
        let starts : first.0.previous ≡ last_version (take (slice_index w.judged_counts r) w.history) = follows.previous in
        let version : first.0.version ≡ first.0.previous + config.step = follows.version in
        let reaches : last_version (take (suc (slice_index w.judged_counts r)) w.history) ≡ first.0.version = last_version_at w.history (slice_index w.judged_counts r) first.0 first.1 in
        let rises : last_version (take (suc (slice_index w.judged_counts r)) w.history) ≤ last_version (take row w.history) = last_versions_rise config w.history (suc (slice_index w.judged_counts r)) row sound.sequencer.history early (omega (arith, within, early)) in
        let previous : rec.previous ≡ last_version (take row w.history) = (sound.sequencer.history row rec at).previous in
        omega (arith, starts, version, reaches, rises, previous, stepping)

offered_next : (config : Config) (w : World) (row r : ℕ) (rec : Record) → 1 ≤ config.step → IsSound config w → slice_get w.history row ≡ Some rec → slice_index w.judged_counts r ≡ row →
    world_answer (answer_to r config.proxies config.window (judged_requests config w r) (sent_request config w r rec)) ≡ Some (handle_offer_at w (slice_index w.judged_counts r) r (reply_of config (history_verdicts config w.history) r (take row w.history) rec)).answer
unfolding request_back_to
offered_next config w row r rec stepping sound at next =
    let own : rec.row ≡ row = row_at config w.history row rec sound.sequencer.history at in
    let not_early : nat_lt (slice_index w.judged_counts r) rec.row ≡ false = le-ltb (slice_index w.judged_counts r) rec.row (omega (arith, next, own)) in
    let not_again : nat_lt rec.row (slice_index w.judged_counts r) ≡ false = le-ltb rec.row (slice_index w.judged_counts r) (omega (arith, next, own)) in
    let turn = sent_in_turn config w row r rec stepping sound at in
    let previous : rec.previous ≡ last_version (take row w.history) = (sound.sequencer.history row rec at).previous in
    let reached : rec.previous ≡ last_version (take (slice_index w.judged_counts r) w.history) = previous ∙ ap (λ (k : ℕ). last_version (take k w.history)) (sym next) in
    let told : request_reply config.window (judged_requests config w r) (sent_request config w r rec) ≡ reply_of config (history_verdicts config w.history) r (take row w.history) rec =
    ap (λ (judged : List Request). request_reply config.window judged (sent_request config w r rec)) (requests_are config w r ∙ ap (λ (k : ℕ). requests_for config (λ (s : Record). slice_index w.received s.row) r (take k w.history)) next)
    ∙ request_reply_is config (λ (s : Record). slice_index w.received s.row) w.history r row rec sound.sequencer.history at in
    rw (not_early, not_again)
    (ap world_answer (sent_answer config w row r rec stepping sound at ∙ answer_judged config.window (judged_requests config w r) (last_version (take (slice_index w.judged_counts r) w.history)) (sent_request config w r rec) reached turn.version ∙ ap (λ (reply : Reply). Ok (Judged reply)) told))

-- the request that was judged for a row
pub judged_at_row : (config : Config) (w : World) (row r : ℕ) (rec : Record) → slice_get w.history row ≡ Some rec → row < slice_index w.judged_counts r → slice_get (judged_requests config w r) row ≡ Some (sent_request config w r rec)
unfolding judged_requests
judged_at_row config w row r rec at below =
    slice_get-map (sent_request config w r) (take (slice_index w.judged_counts r) w.history) row ∙ ap (option_map (sent_request config w r)) (slice_get-take_back w.history (slice_index w.judged_counts r) row rec below at)

pub judged_before_row : (config : Config) (w : World) (row r : ℕ) → row < slice_index w.judged_counts r → take row (judged_requests config w r) ≡ requests_for config (λ (s : Record). slice_index w.received s.row) r (take row w.history)
unfolding judged_requests
judged_before_row config w row r below =
    take-map (sent_request config w r) row (take (slice_index w.judged_counts r) w.history) ∙ ap (λ (h : List Record). map (sent_request config w r) h) (take-take_le w.history row (slice_index w.judged_counts r) (omega (arith, below)))

offered_again : (config : Config) (w : World) (row r : ℕ) (rec : Record) → 1 ≤ config.step → IsSound config w → r < config.resolvers → slice_get w.history row ≡ Some rec → row < slice_index w.judged_counts r →
    world_answer (answer_to r config.proxies config.window (judged_requests config w r) (sent_request config w r rec)) ≡ Some (handle_offer_at w (slice_index w.judged_counts r) r (reply_of config (history_verdicts config w.history) r (take row w.history) rec)).answer
unfolding request_back_to
offered_again config w row r rec stepping sound there at below =
    let own : rec.row ≡ row = row_at config w.history row rec sound.sequencer.history at in
    let not_early : nat_lt (slice_index w.judged_counts r) rec.row ≡ false = le-ltb (slice_index w.judged_counts r) rec.row (omega (arith, below, own)) in
    let past : nat_lt rec.row (slice_index w.judged_counts r) ≡ true = lt-ltb rec.row (slice_index w.judged_counts r) (omega (arith, below, own)) in
    rw (not_early, past)
    (ap world_answer (sent_answer config w row r rec stepping sound at ∙ answer_repeat config.window judged last (sent_request config w r rec) (up_to_front config w.history (slice_index w.judged_counts r) row rec sound.sequencer.history below at))
    ∙ by (nat_le rec.version (acknowledged w (slice_index w.judged_counts r) rec.proxy)) refl)
  where
    judged : List Request
    judged = judged_requests config w r

    last : ℕ
    last = last_version (take (slice_index w.judged_counts r) w.history)

    reply : Reply
    reply = reply_of config (history_verdicts config w.history) r (take row w.history) rec

    same : acknowledged w (slice_index w.judged_counts r) rec.proxy ≡ acknowledged_requests rec.proxy judged
    same = acknowledged_is config w (slice_index w.judged_counts r) r rec.proxy sound ∙ ap (acknowledged_requests rec.proxy) (sym (requests_are config w r))

    told : request_reply config.window (take row judged) (sent_request config w r rec) ≡ reply
    told = ap (λ (before : List Request). request_reply config.window before (sent_request config w r rec)) (judged_before_row config w row r below) ∙ request_reply_is config (λ (s : Record). slice_index w.received s.row) w.history r row rec sound.sequencer.history at

    by : (t : Bool) → nat_le rec.version (acknowledged w (slice_index w.judged_counts r) rec.proxy) ≡ t →
        world_answer (answer_again (reply_at rec.version (kept_replies config.window judged rec.proxy)) rec.version (acknowledged_requests rec.proxy judged) last)
        ≡ Some (if t then refuse w (world.GivenUp (acknowledged w (slice_index w.judged_counts r) rec.proxy)) else record { world = w; answer = world.Again reply }).answer
    by true up_to =
        let passed : rec.version ≤ acknowledged_requests rec.proxy judged = subst (λ (n : ℕ). rec.version ≤ n) same (leb-true rec.version (acknowledged w (slice_index w.judged_counts r) rec.proxy) up_to) in
        let yes : nat_le rec.version (acknowledged_requests rec.proxy judged) ≡ true = le-leb rec.version (acknowledged_requests rec.proxy judged) passed in
        ap (λ (kept : Option Reply). world_answer (answer_again kept rec.version (acknowledged_requests rec.proxy judged) last)) (given_up config.window judged rec.proxy rec.version passed)
        ∙ ap (λ (t : Bool). world_answer (if t then Err (GivenUp (acknowledged_requests rec.proxy judged)) else Err (OutsideChain last))) yes
        ∙ ap (λ (n : ℕ). Some (world.Refused (world.GivenUp n))) (sym same)
    by false above =
        let newer : acknowledged_requests rec.proxy judged < rec.version = subst (λ (n : ℕ). n < rec.version) same (leb-false rec.version (acknowledged w (slice_index w.judged_counts r) rec.proxy) above) in
        ap (λ (kept : Option Reply). world_answer (answer_again kept rec.version (acknowledged_requests rec.proxy judged) last)) (kept_at r config.proxies config.window judged row (sent_request config w r rec) (judged_in_turn config w r stepping sound there) (judged_at_row config w row r rec at below) newer)
        ∙ ap (λ (one : Reply). Some (world.Again one)) told

pub offers_are_answered : (config : Config) (w : World) (row r : ℕ) (rec : Record) → 1 ≤ config.step → IsSound config w → r < config.resolvers → slice_get w.history row ≡ Some rec →
    world_answer (answer_to r config.proxies config.window (judged_requests config w r) (sent_request config w r rec)) ≡ Some (handle_event config w (Offer row r)).answer
offers_are_answered config w row r rec stepping sound there at = by (cases_order (slice_index w.judged_counts r) row) ∙ ap (λ (handled : Handled). Some handled.answer) (sym (offer_is config w row r rec there at))
  where
    by : (slice_index w.judged_counts r ≡ row) ⊎ ((slice_index w.judged_counts r < row) ⊎ (row < slice_index w.judged_counts r)) →
        world_answer (answer_to r config.proxies config.window (judged_requests config w r) (sent_request config w r rec)) ≡ Some (handle_offer_at w (slice_index w.judged_counts r) r (reply_of config (history_verdicts config w.history) r (take row w.history) rec)).answer
    by (inl next) = offered_next config w row r rec stepping sound at next
    by (inr (inl early)) = offered_early config w row r rec stepping sound at early
    by (inr (inr again)) = offered_again config w row r rec stepping sound there at again
