-- The parts of a cluster stay in step with its world when a batch gets its record, when a range moves, and when a resolver judges a request.
use Rattle.std.proofs.Common.{◌≡◌, refl, sym, ap, ◌∙◌, subst, ℕ, zero, suc, ◌+◌, ◌<◌, ◌≤◌, ◌⊎◌, inl, inr, List, [], ◌∷◌, ◌++◌, map, length, take, drop, replicate, Bool, true, false, nat_eq, nat_le, if◌then◌else◌, slice_get, slice_index, slice_set, Some, append-nil, arith}
use Rattle.std.proofs.lemmas.Bool.{lt-leb, eq-eqb, ne_eqb}
use Rattle.std.proofs.lemmas.List.{map-append, length-set, take-append-le, drop-append-le, take_all}
use Rattle.std.proofs.lemmas.Option.{slice_get_within}
use Rattle.system_keys.specs.Keys.{Range}
use Rattle.model.specs.Configs.{Config, IsConfig, version_limit}
use Rattle.model.specs.declared.moves.Move.{Move}
use Rattle.model.specs.Stamps.{AdmittedTransaction, stamped_from}
use Rattle.model.specs.Records.{Record, Follows, IsHistory, last_version, last_moves, records_of_proxy}
use Rattle.model.specs.Shares.{each_below}
use Rattle.model.specs.Journal.{journal}
use Rattle.model.specs.Requests.{Request, request}
use Rattle.model.specs.Offers.{sent_request, judged_requests}
use Rattle.model.specs.ResolverMemory.{ResolverView, StandsForRequests}
use Rattle.model.specs.Finishing.{ProxyView, HoldsMoves, MayBegin, HasBegun}
use Rattle.model.specs.World.{World, Sequence, MoveRange, Handled, Sequenced, Moved, NoSuchResolver, refuse, IsSound, initial_world, next_record, handle_event, finished_version, proxy_journal}
use Rattle.model.specs.Turns.{IsResolverOf, IsProxyOf, sent_requests, AreInStep, IsNewResolver, IsNewProxy}
use Rattle.model.specs.Laws.Worlds.{MaySequence}
use Rattle.model.proofs.History.Chain.{element_at, next_follows_moves}
use Rattle.model.proofs.History.Growth.{slice_get-push, push_cases, history_push, records_of_proxy-append, last_version-push, last_moves-push}
use Rattle.model.proofs.Resolvers.Judged.{slice_index-append, map_each, others_leave}
use Rattle.model.proofs.Owners.Moves.{last_moves_at}
use Rattle.model.proofs.Verdicts.Places.{row_at}
use Rattle.model.proofs.Worlds.Runs.{own_place, finished_within, journal_kept}
use Rattle.model.proofs.Shares.Askers.{slice_get-append_left}
use Rattle.model.proofs.Proxies.Beginning.{a_later_record_may_begin}
use Rattle.model.proofs.Worlds.Histories.{happens_sound, start_sound}

-- ---- lists

pub set_places : {X : Type 0} (xs : List X) (i : ℕ) (x : X) (j : ℕ) (y : X) → slice_get (slice_set xs i x) j ≡ Some y → ((j ≡ i) × (y ≡ x)) ⊎ ((j ≡ i → ⊥) × (slice_get xs j ≡ Some y))
set_places [] i x j y at = absurd (cc)
set_places (z ∷ xs) zero x zero y at = inl (refl, cc)
set_places (z ∷ xs) zero x (suc j) y at = inr (λ same. omega (arith, same), at)
set_places (z ∷ xs) (suc i) x zero y at = inr (λ same. omega (arith, same), at)
set_places {X} (z ∷ xs) (suc i) x (suc j) y at = by (set_places xs i x j y at)
  where
    by : ((j ≡ i) × (y ≡ x)) ⊎ ((j ≡ i → ⊥) × (slice_get xs j ≡ Some y)) → ((suc j ≡ suc i) × (y ≡ x)) ⊎ ((suc j ≡ suc i → ⊥) × (slice_get xs j ≡ Some y))
    by (inl here) = inl (ap (λ (k : ℕ). suc k) here.0, here.1)
    by (inr there) = inr (λ same. there.0 (omega (arith, same)), there.1)

last_index : (ns : List ℕ) (n k : ℕ) → k ≡ length ns → slice_index (ns ++ n ∷ []) k ≡ n
last_index [] n zero here = refl
last_index [] n (suc k) here = absurd (omega (arith, here))
last_index (m ∷ ns) n zero here = absurd (omega (arith, here))
last_index (m ∷ ns) n (suc k) here = last_index ns n k (omega (arith, here))

-- ---- parts of another world

pub same_proxy : (config : Config) (w x : World) (p : ℕ) (v : ProxyView) → records_of_proxy p x.history ≡ records_of_proxy p w.history → slice_index x.finished p ≡ slice_index w.finished p → proxy_journal config x p ≡ proxy_journal config w p → IsProxyOf config w p v → IsProxyOf config x p v
same_proxy config w x p v records done journal is =
    record {
      number = is.number;
      config_is = is.config_is;
      holds = subst (λ (rs : List Record). HoldsMoves v (last_moves rs)) (sym records) is.holds;
      last_begun = is.last_begun ∙ ap last_version (sym records);
      begun = is.begun ∙ (λ i. drop (sym done i) (sym records i));
      version = is.version ∙ (λ i. last_version (take (sym done i) (sym records i)));
      journal = is.journal ∙ sym journal;
    }

pub same_resolver : (config : Config) (w x : World) (r : ℕ) (v : ResolverView) → judged_requests config x r ≡ judged_requests config w r → IsResolverOf config w r v → IsResolverOf config x r v
same_resolver config w x r v judged is =
    record {
      number = is.number;
      proxies = is.proxies;
      window = is.window;
      stands = subst (StandsForRequests v) (sym judged) is.stands;
    }

-- ---- before the first event

pub new_in_step : (config : Config) (resolvers : List ResolverView) (proxies : List ProxyView) → IsConfig config → length resolvers ≡ config.resolvers → length proxies ≡ config.proxies → ((r : ℕ) (v : ResolverView) → slice_get resolvers r ≡ Some v → IsNewResolver config r v) → ((p : ℕ) (v : ProxyView) → slice_get proxies p ≡ Some v → IsNewProxy config p v)
    → AreInStep config (initial_world config) resolvers proxies []
unfolding judged_requests proxy_journal journal
new_in_step config resolvers proxies limits resolver_count proxy_count each_resolver each_proxy =
    record {
      limits = limits;
      sound = start_sound config;
      resolver_count = resolver_count;
      proxy_count = proxy_count;
      each_resolver = λ r v at. let new = each_resolver r v at in record { number = new.number; proxies = new.proxies; window = new.window; stands = subst (StandsForRequests v) (nothing_judged r (slice_index (replicate config.resolvers 0) r)) new.stands };
      each_proxy = λ p v at.
          let new = each_proxy p v at in
          record {
            number = new.number;
            config_is = new.config_is;
            holds = new.holds;
            last_begun = new.last_begun;
            begun = new.begun ∙ nothing_dropped (slice_index (replicate config.proxies 0) p);
            version = new.version ∙ nothing_finished (slice_index (replicate config.proxies 0) p);
            journal = new.journal;
          };
      requests_are = refl;
      received = λ i rec at. absurd (cc);
    }
  where
    no_records : List Record
    no_records = []

    no_requests : List Request
    no_requests = []

    nothing_judged : (r n : ℕ) → no_requests ≡ map (sent_request config (initial_world config) r) (take n no_records)
    nothing_judged r zero = refl
    nothing_judged r (suc n) = refl

    nothing_dropped : (n : ℕ) → no_records ≡ drop n no_records
    nothing_dropped zero = refl
    nothing_dropped (suc n) = refl

    nothing_finished : (n : ℕ) → 0 ≡ last_version (take n no_records)
    nothing_finished zero = refl
    nothing_finished (suc n) = refl

-- ---- a range moves

with_moves : (config : Config) (w : World) (moves : List Move) (resolvers : List ResolverView) (proxies : List ProxyView) (requests : List (List Request)) → IsSound config (record w { moves = moves }) → AreInStep config w resolvers proxies requests → AreInStep config (record w { moves = moves }) resolvers proxies requests
unfolding judged_requests proxy_journal
with_moves config w moves resolvers proxies requests sound parts =
    record {
      limits = parts.limits;
      sound = sound;
      resolver_count = parts.resolver_count;
      proxy_count = parts.proxy_count;
      each_resolver = λ r v at. same_resolver config w (record w { moves = moves }) r v refl (parts.each_resolver r v at);
      each_proxy = λ p v at. same_proxy config w (record w { moves = moves }) p v refl refl refl (parts.each_proxy p v at);
      requests_are = parts.requests_are;
      received = parts.received;
    }

pub moved_in_step : (config : Config) (w : World) (range : Range) (dest : ℕ) (resolvers : List ResolverView) (proxies : List ProxyView) (requests : List (List Request)) → AreInStep config w resolvers proxies requests
    → AreInStep config (handle_event config w (MoveRange range dest)).world resolvers proxies requests
unfolding handle_event
moved_in_step config w range dest resolvers proxies requests parts = by (nat_le config.resolvers dest) (happens_sound config w (MoveRange range dest) parts.sound)
  where
    moves : List Move
    moves = w.moves ++ (record { range = range; date = last_version w.history + 1; dest = dest }) ∷ []

    by : (t : Bool) → let handled : Handled = if t then refuse w NoSuchResolver else record { world = record w { moves = moves }; answer = Moved (last_version w.history + 1) } in IsSound config handled.world → AreInStep config handled.world resolvers proxies requests
    by true sound = parts
    by false sound = with_moves config w moves resolvers proxies requests sound parts

-- ---- a batch gets its record

pub sequence_is : (config : Config) (w : World) (p : ℕ) (batch : List AdmittedTransaction) → p < config.proxies → last_version w.history + config.step < version_limit →
    handle_event config w (Sequence p batch) ≡ record { world = record w { history = w.history ++ next_record config w p batch ∷ []; received = w.received ++ finished_version w p ∷ [] }; answer = Sequenced (length w.history) (last_version w.history + config.step) }
unfolding handle_event
sequence_is config w p batch there below =
    let known : nat_le config.proxies p ≡ false = lt-leb config.proxies p there in
    let within : nat_le version_limit (last_version w.history + config.step) ≡ false = lt-leb version_limit (last_version w.history + config.step) below in
    rw (known, within) refl

own_push : (p : ℕ) (h : List Record) (rec : Record) → rec.proxy ≡ p → records_of_proxy p (h ++ rec ∷ []) ≡ records_of_proxy p h ++ rec ∷ []
own_push p h rec own = let is : nat_eq rec.proxy p ≡ true = eq-eqb rec.proxy p own in records_of_proxy-append p h (rec ∷ []) ∙ ap (λ (t : Bool). records_of_proxy p h ++ (if t then rec ∷ [] else [])) is

other_push : (p : ℕ) (h : List Record) (rec : Record) → (rec.proxy ≡ p → ⊥) → records_of_proxy p (h ++ rec ∷ []) ≡ records_of_proxy p h
other_push p h rec other = let is : nat_eq rec.proxy p ≡ false = ne_eqb rec.proxy p other in records_of_proxy-append p h (rec ∷ []) ∙ ap (λ (t : Bool). records_of_proxy p h ++ (if t then rec ∷ [] else [])) is ∙ append-nil (records_of_proxy p h)

finished_push : (config : Config) (w : World) (p : ℕ) (rec : Record) (received : List ℕ) → IsSound config w → finished_version (record w { history = w.history ++ rec ∷ []; received = received }) p ≡ finished_version w p
finished_push config w p rec received sound =
    ap (λ (rs : List Record). last_version (take (slice_index w.finished p) rs)) (records_of_proxy-append p w.history (rec ∷ []))
    ∙ ap last_version (take-append-le (slice_index w.finished p) (records_of_proxy p w.history) (records_of_proxy p (rec ∷ [])) (finished_within config w p sound))

-- what comes next in a longer history
record IsNext (config : Config) (w : World) (rec : Record) : Type 0 where
  follows : Follows config w.history rec
  longer : IsHistory config (w.history ++ rec ∷ [])
  at : slice_get (w.history ++ rec ∷ []) (length w.history) ≡ Some rec

next_is : (config : Config) (w : World) (p : ℕ) (batch : List AdmittedTransaction) → IsSound config w → p < config.proxies → last_version w.history + config.step < version_limit → IsNext config w (next_record config w p batch)
next_is config w p batch sound there below =
    let follows = next_follows_moves config w.history w.moves p (stamped_from (last_version w.history + config.step) 0 batch) sound.sequencer there below in
    record { follows = follows; longer = history_push config w.history (next_record config w p batch) sound.sequencer.history follows; at = slice_get-push w.history (next_record config w p batch) }

-- the moves of a proxy's last record are those of the last of some first records
record HasMovesOf (h : List Record) (limit : ℕ) (moves : List Move) : Type 0 where
  begun : ℕ
  within : begun ≤ limit
  moves_are : last_moves (take begun h) ≡ moves

moves_of_own : (w : World) (p : ℕ) (rec : Record) → HasMovesOf (w.history ++ rec ∷ []) (length w.history) (last_moves (records_of_proxy p w.history))
moves_of_own w p rec = by (records_of_proxy p w.history) refl
  where
    by : (rs : List Record) → rs ≡ records_of_proxy p w.history → HasMovesOf (w.history ++ rec ∷ []) (length w.history) (last_moves rs)
    by [] is = record { begun = 0; within = omega arith; moves_are = refl }
    by (x ∷ rs) is =
        let last = element_at (x ∷ rs) (length rs) (omega arith) in
        let place = own_place p w.history (length rs) last.0 (ap (λ (ss : List Record). slice_get ss (length rs)) (sym is) ∙ last.1) in
        let within : place.i < length w.history = slice_get_within w.history place.i last.0 place.at in
        let here : slice_get (w.history ++ rec ∷ []) place.i ≡ Some last.0 = slice_get-append_left w.history (rec ∷ []) place.i within ∙ place.at in
        let moves : last_moves (x ∷ rs) ≡ last.0.moves = ap last_moves (sym (take_all (suc (length rs)) (x ∷ rs) (omega arith))) ∙ last_moves_at (x ∷ rs) (length rs) last.0 last.1 in
        record { begun = suc place.i; within = omega (arith, within); moves_are = last_moves_at (w.history ++ rec ∷ []) place.i last.0 here ∙ sym moves }

pub may_begin : (config : Config) (w : World) (p : ℕ) (v : ProxyView) (resolvers : List ResolverView) (proxies : List ProxyView) (requests : List (List Request)) (batch : List AdmittedTransaction) → MaySequence config w p v resolvers proxies requests → MayBegin v (next_record config w p batch)
may_begin config w p v resolvers proxies requests batch may =
    a_later_record_may_begin config (w.history ++ rec ∷ []) (length w.history) own.begun rec v next.longer next.at own.within is.config_is (subst (HoldsMoves v) (sym own.moves_are) is.holds)
  where
    is : IsProxyOf config w p v
    is = may.parts.each_proxy p v may.proxy_is

    rec : Record
    rec = next_record config w p batch

    next : IsNext config w rec
    next = next_is config w p batch may.parts.sound may.there may.limit

    own : HasMovesOf (w.history ++ rec ∷ []) (length w.history) (last_moves (records_of_proxy p w.history))
    own = moves_of_own w p rec

pub begun_in_step : (config : Config) (w : World) (p : ℕ) (v new : ProxyView) (resolvers : List ResolverView) (proxies : List ProxyView) (requests : List (List Request)) (batch : List AdmittedTransaction) → MaySequence config w p v resolvers proxies requests → HasBegun v new (next_record config w p batch)
    → AreInStep config (handle_event config w (Sequence p batch)).world resolvers (slice_set proxies p new) (requests ++ map (request config (next_record config w p batch) v.version) (each_below config.resolvers) ∷ [])
begun_in_step config w p v new resolvers proxies requests batch may begun =
    subst (λ (handled : Handled). AreInStep config handled.world resolvers (slice_set proxies p new) (requests ++ map (request config rec v.version) (each_below config.resolvers) ∷ [])) (sym handled_is)
    (record {
      limits = parts.limits;
      sound = subst (λ (handled : Handled). IsSound config handled.world) handled_is (happens_sound config w (Sequence p batch) parts.sound);
      resolver_count = parts.resolver_count;
      proxy_count = length-set proxies p new ∙ parts.proxy_count;
      each_resolver = λ r u at.
          let there : r < config.resolvers = omega (arith, slice_get_within resolvers r u at, parts.resolver_count) in
          same_resolver config w x r u (ap (λ (handled : Handled). judged_requests config handled.world r) (sym handled_is) ∙ others_leave config w (Sequence p batch) r parts.sound there (λ row same. absurd (cc))) (parts.each_resolver r u at);
      each_proxy = λ q u at. by q u (set_places proxies p new q u at);
      requests_are = ap (λ (qs : List (List Request)). qs ++ map (request config rec v.version) (each_below config.resolvers) ∷ []) (parts.requests_are ∙ map_each (sent_requests config w) (sent_requests config x) w.history (λ k s at. earlier k s at)) ∙ ap (λ (q : List Request). map (sent_requests config x) w.history ++ q ∷ []) last ∙ sym (map-append (sent_requests config x) w.history (rec ∷ []));
      received = λ i s at. up_to i s (push_cases w.history rec i s at);
    })
  where
    parts : AreInStep config w resolvers proxies requests
    parts = may.parts

    rec : Record
    rec = next_record config w p batch

    is : IsProxyOf config w p v
    is = parts.each_proxy p v may.proxy_is

    x : World
    x = record w { history = w.history ++ rec ∷ []; received = w.received ++ finished_version w p ∷ [] }

    handled_is : handle_event config w (Sequence p batch) ≡ record { world = x; answer = Sequenced (length w.history) (last_version w.history + config.step) }
    handled_is = sequence_is config w p batch may.there may.limit

    journal : (q : ℕ) → proxy_journal config x q ≡ proxy_journal config w q
    journal q = ap (λ (handled : Handled). proxy_journal config handled.world q) (sym handled_is) ∙ journal_kept config w (Sequence p batch) q parts.limits parts.sound (λ same. absurd (cc))

    own : records_of_proxy p x.history ≡ records_of_proxy p w.history ++ rec ∷ []
    own = own_push p w.history rec refl

    by : (q : ℕ) (u : ProxyView) → ((q ≡ p) × (u ≡ new)) ⊎ ((q ≡ p → ⊥) × (slice_get proxies q ≡ Some u)) → IsProxyOf config x q u
    by q u (inr (other, at)) = same_proxy config w x q u (other_push q w.history rec (λ same. other (sym same))) refl (journal q) (parts.each_proxy q u at)
    by q u (inl (here, same)) =
        subst (λ (r : ℕ). IsProxyOf config x r u) (sym here)
        (subst (IsProxyOf config x p) (sym same)
        (record {
          number = begun.number ∙ is.number;
          config_is = begun.config ∙ is.config_is;
          holds = subst (HoldsMoves new) (sym (ap last_moves own ∙ last_moves-push (records_of_proxy p w.history) rec)) begun.holds;
          last_begun = begun.last_begun ∙ sym (ap last_version own ∙ last_version-push (records_of_proxy p w.history) rec);
          begun = begun.begun ∙ ap (λ (rs : List Record). rs ++ rec ∷ []) is.begun ∙ sym (drop-append-le (slice_index w.finished p) (records_of_proxy p w.history) (rec ∷ []) (finished_within config w p parts.sound)) ∙ ap (drop (slice_index w.finished p)) (sym own);
          version = begun.version ∙ is.version ∙ sym (finished_push config w p rec (w.received ++ finished_version w p ∷ []) parts.sound);
          journal = begun.journal ∙ is.journal ∙ sym (journal p);
        }))

    received_then : (s : Record) (k : ℕ) → k < length w.history → slice_get w.history k ≡ Some s → slice_index (w.received ++ finished_version w p ∷ []) k ≡ slice_index w.received k
    received_then s k within at = slice_index-append w.received (finished_version w p ∷ []) k (omega (arith, within, parts.sound.received))

    earlier : (k : ℕ) (s : Record) → slice_get w.history k ≡ Some s → sent_requests config w s ≡ sent_requests config x s
    earlier k s at =
        let row : s.row ≡ k = row_at config w.history k s parts.sound.sequencer.history at in
        let within : s.row < length w.history = omega (arith, row, slice_get_within w.history k s at) in
        ap (λ (n : ℕ). map (request config s n) (each_below config.resolvers)) (sym (received_then s s.row within (ap (slice_get w.history) row ∙ at)))

    last : map (request config rec v.version) (each_below config.resolvers) ≡ sent_requests config x rec
    last = ap (λ (n : ℕ). map (request config rec n) (each_below config.resolvers)) (is.version ∙ sym (last_index w.received (finished_version w p) (length w.history) (sym parts.sound.received)))

    up_to : (i : ℕ) (s : Record) → ((i ≡ length w.history) × (rec ≡ s)) ⊎ ((i < length w.history) × (slice_get w.history i ≡ Some s)) → slice_index x.received i ≤ finished_version x s.proxy
    up_to i s (inl (here, same)) =
        let n : slice_index x.received i ≡ finished_version w p = last_index w.received (finished_version w p) i (here ∙ sym parts.sound.received) in
        let m : finished_version x s.proxy ≡ finished_version w p = ap (λ (r : Record). finished_version x r.proxy) (sym same) ∙ finished_push config w p rec (w.received ++ finished_version w p ∷ []) parts.sound in
        omega (arith, n, m)
    up_to i s (inr (within, at)) =
        let n : slice_index x.received i ≡ slice_index w.received i = received_then s i within at in
        let m : finished_version x s.proxy ≡ finished_version w s.proxy = finished_push config w s.proxy rec (w.received ++ finished_version w p ∷ []) parts.sound in
        omega (arith, n, m, parts.received i s at)
