-- The parts of a cluster stay in step with its world when a proxy finishes a record, and each resolver keeps its reply until then.
use Rattle.std.proofs.Common.{◌≡◌, refl, sym, ap, ◌∙◌, subst, ℕ, zero, suc, ◌+◌, ◌<◌, ◌≤◌, ◌⊎◌, inl, inr, List, [], ◌∷◌, ◌++◌, take, drop, Bool, true, false, nat_eq, nat_le, if◌then◌else◌, slice_get, slice_index, slice_set, Option, Some, None, is_some, arith}
use Rattle.std.proofs.lemmas.Bool.{lt-leb, eqb-true, cases_eq}
use Rattle.std.proofs.lemmas.List.{length-set}
use Rattle.std.proofs.lemmas.Option.{slice_get_within}
use Rattle.model.specs.Configs.{Config}
use Rattle.model.specs.declared.reply.Reply.{Reply}
use Rattle.model.specs.declared.journal.JournalRow.{JournalRow}
use Rattle.model.specs.declared.outcome.Finished.{Finished}
use Rattle.model.specs.Records.{Record, last_version, last_moves, records_of_proxy}
use Rattle.model.specs.Shares.{each_below}
use Rattle.model.specs.Journal.{history_verdicts, journal_row}
use Rattle.model.specs.Requests.{Request, request_back_to, request_reply}
use Rattle.model.specs.Offers.{kept_replies, reply_at, sent_request, judged_requests}
use Rattle.model.specs.Acknowledged.{acknowledged_requests}
use Rattle.model.specs.OwnerMaps.{StandsForMoves}
use Rattle.model.specs.ResolverMemory.{ResolverView}
use Rattle.model.specs.Finishing.{ProxyView, Replies, HasFinished, AgreeOnRows, reply_from, unreplied, disagreements, replied_verdicts}
use Rattle.model.specs.World.{World, Finish, Handled, FinishedBatch, Refused, OutOfTurn, MissingReply, IsSound, greatest, received_of, acknowledged, handle_event, finished_batch, finished_after, missing_replies, reply_of, finished_version, proxy_journal}
use Rattle.model.specs.Turns.{IsProxyOf, IsResolverOf, AreInStep}
use Rattle.model.specs.Laws.Proxies.{MayFinish}
use Rattle.model.specs.Laws.Worlds.{IsAwaited, AreOfTheWorld}
use Rattle.model.proofs.Resolvers.Acknowledged.{acknowledged_is}
use Rattle.model.proofs.Proxies.AgreeingReplies.{agreeing_do_not, none_below}
use Rattle.model.proofs.History.Chain.{own_up_to_previous}
use Rattle.model.proofs.Proxies.Finishing.{true_agree, world_replies, world_finish, world_journal}
use Rattle.model.proofs.Worlds.InStep.{set_places, same_proxy, same_resolver}
use Rattle.model.proofs.Resolvers.Judged.{others_leave}
use Rattle.model.proofs.Owners.Moves.{last_version_at}
use Rattle.model.proofs.Resolvers.Offers.{kept_at, judged_at_row, judged_before_row, judged_in_turn, requests_are}
use Rattle.model.proofs.Verdicts.Places.{row_at, slice_get-take}
use Rattle.model.proofs.Resolvers.Requests.{request_reply_is}
use Rattle.model.proofs.Worlds.Runs.{OwnPlace, own_place, finish_is, journal_kept, set_other, set_same, turn_is}
use Rattle.model.proofs.Worlds.Histories.{happens_sound}

-- ---- the awaited record

first_dropped : {X : Type 0} (xs : List X) (n : ℕ) (x : X) (ys : List X) → drop n xs ≡ x ∷ ys → (slice_get xs n ≡ Some x) × (drop (suc n) xs ≡ ys)
first_dropped [] zero x ys is = absurd (cc)
first_dropped [] (suc n) x ys is = absurd (cc)
first_dropped (z ∷ zs) zero x ys is = (let same : z ≡ x = cc in ap Some same, cc)
first_dropped (z ∷ zs) (suc n) x ys is = first_dropped zs n x ys is

none_dropped : {X : Type 0} (xs : List X) (n : ℕ) → drop n xs ≡ [] → slice_get xs n ≡ None
none_dropped [] n is = refl
none_dropped (z ∷ zs) zero is = absurd (cc)
none_dropped (z ∷ zs) (suc n) is = none_dropped zs n is

-- where the awaited record stands
record Awaited (config : Config) (w : World) (p : ℕ) (rec : Record) (rest : List Record) : Type 0 where
  turn : slice_get (records_of_proxy p w.history) (slice_index w.finished p) ≡ Some rec
  after : drop (suc (slice_index w.finished p)) (records_of_proxy p w.history) ≡ rest
  at : slice_get w.history rec.row ≡ Some rec
  own : rec.proxy ≡ p
  since : finished_version w p ≡ rec.own_previous
  follows : rec.version ≡ rec.previous + config.step
  before : rec.own_previous ≤ rec.previous

awaited : (config : Config) (w : World) (p : ℕ) (rec : Record) (rest : List Record) (v : ProxyView) (resolvers : List ResolverView) (proxies : List ProxyView) (requests : List (List Request)) → IsAwaited config w p rec rest v resolvers proxies requests → Awaited config w p rec rest
awaited config w p rec rest v resolvers proxies requests is =
    record {
      turn = dropped.0;
      after = dropped.1;
      at = there;
      own = place.own;
      since = turn_is config w p rec sound dropped.0;
      follows = (sound.sequencer.history rec.row rec there).version;
      before = own_up_to_previous config w.history rec.row rec sound.sequencer.history there;
    }
  where
    sound : IsSound config w
    sound = is.parts.sound

    dropped : (slice_get (records_of_proxy p w.history) (slice_index w.finished p) ≡ Some rec) × (drop (suc (slice_index w.finished p)) (records_of_proxy p w.history) ≡ rest)
    dropped = first_dropped (records_of_proxy p w.history) (slice_index w.finished p) rec rest (sym (is.parts.each_proxy p v is.proxy_is).begun ∙ is.begun)

    place : OwnPlace p w.history (slice_index w.finished p) rec
    place = own_place p w.history (slice_index w.finished p) rec dropped.0

    there : slice_get w.history rec.row ≡ Some rec
    there = ap (slice_get w.history) (row_at config w.history place.i rec sound.sequencer.history place.at) ∙ place.at

-- ---- refusals

pub out_of_turn : (config : Config) (w : World) (p : ℕ) (v : ProxyView) (resolvers : List ResolverView) (proxies : List ProxyView) (requests : List (List Request)) → AreInStep config w resolvers proxies requests → p < config.proxies → slice_get proxies p ≡ Some v → v.begun ≡ []
    → (handle_event config w (Finish p)).answer ≡ Refused (OutOfTurn None)
unfolding handle_event
out_of_turn config w p v resolvers proxies requests parts there at none =
    let known : nat_le config.proxies p ≡ false = lt-leb config.proxies p there in
    let nothing : slice_get (records_of_proxy p w.history) (slice_index w.finished p) ≡ None = none_dropped (records_of_proxy p w.history) (slice_index w.finished p) (sym (parts.each_proxy p v at).begun ∙ none) in
    rw (known, nothing) refl

pub missing_named : (config : Config) (w : World) (p : ℕ) (rec : Record) (rest : List Record) (v : ProxyView) (resolvers : List ResolverView) (proxies : List ProxyView) (requests : List (List Request)) (missing : ℕ) (others : List ℕ) → IsAwaited config w p rec rest v resolvers proxies requests → missing_replies w rec.row (each_below config.resolvers) ≡ missing ∷ others
    → (handle_event config w (Finish p)).answer ≡ Refused (MissingReply missing)
unfolding handle_event
missing_named config w p rec rest v resolvers proxies requests missing others is some =
    let known : nat_le config.proxies p ≡ false = lt-leb config.proxies p is.there in
    let turn = (awaited config w p rec rest v resolvers proxies requests is).turn in
    rw (known, turn, some) refl

-- ---- the replies

acknowledged_up_to : (bound p : ℕ) (h : List Record) (ns : List ℕ) → ((i : ℕ) (rec : Record) → slice_get h i ≡ Some rec → rec.proxy ≡ p → slice_index ns i ≤ bound) → greatest (received_of p h ns) ≤ bound
acknowledged_up_to bound p [] ns each = omega arith
acknowledged_up_to bound p (rec ∷ h) [] each = omega arith
acknowledged_up_to bound p (rec ∷ h) (n ∷ ns) each = by (nat_eq rec.proxy p) refl (acknowledged_up_to bound p h ns (λ i s at. each (suc i) s at))
  where
    by : (b : Bool) → nat_eq rec.proxy p ≡ b → greatest (received_of p h ns) ≤ bound → greatest (if b then n ∷ received_of p h ns else received_of p h ns) ≤ bound
    by true own below = let first : n ≤ bound = each 0 rec refl (eqb-true rec.proxy p own) in omega (arith, first, below)
    by false other below = below

pub reply_is_kept : (config : Config) (w : World) (p : ℕ) (rec : Record) (rest : List Record) (v : ProxyView) (resolvers : List ResolverView) (proxies : List ProxyView) (requests : List (List Request)) (r : ℕ) (memory : ResolverView) → IsAwaited config w p rec rest v resolvers proxies requests → slice_get resolvers r ≡ Some memory → rec.row < slice_index w.judged_counts r
    → reply_at rec.version (kept_replies memory.written.window (judged_requests config w r) p) ≡ Some (reply_of config (history_verdicts config w.history) r (take rec.row w.history) rec)
unfolding request_back_to
reply_is_kept config w p rec rest v resolvers proxies requests r memory is at judged =
    (λ i. reply_at rec.version (kept_replies (resolver.window i) (judged_requests config w r) (sym place.own i)))
    ∙ kept_at r config.proxies config.window (judged_requests config w r) rec.row (sent_request config w r rec) (judged_in_turn config w r is.parts.limits.step.0 is.parts.sound there) (judged_at_row config w rec.row r rec place.at judged) above
    ∙ ap (λ (before : List Request). Some (request_reply config.window before (sent_request config w r rec))) (judged_before_row config w rec.row r judged)
    ∙ ap Some (request_reply_is config (λ (s : Record). slice_index w.received s.row) w.history r rec.row rec is.parts.sound.sequencer.history place.at)
  where
    place : Awaited config w p rec rest
    place = awaited config w p rec rest v resolvers proxies requests is

    resolver : IsResolverOf config w r memory
    resolver = is.parts.each_resolver r memory at

    there : r < config.resolvers
    there = omega (arith, slice_get_within resolvers r memory at, is.parts.resolver_count)

    up_to : acknowledged w (slice_index w.judged_counts r) rec.proxy ≤ finished_version w rec.proxy
    up_to = acknowledged_up_to (finished_version w rec.proxy) rec.proxy (take (slice_index w.judged_counts r) w.history) w.received (λ i s here own. subst (λ (q : ℕ). slice_index w.received i ≤ finished_version w q) own (is.parts.received i s (slice_get-take w.history (slice_index w.judged_counts r) i s here).1))

    same : acknowledged w (slice_index w.judged_counts r) rec.proxy ≡ acknowledged_requests rec.proxy (judged_requests config w r)
    same = acknowledged_is config w (slice_index w.judged_counts r) r rec.proxy is.parts.sound ∙ ap (acknowledged_requests rec.proxy) (sym (requests_are config w r))

    above : acknowledged_requests rec.proxy (judged_requests config w r) < rec.version
    above =
        let since : finished_version w rec.proxy ≡ rec.own_previous = ap (finished_version w) place.own ∙ place.since in
        omega (arith, up_to, same, since, place.before, place.follows, is.parts.limits.step.0)

may_finish : (config : Config) (w : World) (p : ℕ) (rec : Record) (rest : List Record) (v : ProxyView) (resolvers : List ResolverView) (proxies : List ProxyView) (requests : List (List Request)) (replies : Replies) → IsAwaited config w p rec rest v resolvers proxies requests → AreOfTheWorld config w rec replies → MayFinish config w p rec replies
may_finish config w p rec rest v resolvers proxies requests replies is of_world =
    let place = awaited config w p rec rest v resolvers proxies requests is in
    record {
      sound = is.parts.sound;
      there = is.there;
      turn = place.turn;
      judged = of_world.judged;
      replied = world_replies config w.history rec replies is.parts.sound.sequencer.history place.at of_world.each;
    }

pub replies_have_no_fault : (config : Config) (w : World) (p : ℕ) (rec : Record) (rest : List Record) (v : ProxyView) (resolvers : List ResolverView) (proxies : List ProxyView) (requests : List (List Request)) (replies : Replies) → IsAwaited config w p rec rest v resolvers proxies requests → AreOfTheWorld config w rec replies
    → (unreplied v.config.resolvers replies ≡ []) × (disagreements v.config v.version rec replies ≡ [])
replies_have_no_fault config w p rec rest v resolvers proxies requests replies is of_world = (
  ap (λ (c : Config). unreplied c.resolvers replies) proxy.config_is
      ∙ none_below (λ (r : ℕ). is_some (reply_from replies r)) config.resolvers (λ k below. ap (λ (found : Option Reply). is_some found) (of_world.each k below)),
  (λ i. disagreements (proxy.config_is i) ((proxy.version ∙ place.since) i) rec replies)
      ∙ agreeing_do_not config rec.own_previous rec replies _ is.parts.limits.resolvers.0 (true_agree config (history_verdicts config w.history) w.history rec replies is.parts.limits.step.0 is.parts.sound.sequencer.history place.at (may_finish config w p rec rest v resolvers proxies requests replies is of_world).replied),
)
  where
    proxy : IsProxyOf config w p v
    proxy = is.parts.each_proxy p v is.proxy_is

    place : Awaited config w p rec rest
    place = awaited config w p rec rest v resolvers proxies requests is

pub may_be_finished : (config : Config) (w : World) (p : ℕ) (rec : Record) (rest : List Record) (v : ProxyView) (resolvers : List ResolverView) (proxies : List ProxyView) (requests : List (List Request)) → IsAwaited config w p rec rest v resolvers proxies requests → missing_replies w rec.row (each_below config.resolvers) ≡ []
    → (finished : Finished) × ((handle_event config w (Finish p)).answer ≡ FinishedBatch finished)
may_be_finished config w p rec rest v resolvers proxies requests is none =
    (finished_batch config (history_verdicts config w.history) (take rec.row w.history) rec, ap (λ (handled : Handled). handled.answer) (finish_is config w p rec is.there (awaited config w p rec rest v resolvers proxies requests is).turn none))

-- ---- the finish

tail_is : (x : Record) (xs : List Record) (y : Record) (ys : List Record) → x ∷ xs ≡ y ∷ ys → (x ≡ y) × (xs ≡ ys)
tail_is x xs y ys same = (cc, cc)

-- what the proxy finished, in the words of the world
record OfTheWorld (config : Config) (w : World) (p : ℕ) (rec : Record) (rest : List Record) (v new : ProxyView) (replies : Replies) (finished : Finished) : Type 0 where
  rows : List JournalRow
  agree : AgreeOnRows config (finished_version w p) rec replies rows
  begun : new.begun ≡ rest
  version : new.version ≡ rec.version
  journal : new.journal ≡ proxy_journal config w p ++ rows ++ journal_row config (replied_verdicts config rec replies) rec ∷ []
  number : new.number ≡ v.number
  config_is : new.config ≡ v.config
  last_begun : new.last_begun ≡ v.last_begun
  owned : new.owned ≡ v.owned
  moved : new.moved ≡ v.moved
  finished_is : finished ≡ finished_after config (replied_verdicts config rec replies) (proxy_journal config w p ++ rows) rec

of_the_world : (config : Config) (w : World) (p : ℕ) (rec : Record) (rest : List Record) (v new : ProxyView) (resolvers : List ResolverView) (proxies : List ProxyView) (requests : List (List Request)) (replies : Replies) (finished : Finished) → IsAwaited config w p rec rest v resolvers proxies requests → HasFinished v new replies finished → OfTheWorld config w p rec rest v new replies finished
of_the_world config w p rec rest v new resolvers proxies requests replies finished is has =
    record {
      rows = has.rows;
      agree = subst (λ (s : Record). AgreeOnRows config (finished_version w p) s replies has.rows) same (subst (λ (version : ℕ). AgreeOnRows config version has.rec replies has.rows) proxy.version (subst (λ (c : Config). AgreeOnRows c v.version has.rec replies has.rows) proxy.config_is has.agree));
      begun = ap (λ (f : ProxyView). f.begun) has.after ∙ parts.1;
      version = ap (λ (f : ProxyView). f.version) has.after ∙ ap (λ (s : Record). s.version) same;
      journal = ap (λ (f : ProxyView). f.journal) has.after ∙ (λ i. proxy.journal i ++ has.rows ++ journal_row (proxy.config_is i) (replied_verdicts (proxy.config_is i) (same i) replies) (same i) ∷ []);
      number = ap (λ (f : ProxyView). f.number) has.after;
      config_is = ap (λ (f : ProxyView). f.config) has.after;
      last_begun = ap (λ (f : ProxyView). f.last_begun) has.after;
      owned = ap (λ (f : ProxyView). f.owned) has.after;
      moved = ap (λ (f : ProxyView). f.moved) has.after;
      finished_is = has.finished_is ∙ (λ i. finished_after (proxy.config_is i) (replied_verdicts (proxy.config_is i) (same i) replies) (proxy.journal i ++ has.rows) (same i));
    }
  where
    proxy : IsProxyOf config w p v
    proxy = is.parts.each_proxy p v is.proxy_is

    parts : (has.rec ≡ rec) × (has.rest ≡ rest)
    parts = tail_is has.rec has.rest rec rest (sym has.begun ∙ is.begun)

    same : has.rec ≡ rec
    same = parts.0

pub finishes_as_world : (config : Config) (w : World) (p : ℕ) (rec : Record) (rest : List Record) (v new : ProxyView) (resolvers : List ResolverView) (proxies : List ProxyView) (requests : List (List Request)) (replies : Replies) (finished : Finished) → IsAwaited config w p rec rest v resolvers proxies requests → AreOfTheWorld config w rec replies → HasFinished v new replies finished
    → handle_event config w (Finish p) ≡ record { world = record w { finished = slice_set w.finished p (suc (slice_index w.finished p)) }; answer = FinishedBatch finished }
finishes_as_world config w p rec rest v new resolvers proxies requests replies finished is of_world has =
    let done = of_the_world config w p rec rest v new resolvers proxies requests replies finished is has in
    world_finish config w p rec replies done.rows is.parts.limits (may_finish config w p rec rest v resolvers proxies requests replies is of_world) done.agree
    ∙ ap (λ (batch : Finished). record { world = record w { finished = slice_set w.finished p (suc (slice_index w.finished p)) }; answer = FinishedBatch batch }) (sym done.finished_is)

pub finished_in_step : (config : Config) (w : World) (p : ℕ) (rec : Record) (rest : List Record) (v new : ProxyView) (resolvers : List ResolverView) (proxies : List ProxyView) (requests : List (List Request)) (replies : Replies) (finished : Finished) → IsAwaited config w p rec rest v resolvers proxies requests → AreOfTheWorld config w rec replies → HasFinished v new replies finished
    → AreInStep config (handle_event config w (Finish p)).world resolvers (slice_set proxies p new) requests
finished_in_step config w p rec rest v new resolvers proxies requests replies finished is of_world has =
    subst (λ (y : World). AreInStep config y resolvers (slice_set proxies p new) requests) (sym world_is)
    (record {
      limits = parts.limits;
      sound = subst (IsSound config) world_is (happens_sound config w (Finish p) parts.sound);
      resolver_count = parts.resolver_count;
      proxy_count = length-set proxies p new ∙ parts.proxy_count;
      each_resolver = λ r u at.
          let there : r < config.resolvers = omega (arith, slice_get_within resolvers r u at, parts.resolver_count) in
          same_resolver config w x r u (ap (λ (y : World). judged_requests config y r) (sym world_is) ∙ others_leave config w (Finish p) r parts.sound there (λ row same. absurd (cc))) (parts.each_resolver r u at);
      each_proxy = λ q u at. by q u (set_places proxies p new q u at);
      requests_are = parts.requests_are;
      received = λ i s at. up_to i s at (cases_eq s.proxy p);
    })
  where
    parts : AreInStep config w resolvers proxies requests
    parts = is.parts

    proxy : IsProxyOf config w p v
    proxy = parts.each_proxy p v is.proxy_is

    place : Awaited config w p rec rest
    place = awaited config w p rec rest v resolvers proxies requests is

    done : OfTheWorld config w p rec rest v new replies finished
    done = of_the_world config w p rec rest v new resolvers proxies requests replies finished is has

    x : World
    x = record w { finished = slice_set w.finished p (suc (slice_index w.finished p)) }

    world_is : (handle_event config w (Finish p)).world ≡ x
    world_is = ap (λ (handled : Handled). handled.world) (finishes_as_world config w p rec rest v new resolvers proxies requests replies finished is of_world has)

    one_more : slice_index x.finished p ≡ suc (slice_index w.finished p)
    one_more = set_same w.finished p (suc (slice_index w.finished p)) (omega (arith, is.there, parts.sound.finished))

    now : finished_version x p ≡ rec.version
    now = ap (λ (n : ℕ). last_version (take n (records_of_proxy p w.history))) one_more ∙ last_version_at (records_of_proxy p w.history) (slice_index w.finished p) rec place.turn

    by : (q : ℕ) (u : ProxyView) → ((q ≡ p) × (u ≡ new)) ⊎ ((q ≡ p → ⊥) × (slice_get proxies q ≡ Some u)) → IsProxyOf config x q u
    by q u (inr (other, at)) =
        same_proxy config w x q u refl (set_other w.finished p (suc (slice_index w.finished p)) q other)
        (ap (λ (y : World). proxy_journal config y q) (sym world_is) ∙ journal_kept config w (Finish p) q parts.limits parts.sound (λ same. let one : p ≡ q = cc in other (sym one)))
        (parts.each_proxy q u at)
    by q u (inl (here, same)) =
        subst (λ (r : ℕ). IsProxyOf config x r u) (sym here)
        (subst (IsProxyOf config x p) (sym same)
        (record {
          number = done.number ∙ proxy.number;
          config_is = done.config_is ∙ proxy.config_is;
          holds = record { stands = subst (λ owned. StandsForMoves owned (last_moves (records_of_proxy p w.history))) (sym done.owned) proxy.holds.stands; count = done.moved ∙ proxy.holds.count };
          last_begun = done.last_begun ∙ proxy.last_begun;
          begun = done.begun ∙ sym place.after ∙ ap (λ (n : ℕ). drop n (records_of_proxy p w.history)) (sym one_more);
          version = done.version ∙ sym now;
          journal = done.journal ∙ sym (ap (λ (y : World). proxy_journal config y p) (sym world_is) ∙ world_journal config w p rec replies done.rows parts.limits (may_finish config w p rec rest v resolvers proxies requests replies is of_world) done.agree);
        }))

    up_to : (i : ℕ) (s : Record) → slice_get w.history i ≡ Some s → (s.proxy ≡ p) ⊎ (s.proxy ≡ p → ⊥) → slice_index w.received i ≤ finished_version x s.proxy
    up_to i s at (inl own) =
        let n : finished_version x s.proxy ≡ rec.version = ap (finished_version x) own ∙ now in
        let m : finished_version w s.proxy ≡ rec.own_previous = ap (finished_version w) own ∙ place.since in
        omega (arith, n, m, parts.received i s at, place.before, place.follows)
    up_to i s at (inr other) =
        let n : finished_version x s.proxy ≡ finished_version w s.proxy = ap (λ (k : ℕ). last_version (take k (records_of_proxy s.proxy w.history))) (set_other w.finished p (suc (slice_index w.finished p)) s.proxy other) in
        omega (arith, n, parts.received i s at)
