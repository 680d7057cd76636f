-- A batch gets its record, and its proxy begins it.
use Rattle.std.proofs.Common.{◌≡◌, refl, sym, ap, ◌∙◌, subst, ℕ, ◌+◌, ◌-◌, ◌<◌, ◌≤◌, List, [], ◌∷◌, ◌++◌, map, length, slice_get, true, false, nat_le, nat_eq, Some, None, arith}
use Rattle.std.specs.Prelude.{Ok, Err, IsOk}
use Rattle.std.proofs.lemmas.Bool.{le-leb, lt-leb, eq-eqb}
use Rattle.std.proofs.lemmas.List.{map-append}
use Rattle.model.specs.Configs.{Config, version_limit}
use Rattle.model.specs.declared.moves.Move.{Move}
use Rattle.model.specs.Stamps.{AdmittedTransaction}
use Rattle.model.specs.Records.{Record, last_version}
use Rattle.model.specs.Shares.{each_below}
use Rattle.model.specs.Requests.{Request, request}
use Rattle.model.specs.ResolverMemory.{ResolverView}
use Rattle.model.specs.Finishing.{ProxyView, HasBegun}
use Rattle.model.specs.World.{World, Sequence, Handled, NoSuchProxy, VersionsEnd, Sequenced, next_record, handle_event, finished_version}
use Rattle.model.specs.Turns.{TurnCluster, success_or_refusal, answer_to_event, after_event, AreInStep, IsProxyOf}
use Rattle.model.proofs.History.Growth.{last_version-push}
use Rattle.model.proofs.Worlds.InStep.{sequence_is, may_begin, begun_in_step}
use Rattle.proxy_state.specs.Beginning.{begin_fault}
use Rattle.turn_world.specs.Kept.{IsKept, world_of, requests_of}
use Rattle.turn_world.specs.Parts.{MayBeginAt, IsBegunAt}
use Rattle.turn_world.specs.Steps.{MaySequence}
use Rattle.turn_world.specs.declared.kept_record.KeptRecord.{KeptRecord}

pub no_proxy : (config : Config) (w : World) (now : TurnCluster) (p : ℕ) (batch : List AdmittedTransaction) → (record { config = config; world = w }) ≡ now → config.proxies ≤ p → answer_to_event now (Sequence p batch) ≡ Err NoSuchProxy
unfolding handle_event
no_proxy config w now p batch view past =
    let unknown : nat_le config.proxies p ≡ true = le-leb config.proxies p past in
    ap (λ (t : TurnCluster). answer_to_event t (Sequence p batch)) (sym view) ∙ rw unknown refl

pub no_version : (config : Config) (w : World) (now : TurnCluster) (p last : ℕ) (batch : List AdmittedTransaction) → (record { config = config; world = w }) ≡ now → p < config.proxies → last ≡ last_version w.history → 9223372036854775808 - last ≤ config.step → answer_to_event now (Sequence p batch) ≡ Err VersionsEnd
unfolding handle_event
no_version config w now p last batch view there last_is past =
    let known : nat_le config.proxies p ≡ false = lt-leb config.proxies p there in
    let sum : 9223372036854775808 ≤ last + config.step = omega (arith, past) in
    let ended : nat_le version_limit (last_version w.history + config.step) ≡ true = le-leb version_limit (last_version w.history + config.step) (subst (λ (n : ℕ). version_limit ≤ n + config.step) last_is sum) in
    ap (λ (t : TurnCluster). answer_to_event t (Sequence p batch)) (sym view) ∙ rw (known, ended) refl

pub limit_is : (config : Config) (w : World) (last : ℕ) → last ≡ last_version w.history → config.step < 9223372036854775808 - last → last_version w.history + config.step < version_limit
limit_is config w last last_is less = let sum : last + config.step < 9223372036854775808 = omega (arith, less) in subst (λ (n : ℕ). n + config.step < version_limit) last_is sum

pub answered : (config : Config) (w : World) (now : TurnCluster) (p : ℕ) (batch : List AdmittedTransaction) → (record { config = config; world = w }) ≡ now → p < config.proxies → last_version w.history + config.step < version_limit → answer_to_event now (Sequence p batch) ≡ Ok (Sequenced (length w.history) (last_version w.history + config.step))
answered config w now p batch view there limit =
    ap (λ (t : TurnCluster). answer_to_event t (Sequence p batch)) (sym view) ∙ ap (λ (handled : Handled). success_or_refusal handled.answer) (sequence_is config w p batch there limit)

pub not_refused : (config : Config) (w : World) (now : TurnCluster) (p : ℕ) (batch : List AdmittedTransaction) → (record { config = config; world = w }) ≡ now → p < config.proxies → last_version w.history + config.step < version_limit → IsOk (answer_to_event now (Sequence p batch))
not_refused config w now p batch view there limit = subst IsOk (sym (answered config w now p batch view there limit)) refl

-- the same of a cluster that may sequence a batch of the proxy, as it is seen and as it is kept
pub not_refused_now : (now : TurnCluster) (p : ℕ) (batch : List AdmittedTransaction) → MaySequence now p → IsOk (answer_to_event now (Sequence p batch))
not_refused_now now p batch may = not_refused now.config now.world now p batch refl may.there may.limit

pub may_now : (config : Config) (w : World) (now : TurnCluster) (p : ℕ) → (record { config = config; world = w }) ≡ now → p < config.proxies → last_version w.history + config.step < version_limit → MaySequence now p
may_now config w now p view there limit = subst (λ (t : TurnCluster). MaySequence t p) view (record { there = there; limit = limit })

pub may_here : (config : Config) (w : World) (now : TurnCluster) (p : ℕ) → (record { config = config; world = w }) ≡ now → MaySequence now p → MaySequence (record { config = config; world = w }) p
may_here config w now p view may = subst (λ (t : TurnCluster). MaySequence t p) (sym view) may

pub record_is : (config : Config) (w : World) (now : TurnCluster) (p : ℕ) (batch : List AdmittedTransaction) (rec : Record) → (record { config = config; world = w }) ≡ now → rec ≡ next_record now.config now.world p batch → rec ≡ next_record config w p batch
record_is config w now p batch rec view is = is ∙ ap (λ (t : TurnCluster). next_record t.config t.world p batch) (sym view)

no_fault : (config : Config) (w : World) (p : ℕ) (batch : List AdmittedTransaction) (v : ProxyView) → IsProxyOf config w p v → begin_fault v (next_record config w p batch) ≡ None
no_fault config w p batch v is =
    let mine : nat_eq p v.number ≡ true = eq-eqb p v.number (sym is.number) in
    let order : nat_eq (next_record config w p batch).own_previous v.last_begun ≡ true = eq-eqb (next_record config w p batch).own_previous v.last_begun (sym is.last_begun) in
    rw (mine, order) refl

pub may_begin_at : (config : Config) (w : World) (p : ℕ) (batch : List AdmittedTransaction) (v : ProxyView) (rec : Record) (resolvers : List ResolverView) (proxies : List ProxyView) (requests : List (List Request)) (last : ℕ) → IsKept config w resolvers proxies requests last → p < config.proxies → last_version w.history + config.step < version_limit → slice_get proxies p ≡ Some v → rec ≡ next_record config w p batch → MayBeginAt proxies p rec
may_begin_at config w p batch v rec resolvers proxies requests last keeps there limit at is =
    subst (MayBeginAt proxies p) (sym is) (v, at, may_begin config w p v resolvers proxies requests batch (record { parts = keeps.parts; there = there; proxy_is = at; limit = limit }), no_fault config w p batch v (keeps.parts.each_proxy p v at))

-- the world with one row more
pushed_world : (rows new : List KeptRecord) (row : KeptRecord) (moves : List Move) (judged_counts finished : List ℕ) → new ≡ rows ++ row ∷ [] → let w : World = world_of rows moves judged_counts finished in world_of new moves judged_counts finished ≡ record w { history = w.history ++ row.rec.known ∷ []; received = w.received ++ row.received ∷ [] }
pushed_world rows new row moves judged_counts finished is =
    ap (λ (rs : List KeptRecord). world_of rs moves judged_counts finished) is
    ∙ (λ i. record { history = map-append (λ (r : KeptRecord). r.rec.known) rows (row ∷ []) i; moves = moves; received = map-append (λ (r : KeptRecord). r.received) rows (row ∷ []) i; judged_counts = judged_counts; finished = finished })

pub world_is : (config : Config) (p : ℕ) (batch : List AdmittedTransaction) (rows new : List KeptRecord) (row : KeptRecord) (moves : List Move) (judged_counts finished : List ℕ) → let w : World = world_of rows moves judged_counts finished in new ≡ rows ++ row ∷ [] → row.rec.known ≡ next_record config w p batch → row.received ≡ finished_version w p → p < config.proxies → last_version w.history + config.step < version_limit → world_of new moves judged_counts finished ≡ (handle_event config w (Sequence p batch)).world
world_is config p batch rows new row moves judged_counts finished is rec received there limit =
    let w : World = world_of rows moves judged_counts finished in
    pushed_world rows new row moves judged_counts finished is
    ∙ (λ i. record w { history = w.history ++ rec i ∷ []; received = w.received ++ received i ∷ [] })
    ∙ sym (ap (λ (handled : Handled). handled.world) (sequence_is config w p batch there limit))

same_some : (v u : ProxyView) → Some v ≡ Some u → v ≡ u
same_some v u same = cc

pub kept : (config : Config) (p : ℕ) (batch : List AdmittedTransaction) (rows new : List KeptRecord) (row : KeptRecord) (moves : List Move) (judged_counts finished : List ℕ) (resolvers : List ResolverView) (proxies after : List ProxyView) (last : ℕ) → let w : World = world_of rows moves judged_counts finished in IsKept config w resolvers proxies (requests_of rows) last → new ≡ rows ++ row ∷ [] → row.rec.known ≡ next_record config w p batch → row.received ≡ finished_version w p → p < config.proxies → last_version w.history + config.step < version_limit
    → IsBegunAt proxies p row.rec.known row.sent.known after → IsKept config (world_of new moves judged_counts finished) resolvers after (requests_of new) row.rec.known.version
kept config p batch rows new row moves judged_counts finished resolvers proxies after last keeps is rec received there limit begun =
    record {
      parts = subst (λ (x : World). AreInStep config x resolvers after (requests_of new)) (sym world)
          (subst (AreInStep config (handle_event config w (Sequence p batch)).world resolvers after) (sym sent)
          (subst (λ (fs : List ProxyView). AreInStep config (handle_event config w (Sequence p batch)).world resolvers fs (requests_of rows ++ map (request config (next_record config w p batch) begun.v.version) (each_below config.resolvers) ∷ [])) (sym begun.after_is)
          (begun_in_step config w p begun.v begun.new resolvers proxies (requests_of rows) batch (record { parts = keeps.parts; there = there; proxy_is = begun.at; limit = limit }) (subst (HasBegun begun.v begun.new) rec begun.begun))));
      last_is = sym (ap (λ (x : World). last_version x.history) (pushed_world rows new row moves judged_counts finished is) ∙ last_version-push w.history row.rec.known);
      below = subst (λ (r : Record). r.version < version_limit) (sym rec) limit;
    }
  where
    w : World
    w = world_of rows moves judged_counts finished

    world : world_of new moves judged_counts finished ≡ (handle_event config w (Sequence p batch)).world
    world = world_is config p batch rows new row moves judged_counts finished is rec received there limit

    proxy : IsProxyOf config w p begun.v
    proxy = keeps.parts.each_proxy p begun.v begun.at

    sent : requests_of new ≡ requests_of rows ++ map (request config (next_record config w p batch) begun.v.version) (each_below config.resolvers) ∷ []
    sent = ap requests_of is ∙ map-append (λ (r : KeptRecord). r.sent.known) rows (row ∷ []) ∙ ap (λ (q : List Request). requests_of rows ++ q ∷ []) (begun.requests_are ∙ (λ i. map (request (proxy.config_is i) (rec i) begun.v.version) (each_below (proxy.config_is i).resolvers)))

pub after : (config : Config) (w x : World) (now : TurnCluster) (p : ℕ) (batch : List AdmittedTransaction) → (record { config = config; world = w }) ≡ now → x ≡ (handle_event config w (Sequence p batch)).world → (record { config = config; world = x }) ≡ after_event now (Sequence p batch)
after config w x now p batch view is = ap (λ (y : World). record { config = config; world = y }) is ∙ ap (λ (t : TurnCluster). after_event t (Sequence p batch)) view
