-- A proxy finishes its earliest record.
use Rattle.std.proofs.Common.{◌≡◌, refl, sym, ap, ◌∙◌, subst, ℕ, zero, suc, ◌+◌, ◌*◌, ◌<◌, ◌≤◌, List, [], ◌∷◌, length, take, drop, get_or, slice_get, slice_index, slice_set, Bool, true, false, nat_le, nat_eq, if◌then◌else◌, Option, Some, None, option_map, arith}
use Rattle.std.specs.Prelude.{Ok, Err, IsOk, unwrap_or}
use Rattle.std.proofs.lemmas.Bool.{le-leb, leb-false}
use Rattle.std.proofs.lemmas.Option.{slice_get-map, slice_get_within}
use Rattle.model.specs.Configs.{Config, version_limit}
use Rattle.model.specs.declared.reply.Reply.{Reply}
use Rattle.model.specs.declared.outcome.Finished.{Finished}
use Rattle.model.specs.Records.{Record, last_version, records_of_proxy}
use Rattle.model.specs.Shares.{each_below}
use Rattle.model.specs.Journal.{history_verdicts}
use Rattle.model.specs.Requests.{Request}
use Rattle.model.specs.Offers.{reply_at}
use Rattle.model.specs.ResolverMemory.{ResolverView, ProxyMemory}
use Rattle.model.specs.Finishing.{ProxyView, Replies, HasFinished, reply_from}
use Rattle.model.specs.World.{World, Answer, Finish, Handled, NoSuchProxy, OutOfTurn, MissingReply, FinishedBatch, handle_event, missing_replies, reply_of}
use Rattle.model.specs.Turns.{TurnCluster, IsResolverOf, success_or_refusal, answer_to_event, after_event, AreInStep}
use Rattle.model.specs.Laws.Worlds.{IsAwaited, AreOfTheWorld}
use Rattle.model.proofs.History.Chain.{element_at, version_before}
use Rattle.model.proofs.Worlds.Finishes.{out_of_turn, missing_named, reply_is_kept, replies_have_no_fault, may_be_finished, finishes_as_world, finished_in_step}
use Rattle.model.proofs.History.Growth.{Has-each_below}
use Rattle.model.proofs.Members.{Has, Has-filter}
use Rattle.state_memory.specs.Kept.{kept_reply, reply_of_proxy}
use Rattle.turn_world.specs.Kept.{IsKept}
use Rattle.turn_world.proofs.OfferedParts.{got}
use Rattle.turn_world.specs.Parts.{AreAllKept, MayFinishAt, IsFinishedAt, kept_replies_at, missing_of}

pub no_proxy : (config : Config) (w : World) (now : TurnCluster) (p : ℕ) → (record { config = config; world = w }) ≡ now → config.proxies ≤ p → answer_to_event now (Finish p) ≡ Err NoSuchProxy
unfolding handle_event
no_proxy config w now p view past =
    let unknown : nat_le config.proxies p ≡ true = le-leb config.proxies p past in
    ap (λ (t : TurnCluster). answer_to_event t (Finish p)) (sym view) ∙ rw unknown refl

-- the answer to the event, from the answer of the world
event_answer : (config : Config) (w : World) (now : TurnCluster) (p : ℕ) (answer : Answer) → (record { config = config; world = w }) ≡ now → (handle_event config w (Finish p)).answer ≡ answer → answer_to_event now (Finish p) ≡ success_or_refusal answer
event_answer config w now p answer view is = ap (λ (t : TurnCluster). answer_to_event t (Finish p)) (sym view) ∙ ap success_or_refusal is

pub none_begun : (config : Config) (w : World) (now : TurnCluster) (p : ℕ) (v : ProxyView) (resolvers : List ResolverView) (proxies : List ProxyView) (requests : List (List Request)) → (record { config = config; world = w }) ≡ now → AreInStep config w resolvers proxies requests → p < config.proxies → slice_get proxies p ≡ Some v → v.begun ≡ [] → answer_to_event now (Finish p) ≡ Err (OutOfTurn None)
none_begun config w now p v resolvers proxies requests view parts there at none = event_answer config w now p _ view (out_of_turn config w p v resolvers proxies requests parts there at none)

-- ---- missing replies

first_is : (xs : List ℕ) (m : ℕ) → Some m ≡ slice_get xs 0 → (rest : List ℕ) × (xs ≡ m ∷ rest)
first_is [] m is = absurd (cc)
first_is (x ∷ xs) m is = let same : m ≡ x = cc in (xs, ap (λ (y : ℕ). y ∷ xs) (sym same))

empty_is : (xs : List ℕ) → None ≡ slice_get xs 0 → xs ≡ []
empty_is [] is = refl
empty_is (x ∷ xs) is = absurd (cc)

missing_is : (config : Config) (w : World) (row : ℕ) → length w.judged_counts ≡ config.resolvers → missing_replies w row (each_below config.resolvers) ≡ missing_of row w.judged_counts
missing_is config w row many = ap (λ (n : ℕ). missing_replies w row (each_below n)) (sym many)

pub first_named : (config : Config) (w : World) (now : TurnCluster) (p : ℕ) (rec : Record) (rest : List Record) (v : ProxyView) (resolvers : List ResolverView) (proxies : List ProxyView) (requests : List (List Request)) (missing : ℕ) → (record { config = config; world = w }) ≡ now → IsAwaited config w p rec rest v resolvers proxies requests → Some missing ≡ slice_get (missing_of rec.row w.judged_counts) 0 → answer_to_event now (Finish p) ≡ Err (MissingReply missing)
first_named config w now p rec rest v resolvers proxies requests missing view is first =
    let found = first_is (missing_of rec.row w.judged_counts) missing first in
    event_answer config w now p _ view (missing_named config w p rec rest v resolvers proxies requests missing found.0 is (missing_is config w rec.row is.parts.sound.judged_counts ∙ found.1))

pub none_missing : (config : Config) (w : World) (p : ℕ) (rec : Record) (rest : List Record) (v : ProxyView) (resolvers : List ResolverView) (proxies : List ProxyView) (requests : List (List Request)) → IsAwaited config w p rec rest v resolvers proxies requests → None ≡ slice_get (missing_of rec.row w.judged_counts) 0 → missing_replies w rec.row (each_below config.resolvers) ≡ []
none_missing config w p rec rest v resolvers proxies requests is none = missing_is config w rec.row is.parts.sound.judged_counts ∙ empty_is (missing_of rec.row w.judged_counts) none

pub not_refused : (config : Config) (w : World) (now : TurnCluster) (p : ℕ) (rec : Record) (rest : List Record) (v : ProxyView) (resolvers : List ResolverView) (proxies : List ProxyView) (requests : List (List Request)) → (record { config = config; world = w }) ≡ now → IsAwaited config w p rec rest v resolvers proxies requests → missing_replies w rec.row (each_below config.resolvers) ≡ [] → IsOk (answer_to_event now (Finish p))
not_refused config w now p rec rest v resolvers proxies requests view is none =
    let may = may_be_finished config w p rec rest v resolvers proxies requests is none in
    subst IsOk (sym (event_answer config w now p _ view may.1)) refl

-- ---- the replies that are kept

judged_row : (config : Config) (w : World) (row r : ℕ) → missing_replies w row (each_below config.resolvers) ≡ [] → r < config.resolvers → row < slice_index w.judged_counts r
judged_row config w row r none there = leb-false (slice_index w.judged_counts r) row (by (nat_le (slice_index w.judged_counts r) row) refl)
  where
    by : (t : Bool) → nat_le (slice_index w.judged_counts r) row ≡ t → t ≡ false
    by true lacks = absurd (subst (λ (rs : List ℕ). Has rs r) none (Has-filter (λ (s : ℕ). nat_le (slice_index w.judged_counts s) row) (each_below config.resolvers) r (Has-each_below config.resolvers r there) lacks))
    by false has = refl

reply_kept : (config : Config) (w : World) (p : ℕ) (rec : Record) (rest : List Record) (v : ProxyView) (resolvers : List ResolverView) (proxies : List ProxyView) (requests : List (List Request)) → IsAwaited config w p rec rest v resolvers proxies requests → missing_replies w rec.row (each_below config.resolvers) ≡ []
    → (r : ℕ) (memory : ResolverView) → slice_get resolvers r ≡ Some memory → kept_reply memory p rec.version ≡ Some (reply_of config (history_verdicts config w.history) r (take rec.row w.history) rec)
reply_kept config w p rec rest v resolvers proxies requests is none r memory at =
    ap (reply_of_proxy rec.version) one.1
    ∙ ap (λ (m : ProxyMemory). reply_at rec.version m.replies) (resolver.stands.proxies p one.0 one.1)
    ∙ reply_is_kept config w p rec rest v resolvers proxies requests r memory is at (judged_row config w rec.row r none (omega (arith, slice_get_within resolvers r memory at, is.parts.resolver_count)))
  where
    resolver : IsResolverOf config w r memory
    resolver = is.parts.each_resolver r memory at

    one : (m : ProxyMemory) × (slice_get memory.proxies p ≡ Some m)
    one = element_at memory.proxies p (omega (arith, is.there, resolver.proxies))

pub all_kept : (config : Config) (w : World) (p : ℕ) (rec : Record) (rest : List Record) (v : ProxyView) (resolvers : List ResolverView) (proxies : List ProxyView) (requests : List (List Request)) → IsAwaited config w p rec rest v resolvers proxies requests → missing_replies w rec.row (each_below config.resolvers) ≡ [] → AreAllKept resolvers p rec.version
all_kept config w p rec rest v resolvers proxies requests is none r memory at =
    (reply_of config (history_verdicts config w.history) r (take rec.row w.history) rec, reply_kept config w p rec rest v resolvers proxies requests is none r memory at, refl)

pub are_of_the_world : (config : Config) (w : World) (p : ℕ) (rec : Record) (rest : List Record) (v : ProxyView) (resolvers : List ResolverView) (proxies : List ProxyView) (requests : List (List Request)) (replies : Replies) → IsAwaited config w p rec rest v resolvers proxies requests → missing_replies w rec.row (each_below config.resolvers) ≡ [] → replies ≡ kept_replies_at resolvers p rec.version → AreOfTheWorld config w rec replies
are_of_the_world config w p rec rest v resolvers proxies requests replies is none are =
    record { judged = none; each = each }
  where
    each : (r : ℕ) → r < config.resolvers → reply_from replies r ≡ Some (reply_of config (history_verdicts config w.history) r (take rec.row w.history) rec)
    each r there =
        let one = element_at resolvers r (omega (arith, there, is.parts.resolver_count)) in
        ap (λ (rs : Replies). reply_from rs r) are
        ∙ ap (λ (found : Option (Option Reply)). unwrap_or found None) (slice_get-map (λ (m : ResolverView). kept_reply m p rec.version) resolvers r ∙ ap (option_map (λ (m : ResolverView). kept_reply m p rec.version)) one.1)
        ∙ reply_kept config w p rec rest v resolvers proxies requests is none r one.0 one.1

pub may_finish_at : (config : Config) (w : World) (p : ℕ) (rec : Record) (rest : List Record) (v : ProxyView) (resolvers : List ResolverView) (proxies : List ProxyView) (requests : List (List Request)) (replies : Replies) → IsAwaited config w p rec rest v resolvers proxies requests → AreOfTheWorld config w rec replies → MayFinishAt proxies p replies
may_finish_at config w p rec rest v resolvers proxies requests replies is of_world =
    let begun : v.begun ≡ rec ∷ rest = is.begun in
    let both = replies_have_no_fault config w p rec rest v resolvers proxies requests replies is of_world in
    (v, is.proxy_is, rw (begun, both.0, both.1) refl)

-- ---- the count of finished records

own_fewer : (p : ℕ) (h : List Record) → length (records_of_proxy p h) ≤ length h
own_fewer p [] = omega arith
own_fewer p (rec ∷ h) = by (nat_eq rec.proxy p) (own_fewer p h)
  where
    by : (t : Bool) → length (records_of_proxy p h) ≤ length h → length (if t then rec ∷ records_of_proxy p h else records_of_proxy p h) ≤ suc (length h)
    by true fewer = omega (arith, fewer)
    by false fewer = omega (arith, fewer)

dropped_at : (xs : List Record) (n : ℕ) (x : Record) (ys : List Record) → drop n xs ≡ x ∷ ys → n < length xs
dropped_at [] zero x ys is = absurd (cc)
dropped_at [] (suc n) x ys is = absurd (cc)
dropped_at (z ∷ zs) zero x ys is = omega arith
dropped_at (z ∷ zs) (suc n) x ys is = omega (arith, dropped_at zs n x ys is)

take_all : (h : List Record) → take (length h) h ≡ h
take_all [] = refl
take_all (x ∷ h) = ap (λ (rest : List Record). x ∷ rest) (take_all h)

no_less : (n step : ℕ) → 1 ≤ step → n ≤ n * step
no_less zero step some = omega arith
no_less (suc n) step some = let fewer : n ≤ n * step = no_less n step some in let more : suc n * step ≡ n * step + step = omega arith in omega (arith, fewer, more, some)

pub count_is_small : (config : Config) (w : World) (p last : ℕ) (rec : Record) (rest : List Record) (v : ProxyView) (resolvers : List ResolverView) (proxies : List ProxyView) (requests : List (List Request)) → IsAwaited config w p rec rest v resolvers proxies requests → last ≡ last_version w.history → last < version_limit → slice_index w.finished p < 9223372036854775808
count_is_small config w p last rec rest v resolvers proxies requests is last_is below =
    let begun = dropped_at (records_of_proxy p w.history) (slice_index w.finished p) rec rest (sym (is.parts.each_proxy p v is.proxy_is).begun ∙ is.begun) in
    let versions : last_version w.history ≡ length w.history * config.step = ap last_version (sym (take_all w.history)) ∙ version_before config w.history (length w.history) is.parts.sound.sequencer.history (omega arith) in
    let limit : last < 9223372036854775808 = below in
    omega (arith, begun, own_fewer p w.history, versions, no_less (length w.history) config.step is.parts.limits.step.0, last_is, limit)

counted_at : (xs : List ℕ) (i x : ℕ) → slice_get xs i ≡ Some x → x ≡ slice_index xs i
counted_at [] i x at = absurd (cc)
counted_at (y ∷ ys) zero x at = let same : y ≡ x = cc in sym same
counted_at (y ∷ ys) (suc i) x at = counted_at ys i x at

pub counted : (xs : List ℕ) (i x : ℕ) → i < length xs → x ≡ get_or xs i x → x + 1 ≡ suc (slice_index xs i)
counted xs i x within is = let same : x ≡ slice_index xs i = counted_at xs i x (got xs i x within is) in omega (arith, same)

-- ---- the finish

-- what is known once the proxy has finished the record
same_follower : (proxies : List ProxyView) (p : ℕ) (v u : ProxyView) → slice_get proxies p ≡ Some v → slice_get proxies p ≡ Some u → u ≡ v
same_follower proxies p v u at other = let both : Some u ≡ Some v = sym other ∙ at in cc

has_finished : (p : ℕ) (v : ProxyView) (proxies after : List ProxyView) (replies : Replies) (finished : Finished) → slice_get proxies p ≡ Some v → (done : IsFinishedAt proxies p replies finished after) → HasFinished v done.new replies finished
has_finished p v proxies after replies finished at done = subst (λ (u : ProxyView). HasFinished u done.new replies finished) (same_follower proxies p v done.v at done.at) done.has

handled_is : (config : Config) (w : World) (p : ℕ) (rec : Record) (rest : List Record) (v : ProxyView) (resolvers : List ResolverView) (proxies after : List ProxyView) (requests : List (List Request)) (replies : Replies) (finished : Finished) → IsAwaited config w p rec rest v resolvers proxies requests → AreOfTheWorld config w rec replies → IsFinishedAt proxies p replies finished after
    → handle_event config w (Finish p) ≡ record { world = record w { finished = slice_set w.finished p (suc (slice_index w.finished p)) }; answer = FinishedBatch finished }
handled_is config w p rec rest v resolvers proxies after requests replies finished is of_world done =
    finishes_as_world config w p rec rest v done.new resolvers proxies requests replies finished is of_world (has_finished p v proxies after replies finished is.proxy_is done)

pub answered : (config : Config) (w : World) (now : TurnCluster) (p : ℕ) (rec : Record) (rest : List Record) (v : ProxyView) (resolvers : List ResolverView) (proxies after : List ProxyView) (requests : List (List Request)) (replies : Replies) (finished : Finished) → (record { config = config; world = w }) ≡ now → IsAwaited config w p rec rest v resolvers proxies requests → AreOfTheWorld config w rec replies → IsFinishedAt proxies p replies finished after
    → answer_to_event now (Finish p) ≡ Ok (FinishedBatch finished)
answered config w now p rec rest v resolvers proxies after requests replies finished view is of_world done =
    event_answer config w now p _ view (ap (λ (handled : Handled). handled.answer) (handled_is config w p rec rest v resolvers proxies after requests replies finished is of_world done))

pub world_is : (config : Config) (w : World) (p count : ℕ) (rec : Record) (rest : List Record) (v : ProxyView) (resolvers : List ResolverView) (proxies after : List ProxyView) (requests : List (List Request)) (replies : Replies) (finished : Finished) → IsAwaited config w p rec rest v resolvers proxies requests → AreOfTheWorld config w rec replies → IsFinishedAt proxies p replies finished after → count ≡ suc (slice_index w.finished p)
    → record w { finished = slice_set w.finished p count } ≡ (handle_event config w (Finish p)).world
world_is config w p count rec rest v resolvers proxies after requests replies finished is of_world done next =
    ap (λ (n : ℕ). record w { finished = slice_set w.finished p n }) next
    ∙ sym (ap (λ (handled : Handled). handled.world) (handled_is config w p rec rest v resolvers proxies after requests replies finished is of_world done))

pub kept : (config : Config) (w : World) (p count last : ℕ) (rec : Record) (rest : List Record) (v : ProxyView) (resolvers : List ResolverView) (proxies after : List ProxyView) (requests : List (List Request)) (replies : Replies) (finished : Finished) → IsKept config w resolvers proxies requests last → IsAwaited config w p rec rest v resolvers proxies requests → AreOfTheWorld config w rec replies → IsFinishedAt proxies p replies finished after → count ≡ suc (slice_index w.finished p)
    → IsKept config (record w { finished = slice_set w.finished p count }) resolvers after requests last
kept config w p count last rec rest v resolvers proxies after requests replies finished keeps is of_world done next =
    record {
      parts = subst (λ (x : World). AreInStep config x resolvers after requests) (sym (world_is config w p count rec rest v resolvers proxies after requests replies finished is of_world done next))
          (subst (λ (fs : List ProxyView). AreInStep config (handle_event config w (Finish p)).world resolvers fs requests) (sym done.after_is)
          (finished_in_step config w p rec rest v done.new resolvers proxies requests replies finished is of_world (has_finished p v proxies after replies finished is.proxy_is done)));
      last_is = keeps.last_is;
      below = keeps.below;
    }

pub event_after : (config : Config) (w x : World) (now : TurnCluster) (p : ℕ) → (record { config = config; world = w }) ≡ now → x ≡ (handle_event config w (Finish p)).world → (record { config = config; world = x }) ≡ after_event now (Finish p)
event_after config w x now p view is = ap (λ (y : World). record { config = config; world = y }) is ∙ ap (λ (t : TurnCluster). after_event t (Finish p)) view
