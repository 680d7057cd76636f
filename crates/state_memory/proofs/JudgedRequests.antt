-- A request that was judged, and what is kept of it.
use Rattle.std.proofs.Common.{◌≡◌, sym, ap, ◌∙◌, subst, ℕ, ◌<◌, ◌-◌, max, min, ◌⊎◌, inl, inr, List, [], ◌∷◌, ◌++◌, map, filter, length, slice_get, slice_set, Some, nat_lt, arith}
use Rattle.std.specs.Prelude.{Ok}
use Rattle.std.proofs.lemmas.List.{length-map, length-set, map-append}
use Rattle.std.proofs.lemmas.Option.{slice_get_within}
use Rattle.model.specs.declared.reply.Reply.{Reply}
use Rattle.model.specs.declared.unseen.UnseenRow.{UnseenRow}
use Rattle.model.specs.declared.verdict.Verdict.{Verdict}
use Rattle.model.specs.Requests.{Request}
use Rattle.model.specs.ResolverMemory.{ResolverView, ProxyMemory as Kept, Judge, StandsForRequests, course, proxy_after, is_row_above, reply_by_memory, memory_after, reached_by_all}
use Rattle.model.specs.Requests.{request_reply, request_reply_row, request_verdicts, reply_state_of_mark}
use Rattle.model.specs.declared.unseen.UnseenState.{UnseenState}
use Rattle.model.specs.Laws.Resolvers.{share_of}
use Rattle.model.specs.Verdicts.{judged_at}
use Rattle.model.specs.WriteHistories.{WriteHistoryView, ShareAt, StandsForShares, shares_of, all_judged}
use Rattle.share_judge.specs.Answers.{AreVerdicts, GainsShare, Forgets, IfNotKept}
use Rattle.share_judge.specs.declared.not_judged.NotJudged.{NotJudged}
use Rattle.share_judge.specs.declared.not_judged.NotJudged.TheVariants.{OutOfMemory, NotKept}
use Rattle.model.proofs.Resolvers.Answers.{is_next}
use Rattle.model.proofs.Resolvers.Answers.{memory_replies, verdicts_of_shares}
use Rattle.model.proofs.Shares.Forgetting.{length-verdicts_after}
use Rattle.model.proofs.Resolvers.Growth.{judging_adds, set_found}
use Rattle.state_memory.specs.declared.proxy_memory.ProxyMemory.{ProxyMemory}
use Rattle.state_memory.specs.Answers.{AreVerdictsAfterJudged}
use Rattle.state_memory.specs.Kept.{kept_of, all_kept, AllIncrease, rows_above, reply_of}
use Rattle.state_memory.specs.Order.{RowsRise, RepliesRise, RowsIncrease, AreInOrder}
use Rattle.state_memory.proofs.RowLaws.{rise_increases, rise_push, rise_filter, rise_higher}

-- the proxy of the request is there
pub place_within : (v : ResolverView) (q : Request) (raw : List ProxyMemory) → course v q ≡ Ok Judge → all_kept raw ≡ v.proxies → q.proxy < length raw
place_within v q raw is kept =
    let next = is_next v q is in
    let within : q.proxy < length v.proxies = slice_get_within v.proxies q.proxy next.one next.there in
    omega (arith, within, ap length kept, length-map raw kept_of)

-- the request is above the resolver's version
pub version_above : (v : ResolverView) (q : Request) (version last : ℕ) → course v q ≡ Ok Judge → version ≡ v.version → last ≡ version → last < q.version
version_above v q version last is same kept = let next = is_next v q is in omega (arith, next.above, next.chained, same, kept)

pub kept_rows_increase : (version : ℕ) (rows : List UnseenRow) (proxies : List Kept) → AreInOrder version rows proxies → RowsIncrease rows
kept_rows_increase version rows proxies order = rise_increases (λ (row : UnseenRow). row.version) 0 version rows order.rows_rise

pub kept_replies_increase : (version : ℕ) (rows : List UnseenRow) (before : List Kept) (raw : List ProxyMemory) → AreInOrder version rows before → all_kept raw ≡ before → AllIncrease raw
kept_replies_increase version rows before raw order same p one at =
    rise_increases (λ (reply : Reply). reply.version) 0 version one.replies (order.replies_rise p one (ap (λ kept. slice_get kept p) (sym same) ∙ at))

-- with its row
pub rows_rise_more : (version : ℕ) (rows with_row : List UnseenRow) (proxies : List Kept) (row : UnseenRow) → AreInOrder version rows proxies → version < row.version → with_row ≡ rows ++ row ∷ [] → RowsRise row.version with_row
rows_rise_more version rows with_row proxies row order new is =
    subst (RowsRise row.version) (sym is) (rise_push (λ (one : UnseenRow). one.version) 0 version rows row order.rows_rise new)

pub rows_increase_more : (version : ℕ) (rows with_row : List UnseenRow) (proxies : List Kept) (row : UnseenRow) → AreInOrder version rows proxies → version < row.version → with_row ≡ rows ++ row ∷ [] → RowsIncrease with_row
rows_increase_more version rows with_row proxies row order new is =
    rise_increases (λ (one : UnseenRow). one.version) 0 row.version with_row (rows_rise_more version rows with_row proxies row order new is)

-- what is kept stays in order
pub order_after : (version bound : ℕ) (rows with_row left : List UnseenRow) (before after : List Kept) (one : Kept) (q : Request) (row : UnseenRow) (reply : Reply) → AreInOrder version rows before → version < q.version → row.version ≡ q.version → reply.version ≡ q.version → with_row ≡ rows ++ row ∷ [] → left ≡ rows_above bound with_row → slice_get before q.proxy ≡ Some one → after ≡ slice_set before q.proxy (proxy_after one q reply) → AreInOrder q.version left after
order_after version bound rows with_row left before after one q row reply order new row_at reply_at with_is left_is at after_is =
    record {
      rows_rise = subst (RowsRise q.version) (sym left_is) (rise_filter (λ (kept : UnseenRow). kept.version) (is_row_above bound) 0 q.version with_row (subst (λ n. RowsRise n with_row) row_at (rows_rise_more version rows with_row before row order (omega (arith, new, row_at)) with_is)));
      replies_rise = λ p found there. by p found (set_found before q.proxy (proxy_after one q reply) p found (ap (λ kept. slice_get kept p) (sym after_is) ∙ there));
    }
  where
    own : RepliesRise q.version (proxy_after one q reply).replies
    own =
        subst (λ n. RepliesRise n (proxy_after one q reply).replies) reply_at
        (rise_push (λ (kept : Reply). kept.version) 0 version (filter (λ (kept : Reply). nat_lt (max one.acknowledged q.last_received) kept.version) one.replies) reply
        (rise_filter (λ (kept : Reply). kept.version) (λ (kept : Reply). nat_lt (max one.acknowledged q.last_received) kept.version) 0 version one.replies (order.replies_rise q.proxy one at))
        (omega (arith, new, reply_at)))

    by : (p : ℕ) (found : Kept) → ((p ≡ q.proxy) × (found ≡ proxy_after one q reply)) ⊎ ((p ≡ q.proxy → ⊥) × (slice_get before p ≡ Some found)) → RepliesRise q.version found.replies
    by p found (inl here) = subst (λ (kept : Kept). RepliesRise q.version kept.replies) (sym here.1) own
    by p found (inr other) = rise_higher (λ (kept : Reply). kept.version) 0 version q.version found.replies (omega (arith, new)) (order.replies_rise p found other.1)

pub next_there : (v : ResolverView) (q : Request) (raw : List ProxyMemory) → course v q ≡ Ok Judge → all_kept raw ≡ v.proxies → (one : Kept) × (slice_get (all_kept raw) q.proxy ≡ Some one)
next_there v q raw is kept = let next = is_next v q is in (next.one, ap (λ xs. slice_get xs q.proxy) kept ∙ next.there)

pub noted_count : (before after : List Kept) (one : Kept) (q : Request) (reply : Reply) → after ≡ slice_set before q.proxy (proxy_after one q reply) → length after ≡ length before
noted_count before after one q reply is = ap length is ∙ length-set before q.proxy (proxy_after one q reply)

-- ---- the reply, and what the resolver then stands for

pub verdicts_are : (v : ResolverView) (judged : List Request) (q : Request) (verdicts : List Verdict) → StandsForRequests v judged → AreVerdicts v.written (share_of q) verdicts → verdicts ≡ request_verdicts v.written.window judged q
verdicts_are v judged q verdicts stands are = are (shares_of judged) stands.forgotten stands.written ∙ verdicts_of_shares v.written.window judged q

pub judged_reply : (v : ResolverView) (one : Kept) (judged : List Request) (q : Request) (verdicts : List Verdict) (unseen : List UnseenRow) → StandsForRequests v judged → slice_get v.proxies q.proxy ≡ Some one → AreVerdicts v.written (share_of q) verdicts → unseen ≡ rows_above one.last v.rows → reply_of q verdicts unseen ≡ request_reply v.written.window judged q
judged_reply v one judged q verdicts unseen stands at are told =
    (λ k. reply_of q (verdicts_are v judged q verdicts stands are k) (told k)) ∙ memory_replies v one judged q stands at

-- the memory after the request, by its parts
pub judged_memory : (v new : ResolverView) (one : Kept) (judged : List Request) (q : Request) (verdicts : List Verdict) (reply : Reply) (row : UnseenRow) (with_share : WriteHistoryView) (bound : ℕ) → StandsForRequests v judged → course v q ≡ Ok Judge → slice_get v.proxies q.proxy ≡ Some one → AreVerdicts v.written (share_of q) verdicts →
    GainsShare v.written (share_of q) with_share → Forgets with_share bound new.written → new.written.window ≡ v.written.window → new.number ≡ v.number → new.version ≡ q.version → row ≡ request_reply_row q verdicts → reply ≡ reply_of q verdicts (rows_above one.last v.rows) →
    new.proxies ≡ slice_set v.proxies q.proxy (proxy_after one q reply) → new.rows ≡ rows_above (reached_by_all new.proxies) (v.rows ++ row ∷ []) → StandsForRequests new (judged ++ q ∷ [])
judged_memory v new one judged q verdicts reply row with_share bound stands is at are gains forgets window number version row_is reply_is proxies rows =
    subst (λ (w : ResolverView). StandsForRequests w (judged ++ q ∷ [])) (sym same)
    (judging_adds v one judged q new.written _ stands is at window (forgets _ _ (gains (shares_of judged) stands.forgotten stands.written)))
  where
    told : List Verdict
    told = request_verdicts v.written.window judged q

    said : verdicts ≡ told
    said = verdicts_are v judged q verdicts stands are

    proxies_are : new.proxies ≡ slice_set v.proxies q.proxy (proxy_after one q (reply_by_memory v one q told))
    proxies_are = proxies ∙ (λ k. slice_set v.proxies q.proxy (proxy_after one q ((reply_is ∙ (λ i. reply_of q (said i) (rows_above one.last v.rows))) k)))

    rows_are : new.rows ≡ rows_above (reached_by_all (slice_set v.proxies q.proxy (proxy_after one q (reply_by_memory v one q told)))) (v.rows ++ request_reply_row q told ∷ [])
    rows_are = rows ∙ (λ k. rows_above (reached_by_all (proxies_are k)) (v.rows ++ (row_is ∙ ap (request_reply_row q) said) k ∷ []))

    same : new ≡ memory_after v one q told new.written
    same = λ k. record { number = number k; version = version k; written = new.written; rows = rows_are k; proxies = proxies_are k }

-- the writes that lie at least the window before the request are forgotten
pub judged_forgets : (v : ResolverView) (judged : List Request) (q : Request) (with_share written : WriteHistoryView) (bound : ℕ) → StandsForRequests v judged → GainsShare v.written (share_of q) with_share → Forgets with_share bound written → v.written.last < q.version → bound ≡ q.version → with_share.last ≡ q.version →
    with_share.window ≡ v.written.window → written.window ≡ with_share.window → StandsForShares written (shares_of (judged ++ q ∷ [])) (q.version - written.window)
judged_forgets v judged q with_share written bound stands gains forgets above bound_is last kept window =
    let low = stands.written.in_window in
    let all : max stands.forgotten (min bound (with_share.last - with_share.window)) ≡ q.version - written.window = omega (arith, low, above, bound_is, last, kept, window) in
    subst (λ (shares : List ShareAt). StandsForShares written shares (q.version - written.window)) (sym (map-append share_of judged (q ∷ [])))
    (subst (StandsForShares written (shares_of judged ++ share_of q ∷ [])) all (forgets (shares_of judged ++ share_of q ∷ []) stands.forgotten (gains (shares_of judged) stands.forgotten stands.written)))

-- as many verdicts as parts
pub as_many_verdicts : (v : ResolverView) (judged : List Request) (q : Request) (verdicts : List Verdict) → StandsForRequests v judged → AreVerdicts v.written (share_of q) verdicts → length verdicts ≡ length q.share
as_many_verdicts v judged q verdicts stands are =
    ap length (are (shares_of judged) stands.forgotten stands.written) ∙ length-verdicts_after v.written.window (all_judged (shares_of judged)) (judged_at q.version q.share) ∙ length-map q.share (λ part. record { version = q.version; part = part })

pub row_made : (q : Request) (verdicts : List Verdict) (version : ℕ) (states : List UnseenState) → version ≡ q.version → states ≡ map (reply_state_of_mark q.share verdicts) q.states → (record { version = version; states = states }) ≡ request_reply_row q verdicts
unfolding request_reply_row
row_made q verdicts version states at are = λ k. record { version = at k; states = are k }

-- ---- verdicts that were not kept

pub are_after_judged : (v : ResolverView) (q : Request) (verdicts : List Verdict) → AreVerdicts v.written (share_of q) verdicts → AreVerdictsAfterJudged v q verdicts
are_after_judged v q verdicts are judged stands = verdicts_are v judged q verdicts stands are

-- what follows from one property of the reason
pub not_kept_so : {E F : Type 0} (error : NotJudged E F) (P Q : E → Type 0) → ((reason : E) → P reason → Q reason) → IfNotKept error P → IfNotKept error Q
not_kept_so (OutOfMemory back) P Q so holds = tt
not_kept_so (NotKept reason) P Q so holds = so reason holds
