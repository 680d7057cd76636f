-- A resolver that judges a request in its turn stands for one request more.
use Rattle.std.proofs.Common.{◌≡◌, refl, sym, ap, ◌∙◌, subst, ℕ, zero, suc, ◌<◌, ◌≤◌, max, ◌⊎◌, inl, inr, List, [], ◌∷◌, ◌++◌, map, length, take, filter, Bool, true, false, ◌&&◌, cond, nat_eq, nat_lt, slice_get, slice_set, Some, append_assoc, append-nil, option_map, arith}
use Rattle.std.specs.Prelude.{Ok}
use Rattle.std.proofs.lemmas.Bool.{eq-eqb, ne_eqb, lt-ltb, ltb-true, ltb-false}
use Rattle.std.proofs.lemmas.List.{length-map, map-append, take-append-le, length-set}
use Rattle.std.proofs.lemmas.List.Elements.{filter-append}
use Rattle.std.proofs.Math.Seq.{take-append_seam}
use Rattle.std.proofs.lemmas.Option.{slice_get-map, slice_get_within}
use Rattle.model.specs.declared.reply.Reply.{Reply}
use Rattle.model.specs.declared.unseen.UnseenRow.{UnseenRow}
use Rattle.model.specs.Shares.{each_below}
use Rattle.model.specs.Journal.{least}
use Rattle.model.specs.Requests.{Request, request_verdicts, request_reply_row, request_reply_rows, request_reply, requests_of_proxy, last_request_version, request_oldest_proxy_version, remembered_requests}
use Rattle.model.specs.World.{greatest}
use Rattle.model.specs.Acknowledged.{acknowledged_requests}
use Rattle.model.specs.WriteHistories.{WriteHistoryView, ShareAt, StandsForShares, IsRisingFrom, shares_of}
use Rattle.model.specs.Offers.{replies_to, is_kept_for, kept_replies, IsInTurn, AreInTurn}
use Rattle.model.specs.ResolverMemory.{ResolverView, ProxyMemory, StandsForRequests, Judge, course, is_row_above, proxy_memory, reply_by_memory, proxy_after, reached_by_all, memory_after}
use Rattle.model.specs.Laws.Resolvers.{IsNewMemory, share_of, RowsRise, RepliesRise}
use Rattle.model.proofs.History.Growth.{push_cases}
use Rattle.model.proofs.Resolvers.Answers.{IsNext, is_next, memory_replies}
use Rattle.model.proofs.Resolvers.Remembered.{filter_on, least_rises, last_request-push, last_request_rises, told_requests_more}
use Rattle.model.proofs.Resolvers.Offers.{turns_rise}
use Rattle.model.proofs.Journals.ReplyRows.{length-each_below, slice_get-each_below}

-- ---- a new resolver

pub new_stands : (v : ResolverView) → IsNewMemory v → StandsForRequests v []
unfolding kept_replies
new_stands v new =
    record {
      in_turn = λ i q at. absurd (cc);
      version = new.version;
      forgotten = 0;
      written = new.written;
      rows = new.rows;
      proxies = new.proxies;
    }

-- ---- the requests of a proxy, with one more

own_more : (p : ℕ) (judged : List Request) (q : Request) → q.proxy ≡ p → requests_of_proxy p (judged ++ q ∷ []) ≡ requests_of_proxy p judged ++ q ∷ []
own_more p judged q own =
    let yes : nat_eq q.proxy p ≡ true = eq-eqb q.proxy p own in
    let one : requests_of_proxy p (q ∷ []) ≡ q ∷ [] = rw yes refl in
    filter-append (λ (s : Request). nat_eq s.proxy p) judged (q ∷ []) ∙ ap (λ (rest : List Request). requests_of_proxy p judged ++ rest) one

other_same : (p : ℕ) (judged : List Request) (q : Request) → (q.proxy ≡ p → ⊥) → requests_of_proxy p (judged ++ q ∷ []) ≡ requests_of_proxy p judged
other_same p judged q other =
    let no_one : nat_eq q.proxy p ≡ false = ne_eqb q.proxy p other in
    let none : requests_of_proxy p (q ∷ []) ≡ [] = rw no_one refl in
    filter-append (λ (s : Request). nat_eq s.proxy p) judged (q ∷ []) ∙ ap (λ (rest : List Request). requests_of_proxy p judged ++ rest) none ∙ append-nil (requests_of_proxy p judged)

greatest-push : (ns : List ℕ) (n : ℕ) → greatest (ns ++ n ∷ []) ≡ max (greatest ns) n
greatest-push [] n = omega arith
greatest-push (m ∷ ns) n = let rest = greatest-push ns n in omega (arith, rest)

acknowledged_more : (p : ℕ) (judged : List Request) (q : Request) → q.proxy ≡ p → acknowledged_requests p (judged ++ q ∷ []) ≡ max (acknowledged_requests p judged) q.last_received
acknowledged_more p judged q own =
    ap (λ (qs : List Request). greatest (map (λ (s : Request). s.last_received) qs)) (own_more p judged q own)
    ∙ ap greatest (map-append (λ (s : Request). s.last_received) (requests_of_proxy p judged) (q ∷ []))
    ∙ greatest-push (map (λ (s : Request). s.last_received) (requests_of_proxy p judged)) q.last_received

-- ---- bounds of requests that came in their turn

-- what is the last version
last_is : (judged : List Request) (i : ℕ) (q : Request) → slice_get judged i ≡ Some q → length judged ≡ suc i → last_request_version judged ≡ q.version
last_is [] i q at whole = absurd (cc)
last_is (s ∷ []) zero q at whole = let same : s ≡ q = cc in ap (λ (t : Request). t.version) same
last_is (s ∷ []) (suc i) q at whole = absurd (cc)
last_is (s ∷ t ∷ judged) zero q at whole = absurd (omega (arith, whole))
last_is (s ∷ t ∷ judged) (suc i) q at whole = last_is (t ∷ judged) i q at (omega (arith, whole))

last_there : (judged : List Request) (i : ℕ) → i < length judged → (j : ℕ) × (q : Request) × (slice_get judged j ≡ Some q) × (length judged ≡ suc j)
last_there [] i within = absurd (omega arith)
last_there (s ∷ []) i within = (0, s, refl, refl)
last_there (s ∷ t ∷ judged) i within = let found = last_there (t ∷ judged) 0 (omega arith) in (suc found.0, found.1, found.2, ap suc found.3)

pub up_to_last_request : (number proxies : ℕ) (judged : List Request) (i : ℕ) (q : Request) → AreInTurn number proxies judged → slice_get judged i ≡ Some q → q.version ≤ last_request_version judged
up_to_last_request number proxies judged i q turns at = by (last_there judged i (slice_get_within judged i q at))
  where
    by : (j : ℕ) × (last : Request) × (slice_get judged j ≡ Some last) × (length judged ≡ suc j) → q.version ≤ last_request_version judged
    by (j, last, there, whole) =
        let is : last_request_version judged ≡ last.version = last_is judged j last there whole in
        let within : i < length judged = slice_get_within judged i q at in
        place (nat_lt i j) refl is within
      where
        place : (t : Bool) → nat_lt i j ≡ t → last_request_version judged ≡ last.version → i < length judged → q.version ≤ last_request_version judged
        place true below is within =
            let up : q.version ≤ last.previous = turns_rise number proxies judged i j q last turns (ltb-true i j below) at there in
            let rises : last.previous < last.version = (turns j last there).version in
            omega (arith, is, up, rises)
        place false past is within =
            let here : i ≡ j = omega (arith, whole, within, le_of past) in
            let one : Some q ≡ Some last = sym at ∙ ap (slice_get judged) here ∙ there in
            let same : q ≡ last = cc in
            omega (arith, is, ap (λ (s : Request). s.version) same)
          where
            le_of : nat_lt i j ≡ false → j ≤ i
            le_of no_less = ltb-false i j no_less

-- a number that bounds each request of a list bounds what those of a proxy had received, and their last version
received_within : (bound p : ℕ) (judged : List Request) → ((i : ℕ) (q : Request) → slice_get judged i ≡ Some q → q.last_received ≤ bound) → acknowledged_requests p judged ≤ bound
received_within bound p [] each = omega arith
received_within bound p (s ∷ judged) each = by (nat_eq s.proxy p) (each 0 s refl) (received_within bound p judged (λ i q at. each (suc i) q at))
  where
    by : (t : Bool) → s.last_received ≤ bound → acknowledged_requests p judged ≤ bound → greatest (map (λ (q : Request). q.last_received) (cond t (s ∷ requests_of_proxy p judged) (requests_of_proxy p judged))) ≤ bound
    by true first rest = omega (arith, first, rest)
    by false first rest = rest

last_within : (bound p : ℕ) (judged : List Request) → ((i : ℕ) (q : Request) → slice_get judged i ≡ Some q → q.version ≤ bound) → last_request_version (requests_of_proxy p judged) ≤ bound
last_within bound p [] each = omega arith
last_within bound p (s ∷ judged) each = by (nat_eq s.proxy p) (each 0 s refl) (last_within bound p judged (λ i q at. each (suc i) q at))
  where
    first_of : (rest : List Request) → s.version ≤ bound → last_request_version rest ≤ bound → last_request_version (s ∷ rest) ≤ bound
    first_of [] first rest = first
    first_of (t ∷ later) first rest = rest

    by : (t : Bool) → s.version ≤ bound → last_request_version (requests_of_proxy p judged) ≤ bound → last_request_version (cond t (s ∷ requests_of_proxy p judged) (requests_of_proxy p judged)) ≤ bound
    by true first rest = first_of (requests_of_proxy p judged) first rest
    by false first rest = rest

acknowledged_bound : (number proxies p : ℕ) (judged : List Request) → AreInTurn number proxies judged → acknowledged_requests p judged ≤ last_request_version judged
acknowledged_bound number proxies p judged turns =
    received_within (last_request_version judged) p judged
    (λ i q at.
    let up : q.version ≤ last_request_version judged = up_to_last_request number proxies judged i q turns at in
    let rises : q.previous < q.version = (turns i q at).version in
    let had : q.last_received ≤ q.previous = (turns i q at).received in
    omega (arith, up, rises, had))

last_bound : (number proxies p : ℕ) (judged : List Request) → AreInTurn number proxies judged → last_request_version (requests_of_proxy p judged) ≤ last_request_version judged
last_bound number proxies p judged turns = last_within (last_request_version judged) p judged (λ i q at. up_to_last_request number proxies judged i q turns at)

-- ---- one request more

turns_more : (number proxies : ℕ) (judged : List Request) (q : Request) → AreInTurn number proxies judged → IsInTurn number proxies judged q → AreInTurn number proxies (judged ++ q ∷ [])
turns_more number proxies judged q turns turn i s at = by (push_cases judged q i s at)
  where
    by : ((i ≡ length judged) × (q ≡ s)) ⊎ ((i < length judged) × (slice_get judged i ≡ Some s)) → IsInTurn number proxies (take i (judged ++ q ∷ [])) s
    by (inl here) =
        let before : take i (judged ++ q ∷ []) ≡ judged = ap (λ (k : ℕ). take k (judged ++ q ∷ [])) here.0 ∙ take-append_seam judged (q ∷ []) in
        subst (λ (earlier : List Request). IsInTurn number proxies earlier s) (sym before) (subst (λ (t : Request). IsInTurn number proxies judged t) here.1 turn)
    by (inr within) =
        subst (λ (earlier : List Request). IsInTurn number proxies earlier s) (sym (take-append-le i judged (q ∷ []) (omega (arith, within.0)))) (turns i s within.1)

replies_to_append : (window : ℕ) (before xs ys : List Request) → replies_to window before (xs ++ ys) ≡ replies_to window before xs ++ replies_to window (before ++ xs) ys
replies_to_append window before [] ys = ap (λ (judged : List Request). replies_to window judged ys) (sym (append-nil before))
replies_to_append window before (q ∷ xs) ys =
    ap (λ (replies : List Reply). request_reply window before q ∷ replies)
    (replies_to_append window (before ++ q ∷ []) xs ys ∙ ap (λ (judged : List Request). replies_to window (before ++ q ∷ []) xs ++ replies_to window judged ys) (append_assoc before (q ∷ []) xs))

replies_more : (window : ℕ) (judged : List Request) (q : Request) → replies_to window [] (judged ++ q ∷ []) ≡ replies_to window [] judged ++ request_reply window judged q ∷ []
replies_more window judged q = replies_to_append window [] judged (q ∷ [])

-- of the replies that are kept for a proxy, those that it has not acknowledged by a later version either
kept_later : (p low high : ℕ) (replies : List Reply) → low ≤ high → filter (is_kept_for p high) replies ≡ filter (λ (kept : Reply). nat_lt high kept.version) (filter (is_kept_for p low) replies)
kept_later p low high [] up = refl
kept_later p low high (reply ∷ replies) up = by (nat_eq reply.proxy p) (nat_lt low reply.version) refl (nat_lt high reply.version) refl (kept_later p low high replies up)
  where
    above : Reply → Bool
    above kept = nat_lt high kept.version

    by : (own before : Bool) → nat_lt low reply.version ≡ before → (after : Bool) → nat_lt high reply.version ≡ after → filter (is_kept_for p high) replies ≡ filter above (filter (is_kept_for p low) replies)
        → cond (own && after) (reply ∷ filter (is_kept_for p high) replies) (filter (is_kept_for p high) replies) ≡ filter above (cond (own && before) (reply ∷ filter (is_kept_for p low) replies) (filter (is_kept_for p low) replies))
    by false before is_before after is_after rest = rest
    by true true is_before true is_after rest = rw is_after (ap (λ (kept : List Reply). reply ∷ kept) rest)
    by true true is_before false is_after rest = rw is_after rest
    by true false is_before true is_after rest =
        let past : high < reply.version = ltb-true high reply.version is_after in
        let yes : nat_lt low reply.version ≡ true = lt-ltb low reply.version (omega (arith, past, up)) in
        let both : true ≡ false = sym yes ∙ is_before in
        absurd (cc)
    by true false is_before false is_after rest = rest

kept_own : (window : ℕ) (judged : List Request) (q : Request) (p : ℕ) → q.proxy ≡ p → acknowledged_requests p judged < q.version → q.last_received < q.version →
    kept_replies window (judged ++ q ∷ []) p ≡ filter (λ (kept : Reply). nat_lt (max (acknowledged_requests p judged) q.last_received) kept.version) (kept_replies window judged p) ++ request_reply window judged q ∷ []
unfolding kept_replies request_reply
kept_own window judged q p own low had =
    (λ k. filter (is_kept_for p (acknowledged_more p judged q own k)) (replies_more window judged q k))
    ∙ filter-append (is_kept_for p bound) (replies_to window [] judged) (request_reply window judged q ∷ [])
    ∙ ap (λ (last : List Reply). filter (is_kept_for p bound) (replies_to window [] judged) ++ last) new
    ∙ ap (λ (kept : List Reply). kept ++ request_reply window judged q ∷ []) (kept_later p (acknowledged_requests p judged) bound (replies_to window [] judged) (omega arith))
  where
    bound : ℕ
    bound = max (acknowledged_requests p judged) q.last_received

    new : filter (is_kept_for p bound) (request_reply window judged q ∷ []) ≡ request_reply window judged q ∷ []
    new =
        let yes : nat_eq q.proxy p ≡ true = eq-eqb q.proxy p own in
        let past : nat_lt bound q.version ≡ true = lt-ltb bound q.version (omega (arith, low, had)) in
        rw (yes, past) refl

kept_other : (window : ℕ) (judged : List Request) (q : Request) (p : ℕ) → (q.proxy ≡ p → ⊥) → kept_replies window (judged ++ q ∷ []) p ≡ kept_replies window judged p
unfolding kept_replies request_reply
kept_other window judged q p other =
    (λ k. filter (is_kept_for p (greatest (map (λ (s : Request). s.last_received) (other_same p judged q other k)))) (replies_more window judged q k))
    ∙ filter-append (is_kept_for p (acknowledged_requests p judged)) (replies_to window [] judged) (request_reply window judged q ∷ [])
    ∙ ap (λ (last : List Reply). filter (is_kept_for p (acknowledged_requests p judged)) (replies_to window [] judged) ++ last) none
    ∙ append-nil (filter (is_kept_for p (acknowledged_requests p judged)) (replies_to window [] judged))
  where
    none : filter (is_kept_for p (acknowledged_requests p judged)) (request_reply window judged q ∷ []) ≡ []
    none = let no_one : nat_eq q.proxy p ≡ false = ne_eqb q.proxy p other in rw no_one refl

-- ---- lists by their places

pub set_found : {X : Type 0} (xs : List X) (i : ℕ) (x : X) (j : ℕ) (y : X) → slice_get (slice_set xs i x) j ≡ Some y → ((j ≡ i) × (y ≡ x)) ⊎ ((j ≡ i → ⊥) × (slice_get xs j ≡ Some y))
set_found [] i x j y at = absurd (cc)
set_found (z ∷ xs) zero x zero y at = let same : x ≡ y = cc in inl (refl, sym same)
set_found (z ∷ xs) zero x (suc j) y at = inr ((λ same. omega (arith, same)), at)
set_found (z ∷ xs) (suc i) x zero y at = inr ((λ same. omega (arith, same)), at)
set_found (z ∷ xs) (suc i) x (suc j) y at = by (set_found xs i x j y at)
  where
    by : ((j ≡ i) × (y ≡ x)) ⊎ ((j ≡ i → ⊥) × (slice_get xs j ≡ Some y)) → ((suc j ≡ suc i) × (y ≡ x)) ⊎ ((suc j ≡ suc i → ⊥) × (slice_get xs j ≡ Some y))
    by (inl here) = inl (ap suc here.0, here.1)
    by (inr other) = inr ((λ same. other.0 (omega (arith, same))), other.1)

same_list : {X : Type 0} (xs ys : List X) → length xs ≡ length ys → ((i : ℕ) (x : X) → slice_get xs i ≡ Some x → slice_get ys i ≡ Some x) → xs ≡ ys
same_list [] [] same each = refl
same_list [] (y ∷ ys) same each = absurd (omega (arith, same))
same_list (x ∷ xs) [] same each = absurd (omega (arith, same))
same_list (x ∷ xs) (y ∷ ys) same each =
    let first : Some y ≡ Some x = each 0 x refl in
    let head : x ≡ y = cc in
    let rest = same_list xs ys (omega (arith, same)) (λ i z at. each (suc i) z at) in
    λ k. head k ∷ rest k

mapped_at : {X Y : Type 0} (f : X → Y) (xs : List X) (i : ℕ) (y : Y) → slice_get (map f xs) i ≡ Some y → (x : X) × (slice_get xs i ≡ Some x) × (f x ≡ y)
mapped_at f [] i y at = absurd (cc)
mapped_at f (x ∷ xs) zero y at = let same : f x ≡ y = cc in (x, refl, same)
mapped_at f (x ∷ xs) (suc i) y at = mapped_at f xs i y at

-- what is computed of each element is what is computed of each place
map_places : {X Y : Type 0} (f : X → Y) (g : ℕ → Y) (xs : List X) → ((i : ℕ) (x : X) → slice_get xs i ≡ Some x → f x ≡ g i) → map f xs ≡ map g (each_below (length xs))
map_places f g xs each =
    same_list (map f xs) (map g (each_below (length xs)))
    (length-map xs f ∙ sym (length-map (each_below (length xs)) g ∙ length-each_below (length xs)))
    (λ i y at.
    let found = mapped_at f xs i y at in
    slice_get-map g (each_below (length xs)) i ∙ ap (option_map g) (slice_get-each_below (length xs) i (slice_get_within xs i found.0 found.1)) ∙ ap Some (sym (each i found.0 found.1) ∙ found.2))

-- ---- the memory after

memory_of_other : (window : ℕ) (judged : List Request) (q : Request) (p : ℕ) → (q.proxy ≡ p → ⊥) → proxy_memory window judged p ≡ proxy_memory window (judged ++ q ∷ []) p
memory_of_other window judged q p other =
    let same : requests_of_proxy p judged ≡ requests_of_proxy p (judged ++ q ∷ []) = sym (other_same p judged q other) in
    let kept : kept_replies window judged p ≡ kept_replies window (judged ++ q ∷ []) p = sym (kept_other window judged q p other) in
    λ k. record {
      last = last_request_version (same k);
      acknowledged = greatest (map (λ (s : Request). s.last_received) (same k));
      replies = kept k;
    }

memory_of_own : (window : ℕ) (judged : List Request) (q : Request) (reply : Reply) → acknowledged_requests q.proxy judged < q.version → q.last_received < q.version → reply ≡ request_reply window judged q →
    proxy_after (proxy_memory window judged q.proxy) q reply ≡ proxy_memory window (judged ++ q ∷ []) q.proxy
memory_of_own window judged q reply low had told =
    let last : q.version ≡ last_request_version (requests_of_proxy q.proxy (judged ++ q ∷ [])) = sym (ap last_request_version (own_more q.proxy judged q refl) ∙ last_request-push (requests_of_proxy q.proxy judged) q) in
    let acknowledged : max (acknowledged_requests q.proxy judged) q.last_received ≡ acknowledged_requests q.proxy (judged ++ q ∷ []) = sym (acknowledged_more q.proxy judged q refl) in
    let kept : filter (λ (kept : Reply). nat_lt (max (acknowledged_requests q.proxy judged) q.last_received) kept.version) (kept_replies window judged q.proxy) ++ reply ∷ [] ≡ kept_replies window (judged ++ q ∷ []) q.proxy =
    ap (λ (new : Reply). filter (λ (kept : Reply). nat_lt (max (acknowledged_requests q.proxy judged) q.last_received) kept.version) (kept_replies window judged q.proxy) ++ new ∷ []) told ∙ sym (kept_own window judged q q.proxy refl low had) in
    λ k. record { last = last k; acknowledged = acknowledged k; replies = kept k }

pub judging_adds : (v : ResolverView) (one : ProxyMemory) (judged : List Request) (q : Request) (written : WriteHistoryView) (forgotten : ℕ) → StandsForRequests v judged → course v q ≡ Ok Judge → slice_get v.proxies q.proxy ≡ Some one → written.window ≡ v.written.window → StandsForShares written (shares_of judged ++ share_of q ∷ []) forgotten →
    StandsForRequests (memory_after v one q (request_verdicts v.written.window judged q) written) (judged ++ q ∷ [])
judging_adds v one judged q written forgotten stands is at same_window shares =
    record {
      in_turn = subst (λ (n : ℕ). AreInTurn v.number n (judged ++ q ∷ [])) (sym as_many) (turns_more v.number (length v.proxies) judged q stands.in_turn turn);
      version = sym (last_request-push judged q);
      forgotten = forgotten;
      written = subst (λ (all : List ShareAt). StandsForShares written all forgotten) (sym (map-append share_of judged (q ∷ []))) shares;
      rows = rows;
      proxies = each;
    }
  where
    next : IsNext v q
    next = is_next v q is

    window : ℕ
    window = v.written.window

    reply : Reply
    reply = reply_by_memory v one q (request_verdicts window judged q)

    proxies : List ProxyMemory
    proxies = slice_set v.proxies q.proxy (proxy_after one q reply)

    as_many : length proxies ≡ length v.proxies
    as_many = length-set v.proxies q.proxy (proxy_after one q reply)

    chained : q.previous ≡ last_request_version judged
    chained = next.chained ∙ stands.version

    turn : IsInTurn v.number (length v.proxies) judged q
    turn = record { resolver = next.own; proxy = slice_get_within v.proxies q.proxy one at; previous = chained; version = next.above; received = next.received }

    low : acknowledged_requests q.proxy judged < q.version
    low = omega (arith, acknowledged_bound v.number (length v.proxies) q.proxy judged stands.in_turn, chained, next.above)

    had : q.last_received < q.version
    had = omega (arith, next.received, next.above)

    own : proxy_after one q reply ≡ proxy_memory window (judged ++ q ∷ []) q.proxy
    own =
        ap (λ (kept : ProxyMemory). proxy_after kept q reply) (stands.proxies q.proxy one at)
        ∙ memory_of_own window judged q reply low had (memory_replies v one judged q stands at)

    at_window : (p : ℕ) (found : ProxyMemory) → ((p ≡ q.proxy) × (found ≡ proxy_after one q reply)) ⊎ ((p ≡ q.proxy → ⊥) × (slice_get v.proxies p ≡ Some found)) → found ≡ proxy_memory window (judged ++ q ∷ []) p
    at_window p found (inl here) = here.1 ∙ own ∙ ap (proxy_memory window (judged ++ q ∷ [])) (sym here.0)
    at_window p found (inr other) = stands.proxies p found other.1 ∙ memory_of_other window judged q p (λ same. other.0 (sym same))

    each : (p : ℕ) (found : ProxyMemory) → slice_get proxies p ≡ Some found → found ≡ proxy_memory written.window (judged ++ q ∷ []) p
    each p found there = at_window p found (set_found v.proxies q.proxy (proxy_after one q reply) p found there) ∙ ap (λ (n : ℕ). proxy_memory n (judged ++ q ∷ []) p) (sym same_window)

    reached : reached_by_all proxies ≡ request_oldest_proxy_version (length proxies) (judged ++ q ∷ [])
    reached =
        ap least (map_places (λ (kept : ProxyMemory). kept.last) (λ (p : ℕ). last_request_version (requests_of_proxy p (judged ++ q ∷ []))) proxies (λ p found there. ap (λ (kept : ProxyMemory). kept.last) (each p found there)))

    oldest_rises : request_oldest_proxy_version (length v.proxies) judged ≤ request_oldest_proxy_version (length v.proxies) (judged ++ q ∷ [])
    oldest_rises =
        let up : last_request_version (requests_of_proxy q.proxy judged) ≤ q.version = omega (arith, last_bound v.number (length v.proxies) q.proxy judged stands.in_turn, chained, next.above) in
        least_rises (λ (p : ℕ). last_request_version (requests_of_proxy p judged)) (λ (p : ℕ). last_request_version (requests_of_proxy p (judged ++ q ∷ []))) (length v.proxies) (last_request_rises judged q up)

    own_row : UnseenRow
    own_row = request_reply_row q (request_verdicts window judged q)

    rows : filter (is_row_above (reached_by_all proxies)) (v.rows ++ own_row ∷ []) ≡ filter (is_row_above (request_oldest_proxy_version (length proxies) (judged ++ q ∷ []))) (request_reply_rows written.window [] (judged ++ q ∷ []))
    rows =
        (λ k. filter (is_row_above ((reached ∙ ap (λ (n : ℕ). request_oldest_proxy_version n (judged ++ q ∷ [])) as_many) k)) (stands.rows k ++ own_row ∷ []))
        ∙ sym (filter_on (λ (row : UnseenRow). row.version) (request_oldest_proxy_version (length v.proxies) judged) (request_oldest_proxy_version (length v.proxies) (judged ++ q ∷ [])) (request_reply_rows window [] judged) own_row oldest_rises)
        ∙ ap (filter (is_row_above (request_oldest_proxy_version (length v.proxies) (judged ++ q ∷ [])))) (sym (told_requests_more window judged q))
        ∙ (λ k. filter (is_row_above (request_oldest_proxy_version (sym as_many k) (judged ++ q ∷ []))) (request_reply_rows (sym same_window k) [] (judged ++ q ∷ [])))

-- ---- how many rows are kept, and their order

rows_counted : (window bound : ℕ) (before rest : List Request) → length (filter (is_row_above bound) (request_reply_rows window before rest)) ≡ length (filter (λ (q : Request). nat_lt bound q.version) rest)
unfolding request_reply_row
rows_counted window bound before [] = refl
rows_counted window bound before (q ∷ rest) = by (nat_lt bound q.version) (rows_counted window bound (before ++ q ∷ []) rest)
  where
    by : (t : Bool) → length (filter (is_row_above bound) (request_reply_rows window (before ++ q ∷ []) rest)) ≡ length (filter (λ (s : Request). nat_lt bound s.version) rest)
        → length (cond t (request_reply_row q (request_verdicts window before q) ∷ filter (is_row_above bound) (request_reply_rows window (before ++ q ∷ []) rest)) (filter (is_row_above bound) (request_reply_rows window (before ++ q ∷ []) rest)))
        ≡ length (cond t (q ∷ filter (λ (s : Request). nat_lt bound s.version) rest) (filter (λ (s : Request). nat_lt bound s.version) rest))
    by true same = ap suc same
    by false same = same

pub kept_rows_counted : (v : ResolverView) (judged : List Request) → StandsForRequests v judged → length v.rows ≡ length (remembered_requests (length v.proxies) judged)
unfolding remembered_requests
kept_rows_counted v judged stands = ap length stands.rows ∙ rows_counted v.written.window (request_oldest_proxy_version (length v.proxies) judged) [] judged

rows_from_lower : (low high : ℕ) (rows : List UnseenRow) → low ≤ high → RowsRise high rows → RowsRise low rows
rows_from_lower low high [] up rising = tt
rows_from_lower low high (row ∷ rows) up rising = (let above = rising.0 in omega (arith, above, up), rising.1)

rows_in_order : (window low bound : ℕ) (before rest : List Request) → IsRisingFrom low (shares_of rest) → RowsRise low (filter (is_row_above bound) (request_reply_rows window before rest))
unfolding request_reply_row
rows_in_order window low bound before [] rising = tt
rows_in_order window low bound before (q ∷ rest) rising = by (nat_lt bound q.version) (rows_in_order window q.version bound (before ++ q ∷ []) rest rising.1)
  where
    by : (t : Bool) → RowsRise q.version (filter (is_row_above bound) (request_reply_rows window (before ++ q ∷ []) rest))
        → RowsRise low (cond t (request_reply_row q (request_verdicts window before q) ∷ filter (is_row_above bound) (request_reply_rows window (before ++ q ∷ []) rest)) (filter (is_row_above bound) (request_reply_rows window (before ++ q ∷ []) rest)))
    by true later = (rising.0, later)
    by false later = rows_from_lower low q.version (filter (is_row_above bound) (request_reply_rows window (before ++ q ∷ []) rest)) (let above = rising.0 in omega (arith, above)) later

pub kept_rows_rise : (v : ResolverView) (judged : List Request) → StandsForRequests v judged → RowsRise 0 v.rows
kept_rows_rise v judged stands =
    subst (RowsRise 0) (sym stands.rows) (rows_in_order v.written.window 0 (request_oldest_proxy_version (length v.proxies) judged) [] judged stands.written.rising)

replies_from_lower : (low high : ℕ) (replies : List Reply) → low ≤ high → RepliesRise high replies → RepliesRise low replies
replies_from_lower low high [] up rising = tt
replies_from_lower low high (reply ∷ replies) up rising = (let above = rising.0 in omega (arith, above, up), rising.1)

replies_in_order : (window low p bound : ℕ) (before rest : List Request) → IsRisingFrom low (shares_of rest) → RepliesRise low (filter (is_kept_for p bound) (replies_to window before rest))
unfolding request_reply
replies_in_order window low p bound before [] rising = tt
replies_in_order window low p bound before (q ∷ rest) rising = by (is_kept_for p bound (request_reply window before q)) (replies_in_order window q.version p bound (before ++ q ∷ []) rest rising.1)
  where
    by : (t : Bool) → RepliesRise q.version (filter (is_kept_for p bound) (replies_to window (before ++ q ∷ []) rest))
        → RepliesRise low (cond t (request_reply window before q ∷ filter (is_kept_for p bound) (replies_to window (before ++ q ∷ []) rest)) (filter (is_kept_for p bound) (replies_to window (before ++ q ∷ []) rest)))
    by true later = (rising.0, later)
    by false later = replies_from_lower low q.version (filter (is_kept_for p bound) (replies_to window (before ++ q ∷ []) rest)) (let above = rising.0 in omega (arith, above)) later

pub kept_replies_rise : (v : ResolverView) (judged : List Request) (p : ℕ) (one : ProxyMemory) → StandsForRequests v judged → slice_get v.proxies p ≡ Some one → RepliesRise 0 one.replies
unfolding kept_replies
kept_replies_rise v judged p one stands at =
    subst (λ (kept : ProxyMemory). RepliesRise 0 kept.replies) (sym (stands.proxies p one at)) (replies_in_order v.written.window 0 p (acknowledged_requests p judged) [] judged stands.written.rising)
