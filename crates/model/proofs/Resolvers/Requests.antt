-- What a resolver makes of the requests alone is what it says and tells of their records.
use Rattle.std.proofs.Common.{◌≡◌, refl, sym, ap, ◌∙◌, ℕ, zero, suc, ◌+◌, ◌<◌, List, [], ◌∷◌, ◌++◌, map, flat_map, length, take, filter, Bool, true, false, cond, nat_eq, nat_lt, ◌||◌, if◌then◌else◌, slice_get, Some, append-nil, arith}
use Rattle.std.specs.List.{list_any}
use Rattle.std.proofs.lemmas.List.{length-take-le, map-append}
use Rattle.std.proofs.lemmas.Option.{slice_get_within}
use Rattle.model.specs.Configs.{Config}
use Rattle.model.specs.declared.unseen.UnseenRow.{UnseenRow}
use Rattle.model.specs.Transactions.{StampedTransaction, is_state_transaction, all_reads}
use Rattle.model.specs.Owners.{asks_read, asks_write}
use Rattle.model.specs.Records.{Record, oldest, IsHistory, Follows, last_version, records_of_proxy}
use Rattle.model.specs.Shares.{share, share_back_to, asks, read_bound}
use Rattle.model.specs.Verdicts.{JudgedPart, judged_at, verdicts_after, judged_before, share_verdicts}
use Rattle.model.specs.Journal.{VerdictSource, history_verdicts, verdict_or_conflict, carried_to, reply_states_from, reply_row, is_after, unseen, least, oldest_proxy_version, remembered}
use Rattle.model.specs.Requests.{Request, request, request_back_to, marks_from, judged_of, request_verdicts, reply_state_of_mark, request_reply_row, request_reply_rows, requests_of_proxy, last_request_version, request_unseen, request_reply, request_oldest_proxy_version, remembered_requests}
use Rattle.model.specs.World.{reply_of}
use Rattle.model.proofs.Verdicts.Places.{slice_get-take}
use Rattle.model.proofs.Shares.Askers.{share_verdicts_are, verdict_at_asker, map-each_below}

-- the requests for some records to resolver r
abbrev pub requests_for : Config → (Record → ℕ) → ℕ → List Record → List Request
requests_for config received r records = map (λ (rec : Record). request config rec (received rec) r) records

judged_of_requests : (config : Config) (received : Record → ℕ) (r : ℕ) (before : List Record) → judged_of (requests_for config received r before) ≡ flat_map (λ (s : Record). judged_at s.version (share config s r)) before
unfolding request_back_to
judged_of_requests config received r [] = refl
judged_of_requests config received r (rec ∷ before) = ap (λ (later : List JudgedPart). judged_at rec.version (share config rec r) ++ later) (judged_of_requests config received r before)

pub request_verdicts_are : (config : Config) (received : Record → ℕ) (r : ℕ) (before : List Record) (rec : Record) →
    request_verdicts config.window (requests_for config received r before) (request config rec (received rec) r) ≡ share_verdicts config r before rec
unfolding request_verdicts request_back_to share_verdicts judged_before
request_verdicts_are config received r before rec =
    ap (λ (judged : List JudgedPart). verdicts_after config.window judged (judged_at rec.version (share config rec r)))
    (judged_of_requests config received r before ∙ sym (append-nil (flat_map (λ (s : Record). judged_at s.version (share config s r)) before)))

state_asks : (config : Config) (rec : Record) (r : ℕ) (t : StampedTransaction) → is_state_transaction t ≡ true → asks config rec r t ≡ true
state_asks config rec r t is = ap (λ (b : Bool). b || list_any (asks_read rec.moves (read_bound (oldest config rec) t) r) (all_reads t) || list_any (asks_write rec.moves r) t.writes) is

verdict_here : (config : Config) (h : List Record) (r i n : ℕ) (rec : Record) (t : StampedTransaction) → slice_get h i ≡ Some rec → slice_get rec.batch n ≡ Some t → asks config rec r t ≡ true →
    verdict_or_conflict (share config rec r) (share_verdicts config r (take i h) rec) n ≡ history_verdicts config h r i n
unfolding history_verdicts share_back_to
verdict_here config h r i n rec t at there asking =
    rw (at, there, share_verdicts_are config r (take i h) rec) (verdict_at_asker config r (take i h) rec [] rec.batch 0 n n t refl (omega arith) there asking)

place : (config : Config) (h : List Record) (i : ℕ) (rec : Record) → IsHistory config h → slice_get h i ≡ Some rec → rec.row ≡ i
place config h i rec chain at =
    let within : i < length h = slice_get_within h i rec at in
    let follows : Follows config (take i h) rec = chain i rec at in
    follows.row ∙ length-take-le i h (omega arith)

marks_told : (config : Config) (h : List Record) (r i : ℕ) (rec : Record) → slice_get h i ≡ Some rec → rec.row ≡ i → (n : ℕ) (ts : List StampedTransaction) → ((k : ℕ) (t : StampedTransaction) → slice_get ts k ≡ Some t → slice_get rec.batch (n + k) ≡ Some t) →
    map (reply_state_of_mark (share config rec r) (share_verdicts config r (take i h) rec)) (marks_from r n ts) ≡ reply_states_from (history_verdicts config h) r rec n ts
marks_told config h r i rec at row n [] here = refl
marks_told config h r i rec at row n (t ∷ ts) here = by (is_state_transaction t) refl (marks_told config h r i rec at row (suc n) ts later)
  where
    later : (k : ℕ) (u : StampedTransaction) → slice_get ts k ≡ Some u → slice_get rec.batch (suc n + k) ≡ Some u
    later k u there = let same : suc n + k ≡ n + suc k = omega arith in rw same (here (suc k) u there)

    first : slice_get rec.batch n ≡ Some t
    first = let same : n + 0 ≡ n = omega arith in rw same at (here 0 t refl)

    by : (b : Bool) → is_state_transaction t ≡ b
        → map (reply_state_of_mark (share config rec r) (share_verdicts config r (take i h) rec)) (marks_from r (suc n) ts) ≡ reply_states_from (history_verdicts config h) r rec (suc n) ts
        → map (reply_state_of_mark (share config rec r) (share_verdicts config r (take i h) rec)) (if b then (record { number = n; carried = carried_to r t }) ∷ marks_from r (suc n) ts else marks_from r (suc n) ts)
        ≡ (if b then (record { verdict = history_verdicts config h r rec.row n; carried = carried_to r t }) ∷ reply_states_from (history_verdicts config h) r rec (suc n) ts else reply_states_from (history_verdicts config h) r rec (suc n) ts)
    by true is rest =
        let said : verdict_or_conflict (share config rec r) (share_verdicts config r (take i h) rec) n ≡ history_verdicts config h r rec.row n =
        verdict_here config h r i n rec t at first (state_asks config rec r t is) ∙ ap (λ (k : ℕ). history_verdicts config h r k n) (sym row) in
        λ j. (record { verdict = said j; carried = carried_to r t }) ∷ rest j
    by false is rest = rest

pub request_row_is : (config : Config) (h : List Record) (r i received : ℕ) (rec : Record) → IsHistory config h → slice_get h i ≡ Some rec →
    request_reply_row (request config rec received r) (share_verdicts config r (take i h) rec) ≡ reply_row (history_verdicts config h) r rec
unfolding request_reply_row request_back_to reply_row
request_row_is config h r i received rec chain at =
    λ j. record { version = rec.version; states = marks_told config h r i rec at (place config h i rec chain at) 0 rec.batch (λ k t there. let same : 0 + k ≡ k = omega arith in rw same there) j }

-- ---- replies

pub take_suc : {X : Type 0} (xs : List X) (k : ℕ) (x : X) → slice_get xs k ≡ Some x → take k xs ++ x ∷ [] ≡ take (suc k) xs
take_suc [] k x at = absurd (cc)
take_suc (y ∷ ys) zero x at = let same : y ≡ x = cc in ap (λ z. z ∷ []) (sym same)
take_suc (y ∷ ys) (suc k) x at = ap (λ zs. y ∷ zs) (take_suc ys k x at)

-- the rows of the requests are those of the records, from place k of the history on
pub told_requests_are : (config : Config) (received : Record → ℕ) (h : List Record) (r k : ℕ) (rest : List Record) → IsHistory config h → ((j : ℕ) (s : Record) → slice_get rest j ≡ Some s → slice_get h (k + j) ≡ Some s) →
    request_reply_rows config.window (requests_for config received r (take k h)) (requests_for config received r rest) ≡ map (reply_row (history_verdicts config h) r) rest
told_requests_are config received h r k [] chain there = refl
told_requests_are config received h r k (s ∷ rest) chain there =
    let same : k + 0 ≡ k = omega arith in
    let here : slice_get h k ≡ Some s = rw same at (there 0 s refl) in
    let own : request_reply_row (request config s (received s) r) (request_verdicts config.window (requests_for config received r (take k h)) (request config s (received s) r)) ≡ reply_row (history_verdicts config h) r s =
    ap (request_reply_row (request config s (received s) r)) (request_verdicts_are config received r (take k h) s) ∙ request_row_is config h r k (received s) s chain here in
    let more : requests_for config received r (take k h) ++ request config s (received s) r ∷ [] ≡ requests_for config received r (take (suc k) h) =
    sym (map-append (λ (rec : Record). request config rec (received rec) r) (take k h) (s ∷ [])) ∙ ap (requests_for config received r) (take_suc h k s here) in
    let later = told_requests_are config received h r (suc k) rest chain (λ j u is. let goes_on : suc k + j ≡ k + suc j = omega arith in rw goes_on (there (suc j) u is)) in
    λ i. own i ∷ (ap (λ (before : List Request). request_reply_rows config.window before (requests_for config received r rest)) more ∙ later) i

pub told_after : (verdict_by : VerdictSource) (r version : ℕ) (h : List Record) → filter (λ (row : UnseenRow). nat_lt version row.version) (map (reply_row verdict_by r) h) ≡ map (reply_row verdict_by r) (filter (is_after version) h)
unfolding reply_row
told_after verdict_by r version [] = refl
told_after verdict_by r version (s ∷ h) = by (nat_lt version s.version) (told_after verdict_by r version h)
  where
    by : (b : Bool) → filter (λ (row : UnseenRow). nat_lt version row.version) (map (reply_row verdict_by r) h) ≡ map (reply_row verdict_by r) (filter (is_after version) h)
        → cond b (reply_row verdict_by r s ∷ filter (λ (row : UnseenRow). nat_lt version row.version) (map (reply_row verdict_by r) h)) (filter (λ (row : UnseenRow). nat_lt version row.version) (map (reply_row verdict_by r) h)) ≡ map (reply_row verdict_by r) (cond b (s ∷ filter (is_after version) h) (filter (is_after version) h))
    by true rest = ap (λ (rows : List UnseenRow). reply_row verdict_by r s ∷ rows) rest
    by false rest = rest

pub requests_of : (config : Config) (received : Record → ℕ) (r p : ℕ) (h : List Record) → requests_of_proxy p (requests_for config received r h) ≡ requests_for config received r (records_of_proxy p h)
unfolding request_back_to
requests_of config received r p [] = refl
requests_of config received r p (s ∷ h) = by (nat_eq s.proxy p) (requests_of config received r p h)
  where
    by : (b : Bool) → requests_of_proxy p (requests_for config received r h) ≡ requests_for config received r (records_of_proxy p h)
        → cond b (request config s (received s) r ∷ requests_of_proxy p (requests_for config received r h)) (requests_of_proxy p (requests_for config received r h)) ≡ requests_for config received r (if b then s ∷ records_of_proxy p h else records_of_proxy p h)
    by true rest = ap (λ (qs : List Request). request config s (received s) r ∷ qs) rest
    by false rest = rest

pub last_of_requests : (config : Config) (received : Record → ℕ) (r : ℕ) (h : List Record) → last_request_version (requests_for config received r h) ≡ last_version h
unfolding request_back_to
last_of_requests config received r [] = refl
last_of_requests config received r (s ∷ []) = refl
last_of_requests config received r (s ∷ t ∷ h) = last_of_requests config received r (t ∷ h)

pub last_of_proxy : (config : Config) (received : Record → ℕ) (r p : ℕ) (h : List Record) → last_request_version (requests_of_proxy p (requests_for config received r h)) ≡ last_version (records_of_proxy p h)
last_of_proxy config received r p h = ap last_request_version (requests_of config received r p h) ∙ last_of_requests config received r (records_of_proxy p h)

unseen_is : (config : Config) (received : Record → ℕ) (h : List Record) (r i : ℕ) (rec : Record) → IsHistory config h → slice_get h i ≡ Some rec →
    request_unseen config.window (requests_for config received r (take i h)) (request config rec (received rec) r) ≡ unseen (history_verdicts config h) r (take i h) rec
unfolding unseen request_back_to
unseen_is config received h r i rec chain at =
    let previous : last_request_version (requests_of_proxy rec.proxy (requests_for config received r (take i h))) ≡ rec.own_previous = last_of_proxy config received r rec.proxy (take i h) ∙ sym (chain i rec at).own_previous in
    let rows : request_reply_rows config.window [] (requests_for config received r (take i h)) ≡ map (reply_row (history_verdicts config h) r) (take i h) = told_requests_are config received h r 0 (take i h) chain (λ j s is. let same : 0 + j ≡ j = omega arith in rw same (slice_get-take h i j s is).1) in
    (λ k. filter (λ (row : UnseenRow). nat_lt (previous k) row.version) (rows k)) ∙ told_after (history_verdicts config h) r rec.own_previous (take i h)

pub request_reply_is : (config : Config) (received : Record → ℕ) (h : List Record) (r i : ℕ) (rec : Record) → IsHistory config h → slice_get h i ≡ Some rec →
    request_reply config.window (requests_for config received r (take i h)) (request config rec (received rec) r) ≡ reply_of config (history_verdicts config h) r (take i h) rec
unfolding request_reply request_back_to
request_reply_is config received h r i rec chain at =
    let verdicts = request_verdicts_are config received r (take i h) rec in
    let rows = unseen_is config received h r i rec chain at in
    λ k. record { resolver = r; proxy = rec.proxy; row = rec.row; version = rec.version; verdicts = verdicts k; unseen = rows k }

-- ---- what is remembered

requests_after : (config : Config) (received : Record → ℕ) (r version : ℕ) (h : List Record) → filter (λ (q : Request). nat_lt version q.version) (requests_for config received r h) ≡ requests_for config received r (filter (is_after version) h)
unfolding request_back_to
requests_after config received r version [] = refl
requests_after config received r version (s ∷ h) = by (nat_lt version s.version) (requests_after config received r version h)
  where
    by : (b : Bool) → filter (λ (q : Request). nat_lt version q.version) (requests_for config received r h) ≡ requests_for config received r (filter (is_after version) h)
        → cond b (request config s (received s) r ∷ filter (λ (q : Request). nat_lt version q.version) (requests_for config received r h)) (filter (λ (q : Request). nat_lt version q.version) (requests_for config received r h)) ≡ requests_for config received r (cond b (s ∷ filter (is_after version) h) (filter (is_after version) h))
    by true rest = ap (λ (qs : List Request). request config s (received s) r ∷ qs) rest
    by false rest = rest

pub oldest_of_requests : (config : Config) (received : Record → ℕ) (r : ℕ) (judged : List Record) → request_oldest_proxy_version config.proxies (requests_for config received r judged) ≡ oldest_proxy_version config judged
oldest_of_requests config received r judged =
    ap least (map-each_below (λ (p : ℕ). last_request_version (requests_of_proxy p (requests_for config received r judged))) (λ (p : ℕ). last_version (records_of_proxy p judged)) config.proxies (λ p within. last_of_proxy config received r p judged))

pub remembered_requests_are : (config : Config) (received : Record → ℕ) (r : ℕ) (judged : List Record) → remembered_requests config.proxies (requests_for config received r judged) ≡ requests_for config received r (remembered config judged)
unfolding remembered_requests remembered
remembered_requests_are config received r judged =
    ap (λ (version : ℕ). filter (λ (q : Request). nat_lt version q.version) (requests_for config received r judged)) (oldest_of_requests config received r judged) ∙ requests_after config received r (oldest_proxy_version config judged) judged
