-- A repeat that was given up: its row was judged, so the worker stays as it was.
use Rattle.std.proofs.Common.{◌≡◌, refl, sym, ap, ◌∙◌, subst, ℕ, ◌*◌, ◌<◌, ◌≤◌, ◌⊎◌, inl, inr, List, length, Bool, true, false, not, ◌||◌, nat_eq, nat_le, nat_lt, if◌then◌else◌, arith}
use Rattle.std.specs.Prelude.{Ok, Err, IsFalse, IsTrue}
use Rattle.std.proofs.lemmas.Bool.{cases_order, leb-true}
use Rattle.std.proofs.Math.Nat.{mul-lt-mul_of_pos_right}
use Rattle.facts.specs.Stretches.{end_of}
use Rattle.model.specs.Acknowledged.{acknowledged_requests}
use Rattle.model.specs.Configs.{Config}
use Rattle.model.specs.Offers.{OfferResult, answer_again, answer_in_order, answer_to, is_in_order, kept_replies, reply_at}
use Rattle.model.specs.Offers as offers
use Rattle.model.specs.Requests.{Request, last_request_version, request_reply}
use Rattle.agreed_ledger.specs.Cells.{ColumnView}
use Rattle.locked_resolvers.specs.Requests.{HasRowVersions}
use Rattle.locked_resolvers.specs.Resolvers.{IsLockedResolver, IsOfferRefusal, LockedResolverView, after_refusal, requests_to}
use Rattle.locked_resolvers.specs.declared.refusal.Refusal.{Refusal}
use Rattle.locked_resolvers.specs.declared.refusal.Refusal.TheVariants as refusals
use Rattle.locked_resolvers.proofs.ServedRequests.{rows_of_resolver}
use Rattle.workers.specs.Desks.{DeskView, has_failed}

abbrev same_answer : OfferResult → OfferResult → Type 0
same_answer one other = one ≡ other

-- the definition gives a request up only if it is not above the resolver's version
given_up_answer : (number proxies window : ℕ) (judged : List Request) (q : Request) (acknowledged : ℕ) → answer_to number proxies window judged q ≡ Err (offers.GivenUp acknowledged) → q.version ≤ last_request_version judged
unfolding answer_to
given_up_answer number proxies window judged q acknowledged answered = owned (nat_eq q.resolver number) answered
  where
    last : ℕ
    last = last_request_version judged

    tests : (unknown in_order passed early late : Bool) → nat_le q.version last ≡ passed → same_answer (if unknown then Err offers.NoSuchProxy
        else if not in_order then Err (offers.OutsideChain last)
        else if passed then answer_again (reply_at q.version (kept_replies window judged q.proxy)) q.version (acknowledged_requests q.proxy judged) last
        else if early then Err (offers.Early last)
        else if late then Err (offers.OutsideChain last)
        else Ok (offers.Judged (request_reply window judged q))) (Err (offers.GivenUp acknowledged)) → q.version ≤ last
    tests true in_order passed early late is same = absurd (cc)
    tests false false passed early late is same = absurd (cc)
    tests false true true early late is same = leb-true q.version last is
    tests false true false true late is same = absurd (cc)
    tests false true false false true is same = absurd (cc)
    tests false true false false false is same = absurd (cc)

    owned : (t : Bool) → same_answer (if not t then Err offers.WrongResolver
        else if nat_le proxies q.proxy then Err offers.NoSuchProxy
        else if not (is_in_order q) then Err (offers.OutsideChain last)
        else answer_in_order window judged last q) (Err (offers.GivenUp acknowledged)) → q.version ≤ last
    owned true same = tests (nat_le proxies q.proxy) (is_in_order q) (nat_le q.version last) (nat_lt last q.previous) (nat_lt q.previous last) refl same
    owned false same = absurd (cc)

-- so its row was judged
row_given_up : (config : Config) (v : LockedResolverView) (q : Request) (acknowledged : ℕ) → IsLockedResolver config v → HasRowVersions config q → IsOfferRefusal v q (refusals.GivenUp acknowledged) → q.row < length v.column
row_given_up config v q acknowledged kept versions refused = by (cases_order q.row (length v.records))
  where
    judged : List Request
    judged = requests_to config kept.stands.received v.memory.number v.records

    stepping : 1 ≤ config.step
    stepping = kept.config_is.step.0

    version : v.memory.version ≡ length v.records * config.step
    version = rows_of_resolver config v kept

    passed : q.version ≤ v.memory.version
    passed =
        let up = given_up_answer v.memory.number (length v.memory.proxies) v.memory.written.window judged q acknowledged (refused.1 judged kept.stands.requests) in
        let last = kept.stands.requests.version in
        omega (arith, up, last)

    by : (q.row ≡ length v.records) ⊎ ((q.row < length v.records) ⊎ (length v.records < q.row)) → q.row < length v.column
    by (inl next) =
        let same : q.row * config.step ≡ length v.records * config.step = ap (λ (n : ℕ). n * config.step) next in
        absurd (omega (arith, same, version, passed, stepping, versions.previous, versions.version))
    by (inr (inl below)) = let cells = kept.cells in omega (arith, below, cells)
    by (inr (inr late)) =
        let more : length v.records * config.step < q.row * config.step = mul-lt-mul_of_pos_right late (omega (arith, stepping)) in
        absurd (omega (arith, more, version, passed, stepping, versions.previous, versions.version))

-- A worker whose column has caught up with its resolver's is as open as before.
pub given_up_stays : (config : Config) (asked left : LockedResolverView) (q : Request) (refusal : Refusal) (acknowledged row : ℕ) (before after : DeskView) (column : ColumnView)
    → IsLockedResolver config asked → HasRowVersions config q → IsOfferRefusal asked q refusal → refusal ≡ refusals.GivenUp acknowledged → left ≡ after_refusal asked refusal
    → column ≡ record { resolver = left.memory.number; rows = record { first = 0; known = left.column } } → row ≡ q.row
    → (IsFalse (has_failed before) → end_of column.rows ≤ end_of before.column.rows) → (IsTrue before.closed → IsTrue after.closed)
    → (IsTrue before.wanted ⊎ (row < end_of before.column.rows) → after ≡ before) → after.closed ≡ before.closed
given_up_stays config asked left q refusal acknowledged row before after column kept versions refused is left_is column_is row_is reached closed same = by before.wanted before.closed refl refl
  where
    judged : q.row < length asked.column
    judged = row_given_up config asked q acknowledged kept versions (subst (IsOfferRefusal asked q) is refused)

    unchanged : left ≡ asked
    unchanged = left_is ∙ ap (λ (r : Refusal). after_refusal asked r) is

    whole : end_of column.rows ≡ length asked.column
    whole =
        let shown = ap (λ (c : ColumnView). end_of c.rows) column_is in
        let as_before = ap (λ (v : LockedResolverView). length v.column) unchanged in
        omega (arith, shown, as_before)

    by : (wanted shut : Bool) → before.wanted ≡ wanted → before.closed ≡ shut → after.closed ≡ before.closed
    by true shut wants is_shut = ap (λ (v : DeskView). v.closed) (same (inl wants))
    by false true wants is_shut = closed is_shut ∙ sym is_shut
    by false false wants is_shut =
        let sound : has_failed before ≡ false = (λ i. is_shut i || wants i) in
        let up = reached sound in
        ap (λ (v : DeskView). v.closed) (same (inr (omega (arith, judged, whole, up, row_is))))
