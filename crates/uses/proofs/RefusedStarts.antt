-- Which refusals a start never has.
use Rattle.std.proofs.Common.{◌≡◌, refl, sym, ap, ◌∙◌, subst, ℕ, ◌+◌, ◌<◌, ◌≤◌, ◌⊎◌, inl, inr, List, length, Option, Some, None, Bool, true, false, arith}
use Rattle.std.specs.Prelude.{if◌then◌else◌, not, nat_eq, nat_le, nat_lt, Ok, Err}
use Rattle.std.proofs.lemmas.Bool.{cases_order, leb-true}
use Rattle.std.proofs.lemmas.Option.{same_Some}
use Rattle.model.specs.Acknowledged.{acknowledged_requests}
use Rattle.model.specs.Configs.{Config, version_limit}
use Rattle.model.specs.Offers.{OfferResult, answer_again, answer_in_order, answer_to, is_in_order, kept_replies, reply_at}
use Rattle.model.specs.Offers.{Early, GivenUp, Judged, NoSuchProxy, OutsideChain, WrongResolver}
use Rattle.model.specs.Records.{Record, last_version}
use Rattle.model.specs.Requests.{Request, last_request_version, request_reply}
use Rattle.model.specs.Stamps.{AdmittedTransaction}
use Rattle.model.specs.declared.reply.Reply.{Reply}
use Rattle.agreed_ledger.specs.Cells.{Cells, ledger_limit}
use Rattle.agreed_ledger.specs.declared.refusal.Refusal.TheVariants as ledgers
use Rattle.locked_resolvers.specs.Asking.{IsAskAllRefusal}
use Rattle.locked_resolvers.specs.declared.refusal.Refusal.TheVariants as refusals
use Rattle.locked_cluster.specs.Begun.{BegunView, IsBegun}
use Rattle.locked_cluster.specs.Commits.{HoldsBatch, WasSequenceRefused}
use Rattle.uses.specs.Causes.{WasNotCommitted}
use Rattle.uses.specs.Starting.{IsBadCount, IsGoodCount, IsOutOfMemory, WasNotShown, WasNotShownBy, WasNotShownByTwo}
use Rattle.uses.specs.declared.refused.Refused.{Refused}
use Rattle.uses.specs.declared.refused.Refused.TheVariants.{ByCluster, ByLedger}
use Rattle.uses.proofs.AskedAll.{proxy_at}

-- ---- counts of rows

-- a ledger can have this number of rows, or cannot
pub count_cases : (rows : ℕ) → IsBadCount rows ⊎ IsGoodCount rows
count_cases rows = by (cases_order rows 0) (cases_order rows ledger_limit)
  where
    by : (rows ≡ 0) ⊎ ((rows < 0) ⊎ (0 < rows)) → (rows ≡ ledger_limit) ⊎ ((rows < ledger_limit) ⊎ (ledger_limit < rows)) → IsBadCount rows ⊎ IsGoodCount rows
    by (inl none) limit = inl (inl none)
    by (inr (inl less)) limit = absurd (omega (arith, less))
    by (inr (inr some)) (inl same) = inr (omega (arith, some), omega (arith, same))
    by (inr (inr some)) (inr (inl few)) = inr (omega (arith, some), omega (arith, few))
    by (inr (inr some)) (inr (inr many)) = inl (inr many)

-- ---- the ledger

-- no fault of a batch is `BadConfig`
never_bad : (missing full end : Bool) (rows : ℕ) → Some ledgers.BadConfig ≡ (if missing then Some ledgers.NoSuchProxy else if full then Some (ledgers.LedgerFull rows) else if end then Some ledgers.VersionsEnd else None) → ⊥
never_bad true full end rows same = cc
never_bad false true end rows same = cc
never_bad false false true rows same = cc
never_bad false false false rows same = cc

sequencer_never : (cells : Cells) (p : ℕ) → WasSequenceRefused cells p ledgers.BadConfig → ⊥
sequencer_never cells p was =
    let s = was.0 in
    never_bad (nat_le cells.config.proxies p) (nat_le (length cells.records) (length s.records)) (nat_le version_limit (last_version s.records + cells.config.step)) (length cells.records) was.2

-- ---- the resolvers

-- an answer to a request of versions in order is never that there is no such proxy
again_never : (kept : Option Reply) (version acknowledged last : ℕ) → answer_again kept version acknowledged last ≡ Err NoSuchProxy → ⊥
again_never (Some reply) version acknowledged last same = cc
again_never None version acknowledged last same = by (nat_le version acknowledged) same
  where
    told : Bool → OfferResult
    told t = if t then Err (GivenUp acknowledged) else Err (OutsideChain last)

    by : (t : Bool) → told t ≡ Err NoSuchProxy → ⊥
    by true is = cc
    by false is = cc

in_order_never : (window : ℕ) (judged : List Request) (last : ℕ) (q : Request) → answer_in_order window judged last q ≡ Err NoSuchProxy → ⊥
in_order_never window judged last q same = passed (nat_le q.version last) same
  where
    again : OfferResult
    again = answer_again (reply_at q.version (kept_replies window judged q.proxy)) q.version (acknowledged_requests q.proxy judged) last

    told_late : Bool → OfferResult
    told_late t = if t then Err (OutsideChain last) else Ok (Judged (request_reply window judged q))

    told_early : Bool → OfferResult
    told_early t = if t then Err (Early last) else told_late (nat_lt q.previous last)

    told : Bool → OfferResult
    told t = if t then again else told_early (nat_lt last q.previous)

    late : (t : Bool) → told_late t ≡ Err NoSuchProxy → ⊥
    late true is = cc
    late false is = cc

    early : (t : Bool) → told_early t ≡ Err NoSuchProxy → ⊥
    early true is = cc
    early false is = late (nat_lt q.previous last) is

    passed : (t : Bool) → told t ≡ Err NoSuchProxy → ⊥
    passed true is = again_never (reply_at q.version (kept_replies window judged q.proxy)) q.version (acknowledged_requests q.proxy judged) last is
    passed false is = early (nat_lt last q.previous) is

-- only a request of a proxy that is not there is answered so
missing_proxy : (number proxies window : ℕ) (judged : List Request) (q : Request) → answer_to number proxies window judged q ≡ Err NoSuchProxy → proxies ≤ q.proxy
unfolding answer_to
missing_proxy number proxies window judged q answered = own (nat_eq q.resolver number) answered
  where
    last : ℕ
    last = last_request_version judged

    told_order : Bool → OfferResult
    told_order t = if not t then Err (OutsideChain last) else answer_in_order window judged last q

    told_proxy : Bool → OfferResult
    told_proxy t = if t then Err NoSuchProxy else told_order (is_in_order q)

    told : Bool → OfferResult
    told t = if not t then Err WrongResolver else told_proxy (nat_le proxies q.proxy)

    ordered : (t : Bool) → told_order t ≡ Err NoSuchProxy → ⊥
    ordered true is = in_order_never window judged last q is
    ordered false is = cc

    known : (t : Bool) → nat_le proxies q.proxy ≡ t → told_proxy t ≡ Err NoSuchProxy → proxies ≤ q.proxy
    known true past is = leb-true proxies q.proxy past
    known false there is = absurd (ordered (is_in_order q) is)

    own : (t : Bool) → told t ≡ Err NoSuchProxy → proxies ≤ q.proxy
    own true is = known (nat_le proxies q.proxy) refl is
    own false is = absurd (cc)

never_asked : (cells : Cells) (whose : Option ℕ) (p : ℕ) (begun : BegunView) (batch : List AdmittedTransaction) → p < cells.config.proxies
    → IsBegun cells.config begun → HoldsBatch p begun.row begun.records batch → IsAskAllRefusal cells.config whose begun.requests refusals.NoSuchProxy
    → ⊥
never_asked cells whose p begun batch there kept holds (inl (same, foreign)) = absurd (cc)
never_asked cells whose p begun batch there kept holds (inr (taken, inl same)) = cc
never_asked cells whose p begun batch there kept holds (inr (taken, inr asked)) =
    let q = asked.1 in
    let refuses = asked.3.1 in
    let v = refuses.0 in
    let keeps = refuses.1 in
    let fault = refuses.4 in
    let stands = keeps.stands in
    let missing = missing_proxy v.memory.number (length v.memory.proxies) v.memory.written.window _ q.plain (fault.1 _ stands.requests) in
    let of = proxy_at cells.config begun asked.0 q kept asked.2 in
    let own : kept.rec.proxy ≡ p = ap (λ (rec : Record). rec.proxy) (same_Some kept.rec holds.rec (sym kept.there ∙ holds.there)) ∙ holds.own in
    let count = keeps.proxies in
    absurd (omega (arith, missing, of, own, count, there))

-- no batch of a proxy that is there is refused so
commit_never : (cells : Cells) (p : ℕ) (batch : List AdmittedTransaction) → p < cells.config.proxies → WasNotCommitted cells p batch (ByCluster refusals.NoSuchProxy) → ⊥
commit_never cells p batch there (inl begins) = begins.3.3.2
commit_never cells p batch there (inr (inl resolves)) = never_asked cells resolves.1 p resolves.0 batch there resolves.2 resolves.3 resolves.4
commit_never cells p batch there (inr (inr finishes)) = finishes.3.3

-- ---- starts

not_bad : (refused : Refused) → refused ≡ ByLedger ledgers.BadConfig → IsOutOfMemory refused → ⊥
not_bad refused is (inl same) = cc
not_bad refused is (inr same) = cc

not_alone : (refused : Refused) → refused ≡ ByCluster refusals.NoSuchProxy → IsOutOfMemory refused → ⊥
not_alone refused is (inl same) = cc
not_alone refused is (inr same) = cc

two_never_bad : (cells : Cells) (batch next_batch : List AdmittedTransaction) (refused : Refused) → refused ≡ ByLedger ledgers.BadConfig → WasNotShownByTwo cells batch next_batch refused → ⊥
two_never_bad cells batch next_batch refused is (inl memory) = not_bad refused is memory
two_never_bad cells batch next_batch refused is (inr (inl first)) = sequencer_never cells 0 (subst (WasNotCommitted cells 0 batch) is first)
two_never_bad cells batch next_batch refused is (inr (inr second)) = sequencer_never cells 1 (subst (WasNotCommitted cells 1 next_batch) is second)

two_never_alone : (cells : Cells) (batch next_batch : List AdmittedTransaction) (refused : Refused) → 1 < cells.config.proxies → refused ≡ ByCluster refusals.NoSuchProxy → WasNotShownByTwo cells batch next_batch refused → ⊥
two_never_alone cells batch next_batch refused there is (inl memory) = not_alone refused is memory
two_never_alone cells batch next_batch refused there is (inr (inl first)) = commit_never cells 0 batch (omega (arith, there)) (subst (WasNotCommitted cells 0 batch) is first)
two_never_alone cells batch next_batch refused there is (inr (inr second)) = commit_never cells 1 next_batch there (subst (WasNotCommitted cells 1 next_batch) is second)

-- `BadConfig` is told of a bad count alone
pub only_bad : (rows : ℕ) (config : Config) (batch next_batch : List AdmittedTransaction) (refused : Refused) → WasNotShown rows config batch next_batch refused → refused ≡ ByLedger ledgers.BadConfig → IsBadCount rows
only_bad rows config batch next_batch refused shown is = by (count_cases rows)
  where
    by_cells : (cells : Cells) → WasNotShownBy cells batch next_batch refused → ⊥
    by_cells cells nothing = few_or_more (cases_order cells.config.proxies 1)
      where
        alone : IsOutOfMemory refused ⊎ (refused ≡ ByCluster refusals.NoSuchProxy) → ⊥
        alone (inl memory) = not_bad refused is memory
        alone (inr same) = cc

        few_or_more : (cells.config.proxies ≡ 1) ⊎ ((cells.config.proxies < 1) ⊎ (1 < cells.config.proxies)) → ⊥
        few_or_more (inl same) = alone (nothing.0 (omega (arith, same)))
        few_or_more (inr (inl less)) = alone (nothing.0 (omega (arith, less)))
        few_or_more (inr (inr more)) = two_never_bad cells batch next_batch refused is (nothing.1 more)

    by : IsBadCount rows ⊎ IsGoodCount rows → IsBadCount rows
    by (inl bad) = bad
    by (inr good) = absurd (shown_good (shown.1 good))
      where
        shown_good : IsOutOfMemory refused ⊎ ((cells : Cells) × (cells.config ≡ config) × (length cells.records ≡ rows) × WasNotShownBy cells batch next_batch refused) → ⊥
        shown_good (inl memory) = not_bad refused is memory
        shown_good (inr nothing) = by_cells nothing.0 nothing.3

-- `NoSuchProxy` is told of a cluster without a second proxy alone
pub only_alone : (rows : ℕ) (config : Config) (batch next_batch : List AdmittedTransaction) (refused : Refused) → WasNotShown rows config batch next_batch refused → refused ≡ ByCluster refusals.NoSuchProxy → config.proxies ≤ 1
only_alone rows config batch next_batch refused shown is = by (count_cases rows)
  where
    by_cells : (cells : Cells) → cells.config ≡ config → WasNotShownBy cells batch next_batch refused → config.proxies ≤ 1
    by_cells cells same nothing = few_or_more (cases_order cells.config.proxies 1)
      where
        count : cells.config.proxies ≡ config.proxies
        count = ap (λ (c : Config). c.proxies) same

        few_or_more : (cells.config.proxies ≡ 1) ⊎ ((cells.config.proxies < 1) ⊎ (1 < cells.config.proxies)) → config.proxies ≤ 1
        few_or_more (inl one) = omega (arith, one, count)
        few_or_more (inr (inl less)) = omega (arith, less, count)
        few_or_more (inr (inr more)) = absurd (two_never_alone cells batch next_batch refused more is (nothing.1 more))

    by : IsBadCount rows ⊎ IsGoodCount rows → config.proxies ≤ 1
    by (inl bad) = let told : refused ≡ ByLedger ledgers.BadConfig = shown.0 bad in absurd (cc)
    by (inr good) = shown_good (shown.1 good)
      where
        shown_good : IsOutOfMemory refused ⊎ ((cells : Cells) × (cells.config ≡ config) × (length cells.records ≡ rows) × WasNotShownBy cells batch next_batch refused) → config.proxies ≤ 1
        shown_good (inl memory) = absurd (not_alone refused is memory)
        shown_good (inr nothing) = by_cells nothing.0 nothing.1 nothing.3
