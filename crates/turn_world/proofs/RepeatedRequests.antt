-- A request up to the last version that was judged is answered by its numbers alone.
use Rattle.std.proofs.Common.{◌≡◌, ◌∙◌, refl, sym, subst, ℕ, ◌≤◌, List, Bool, true, false, not, ◌&&◌, nat_eq, nat_lt, nat_le, Option, Some, None}
use Rattle.std.specs.Prelude.{Ok, Err, if◌then◌else◌}
use Rattle.std.proofs.lemmas.Bool.{le-leb}
use Rattle.model.specs.declared.reply.Reply.{Reply}
use Rattle.model.specs.Requests.{Request, last_request_version}
use Rattle.model.specs.Acknowledged.{acknowledged_requests}
use Rattle.model.specs.Offers.{OfferResult, WrongResolver, NoSuchProxy, OutsideChain, GivenUp, Judged, kept_replies, reply_at, answer_again, answer_to}
use Rattle.turn_world.specs.KeptRequests.{HasNumbersOf}

-- the answer by these numbers
abbrev by_numbers : (number proxies window : ℕ) (judged : List Request) (resolver proxy previous version last_received : ℕ) → OfferResult
by_numbers number proxies window judged resolver proxy previous version last_received =
    let last = last_request_version judged in
    if not (nat_eq resolver number) then Err WrongResolver
    else if nat_le proxies proxy then Err NoSuchProxy
    else if not (nat_lt previous version && nat_le last_received previous) then Err (OutsideChain last)
    else answer_again (reply_at version (kept_replies window judged proxy)) version (acknowledged_requests proxy judged) last

answered_by_numbers : (number proxies window : ℕ) (judged : List Request) (q : Request) → q.version ≤ last_request_version judged → answer_to number proxies window judged q ≡ by_numbers number proxies window judged q.resolver q.proxy q.previous q.version q.last_received
unfolding answer_to
answered_by_numbers number proxies window judged q passed = rw (le-leb q.version (last_request_version judged) passed) refl

pub repeats_alike : (number proxies window : ℕ) (judged : List Request) (sent q : Request) → HasNumbersOf sent q → sent.version ≤ last_request_version judged → answer_to number proxies window judged q ≡ answer_to number proxies window judged sent
repeats_alike number proxies window judged sent q is passed =
    answered_by_numbers number proxies window judged q (subst (λ (v : ℕ). v ≤ last_request_version judged) (sym is.version) passed)
    ∙ (λ i. by_numbers number proxies window judged (is.resolver i) (is.proxy i) (is.previous i) (is.version i) (is.last_received i))
    ∙ sym (answered_by_numbers number proxies window judged sent passed)

not_judged : (kept : Option Reply) (version acknowledged last : ℕ) (reply : Reply) → answer_again kept version acknowledged last ≡ Ok (Judged reply) → ⊥
not_judged (Some own) version acknowledged last reply is = absurd (cc)
not_judged None version acknowledged last reply is = by (nat_le version acknowledged) is
  where
    by : (given_up : Bool) → (if given_up then Err (GivenUp acknowledged) else Err (OutsideChain last)) ≡ Ok (Judged reply) → ⊥
    by true is = absurd (cc)
    by false is = absurd (cc)

pub never_judged : (number proxies window : ℕ) (judged : List Request) (q : Request) (reply : Reply) → q.version ≤ last_request_version judged → answer_to number proxies window judged q ≡ Ok (Judged reply) → ⊥
never_judged number proxies window judged q reply passed is =
    by (not (nat_eq q.resolver number)) (nat_le proxies q.proxy) (not (nat_lt q.previous q.version && nat_le q.last_received q.previous)) (sym (answered_by_numbers number proxies window judged q passed) ∙ is)
  where
    by : (other unknown unordered : Bool) → (if other then Err WrongResolver else if unknown then Err NoSuchProxy else if unordered then Err (OutsideChain (last_request_version judged)) else answer_again (reply_at q.version (kept_replies window judged q.proxy)) q.version (acknowledged_requests q.proxy judged) (last_request_version judged)) ≡ Ok (Judged reply) → ⊥
    by true unknown unordered is = absurd (cc)
    by false true unordered is = absurd (cc)
    by false false true is = absurd (cc)
    by false false false is = not_judged (reply_at q.version (kept_replies window judged q.proxy)) q.version (acknowledged_requests q.proxy judged) (last_request_version judged) reply is
