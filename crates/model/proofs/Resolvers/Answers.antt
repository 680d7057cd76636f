-- What a resolver keeps gives the answer and the reply that the requests give.
use Rattle.std.proofs.Common.{◌≡◌, refl, sym, ap, ◌∙◌, ℕ, zero, suc, ◌<◌, ◌≤◌, List, [], ◌∷◌, ◌++◌, length, filter, Bool, true, false, not, nat_eq, nat_le, nat_lt, if◌then◌else◌, slice_get, Option, Some, None, arith}
use Rattle.std.specs.Prelude.{Ok, Err}
use Rattle.std.proofs.lemmas.Bool.{ltb-true, leb-true, leb-false, ltb-false, eqb-true, and_parts}
use Rattle.std.proofs.lemmas.Option.{slice_get_within}
use Rattle.model.specs.declared.reply.Reply.{Reply}
use Rattle.model.specs.declared.unseen.UnseenRow.{UnseenRow}
use Rattle.model.specs.Verdicts.{JudgedPart, judged_at, verdicts_after}
use Rattle.model.specs.Requests.{Request, judged_of, request_verdicts, request_reply, request_unseen}
use Rattle.model.specs.Acknowledged.{acknowledged_requests}
use Rattle.model.specs.WriteHistories.{all_judged, shares_of}
use Rattle.model.specs.Offers.{Judged, OutsideChain, GivenUp, Early, WrongResolver, NoSuchProxy, kept_replies, reply_at, answer_again, answer_in_order, is_in_order, answer_to}
use Rattle.model.specs.ResolverMemory.{ResolverView, ProxyMemory, StandsForRequests, Judge, course, course_again, course_of_proxy, proxy_memory, reply_by_memory, is_row_above}
use Rattle.model.specs.Laws.Resolvers.{answer_on_course}
use Rattle.model.proofs.Resolvers.Remembered.{request_unseen_remembered}

-- ---- the answer

-- the tests that both make give the same answer
same_course : (reply : Reply) (kept : Option Reply) (version acknowledged last : ℕ) → answer_again kept version acknowledged last ≡ answer_on_course reply (course_again kept version acknowledged last)
same_course reply (Some one) version acknowledged last = refl
same_course reply None version acknowledged last = by (nat_le version acknowledged)
  where
    by : (t : Bool) → (if t then Err (GivenUp acknowledged) else Err (OutsideChain last)) ≡ answer_on_course reply (if t then Err (GivenUp acknowledged) else Err (OutsideChain last))
    by true = refl
    by false = refl

same_tests : (window : ℕ) (judged : List Request) (q : Request) (kept : Option Reply) (acknowledged last : ℕ) (in_order passed early late : Bool) → let reply : Reply = request_reply window judged q in
    (if not in_order then Err (OutsideChain last) else if passed then answer_again kept q.version acknowledged last else if early then Err (Early last) else if late then Err (OutsideChain last) else Ok (Judged reply))
    ≡ answer_on_course reply (if not in_order then Err (OutsideChain last) else if passed then course_again kept q.version acknowledged last else if early then Err (Early last) else if late then Err (OutsideChain last) else Ok Judge)
same_tests window judged q kept acknowledged last false passed early late = refl
same_tests window judged q kept acknowledged last true true early late = same_course (request_reply window judged q) kept q.version acknowledged last
same_tests window judged q kept acknowledged last true false true late = refl
same_tests window judged q kept acknowledged last true false false true = refl
same_tests window judged q kept acknowledged last true false false false = refl

-- where the resolver has such a proxy
known_course : (window : ℕ) (judged : List Request) (q : Request) (last : ℕ) (one : ProxyMemory) → one ≡ proxy_memory window judged q.proxy →
    (if not (is_in_order q) then Err (OutsideChain last) else answer_in_order window judged last q) ≡ answer_on_course (request_reply window judged q) (course_of_proxy last q (Some one))
known_course window judged q last one is =
    same_tests window judged q (reply_at q.version (kept_replies window judged q.proxy)) (acknowledged_requests q.proxy judged) last (is_in_order q) (nat_le q.version last) (nat_lt last q.previous) (nat_lt q.previous last)
    ∙ ap (λ (kept : ProxyMemory). answer_on_course (request_reply window judged q) (course_of_proxy last q (Some kept))) (sym is)

pub memory_answers : (v : ResolverView) (judged : List Request) (q : Request) → StandsForRequests v judged →
    answer_to v.number (length v.proxies) v.written.window judged q ≡ answer_on_course (request_reply v.written.window judged q) (course v q)
unfolding answer_to course
memory_answers v judged q stands =
    ap (λ (last : ℕ). if not (nat_eq q.resolver v.number) then Err WrongResolver else if nat_le (length v.proxies) q.proxy then Err NoSuchProxy else if not (is_in_order q) then Err (OutsideChain last) else answer_in_order v.written.window judged last q) (sym stands.version)
    ∙ owned (nat_eq q.resolver v.number)
  where
    found : (place : Option ProxyMemory) → slice_get v.proxies q.proxy ≡ place → (t : Bool) → nat_le (length v.proxies) q.proxy ≡ t →
        (if t then Err NoSuchProxy else if not (is_in_order q) then Err (OutsideChain v.version) else answer_in_order v.written.window judged v.version q)
        ≡ answer_on_course (request_reply v.written.window judged q) (course_of_proxy v.version q place)
    found None at true past = refl
    found None at false within =
        let below : q.proxy < length v.proxies = leb-false (length v.proxies) q.proxy within in
        absurd (get_within v.proxies q.proxy below at)
      where
        get_within : (xs : List ProxyMemory) (i : ℕ) → i < length xs → slice_get xs i ≡ None → ⊥
        get_within [] i below none = omega (arith, below)
        get_within (x ∷ xs) zero below none = absurd (cc)
        get_within (x ∷ xs) (suc i) below none = get_within xs i (omega (arith, below)) none
    found (Some one) at true past = absurd (omega (arith, slice_get_within v.proxies q.proxy one at, leb-true (length v.proxies) q.proxy past))
    found (Some one) at false within = known_course v.written.window judged q v.version one (stands.proxies q.proxy one at)

    owned : (t : Bool) →
        (if not t then Err WrongResolver else if nat_le (length v.proxies) q.proxy then Err NoSuchProxy else if not (is_in_order q) then Err (OutsideChain v.version) else answer_in_order v.written.window judged v.version q)
        ≡ answer_on_course (request_reply v.written.window judged q) (if not t then Err WrongResolver else course_of_proxy v.version q (slice_get v.proxies q.proxy))
    owned true = found (slice_get v.proxies q.proxy) refl (nat_le (length v.proxies) q.proxy) refl
    owned false = refl

-- ---- the reply

judged_of_shares : (requests : List Request) → all_judged (shares_of requests) ≡ judged_of requests
judged_of_shares [] = refl
judged_of_shares (q ∷ requests) = ap (λ (later : List JudgedPart). judged_at q.version q.share ++ later) (judged_of_shares requests)

pub verdicts_of_shares : (window : ℕ) (judged : List Request) (q : Request) → verdicts_after window (all_judged (shares_of judged)) (judged_at q.version q.share) ≡ request_verdicts window judged q
unfolding request_verdicts
verdicts_of_shares window judged q = ap (λ (parts : List JudgedPart). verdicts_after window parts (judged_at q.version q.share)) (judged_of_shares judged)

pub memory_replies : (v : ResolverView) (one : ProxyMemory) (judged : List Request) (q : Request) → StandsForRequests v judged → slice_get v.proxies q.proxy ≡ Some one →
    reply_by_memory v one q (request_verdicts v.written.window judged q) ≡ request_reply v.written.window judged q
unfolding request_reply
memory_replies v one judged q stands at =
    let is : one ≡ proxy_memory v.written.window judged q.proxy = stands.proxies q.proxy one at in
    let within : q.proxy < length v.proxies = slice_get_within v.proxies q.proxy one at in
    let rows : filter (is_row_above one.last) v.rows ≡ request_unseen v.written.window judged q =
    (λ k. filter (is_row_above (is k).last) (stands.rows k)) ∙ request_unseen_remembered (length v.proxies) v.written.window judged q within in
    ap (λ (unseen : List UnseenRow). let reply : Reply = record { resolver = q.resolver; proxy = q.proxy; row = q.row; version = q.version; verdicts = request_verdicts v.written.window judged q; unseen = unseen } in reply) rows

-- ---- a request that is judged

-- what holds of a request that a resolver judges
pub record IsNext (v : ResolverView) (q : Request) : Type 0 where
  pub own : q.resolver ≡ v.number
  pub one : ProxyMemory
  pub there : slice_get v.proxies q.proxy ≡ Some one
  pub above : q.previous < q.version
  pub received : q.last_received ≤ q.previous
  pub chained : q.previous ≡ v.version

-- a repeat is not judged
again_not_judged : (kept : Option Reply) (version acknowledged last : ℕ) → course_again kept version acknowledged last ≡ Ok Judge → ⊥
again_not_judged (Some reply) version acknowledged last is = cc
again_not_judged None version acknowledged last is = by (nat_le version acknowledged) is
  where
    by : (t : Bool) → (if t then Err (GivenUp acknowledged) else Err (OutsideChain last)) ≡ Ok Judge → ⊥
    by true same = cc
    by false same = cc

pub is_next : (v : ResolverView) (q : Request) → course v q ≡ Ok Judge → IsNext v q
unfolding course
is_next v q is = owned (nat_eq q.resolver v.number) refl is
  where
    tests : (one : ProxyMemory) → slice_get v.proxies q.proxy ≡ Some one → q.resolver ≡ v.number → (in_order passed early late : Bool) → is_in_order q ≡ in_order → nat_lt v.version q.previous ≡ early → nat_lt q.previous v.version ≡ late →
        (if not in_order then Err (OutsideChain v.version) else if passed then course_again (reply_at q.version one.replies) q.version one.acknowledged v.version else if early then Err (Early v.version) else if late then Err (OutsideChain v.version) else Ok Judge) ≡ Ok Judge → IsNext v q
    tests one at own false passed early late first second third same = absurd (cc)
    tests one at own true true early late first second third same = absurd (again_not_judged (reply_at q.version one.replies) q.version one.acknowledged v.version same)
    tests one at own true false true late first second third same = absurd (cc)
    tests one at own true false false true first second third same = absurd (cc)
    tests one at own true false false false first second third same =
        let both = and_parts (nat_lt q.previous q.version) (nat_le q.last_received q.previous) first in
        record {
          own = own;
          one = one;
          there = at;
          above = ltb-true q.previous q.version both.0;
          received = leb-true q.last_received q.previous both.1;
          chained = omega (arith, ltb-false v.version q.previous second, ltb-false q.previous v.version third);
        }

    found : q.resolver ≡ v.number → (place : Option ProxyMemory) → slice_get v.proxies q.proxy ≡ place → course_of_proxy v.version q place ≡ Ok Judge → IsNext v q
    found own None at same = absurd (cc)
    found own (Some one) at same = tests one at own (is_in_order q) (nat_le q.version v.version) (nat_lt v.version q.previous) (nat_lt q.previous v.version) refl refl refl same

    owned : (t : Bool) → nat_eq q.resolver v.number ≡ t → (if not t then Err WrongResolver else course_of_proxy v.version q (slice_get v.proxies q.proxy)) ≡ Ok Judge → IsNext v q
    owned true own same = found (eqb-true q.resolver v.number own) (slice_get v.proxies q.proxy) refl same
    owned false own same = absurd (cc)
