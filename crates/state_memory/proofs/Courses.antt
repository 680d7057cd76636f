-- What a resolver does with a request, test by test.
use Rattle.std.proofs.Common.{◌≡◌, refl, ap, ◌∙◌, ℕ, zero, suc, ◌<◌, ◌≤◌, true, false, nat_eq, nat_lt, nat_le, slice_get, List, [], ◌∷◌, length, get_or, sym, Option, Some, None, option_map, arith}
use Rattle.std.proofs.lemmas.List.{length-map}
use Rattle.std.proofs.lemmas.Option.{slice_get_past, slice_get-map, slice_get_read}
use Rattle.std.specs.Prelude.{Ok, Err}
use Rattle.std.proofs.lemmas.Bool.{eq-eqb, ne_eqb, lt-ltb, le-ltb, le-leb, lt-leb, and_from, and_left, and_right}
use Rattle.model.specs.Requests.{Request}
use Rattle.model.specs.Offers.{WrongResolver, NoSuchProxy, OutsideChain, Early, reply_at, is_in_order}
use Rattle.state_memory.specs.declared.proxy_memory.ProxyMemory.{ProxyMemory as Raw}
use Rattle.state_memory.specs.Kept.{kept_of, all_kept}
use Rattle.model.specs.ResolverMemory.{ResolverView, ProxyMemory, Judge, course, course_again, course_of_proxy}

pub wrong_resolver : (v : ResolverView) (q : Request) → (q.resolver ≡ v.number → ⊥) → course v q ≡ Err WrongResolver
unfolding course
wrong_resolver v q other = let apart : nat_eq q.resolver v.number ≡ false = ne_eqb q.resolver v.number other in rw apart refl

-- the resolver is right, and this is kept of the proxy
pub own_course : (v : ResolverView) (q : Request) (found : Option ProxyMemory) → q.resolver ≡ v.number → slice_get v.proxies q.proxy ≡ found → course v q ≡ course_of_proxy v.version q found
unfolding course
own_course v q found own at = let same : nat_eq q.resolver v.number ≡ true = eq-eqb q.resolver v.number own in rw same (ap (course_of_proxy v.version q) at)

-- the versions of the request are not in order
pub not_risen : (q : Request) → q.version ≤ q.previous → is_in_order q ≡ false
not_risen q down = and_left (nat_lt q.previous q.version) (nat_le q.last_received q.previous) (le-ltb q.previous q.version down)

pub received_later : (q : Request) → q.previous < q.last_received → is_in_order q ≡ false
received_later q later = and_right (nat_lt q.previous q.version) (nat_le q.last_received q.previous) (lt-leb q.last_received q.previous later)

pub in_order : (q : Request) → q.previous < q.version → q.last_received ≤ q.previous → is_in_order q ≡ true
in_order q above received = and_from (nat_lt q.previous q.version) (nat_le q.last_received q.previous) (lt-ltb q.previous q.version above) (le-leb q.last_received q.previous received)

pub out_of_order : (last : ℕ) (q : Request) (one : ProxyMemory) → is_in_order q ≡ false → course_of_proxy last q (Some one) ≡ Err (OutsideChain last)
out_of_order last q one wrong = rw wrong refl

pub repeated : (last : ℕ) (q : Request) (one : ProxyMemory) → is_in_order q ≡ true → q.version ≤ last → course_of_proxy last q (Some one) ≡ course_again (reply_at q.version one.replies) q.version one.acknowledged last
repeated last q one right passed = let old : nat_le q.version last ≡ true = le-leb q.version last passed in rw (right, old) refl

pub too_early : (last : ℕ) (q : Request) (one : ProxyMemory) → is_in_order q ≡ true → last < q.version → last < q.previous → course_of_proxy last q (Some one) ≡ Err (Early last)
too_early last q one right new early = let not_old : nat_le q.version last ≡ false = lt-leb q.version last new in let before : nat_lt last q.previous ≡ true = lt-ltb last q.previous early in rw (right, not_old, before) refl

pub passed_by : (last : ℕ) (q : Request) (one : ProxyMemory) → is_in_order q ≡ true → last < q.version → q.previous < last → course_of_proxy last q (Some one) ≡ Err (OutsideChain last)
passed_by last q one right new late =
    let not_old : nat_le q.version last ≡ false = lt-leb q.version last new in
    let not_early : nat_lt last q.previous ≡ false = le-ltb last q.previous (omega arith) in
    let after : nat_lt q.previous last ≡ true = lt-ltb q.previous last late in
    rw (right, not_old, not_early, after) refl

pub comes_next : (last : ℕ) (q : Request) (one : ProxyMemory) → is_in_order q ≡ true → last < q.version → q.previous ≡ last → course_of_proxy last q (Some one) ≡ Ok Judge
comes_next last q one right new chained =
    let not_old : nat_le q.version last ≡ false = lt-leb q.version last new in
    let not_early : nat_lt last q.previous ≡ false = le-ltb last q.previous (omega arith) in
    let not_late : nat_lt q.previous last ≡ false = le-ltb q.previous last (omega arith) in
    rw (right, not_old, not_early, not_late) refl

-- ---- the same, by the facts that the code has

pub refused_resolver : (v : ResolverView) (q : Request) (r n : ℕ) → r ≡ q.resolver → n ≡ v.number → (r ≡ n → ⊥) → course v q ≡ Err WrongResolver
refused_resolver v q r n r_is n_is other = wrong_resolver v q (λ same. other (r_is ∙ same ∙ sym n_is))

pub refused_proxy : (v : ResolverView) (q : Request) (r n p : ℕ) (raw : List Raw) → r ≡ q.resolver → n ≡ v.number → r ≡ n → p ≡ q.proxy → all_kept raw ≡ v.proxies → length raw ≤ p → course v q ≡ Err NoSuchProxy
refused_proxy v q r n p raw r_is n_is own p_is kept past =
    own_course v q None (sym r_is ∙ own ∙ n_is)
    (slice_get_past v.proxies q.proxy (omega (arith, sym (ap length kept) ∙ length-map raw kept_of, past, p_is)))

-- the request is to this resolver, from a proxy of which this is kept
pub record Known (v : ResolverView) (q : Request) (one : Raw) : Type 0 where
  pub own : q.resolver ≡ v.number
  pub at : slice_get v.proxies q.proxy ≡ Some (kept_of one)

pub known : (v : ResolverView) (q : Request) (r n p : ℕ) (raw : List Raw) (one : Raw) → r ≡ q.resolver → n ≡ v.number → r ≡ n → p ≡ q.proxy → all_kept raw ≡ v.proxies → p < length raw → one ≡ get_or raw p one → Known v q one
known v q r n p raw one r_is n_is own p_is kept within is =
    record {
      own = sym r_is ∙ own ∙ n_is;
      at = (λ k. slice_get (sym kept k) (sym p_is k)) ∙ slice_get-map kept_of raw p ∙ ap (option_map kept_of) (slice_get_read raw (length raw) p one refl within is);
    }

pub known_course : (v : ResolverView) (q : Request) (one : Raw) → Known v q one → course v q ≡ course_of_proxy v.version q (Some (kept_of one))
known_course v q one k = own_course v q (Some (kept_of one)) k.own k.at

pub known_wrong : (v : ResolverView) (q : Request) (one : Raw) (last : ℕ) → Known v q one → last ≡ v.version → is_in_order q ≡ false → course v q ≡ Err (OutsideChain last)
known_wrong v q one last k last_is wrong = known_course v q one k ∙ out_of_order v.version q (kept_of one) wrong ∙ ap (λ n. Err (OutsideChain n)) (sym last_is)

pub known_again : (v : ResolverView) (q : Request) (one : Raw) (last version : ℕ) → Known v q one → last ≡ v.version → version ≡ q.version → is_in_order q ≡ true → version ≤ last → course v q ≡ course_again (reply_at version (kept_of one).replies) version one.acknowledged last
known_again v q one last version k last_is version_is right passed =
    known_course v q one k ∙ repeated v.version q (kept_of one) right (omega (arith, last_is, version_is, passed)) ∙ (λ i. course_again (reply_at (sym version_is i) (kept_of one).replies) (sym version_is i) one.acknowledged (sym last_is i))

pub known_early : (v : ResolverView) (q : Request) (one : Raw) (last : ℕ) → Known v q one → last ≡ v.version → is_in_order q ≡ true → last < q.version → last < q.previous → course v q ≡ Err (Early last)
known_early v q one last k last_is right new early = known_course v q one k ∙ too_early v.version q (kept_of one) right (omega (arith, last_is, new)) (omega (arith, last_is, early)) ∙ ap (λ n. Err (Early n)) (sym last_is)

pub known_late : (v : ResolverView) (q : Request) (one : Raw) (last : ℕ) → Known v q one → last ≡ v.version → is_in_order q ≡ true → last < q.version → q.previous < last → course v q ≡ Err (OutsideChain last)
known_late v q one last k last_is right new late = known_course v q one k ∙ passed_by v.version q (kept_of one) right (omega (arith, last_is, new)) (omega (arith, last_is, late)) ∙ ap (λ n. Err (OutsideChain n)) (sym last_is)

pub known_next : (v : ResolverView) (q : Request) (one : Raw) (last : ℕ) → Known v q one → last ≡ v.version → is_in_order q ≡ true → last < q.version → q.previous ≡ last → course v q ≡ Ok Judge
known_next v q one last k last_is right new chained = known_course v q one k ∙ comes_next v.version q (kept_of one) right (omega (arith, last_is, new)) (omega (arith, last_is, chained))

-- ---- whether the request comes next

kept_within : (raw : List Raw) (p : ℕ) → p < length raw → (one : Raw) × (slice_get (all_kept raw) p ≡ Some (kept_of one))
kept_within [] p within = absurd (omega arith)
kept_within (one ∷ raw) zero within = (one, refl)
kept_within (one ∷ raw) (suc p) within = kept_within raw p (omega arith)

pub passes_tests : (v : ResolverView) (q : Request) (raw : List Raw) → all_kept raw ≡ v.proxies → q.resolver ≡ v.number → q.proxy < length raw → q.last_received ≤ q.previous → q.previous < q.version → q.previous ≡ v.version → course v q ≡ Ok Judge
passes_tests v q raw kept own within received above chained =
    let there = kept_within raw q.proxy within in
    own_course v q (Some (kept_of there.0)) own (ap (λ xs. slice_get xs q.proxy) (sym kept) ∙ there.1)
    ∙ comes_next v.version q (kept_of there.0) (in_order q above received) (omega (arith, above, chained)) chained
