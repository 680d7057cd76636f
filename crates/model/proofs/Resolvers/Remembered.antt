-- What a resolver remembers is enough for every proxy, and no more than one of them asks for; over records, and over requests.
use Rattle.std.proofs.Common.{◌≡◌, refl, sym, ap, ◌∙◌, subst, ℕ, zero, suc, ◌+◌, ◌<◌, ◌≤◌, ◌⊎◌, inl, inr, min, List, [], ◌∷◌, ◌++◌, map, filter, length, take, Bool, true, false, cond, nat_eq, nat_lt, slice_get, Some, append_assoc, append-nil, arith}
use Rattle.std.proofs.lemmas.Bool.{cases_order, ltb-true, lt-ltb, eqb-true}
use Rattle.std.proofs.lemmas.List.Elements.{filter-append}
use Rattle.model.specs.Configs.{Config}
use Rattle.model.specs.declared.unseen.UnseenRow.{UnseenRow}
use Rattle.model.specs.Records.{Record, IsHistory, Follows, last_version, records_of_proxy}
use Rattle.model.specs.Shares.{each_below}
use Rattle.model.specs.Journal.{VerdictSource, reply_row, is_after, unseen, least, oldest_proxy_version, remembered}
use Rattle.model.specs.Requests.{Request, request_verdicts, request_reply_row, request_reply_rows, requests_of_proxy, last_request_version, request_unseen, request_oldest_proxy_version, remembered_requests}
use Rattle.model.proofs.Members.{Has, Has-map, Has-append_cases}
use Rattle.model.proofs.History.Growth.{slice_get-push, Has-each_below, history_last, last_version-push, records_of_proxy-append}
use Rattle.model.proofs.History.Chain.{own_up_to_previous}

-- ---- the least of some numbers

least_up_to : (ns : List ℕ) (n : ℕ) → Has ns n → least ns ≤ n
least_up_to [] n has = absurd has
least_up_to (m ∷ []) n (inl same) = omega arith
least_up_to (m ∷ []) n (inr none) = absurd none
least_up_to (m ∷ k ∷ ns) n (inl same) = omega arith
least_up_to (m ∷ k ∷ ns) n (inr later) = let rest = least_up_to (k ∷ ns) n later in omega (arith, rest)

least_has : (n : ℕ) (ns : List ℕ) → Has (n ∷ ns) (least (n ∷ ns))
least_has n [] = inl refl
least_has n (m ∷ ns) = by (cases_order n (least (m ∷ ns))) (least_has m ns)
  where
    first : n ≤ least (m ∷ ns) → Has (n ∷ m ∷ ns) (min n (least (m ∷ ns)))
    first up_to = inl (let e : n ≡ min n (least (m ∷ ns)) = omega arith in e)

    by : (n ≡ least (m ∷ ns)) ⊎ ((n < least (m ∷ ns)) ⊎ (least (m ∷ ns) < n)) → Has (m ∷ ns) (least (m ∷ ns)) → Has (n ∷ m ∷ ns) (min n (least (m ∷ ns)))
    by (inl same) has = first (omega arith)
    by (inr (inl less)) has = first (omega arith)
    by (inr (inr more)) has = inr (let e : least (m ∷ ns) ≡ min n (least (m ∷ ns)) = omega arith in subst (λ (k : ℕ). Has (m ∷ ns) k) e has)

has_mapped : (f : ℕ → ℕ) (ns : List ℕ) (m : ℕ) → Has (map f ns) m → (n : ℕ) × Has ns n × (f n ≡ m)
has_mapped f [] m has = absurd has
has_mapped f (n ∷ ns) m (inl same) = (n, inl refl, same)
has_mapped f (n ∷ ns) m (inr later) = let found = has_mapped f ns m later in (found.0, inr found.1, found.2)

below_from_has : (n r : ℕ) → Has (each_below n) r → r < n
below_from_has zero r has = absurd has
below_from_has (suc n) r has = by (Has-append_cases (each_below n) (n ∷ []) r has) (below_from_has n r)
  where
    by : Has (each_below n) r ⊎ Has (n ∷ []) r → (Has (each_below n) r → r < n) → r < suc n
    by (inl sooner) rest = let below : r < n = rest sooner in omega (arith, below)
    by (inr (inl same)) rest = omega arith
    by (inr (inr none)) rest = absurd none

-- the least over the numbers below n is at or below each of them
least_of_each : (f : ℕ → ℕ) (n p : ℕ) → p < n → least (map f (each_below n)) ≤ f p
least_of_each f n p below = least_up_to (map f (each_below n)) (f p) (Has-map f (each_below n) p (Has-each_below n p below))

-- and it is one of them
least_of_one : (f : ℕ → ℕ) (n : ℕ) → 0 < n → (p : ℕ) × (p < n) × (least (map f (each_below n)) ≡ f p)
least_of_one f n some = by (map f (each_below n)) refl
  where
    first : Has (map f (each_below n)) (f 0)
    first = Has-map f (each_below n) 0 (Has-each_below n 0 some)

    by : (ns : List ℕ) → map f (each_below n) ≡ ns → (p : ℕ) × (p < n) × (least (map f (each_below n)) ≡ f p)
    by [] is = absurd (subst (λ (ns : List ℕ). Has ns (f 0)) is first)
    by (m ∷ ns) is =
        let has : Has (map f (each_below n)) (least (m ∷ ns)) = subst (λ (all : List ℕ). Has all (least (m ∷ ns))) (sym is) (least_has m ns) in
        let found = has_mapped f (each_below n) (least (m ∷ ns)) has in
        (found.0, below_from_has n found.0 found.1, ap least is ∙ sym found.2)

-- where each rises, so does the least
pub least_rises : (f g : ℕ → ℕ) (n : ℕ) → ((p : ℕ) → f p ≤ g p) → least (map f (each_below n)) ≤ least (map g (each_below n))
least_rises f g zero rises = omega arith
least_rises f g (suc n) rises =
    let one = least_of_one g (suc n) (omega arith) in
    let below : least (map f (each_below (suc n))) ≤ f one.0 = least_of_each f (suc n) one.0 one.1 in
    let up : f one.0 ≤ g one.0 = rises one.0 in
    let is : least (map g (each_below (suc n))) ≡ g one.0 = one.2 in
    omega (arith, below, up, is)

-- ---- filters

-- what passes the second test passes the first
pub filter_twice : {X : Type 0} (p q : X → Bool) (xs : List X) → ((x : X) → p x ≡ true → q x ≡ true) → filter p (filter q xs) ≡ filter p xs
filter_twice p q [] passes = refl
filter_twice {X} p q (x ∷ xs) passes = by (q x) refl (p x) refl (filter_twice p q xs passes)
  where
    by : (s : Bool) → q x ≡ s → (t : Bool) → p x ≡ t → filter p (filter q xs) ≡ filter p xs → filter p (cond s (x ∷ filter q xs) (filter q xs)) ≡ cond t (x ∷ filter p xs) (filter p xs)
    by true in_q true in_p rest = rw in_p (ap (λ ys. x ∷ ys) rest)
    by true in_q false not_p rest = rw not_p rest
    by false not_q true in_p rest = let both : true ≡ false = sym (passes x in_p) ∙ not_q in absurd (cc)
    by false not_q false not_p rest = rest

-- a list that is kept by a lesser bound goes on by a greater one
pub filter_on : {X : Type 0} (version : X → ℕ) (low high : ℕ) (xs : List X) (x : X) → low ≤ high → filter (λ (y : X). nat_lt high (version y)) (xs ++ x ∷ []) ≡ filter (λ (y : X). nat_lt high (version y)) (filter (λ (y : X). nat_lt low (version y)) xs ++ x ∷ [])
filter_on {X} version low high xs x up =
    filter-append above xs (x ∷ []) ∙ ap (λ ys. ys ++ filter above (x ∷ [])) (sym (filter_twice above from_low xs (λ y is. lt-ltb low (version y) (let past : high < version y = ltb-true high (version y) is in omega (arith, past, up)))))
    ∙ sym (filter-append above (filter from_low xs) (x ∷ []))
  where
    above : X → Bool
    above y = nat_lt high (version y)

    from_low : X → Bool
    from_low y = nat_lt low (version y)

-- ---- records

pub reached_up_to : (config : Config) (judged : List Record) (p : ℕ) → p < config.proxies → oldest_proxy_version config judged ≤ last_version (records_of_proxy p judged)
reached_up_to config judged p below = least_of_each (λ (q : ℕ). last_version (records_of_proxy q judged)) config.proxies p below

pub reached_by : (config : Config) (judged : List Record) → 0 < config.proxies → (p : ℕ) × (p < config.proxies) × (oldest_proxy_version config judged ≡ last_version (records_of_proxy p judged))
reached_by config judged some = least_of_one (λ (q : ℕ). last_version (records_of_proxy q judged)) config.proxies some

pub remembered_enough : (config : Config) (h : List Record) (i : ℕ) (rec : Record) → IsHistory config h → slice_get h i ≡ Some rec → filter (is_after rec.own_previous) (remembered config (take i h)) ≡ filter (is_after rec.own_previous) (take i h)
unfolding remembered
remembered_enough config h i rec history at =
    filter_twice (is_after rec.own_previous) (is_after (oldest_proxy_version config (take i h))) (take i h) (λ s after. lt-ltb (oldest_proxy_version config (take i h)) s.version (let past : rec.own_previous < s.version = ltb-true rec.own_previous s.version after in omega (arith, past, up_to)))
  where
    follows : Follows config (take i h) rec
    follows = history i rec at

    up_to : oldest_proxy_version config (take i h) ≤ rec.own_previous
    up_to =
        let own : rec.own_previous ≡ last_version (records_of_proxy rec.proxy (take i h)) = follows.own_previous in
        let least_one : oldest_proxy_version config (take i h) ≤ last_version (records_of_proxy rec.proxy (take i h)) = reached_up_to config (take i h) rec.proxy follows.proxy in
        omega (arith, own, least_one)

pub unseen_remembered : (config : Config) (verdict_by : VerdictSource) (h : List Record) (r i : ℕ) (rec : Record) → IsHistory config h → slice_get h i ≡ Some rec → unseen verdict_by r (remembered config (take i h)) rec ≡ unseen verdict_by r (take i h) rec
unfolding unseen
unseen_remembered config verdict_by h r i rec history at = ap (λ (records : List Record). map (reply_row verdict_by r) records) (remembered_enough config h i rec history at)

-- the last version of a proxy rises with each record
last_of_proxy_rises : (config : Config) (h : List Record) (rec : Record) → IsHistory config (h ++ rec ∷ []) → (p : ℕ) → last_version (records_of_proxy p h) ≤ last_version (records_of_proxy p (h ++ rec ∷ []))
last_of_proxy_rises config h rec history p = by (nat_eq rec.proxy p) refl
  where
    follows : Follows config h rec
    follows = history_last config h rec history

    whole : records_of_proxy p (h ++ rec ∷ []) ≡ records_of_proxy p h ++ records_of_proxy p (rec ∷ [])
    whole = records_of_proxy-append p h (rec ∷ [])

    by : (b : Bool) → nat_eq rec.proxy p ≡ b → last_version (records_of_proxy p h) ≤ last_version (records_of_proxy p (h ++ rec ∷ []))
    by true own =
        let same : rec.proxy ≡ p = eqb-true rec.proxy p own in
        let one : records_of_proxy p (rec ∷ []) ≡ rec ∷ [] = rw own refl in
        let last : last_version (records_of_proxy p (h ++ rec ∷ [])) ≡ rec.version = ap last_version (whole ∙ ap (λ (rs : List Record). records_of_proxy p h ++ rs) one) ∙ last_version-push (records_of_proxy p h) rec in
        let own_previous : rec.own_previous ≡ last_version (records_of_proxy rec.proxy h) = follows.own_previous in
        let handle_move : last_version (records_of_proxy rec.proxy h) ≡ last_version (records_of_proxy p h) = ap (λ (q : ℕ). last_version (records_of_proxy q h)) same in
        let up_to : rec.own_previous ≤ rec.previous = own_up_to_previous config (h ++ rec ∷ []) (length h) rec history (slice_get-push h rec) in
        let version : rec.version ≡ rec.previous + config.step = follows.version in
        omega (arith, last, own_previous, handle_move, up_to, version)
    by false other =
        let none : records_of_proxy p (rec ∷ []) ≡ [] = rw other refl in
        let last : last_version (records_of_proxy p (h ++ rec ∷ [])) ≡ last_version (records_of_proxy p h) = ap last_version (whole ∙ ap (λ (rs : List Record). records_of_proxy p h ++ rs) none ∙ append-nil (records_of_proxy p h)) in
        omega (arith, last)

pub remembered_more : (config : Config) (h : List Record) (rec : Record) → IsHistory config (h ++ rec ∷ []) → remembered config (h ++ rec ∷ []) ≡ filter (is_after (oldest_proxy_version config (h ++ rec ∷ []))) (remembered config h ++ rec ∷ [])
unfolding remembered
remembered_more config h rec history =
    filter_on (λ (s : Record). s.version) (oldest_proxy_version config h) (oldest_proxy_version config (h ++ rec ∷ [])) h rec
    (least_rises (λ (p : ℕ). last_version (records_of_proxy p h)) (λ (p : ℕ). last_version (records_of_proxy p (h ++ rec ∷ []))) config.proxies (last_of_proxy_rises config h rec history))

-- ---- requests

pub requests_reached_up_to : (proxies : ℕ) (judged : List Request) (p : ℕ) → p < proxies → request_oldest_proxy_version proxies judged ≤ last_request_version (requests_of_proxy p judged)
requests_reached_up_to proxies judged p below = least_of_each (λ (q : ℕ). last_request_version (requests_of_proxy q judged)) proxies p below

pub requests_reached_by : (proxies : ℕ) (judged : List Request) → 0 < proxies → (p : ℕ) × (p < proxies) × (request_oldest_proxy_version proxies judged ≡ last_request_version (requests_of_proxy p judged))
requests_reached_by proxies judged some = least_of_one (λ (q : ℕ). last_request_version (requests_of_proxy q judged)) proxies some

-- the rows above the version that every proxy has reached are enough for any request
pub request_unseen_remembered : (proxies window : ℕ) (before : List Request) (q : Request) → q.proxy < proxies →
    filter (λ (row : UnseenRow). nat_lt (last_request_version (requests_of_proxy q.proxy before)) row.version) (filter (λ (row : UnseenRow). nat_lt (request_oldest_proxy_version proxies before) row.version) (request_reply_rows window [] before)) ≡ request_unseen window before q
request_unseen_remembered proxies window before q there =
    filter_twice (λ (row : UnseenRow). nat_lt (last_request_version (requests_of_proxy q.proxy before)) row.version) (λ (row : UnseenRow). nat_lt (request_oldest_proxy_version proxies before) row.version) (request_reply_rows window [] before)
    (λ row after. lt-ltb (request_oldest_proxy_version proxies before) row.version (let past : last_request_version (requests_of_proxy q.proxy before) < row.version = ltb-true (last_request_version (requests_of_proxy q.proxy before)) row.version after in let up_to = requests_reached_up_to proxies before q.proxy there in omega (arith, past, up_to)))

pub requests_remembered_enough : (proxies : ℕ) (before : List Request) (q : Request) → q.proxy < proxies →
    filter (λ (s : Request). nat_lt (last_request_version (requests_of_proxy q.proxy before)) s.version) (remembered_requests proxies before) ≡ filter (λ (s : Request). nat_lt (last_request_version (requests_of_proxy q.proxy before)) s.version) before
unfolding remembered_requests
requests_remembered_enough proxies before q there =
    filter_twice (λ (s : Request). nat_lt (last_request_version (requests_of_proxy q.proxy before)) s.version) (λ (s : Request). nat_lt (request_oldest_proxy_version proxies before) s.version) before
    (λ s after. lt-ltb (request_oldest_proxy_version proxies before) s.version (let past : last_request_version (requests_of_proxy q.proxy before) < s.version = ltb-true (last_request_version (requests_of_proxy q.proxy before)) s.version after in let up_to = requests_reached_up_to proxies before q.proxy there in omega (arith, past, up_to)))

pub last_request-push : (judged : List Request) (q : Request) → last_request_version (judged ++ q ∷ []) ≡ q.version
last_request-push [] q = refl
last_request-push (s ∷ []) q = refl
last_request-push (s ∷ t ∷ judged) q = last_request-push (t ∷ judged) q

pub last_request_rises : (judged : List Request) (q : Request) → last_request_version (requests_of_proxy q.proxy judged) ≤ q.version → (p : ℕ) → last_request_version (requests_of_proxy p judged) ≤ last_request_version (requests_of_proxy p (judged ++ q ∷ []))
last_request_rises judged q up p = by (nat_eq q.proxy p) refl
  where
    whole : requests_of_proxy p (judged ++ q ∷ []) ≡ requests_of_proxy p judged ++ requests_of_proxy p (q ∷ [])
    whole = filter-append (λ (s : Request). nat_eq s.proxy p) judged (q ∷ [])

    by : (b : Bool) → nat_eq q.proxy p ≡ b → last_request_version (requests_of_proxy p judged) ≤ last_request_version (requests_of_proxy p (judged ++ q ∷ []))
    by true own =
        let same : q.proxy ≡ p = eqb-true q.proxy p own in
        let one : requests_of_proxy p (q ∷ []) ≡ q ∷ [] = rw own refl in
        let last : last_request_version (requests_of_proxy p (judged ++ q ∷ [])) ≡ q.version = ap last_request_version (whole ∙ ap (λ (rs : List Request). requests_of_proxy p judged ++ rs) one) ∙ last_request-push (requests_of_proxy p judged) q in
        let handle_move : last_request_version (requests_of_proxy q.proxy judged) ≡ last_request_version (requests_of_proxy p judged) = ap (λ (r : ℕ). last_request_version (requests_of_proxy r judged)) same in
        omega (arith, last, handle_move, up)
    by false other =
        let none : requests_of_proxy p (q ∷ []) ≡ [] = rw other refl in
        let last : last_request_version (requests_of_proxy p (judged ++ q ∷ [])) ≡ last_request_version (requests_of_proxy p judged) = ap last_request_version (whole ∙ ap (λ (rs : List Request). requests_of_proxy p judged ++ rs) none ∙ append-nil (requests_of_proxy p judged)) in
        omega (arith, last)

pub remembered_requests_more : (proxies : ℕ) (judged : List Request) (q : Request) → last_request_version (requests_of_proxy q.proxy judged) ≤ q.version →
    remembered_requests proxies (judged ++ q ∷ []) ≡ filter (λ (s : Request). nat_lt (request_oldest_proxy_version proxies (judged ++ q ∷ [])) s.version) (remembered_requests proxies judged ++ q ∷ [])
unfolding remembered_requests
remembered_requests_more proxies judged q up =
    filter_on (λ (s : Request). s.version) (request_oldest_proxy_version proxies judged) (request_oldest_proxy_version proxies (judged ++ q ∷ [])) judged q
    (least_rises (λ (p : ℕ). last_request_version (requests_of_proxy p judged)) (λ (p : ℕ). last_request_version (requests_of_proxy p (judged ++ q ∷ []))) proxies (last_request_rises judged q up))

-- ---- told rows, one request after another

told_requests_append : (window : ℕ) (before xs ys : List Request) → request_reply_rows window before (xs ++ ys) ≡ request_reply_rows window before xs ++ request_reply_rows window (before ++ xs) ys
told_requests_append window before [] ys = ap (λ (judged : List Request). request_reply_rows window judged ys) (sym (append-nil before))
told_requests_append window before (q ∷ xs) ys =
    ap (λ (rows : List UnseenRow). request_reply_row q (request_verdicts window before q) ∷ rows)
    (told_requests_append window (before ++ q ∷ []) xs ys ∙ ap (λ (judged : List Request). request_reply_rows window (before ++ q ∷ []) xs ++ request_reply_rows window judged ys) (append_assoc before (q ∷ []) xs))

pub told_requests_more : (window : ℕ) (before : List Request) (q : Request) → request_reply_rows window [] (before ++ q ∷ []) ≡ request_reply_rows window [] before ++ request_reply_row q (request_verdicts window before q) ∷ []
told_requests_more window before q = told_requests_append window [] before (q ∷ [])
