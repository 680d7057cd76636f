-- When replies agree on rows: on one list at most, and exactly if they disagree at no version.
use Rattle.std.proofs.Common.{◌≡◌, refl, sym, ap, ◌∙◌, subst, ℕ, zero, suc, ◌+◌, ◌*◌, ◌<◌, ◌≤◌, inl, inr, List, [], ◌∷◌, ◌++◌, map, length, filter, Bool, true, false, ◌&&◌, not, if◌then◌else◌, nat_eq, nat_le, slice_get, Option, Some, None, option_map, unwrap_or, is_some, arith}
use Rattle.std.proofs.Math.Nat.{suc-mul}
use Rattle.std.proofs.lemmas.Bool.{and_from, and_parts, eqb-true, eq-eqb, le-leb}
use Rattle.std.proofs.lemmas.List.{length-map}
use Rattle.std.proofs.lemmas.Option.{slice_get-map, slice_get_within}
use Rattle.std.specs.List.{list_all}
use Rattle.model.specs.Configs.{Config}
use Rattle.model.specs.declared.verdict.Verdict.{Verdict}
use Rattle.model.specs.declared.verdict.Verdict.TheVariants.{Conflict}
use Rattle.model.specs.declared.journal.StateTxn.{StateTxn}
use Rattle.model.specs.declared.journal.JournalRow.{JournalRow}
use Rattle.model.specs.declared.unseen.Carried.{Carried}
use Rattle.model.specs.declared.unseen.UnseenState.{UnseenState}
use Rattle.model.specs.declared.unseen.UnseenRow.{UnseenRow}
use Rattle.model.specs.declared.reply.Reply.{Reply}
use Rattle.model.specs.Records.{Record}
use Rattle.model.specs.Shares.{share, each_below}
use Rattle.model.specs.Journal.{reply_state_of, reply_row_of, HaveVerdictCount}
use Rattle.model.specs.Finishing.{Replies, reply_from, unseen_of_reply, IsReplyTo, LeadTo, AgreeOnRows, copy_content, verdict_in_row, row_from, state_by_replies, states_by_replies_from, row_by_replies, rows_by_replies_from, rows_by_replies, is_reply_to, has_content_for, row_fits, version_at, place_fits_by, place_fits, misfits, are_replies_to, disagreements}
use Rattle.model.proofs.Members.{Has, Has-from_Contains}
use Rattle.model.proofs.Journals.ReplyRows.{length-each_below, slice_get-each_below}
use Rattle.model.proofs.History.Chain.{filter_no}
use Rattle.model.proofs.History.Rows.{rows_exact}

-- ---- one list of rows

same_reply : (a b : Reply) (found : Option Reply) → found ≡ Some a → found ≡ Some b → a ≡ b
same_reply a b found is_a is_b = cc

pub one_list : (config : Config) (version : ℕ) (rec : Record) (replies : Replies) (rows other : List JournalRow) → 1 ≤ config.resolvers → AgreeOnRows config version rec replies rows → AgreeOnRows config version rec replies other → rows ≡ other
one_list config version rec replies rows other some one two =
    rows_exact config.resolvers rows other some one.verdicts two.verdicts
    (λ r below.
    let first = one.replied r below in
    let second = two.replied r below in
    let same : first.0 ≡ second.0 = same_reply first.0 second.0 (reply_from replies r) first.1 second.1 in
    sym first.3 ∙ ap (λ (reply : Reply). reply.unseen) same ∙ second.3)

-- ---- tests of all numbers below one

all_append : {X : Type 0} (test : X → Bool) (xs ys : List X) → list_all test xs ≡ true → list_all test ys ≡ true → list_all test (xs ++ ys) ≡ true
all_append test [] ys one two = two
all_append test (x ∷ xs) ys one two =
    let parts = and_parts (test x) (list_all test xs) one in
    and_from (test x) (list_all test (xs ++ ys)) parts.0 (all_append test xs ys parts.1 two)

pub all_below : (test : ℕ → Bool) (n : ℕ) → ((r : ℕ) → r < n → test r ≡ true) → list_all test (each_below n) ≡ true
all_below test zero each = refl
all_below test (suc n) each =
    all_append test (each_below n) (n ∷ []) (all_below test n (λ r below. each r (omega arith))) (and_from (test n) true (each n (omega arith)) refl)

all_at : {X : Type 0} (test : X → Bool) (xs : List X) (i : ℕ) (x : X) → list_all test xs ≡ true → slice_get xs i ≡ Some x → test x ≡ true
all_at test [] i x all at = absurd (cc)
all_at test (y ∷ ys) zero x all at =
    let same : y ≡ x = cc in
    ap test (sym same) ∙ (and_parts (test y) (list_all test ys) all).0
all_at test (y ∷ ys) (suc i) x all at = all_at test ys i x (and_parts (test y) (list_all test ys) all).1 at

pub below_all : (test : ℕ → Bool) (n r : ℕ) → list_all test (each_below n) ≡ true → r < n → test r ≡ true
below_all test n r all below = all_at test (each_below n) r r all (slice_get-each_below n r below)

number_below : (n k x : ℕ) → slice_get (each_below n) k ≡ Some x → (k < n) × (x ≡ k)
number_below n k x at =
    let within : k < length (each_below n) = slice_get_within (each_below n) k x at in
    let size = length-each_below n in
    let below : k < n = omega (arith, within, size) in
    let here = slice_get-each_below n k below in
    (below, cc)

pub none_below : (test : ℕ → Bool) (n : ℕ) → ((k : ℕ) → k < n → test k ≡ true) → filter (λ k. not (test k)) (each_below n) ≡ []
none_below test n each =
    filter_no (λ k. not (test k)) (each_below n)
    (λ k x at. let found = number_below n k x at in ap (λ (t : Bool). not t) (each x (omega (arith, found.0, found.1))))

not_in_none : {X : Type 0} (test : X → Bool) (xs : List X) (i : ℕ) (x : X) → filter (λ y. not (test y)) xs ≡ [] → slice_get xs i ≡ Some x → test x ≡ true
not_in_none test [] i x none at = absurd (cc)
not_in_none {X} test (y ∷ ys) i x none at = by (test y) refl none i at (λ (j : ℕ) (rest : filter (λ z. not (test z)) ys ≡ []) (there : slice_get ys j ≡ Some x). not_in_none test ys j x rest there)
  where
    by : (t : Bool) → test y ≡ t → (if not t then y ∷ filter (λ z. not (test z)) ys else filter (λ z. not (test z)) ys) ≡ [] → (i : ℕ) → slice_get (y ∷ ys) i ≡ Some x → ((j : ℕ) → filter (λ z. not (test z)) ys ≡ [] → slice_get ys j ≡ Some x → test x ≡ true) → test x ≡ true
    by true is rest zero here later = let same : y ≡ x = cc in ap test (sym same) ∙ is
    by true is rest (suc j) there later = later j rest there
    by false is rest j there later = absurd (cc)

pub each_fits : (test : ℕ → Bool) (n k : ℕ) → filter (λ k. not (test k)) (each_below n) ≡ [] → k < n → test k ≡ true
each_fits test n k none below = not_in_none test (each_below n) k k none (slice_get-each_below n k below)

-- ---- rows that lead to a version

pub lead_row : (step version end : ℕ) (rows : List JournalRow) (k : ℕ) (row : JournalRow) → LeadTo step version end rows → slice_get rows k ≡ Some row → row.version ≡ version_at step version k
lead_row step version end [] k row lead at = absurd (cc)
lead_row step version end (x ∷ rows) zero row lead at =
    let same : x.version ≡ row.version = (let e : x ≡ row = cc in ap (λ (y : JournalRow). y.version) e) in
    let once : suc zero * step ≡ step = omega (arith, suc-mul zero step) in
    omega (arith, same, once, lead.0)
lead_row step version end (x ∷ rows) (suc k) row lead at =
    let rest = lead_row step x.version end rows k row lead.1 at in
    let more = suc-mul (suc k) step in
    omega (arith, rest, more, lead.0)

pub lead_end : (step version end : ℕ) (rows : List JournalRow) → LeadTo step version end rows → version + length rows * step ≡ end
lead_end step version end [] lead = omega (arith, lead)
lead_end step version end (x ∷ rows) lead =
    let rest = lead_end step x.version end rows lead.1 in
    let more = suc-mul (length rows) step in
    omega (arith, rest, more, lead.0)

pub lead_from : (step version end : ℕ) (rows : List JournalRow) → ((k : ℕ) (row : JournalRow) → slice_get rows k ≡ Some row → row.version ≡ version_at step version k) → version + length rows * step ≡ end → LeadTo step version end rows
lead_from step version end [] each last = omega (arith, last)
lead_from step version end (x ∷ rows) each last =
    (first, lead_from step x.version end rows (λ k row at. later k row (each (suc k) row at)) (omega (arith, last, first, suc-mul (length rows) step)))
  where
    first : x.version ≡ version + step
    first = let here = each 0 x refl in let once : suc zero * step ≡ step = omega (arith, suc-mul zero step) in omega (arith, here, once)

    later : (k : ℕ) (row : JournalRow) → row.version ≡ version_at step version (suc k) → row.version ≡ version_at step x.version k
    later k row is = omega (arith, is, first, suc-mul (suc k) step)

-- ---- replies that agree do not disagree

reply_test : (config : Config) (rec : Record) (r : ℕ) (reply : Reply) → IsReplyTo config rec r reply → is_reply_to config rec r (Some reply) ≡ true
reply_test config rec r reply is =
    and_from _ _
    (and_from _ _ (and_from _ _ (and_from _ _ (eq-eqb reply.resolver r is.resolver) (eq-eqb reply.proxy rec.proxy is.proxy)) (eq-eqb reply.row rec.row is.row)) (eq-eqb reply.version rec.version is.version))
    (eq-eqb (length reply.verdicts) (length (share config rec r)) is.verdicts)

carried_test : (r : ℕ) (states : List StateTxn) → list_all (has_content_for r) (map (reply_state_of r) states) ≡ true
carried_test r [] = refl
carried_test r (t ∷ states) = and_from _ _ (by (nat_eq r 0)) (carried_test r states)
  where
    content : Carried
    content = record { mutations = t.mutations; lock_aware = t.lock_aware }

    by : (z : Bool) → (if z then is_some (if z then Some content else None) else not (is_some (if z then Some content else None))) ≡ true
    by true = refl
    by false = refl

row_from_rows : (config : Config) (version : ℕ) (rec : Record) (replies : Replies) (rows : List JournalRow) (k r : ℕ) → AgreeOnRows config version rec replies rows → r < config.resolvers → row_from replies k r ≡ option_map (reply_row_of r) (slice_get rows k)
row_from_rows config version rec replies rows k r agree below =
    let told = agree.replied r below in
    ap (λ (found : Option Reply). slice_get (unseen_of_reply found) k) told.1
    ∙ ap (λ (unseen : List UnseenRow). slice_get unseen k) told.3
    ∙ slice_get-map (reply_row_of r) rows k

fit_of_row : (r version count : ℕ) (row : JournalRow) → row.version ≡ version → length row.states ≡ count → row_fits version count r (Some (reply_row_of r row)) ≡ true
fit_of_row r version count row is size =
    and_from _ _ (and_from _ _ (eq-eqb row.version version is) (eq-eqb (length (map (reply_state_of r) row.states)) count (length-map row.states (reply_state_of r) ∙ size))) (carried_test r row.states)

past_none : (rows : List JournalRow) (k : ℕ) → slice_get rows k ≡ None → length rows ≤ k
past_none [] k none = omega arith
past_none (x ∷ rows) zero none = absurd (cc)
past_none (x ∷ rows) (suc k) none = omega (arith, past_none rows k none)

versions_up_to : (step version end : ℕ) (rows : List JournalRow) (k : ℕ) (row : JournalRow) → LeadTo step version end rows → slice_get rows k ≡ Some row → version_at step version k ≤ end
versions_up_to step version end [] k row lead at = absurd (cc)
versions_up_to step version end (x ∷ rows) zero row lead at =
    let all = lead_end step x.version end rows lead.1 in
    let once : suc zero * step ≡ step = omega (arith, suc-mul zero step) in
    omega (arith, all, once, lead.0)
versions_up_to step version end (x ∷ rows) (suc k) row lead at =
    let rest = versions_up_to step x.version end rows k row lead.1 at in
    let more = suc-mul (suc k) step in
    omega (arith, rest, more, lead.0)

fits_at : (config : Config) (version : ℕ) (rec : Record) (replies : Replies) (rows : List JournalRow) (k : ℕ) → 0 < config.resolvers → AgreeOnRows config version rec replies rows → k < suc (length (unseen_of_reply (reply_from replies 0))) → place_fits config version rec.previous replies k ≡ true
fits_at config version rec replies rows k some agree below =
    ap (place_fits_by config version rec.previous replies k) (row_from_rows config version rec replies rows k 0 agree some) ∙ by (slice_get rows k) refl
  where
    size : length (unseen_of_reply (reply_from replies 0)) ≡ length rows
    size =
        let told = agree.replied 0 some in
        ap (λ (found : Option Reply). length (unseen_of_reply found)) told.1 ∙ ap (λ (unseen : List UnseenRow). length unseen) told.3 ∙ length-map rows (reply_row_of 0)

    by : (found : Option JournalRow) → slice_get rows k ≡ found → place_fits_by config version rec.previous replies k (option_map (reply_row_of 0) found) ≡ true
    by None at =
        let last : k ≡ length rows = omega (arith, past_none rows k at, size, below) in
        and_from _ _ (eq-eqb (version + k * config.step) rec.previous (ap (λ (n : ℕ). version + n * config.step) last ∙ lead_end config.step version rec.previous rows agree.lead))
        (all_below (λ r. not (is_some (row_from replies k r))) config.resolvers (λ r within. ap (λ (found : Option UnseenRow). not (is_some found)) (row_from_rows config version rec replies rows k r agree within ∙ ap (option_map (reply_row_of r)) at)))
    by (Some row) at =
        and_from _ _ (le-leb (version_at config.step version k) rec.previous (versions_up_to config.step version rec.previous rows k row agree.lead at))
        (all_below (λ r. row_fits (version_at config.step version k) (length (map (reply_state_of 0) row.states)) r (row_from replies k r)) config.resolvers
        (λ r within.
        ap (row_fits (version_at config.step version k) (length (map (reply_state_of 0) row.states)) r) (row_from_rows config version rec replies rows k r agree within ∙ ap (option_map (reply_row_of r)) at)
        ∙ fit_of_row r (version_at config.step version k) (length (map (reply_state_of 0) row.states)) row (lead_row config.step version rec.previous rows k row agree.lead at) (sym (length-map row.states (reply_state_of 0)))))

pub agreeing_do_not : (config : Config) (version : ℕ) (rec : Record) (replies : Replies) (rows : List JournalRow) → 1 ≤ config.resolvers → AgreeOnRows config version rec replies rows → disagreements config version rec replies ≡ []
unfolding disagreements
agreeing_do_not config version rec replies rows some agree =
    let replied : are_replies_to config rec replies ≡ true = all_below (λ r. is_reply_to config rec r (reply_from replies r)) config.resolvers
    (λ r below. let told = agree.replied r below in ap (is_reply_to config rec r) told.1 ∙ reply_test config rec r told.0 told.2) in
    let none : misfits config version rec.previous replies ≡ [] = none_below (place_fits config version rec.previous replies) (suc (length (unseen_of_reply (reply_from replies 0)))) (λ k below. fits_at config version rec replies rows k some agree below) in
    rw (replied, none) refl

-- ---- replies that do not disagree agree on the rows that they tell

carried_is : (z : Bool) (r : ℕ) (of_0 state : UnseenState) → nat_eq r 0 ≡ z → (r ≡ 0 → of_0 ≡ state) → (if z then is_some state.carried else not (is_some state.carried)) ≡ true → (if z then Some (copy_content of_0) else None) ≡ state.carried
carried_is true r of_0 state first same carries =
    ap (λ (s : UnseenState). Some (copy_content s)) (same (eqb-true r 0 first)) ∙ by state.carried carries
  where
    by : (found : Option Carried) → is_some found ≡ true → Some (unwrap_or found (record { mutations = []; lock_aware = false })) ≡ found
    by None none = absurd (cc)
    by (Some content) some = refl
carried_is false r of_0 state other same carries = by state.carried carries
  where
    by : (found : Option Carried) → not (is_some found) ≡ true → None ≡ found
    by None none = refl
    by (Some content) some = absurd (cc)

verdict_of_state : UnseenState → Verdict
verdict_of_state state = state.verdict

state_by_replies_is : (resolvers : ℕ) (replies : Replies) (k j r : ℕ) (of_r : UnseenRow) (of_0 state : UnseenState) → r < resolvers → row_from replies k r ≡ Some of_r → verdict_in_row (Some of_r) j ≡ state.verdict → (r ≡ 0 → of_0 ≡ state) → has_content_for r state ≡ true → reply_state_of r (state_by_replies resolvers replies k j of_0) ≡ state
state_by_replies_is resolvers replies k j r of_r of_0 state below there is same carries =
    λ i. record { verdict = verdict i; carried = carried_is (nat_eq r 0) r of_0 state refl same carries i }
  where
    verdict : unwrap_or (slice_get (map (λ (s : ℕ). verdict_in_row (row_from replies k s) j) (each_below resolvers)) r) Conflict ≡ state.verdict
    verdict =
        ap (λ (found : Option Verdict). unwrap_or found Conflict)
        (slice_get-map (λ (s : ℕ). verdict_in_row (row_from replies k s) j) (each_below resolvers) r ∙ ap (option_map (λ (s : ℕ). verdict_in_row (row_from replies k s) j)) (slice_get-each_below resolvers r below))
        ∙ ap (λ (found : Option UnseenRow). verdict_in_row found j) there ∙ is

states_by_replies_are : (resolvers : ℕ) (replies : Replies) (k j r : ℕ) (of_r : UnseenRow) (of_0 states : List UnseenState) → r < resolvers → row_from replies k r ≡ Some of_r → length of_0 ≡ length states → ((i : ℕ) (state : UnseenState) → slice_get states i ≡ Some state → verdict_in_row (Some of_r) (j + i) ≡ state.verdict) → (r ≡ 0 → of_0 ≡ states) → list_all (has_content_for r) states ≡ true → map (reply_state_of r) (states_by_replies_from resolvers replies k j of_0) ≡ states
states_by_replies_are resolvers replies k j r of_r [] [] below there size is same carry = refl
states_by_replies_are resolvers replies k j r of_r [] (state ∷ states) below there size is same carry = absurd (omega arith)
states_by_replies_are resolvers replies k j r of_r (first ∷ of_0) [] below there size is same carry = absurd (omega arith)
states_by_replies_are resolvers replies k j r of_r (first ∷ of_0) (state ∷ states) below there size is same carry =
    let parts = and_parts (has_content_for r state) (list_all (has_content_for r) states) carry in
    let here : j + 0 ≡ j = omega arith in
    let one = state_by_replies_is resolvers replies k j r of_r first state below there (ap (verdict_in_row (Some of_r)) (sym here) ∙ is 0 state refl) (λ zero_is. let both = same zero_is in cc) parts.0 in
    let rest = states_by_replies_are resolvers replies k (suc j) r of_r of_0 states below there (omega arith) (λ i s at. let next : suc j + i ≡ j + suc i = omega arith in ap (verdict_in_row (Some of_r)) next ∙ is (suc i) s at) (λ zero_is. let both = same zero_is in cc) parts.1 in
    λ i. one i ∷ rest i

verdicts_stand : (of_r : UnseenRow) (i : ℕ) (state : UnseenState) → slice_get of_r.states i ≡ Some state → verdict_in_row (Some of_r) i ≡ state.verdict
verdicts_stand of_r i state at =
    ap (λ (found : Option Verdict). unwrap_or found Conflict)
    (slice_get-map (λ (s : UnseenState). s.verdict) of_r.states i ∙ ap (option_map (λ (s : UnseenState). s.verdict)) at)

row_by_replies_fits : (resolvers : ℕ) (replies : Replies) (k r version : ℕ) (of_0 of_r : UnseenRow) → r < resolvers → row_from replies k r ≡ Some of_r → of_0.version ≡ version → (r ≡ 0 → of_0 ≡ of_r) → row_fits version (length of_0.states) r (Some of_r) ≡ true → reply_row_of r (row_by_replies resolvers replies k of_0) ≡ of_r
row_by_replies_fits resolvers replies k r version of_0 of_r below there first same fits =
    let parts = and_parts (nat_eq of_r.version version && nat_eq (length of_r.states) (length of_0.states)) (list_all (has_content_for r) of_r.states) fits in
    let numbers = and_parts (nat_eq of_r.version version) (nat_eq (length of_r.states) (length of_0.states)) parts.0 in
    let version_is : of_0.version ≡ of_r.version = first ∙ sym (eqb-true of_r.version version numbers.0) in
    let states = states_by_replies_are resolvers replies k 0 r of_r of_0.states of_r.states below there (sym (eqb-true (length of_r.states) (length of_0.states) numbers.1))
    (λ i state at. let plain : 0 + i ≡ i = omega arith in ap (verdict_in_row (Some of_r)) plain ∙ verdicts_stand of_r i state at)
    (λ zero_is. ap (λ (row : UnseenRow). row.states) (same zero_is)) parts.1 in
    λ i. record { version = version_is i; states = states i }

rows_by_replies_at : (resolvers : ℕ) (replies : Replies) (m k n : ℕ) (rows : List UnseenRow) → n ≡ m + k → slice_get (rows_by_replies_from resolvers replies m rows) k ≡ option_map (row_by_replies resolvers replies n) (slice_get rows k)
rows_by_replies_at resolvers replies m k n [] number = refl
rows_by_replies_at resolvers replies m zero n (row ∷ rows) number = let same : m ≡ n = omega arith in ap (λ (place : ℕ). Some (row_by_replies resolvers replies place row)) same
rows_by_replies_at resolvers replies m (suc k) n (row ∷ rows) number = rows_by_replies_at resolvers replies (suc m) k n rows (omega (arith, number))

rows_by_replies_length : (resolvers : ℕ) (replies : Replies) (m : ℕ) (rows : List UnseenRow) → length (rows_by_replies_from resolvers replies m rows) ≡ length rows
rows_by_replies_length resolvers replies m [] = refl
rows_by_replies_length resolvers replies m (row ∷ rows) = ap (λ (n : ℕ). suc n) (rows_by_replies_length resolvers replies (suc m) rows)

-- two lists with the same at each place up to the end of the second are the same
same_up_to_end : {X : Type 0} (xs ys : List X) (n : ℕ) → length ys ≡ n → ((k : ℕ) → k < suc n → slice_get xs k ≡ slice_get ys k) → xs ≡ ys
same_up_to_end [] [] n size each = refl
same_up_to_end [] (y ∷ ys) n size each = let here = each 0 (omega arith) in absurd (cc)
same_up_to_end (x ∷ xs) [] n size each = let here = each 0 (omega arith) in absurd (cc)
same_up_to_end (x ∷ xs) (y ∷ ys) zero size each = absurd (omega arith)
same_up_to_end (x ∷ xs) (y ∷ ys) (suc n) size each =
    let here = each 0 (omega arith) in
    let first : x ≡ y = cc in
    λ i. first i ∷ same_up_to_end xs ys n (omega (arith, size)) (λ k below. each (suc k) (omega (arith, below))) i

-- what a place that fits says of the row of resolver r there
there_fits : (config : Config) (version end : ℕ) (replies : Replies) (k r : ℕ) (of_0 : Option UnseenRow) → row_from replies k 0 ≡ of_0 → r < config.resolvers → place_fits_by config version end replies k of_0 ≡ true → row_from replies k r ≡ option_map (reply_row_of r) (option_map (row_by_replies config.resolvers replies k) of_0)
there_fits config version end replies k r None first below fits =
    let parts = and_parts (nat_eq (version + k * config.step) end) (list_all (λ s. not (is_some (row_from replies k s))) (each_below config.resolvers)) fits in
    by (row_from replies k r) (below_all (λ s. not (is_some (row_from replies k s))) config.resolvers r parts.1 below)
  where
    by : (found : Option UnseenRow) → not (is_some found) ≡ true → found ≡ None
    by None none = refl
    by (Some row) some = absurd (cc)
there_fits config version end replies k r (Some of_0) first below fits =
    by (row_from replies k r) refl (below_all (λ s. row_fits (version_at config.step version k) (length of_0.states) s (row_from replies k s)) config.resolvers r parts.1 below)
  where
    parts : (nat_le (version_at config.step version k) end ≡ true) × (list_all (λ s. row_fits (version_at config.step version k) (length of_0.states) s (row_from replies k s)) (each_below config.resolvers) ≡ true)
    parts = and_parts (nat_le (version_at config.step version k) end) (list_all (λ s. row_fits (version_at config.step version k) (length of_0.states) s (row_from replies k s)) (each_below config.resolvers)) fits

    own : row_fits (version_at config.step version k) (length of_0.states) 0 (Some of_0) ≡ true
    own = ap (row_fits (version_at config.step version k) (length of_0.states) 0) (sym first) ∙ below_all (λ s. row_fits (version_at config.step version k) (length of_0.states) s (row_from replies k s)) config.resolvers 0 parts.1 (omega (arith, below))

    version_is : of_0.version ≡ version_at config.step version k
    version_is = eqb-true of_0.version (version_at config.step version k) (and_parts (nat_eq of_0.version (version_at config.step version k)) (nat_eq (length of_0.states) (length of_0.states)) (and_parts (nat_eq of_0.version (version_at config.step version k) && nat_eq (length of_0.states) (length of_0.states)) (list_all (has_content_for 0) of_0.states) own).0).0

    by : (found : Option UnseenRow) → row_from replies k r ≡ found → row_fits (version_at config.step version k) (length of_0.states) r found ≡ true → found ≡ Some (reply_row_of r (row_by_replies config.resolvers replies k of_0))
    by None at fit = absurd (cc)
    by (Some of_r) at fit =
        let same : r ≡ 0 → of_0 ≡ of_r = (λ zero_is. let there : row_from replies k 0 ≡ Some of_r = ap (row_from replies k) (sym zero_is) ∙ at in cc) in
        ap (λ (row : UnseenRow). Some row) (sym (row_by_replies_fits config.resolvers replies k r (version_at config.step version k) of_0 of_r below at version_is same fit))

replied_to : (config : Config) (rec : Record) (r : ℕ) (found : Option Reply) → is_reply_to config rec r found ≡ true → (reply : Reply) × (found ≡ Some reply) × IsReplyTo config rec r reply
replied_to config rec r None is = absurd (cc)
replied_to config rec r (Some reply) is =
    let last = and_parts (nat_eq reply.resolver r && nat_eq reply.proxy rec.proxy && nat_eq reply.row rec.row && nat_eq reply.version rec.version) (nat_eq (length reply.verdicts) (length (share config rec r))) is in
    let fourth = and_parts (nat_eq reply.resolver r && nat_eq reply.proxy rec.proxy && nat_eq reply.row rec.row) (nat_eq reply.version rec.version) last.0 in
    let third = and_parts (nat_eq reply.resolver r && nat_eq reply.proxy rec.proxy) (nat_eq reply.row rec.row) fourth.0 in
    let second = and_parts (nat_eq reply.resolver r) (nat_eq reply.proxy rec.proxy) third.0 in (
      reply,
      refl,
      record {
        resolver = eqb-true reply.resolver r second.0;
        proxy = eqb-true reply.proxy rec.proxy second.1;
        row = eqb-true reply.row rec.row third.1;
        version = eqb-true reply.version rec.version fourth.1;
        verdicts = eqb-true (length reply.verdicts) (length (share config rec r)) last.1;
      },
    )

verdicts_by_replies : (resolvers : ℕ) (replies : Replies) (k j : ℕ) (states : List UnseenState) (t : StateTxn) → Has (states_by_replies_from resolvers replies k j states) t → length t.verdicts ≡ resolvers
verdicts_by_replies resolvers replies k j [] t has = absurd has
verdicts_by_replies resolvers replies k j (state ∷ states) t (inl same) =
    ap (λ (s : StateTxn). length s.verdicts) (sym same) ∙ length-map (each_below resolvers) (λ (r : ℕ). verdict_in_row (row_from replies k r) j) ∙ length-each_below resolvers
verdicts_by_replies resolvers replies k j (state ∷ states) t (inr later) = verdicts_by_replies resolvers replies k (suc j) states t later

rows_by_replies_verdicts : (resolvers : ℕ) (replies : Replies) (m : ℕ) (rows : List UnseenRow) (row : JournalRow) → Has (rows_by_replies_from resolvers replies m rows) row → HaveVerdictCount resolvers row
rows_by_replies_verdicts resolvers replies m [] row has = absurd has
rows_by_replies_verdicts resolvers replies m (first ∷ rows) row (inl same) =
    subst (HaveVerdictCount resolvers) same (λ t there. verdicts_by_replies resolvers replies m 0 first.states t (Has-from_Contains (states_by_replies_from resolvers replies m 0 first.states) t there))
rows_by_replies_verdicts resolvers replies m (first ∷ rows) row (inr later) = rows_by_replies_verdicts resolvers replies (suc m) rows row later

map_none : {X Y : Type 0} (f : X → Y) (xs : List X) → map f xs ≡ [] → xs ≡ []
map_none f [] none = refl
map_none f (x ∷ xs) none = absurd (cc)

-- the two tests that replies pass if they disagree at no version
pub no_disagreement : (config : Config) (version : ℕ) (rec : Record) (replies : Replies) → disagreements config version rec replies ≡ [] → (are_replies_to config rec replies ≡ true) × (misfits config version rec.previous replies ≡ [])
unfolding disagreements
no_disagreement config version rec replies none = by (are_replies_to config rec replies) refl none
  where
    by : (z : Bool) → are_replies_to config rec replies ≡ z → (if z then map (version_at config.step version) (misfits config version rec.previous replies) else rec.version ∷ []) ≡ [] → (are_replies_to config rec replies ≡ true) × (misfits config version rec.previous replies ≡ [])
    by true is rest = (is, map_none (version_at config.step version) (misfits config version rec.previous replies) rest)
    by false is rest = absurd (cc)

pub agree_on_told : (config : Config) (version : ℕ) (rec : Record) (replies : Replies) → 1 ≤ config.resolvers → disagreements config version rec replies ≡ [] → AgreeOnRows config version rec replies (rows_by_replies config.resolvers replies)
agree_on_told config version rec replies some none =
    record {
      replied = λ r below.
          let found = replied_to config rec r (reply_from replies r) (below_all (λ s. is_reply_to config rec s (reply_from replies s)) config.resolvers r tests.0 below) in
          (found.0, found.1, found.2, ap (λ (reply : Option Reply). unseen_of_reply reply) (sym found.1) ∙ unseen_is r below);
      verdicts = λ row there. rows_by_replies_verdicts config.resolvers replies 0 of_0 row (Has-from_Contains (rows_by_replies config.resolvers replies) row there);
      lead = lead_from config.step version rec.previous (rows_by_replies config.resolvers replies) version_is last_is;
    }
  where
    tests : (are_replies_to config rec replies ≡ true) × (misfits config version rec.previous replies ≡ [])
    tests = no_disagreement config version rec replies none

    of_0 : List UnseenRow
    of_0 = unseen_of_reply (reply_from replies 0)

    fits : (k : ℕ) → k < suc (length of_0) → place_fits config version rec.previous replies k ≡ true
    fits k below = each_fits (place_fits config version rec.previous replies) (suc (length of_0)) k tests.1 below

    size : length (rows_by_replies config.resolvers replies) ≡ length of_0
    size = rows_by_replies_length config.resolvers replies 0 of_0

    row_is : (r k : ℕ) → r < config.resolvers → k < suc (length of_0) → row_from replies k r ≡ slice_get (map (reply_row_of r) (rows_by_replies config.resolvers replies)) k
    row_is r k below within =
        there_fits config version rec.previous replies k r (row_from replies k 0) refl below (fits k within)
        ∙ sym (slice_get-map (reply_row_of r) (rows_by_replies config.resolvers replies) k ∙ ap (option_map (reply_row_of r)) (rows_by_replies_at config.resolvers replies 0 k k of_0 (omega arith)))

    unseen_is : (r : ℕ) → r < config.resolvers → unseen_of_reply (reply_from replies r) ≡ map (reply_row_of r) (rows_by_replies config.resolvers replies)
    unseen_is r below =
        same_up_to_end (unseen_of_reply (reply_from replies r)) (map (reply_row_of r) (rows_by_replies config.resolvers replies)) (length of_0) (length-map (rows_by_replies config.resolvers replies) (reply_row_of r) ∙ size) (λ k within. row_is r k below within)

    last_is : version + length (rows_by_replies config.resolvers replies) * config.step ≡ rec.previous
    last_is =
        ap (λ (n : ℕ). version + n * config.step) size
        ∙ end_of (row_from replies (length of_0) 0) (none_past of_0) (fits (length of_0) (omega arith))
      where
        none_past : (rows : List UnseenRow) → slice_get rows (length rows) ≡ None
        none_past [] = refl
        none_past (row ∷ rows) = none_past rows

        end_of : (found : Option UnseenRow) → found ≡ None → place_fits_by config version rec.previous replies (length of_0) found ≡ true → version + length of_0 * config.step ≡ rec.previous
        end_of None is fit = eqb-true (version + length of_0 * config.step) rec.previous (and_parts (nat_eq (version + length of_0 * config.step) rec.previous) (list_all (λ r. not (is_some (row_from replies (length of_0) r))) (each_below config.resolvers)) fit).0
        end_of (Some row) is fit = absurd (cc)

    version_is : (k : ℕ) (row : JournalRow) → slice_get (rows_by_replies config.resolvers replies) k ≡ Some row → row.version ≡ version_at config.step version k
    version_is k row at =
        by (row_from replies k 0) refl (rows_by_replies_at config.resolvers replies 0 k k of_0 (omega arith)) (fits k (omega (arith, slice_get_within (rows_by_replies config.resolvers replies) k row at, size)))
      where
        by : (found : Option UnseenRow) → row_from replies k 0 ≡ found → slice_get (rows_by_replies config.resolvers replies) k ≡ option_map (row_by_replies config.resolvers replies k) found → place_fits_by config version rec.previous replies k found ≡ true → row.version ≡ version_at config.step version k
        by None is told fit = absurd (cc)
        by (Some first) is told fit =
            let same : row ≡ row_by_replies config.resolvers replies k first = cc in
            let all = (and_parts (nat_le (version_at config.step version k) rec.previous) (list_all (λ r. row_fits (version_at config.step version k) (length first.states) r (row_from replies k r)) (each_below config.resolvers)) fit).1 in
            let own = ap (row_fits (version_at config.step version k) (length first.states) 0) (sym is) ∙ below_all (λ r. row_fits (version_at config.step version k) (length first.states) r (row_from replies k r)) config.resolvers 0 all some in
            let numbers = (and_parts (nat_eq first.version (version_at config.step version k) && nat_eq (length first.states) (length first.states)) (list_all (has_content_for 0) first.states) own).0 in
            ap (λ (r : JournalRow). r.version) same ∙ eqb-true first.version (version_at config.step version k) (and_parts (nat_eq first.version (version_at config.step version k)) (nat_eq (length first.states) (length first.states)) numbers).0
