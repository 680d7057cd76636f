-- What is kept of the proxies.
use Rattle.std.proofs.Common.{◌≡◌, ℕ, zero, suc, ◌<◌, ◌≤◌, min, refl, sym, ap, ◌∙◌, List, [], ◌∷◌, ◌++◌, ◌⊎◌, inl, inr, length, slice_get, slice_set, Some, length-append, drop, get_or, true, false, nat_lt, arith}
use Rattle.std.specs.List.{AllZip}
use Rattle.std.proofs.lemmas.Bool.{leb-true, leb-false, lt-ltb, le-ltb}
use Rattle.model.specs.declared.reply.Reply.{Reply}
use Rattle.model.specs.declared.unseen.UnseenRow.{UnseenRow}
use Rattle.std.proofs.lemmas.List.{map-append}
use Rattle.model.specs.Requests.{Request}
use Rattle.model.specs.ResolverMemory.{ProxyMemory as Kept, reached_by_all, proxy_after}
use Rattle.model.proofs.History.Growth.{push_cases}
use Rattle.state_memory.specs.declared.proxy_memory.ProxyMemory.{ProxyMemory}
use Rattle.state_memory.specs.Kept.{AreNew, HasKeptReply, nothing_kept, kept_of, all_kept, rows_above, replies_above, is_first_row_up_to, is_first_reply_up_to}
use Rattle.state_memory.specs.Order.{RowsIncrease, RepliesIncrease}
use Rattle.state_memory.proofs.RowLaws.{from_lower, all_above, stops}

-- the least of a number and of the last versions of some proxies
abbrev pub least_with : ℕ → List ProxyMemory → ℕ
least_with n [] = n
least_with n (one ∷ proxies) = least_with (min n one.last) proxies

least_with_is : (n : ℕ) (one : ProxyMemory) (proxies : List ProxyMemory) → least_with n (one ∷ proxies) ≡ min n (reached_by_all (all_kept (one ∷ proxies)))
least_with_is n one [] = refl
least_with_is n one (two ∷ proxies) =
    let rest = least_with_is (min n one.last) two proxies in
    rest ∙ (let both : min (min n one.last) (reached_by_all (all_kept (two ∷ proxies))) ≡ min n (min one.last (reached_by_all (all_kept (two ∷ proxies)))) = omega arith in both)

first_bounds : (one : ProxyMemory) (proxies : List ProxyMemory) → reached_by_all (all_kept (one ∷ proxies)) ≤ one.last
first_bounds one [] = omega arith
first_bounds one (two ∷ proxies) = omega arith

pub least_from_first : (one : ProxyMemory) (proxies : List ProxyMemory) → least_with one.last (one ∷ proxies) ≡ reached_by_all (all_kept (one ∷ proxies))
least_from_first one proxies = let is = least_with_is one.last one proxies in let bound = first_bounds one proxies in is ∙ (let low : min one.last (reached_by_all (all_kept (one ∷ proxies))) ≡ reached_by_all (all_kept (one ∷ proxies)) = omega (arith, bound) in low)

-- ---- what is forgotten

pub row_dropped : (version : ℕ) (rows : List UnseenRow) → RowsIncrease rows → is_first_row_up_to version rows ≡ true → RowsIncrease (drop 1 rows) × (rows_above version (drop 1 rows) ≡ rows_above version rows)
row_dropped version [] order first = absurd (cc)
row_dropped version (x ∷ rows) order first =
    let old : nat_lt version x.version ≡ false = le-ltb version x.version (leb-true x.version version first) in
    (from_lower (λ (y : UnseenRow). y.version) 0 x.version rows (omega arith) order.1, rw old refl)

pub rows_kept : (version : ℕ) (rows : List UnseenRow) → RowsIncrease rows → is_first_row_up_to version rows ≡ false → rows_above version rows ≡ rows
rows_kept version [] order first = refl
rows_kept version (x ∷ rows) order first =
    let past : version < x.version = leb-false x.version version first in
    let new : nat_lt version x.version ≡ true = lt-ltb version x.version past in
    rw new (ap (λ xs. x ∷ xs) (all_above (λ (y : UnseenRow). y.version) version x.version rows order.1 (omega (arith, past))))

pub reply_dropped : (version : ℕ) (replies : List Reply) → RepliesIncrease replies → is_first_reply_up_to version replies ≡ true → RepliesIncrease (drop 1 replies) × (replies_above version (drop 1 replies) ≡ replies_above version replies)
reply_dropped version [] order first = absurd (cc)
reply_dropped version (x ∷ replies) order first =
    let old : nat_lt version x.version ≡ false = le-ltb version x.version (leb-true x.version version first) in
    (from_lower (λ (y : Reply). y.version) 0 x.version replies (omega arith) order.1, rw old refl)

pub replys_kept : (version : ℕ) (replies : List Reply) → RepliesIncrease replies → is_first_reply_up_to version replies ≡ false → replies_above version replies ≡ replies
replys_kept version [] order first = refl
replys_kept version (x ∷ replies) order first =
    let past : version < x.version = leb-false x.version version first in
    let new : nat_lt version x.version ≡ true = lt-ltb version x.version past in
    rw new (ap (λ xs. x ∷ xs) (all_above (λ (y : Reply). y.version) version x.version replies order.1 (omega (arith, past))))

pub stops_at : (version : ℕ) (rows : List UnseenRow) (i j k : ℕ) (row : UnseenRow) → j ≡ suc i → k ≡ suc i → RowsIncrease rows → i < length rows → row ≡ get_or rows i row → row.version ≤ version → rows_above version (drop j rows) ≡ drop j rows → drop k rows ≡ rows_above version rows
stops_at version rows i j k row next after order there is old later =
    ap (λ n. drop n rows) after ∙ stops (λ (y : UnseenRow). y.version) version 0 rows i row order there is old (sym (ap (λ n. rows_above version (drop n rows)) next) ∙ later ∙ ap (λ n. drop n rows) next)

pub least_start : (proxies : List ProxyMemory) (one : ProxyMemory) → 0 < length proxies → one ≡ get_or proxies 0 one → least_with one.last proxies ≡ reached_by_all (all_kept proxies)
least_start [] one some is = absurd (omega arith)
least_start (two ∷ proxies) one some is = ap (λ (x : ProxyMemory). least_with x.last (two ∷ proxies)) is ∙ least_from_first two proxies

-- ---- one proxy's place

pub same_kept : (proxies : List ProxyMemory) (i : ℕ) (one : ProxyMemory) (new : ProxyMemory) → i < length proxies → one ≡ get_or proxies i one → kept_of new ≡ kept_of one → all_kept (slice_set proxies i new) ≡ all_kept proxies
same_kept [] i one new there is same = absurd (omega arith)
same_kept (x ∷ proxies) zero one new there is same = let first : kept_of new ≡ kept_of x = same ∙ ap kept_of is in λ k. first k ∷ all_kept proxies
same_kept (x ∷ proxies) (suc i) one new there is same = ap (λ rest. kept_of x ∷ rest) (same_kept proxies i one new (omega arith) is same)

pub set_there : (proxies : List ProxyMemory) (i : ℕ) (new found : ProxyMemory) → i < length proxies → slice_get (slice_set proxies i new) i ≡ Some found → new ≡ found
set_there [] i new found there is = absurd (omega arith)
set_there (x ∷ proxies) zero new found there is = cc
set_there (x ∷ proxies) (suc i) new found there is = set_there proxies i new found (omega arith) is

pub kept_set : (proxies : List ProxyMemory) (i : ℕ) (new : ProxyMemory) → all_kept (slice_set proxies i new) ≡ slice_set (all_kept proxies) i (kept_of new)
kept_set [] i new = refl
kept_set (x ∷ proxies) zero new = refl
kept_set (x ∷ proxies) (suc i) new = ap (λ rest. kept_of x ∷ rest) (kept_set proxies i new)

pub kept_there : (proxies : List ProxyMemory) (i : ℕ) (one : ProxyMemory) → i < length proxies → one ≡ get_or proxies i one → slice_get (all_kept proxies) i ≡ Some (kept_of one)
kept_there [] i one there is = absurd (omega arith)
kept_there (x ∷ proxies) zero one there is = ap (λ y. Some (kept_of y)) (sym is)
kept_there (x ∷ proxies) (suc i) one there is = kept_there proxies i one (omega arith) is

pub raw_there : (proxies : List ProxyMemory) (i : ℕ) (one : ProxyMemory) → i < length proxies → one ≡ get_or proxies i one → slice_get proxies i ≡ Some one
raw_there [] i one there is = absurd (omega arith)
raw_there (x ∷ proxies) zero one there is = ap Some (sym is)
raw_there (x ∷ proxies) (suc i) one there is = raw_there proxies i one (omega arith) is

-- what was noted of the proxy at its place
pub noted : (proxies : List ProxyMemory) (i p : ℕ) (one new : ProxyMemory) (q : Request) (reply : Reply) → i ≡ p → p ≡ q.proxy → i < length proxies → one ≡ get_or proxies i one → kept_of new ≡ proxy_after (kept_of one) q reply → HasKeptReply (all_kept proxies) q reply (all_kept (slice_set proxies i new))
noted proxies i p one new q reply same own there is after found at =
    let here : slice_get (all_kept proxies) q.proxy ≡ Some (kept_of one) = ap (slice_get (all_kept proxies)) (sym own ∙ sym same) ∙ kept_there proxies i one there is in
    let both : Some (kept_of one) ≡ Some found = sym here ∙ at in
    let found_is : kept_of one ≡ found = cc in
    kept_set proxies i new ∙ (λ k. slice_set (all_kept proxies) ((same ∙ own) k) ((after ∙ ap (λ kept. proxy_after kept q reply) found_is) k))

-- ---- new proxies

pub one_more_new : (n m : ℕ) (made new : List ProxyMemory) (one : ProxyMemory) → m ≡ suc n → new ≡ made ++ one ∷ [] → kept_of one ≡ nothing_kept → AreNew n made → AreNew m new
one_more_new n m made new one next is empty are =
    record {
      count = ap length is ∙ length-append made (one ∷ []) ∙ (let many = are.count in omega (arith, many, next));
      each = λ p kept at. by p kept (push_cases (all_kept made) (kept_of one) p kept (ap (λ xs. slice_get xs p) (sym (map-append kept_of made (one ∷ []))) ∙ ap (λ xs. slice_get (all_kept xs) p) (sym is) ∙ at));
    }
  where
    by : (p : ℕ) (kept : Kept) → ((p ≡ length (all_kept made)) × (kept_of one ≡ kept)) ⊎ ((p < length (all_kept made)) × (slice_get (all_kept made) p ≡ Some kept)) → kept ≡ nothing_kept
    by p kept (inl last) = sym last.1 ∙ empty
    by p kept (inr there) = are.each p kept there.1

-- ---- copies

pub all_copied : (proxies copies : List ProxyMemory) → AllZip (λ one copy. kept_of copy ≡ kept_of one) proxies copies → all_kept copies ≡ all_kept proxies
all_copied [] [] same = refl
all_copied [] (two ∷ copies) same = absurd same
all_copied (one ∷ proxies) [] same = absurd same
all_copied (one ∷ proxies) (two ∷ copies) same = λ k. same.0 k ∷ all_copied proxies copies same.1 k
