-- The chain of versions in a history, and which rows lie up to a version.
use Rattle.std.proofs.Common.{◌≡◌, refl, sym, ap, ◌∙◌, ℕ, zero, suc, ◌+◌, ◌*◌, ◌^◌, ◌<◌, ◌≤◌, ◌⊎◌, inl, inr, List, [], ◌∷◌, ◌++◌, length, take, drop, filter, Bool, true, false, nat_le, slice_get, Some, append-nil, take-append-drop, arith}
use Rattle.std.proofs.Math.Nat.{suc-mul}
use Rattle.std.proofs.lemmas.Bool.{cases_order, le-leb, lt-leb}
use Rattle.std.proofs.lemmas.List.{take_all, length-take-le}
use Rattle.std.proofs.lemmas.List.Elements.{filter-append}
use Rattle.std.proofs.lemmas.Option.{slice_get_within}
use Rattle.model.specs.Configs.{Config, version_limit}
use Rattle.model.specs.declared.moves.Move.{Move}
use Rattle.model.specs.Transactions.{StampedTransaction}
use Rattle.model.specs.Records.{Record, IsHistory, Follows, MovesFollow, last_version, records_of_proxy, oldest}
use Rattle.model.specs.World.{up_to_version, rows_up_to}
use Rattle.model.proofs.History.Growth.{up_to_last, own_version_up_to}
use Rattle.model.proofs.Owners.Moves.{grows, last_version_at}
use Rattle.model.proofs.Verdicts.Places.{slice_get-take, slice_get-take_back}
use Rattle.model.proofs.Agreement.Sources.{history_take}

-- ---- lists

pub element_at : {X : Type 0} (xs : List X) (n : ℕ) → n < length xs → (x : X) × (slice_get xs n ≡ Some x)
element_at [] n within = absurd (omega arith)
element_at (x ∷ xs) zero within = (x, refl)
element_at (x ∷ xs) (suc n) within = element_at xs n (omega arith)

pub slice_get-drop : {X : Type 0} (xs : List X) (n k m : ℕ) (x : X) → m ≡ n + k → slice_get (drop n xs) k ≡ Some x → slice_get xs m ≡ Some x
slice_get-drop xs zero k m x e at = let same : m ≡ k = omega arith in rw same at
slice_get-drop [] (suc n) k m x e at = absurd (cc)
slice_get-drop (y ∷ ys) (suc n) k zero x e at = absurd (omega arith)
slice_get-drop (y ∷ ys) (suc n) k (suc m) x e at = slice_get-drop ys n k m x (omega arith) at

pub filter_every : {X : Type 0} (test : X → Bool) (xs : List X) → ((k : ℕ) (x : X) → slice_get xs k ≡ Some x → test x ≡ true) → filter test xs ≡ xs
filter_every test [] each = refl
filter_every test (x ∷ xs) each = rw (each 0 x refl) (ap (λ ys. x ∷ ys) (filter_every test xs (λ k y at. each (suc k) y at)))

pub filter_no : {X : Type 0} (test : X → Bool) (xs : List X) → ((k : ℕ) (x : X) → slice_get xs k ≡ Some x → test x ≡ false) → filter test xs ≡ []
filter_no test [] each = refl
filter_no test (x ∷ xs) each = rw (each 0 x refl) (filter_no test xs (λ k y at. each (suc k) y at))

-- the first n pass a test, and the others do not
pub filter_first : {X : Type 0} (test : X → Bool) (xs : List X) (n : ℕ) → ((k : ℕ) (x : X) → k < n → slice_get xs k ≡ Some x → test x ≡ true) → ((k : ℕ) (x : X) → n ≤ k → slice_get xs k ≡ Some x → test x ≡ false) → filter test xs ≡ take n xs
filter_first test xs n first others =
    ap (filter test) (sym (take-append-drop n xs))
    ∙ filter-append test (take n xs) (drop n xs)
    ∙ ap (λ ys. ys ++ filter test (drop n xs)) (filter_every test (take n xs) (λ k x at. let there = slice_get-take xs n k x at in first k x there.0 there.1))
    ∙ ap (λ ys. take n xs ++ ys) (filter_no test (drop n xs) (λ k x at. others (n + k) x (omega arith) (slice_get-drop xs n k (n + k) x refl at)))
    ∙ append-nil (take n xs)

-- ---- versions lie one step apart

pub version_before : (config : Config) (h : List Record) (n : ℕ) → IsHistory config h → n ≤ length h → last_version (take n h) ≡ n * config.step
version_before config h zero history within = let none : 0 * config.step ≡ 0 = omega arith in sym none
version_before config h (suc n) history within =
    let here = element_at h n (omega arith) in
    let follows = history n here.0 here.1 in
    let at : last_version (take (suc n) h) ≡ here.0.version = last_version_at h n here.0 here.1 in
    let earlier : last_version (take n h) ≡ n * config.step = version_before config h n history (omega arith) in
    let more : suc n * config.step ≡ n * config.step + config.step = suc-mul n config.step in
    at ∙ follows.version ∙ ap (λ (version : ℕ). version + config.step) (follows.previous ∙ earlier) ∙ sym more

pub versions_at : (config : Config) (h : List Record) (i : ℕ) (rec : Record) → IsHistory config h → slice_get h i ≡ Some rec → (rec.previous ≡ i * config.step) × (rec.version ≡ suc i * config.step)
versions_at config h i rec history at =
    let within : i < length h = slice_get_within h i rec at in
    let previous : rec.previous ≡ last_version (take i h) = (history i rec at).previous in
    let version : last_version (take (suc i) h) ≡ rec.version = last_version_at h i rec at in
    (previous ∙ version_before config h i history (omega arith), sym version ∙ version_before config h (suc i) history (omega arith))

-- with the limit of the version, and the proxy
pub numbers_at : (config : Config) (h : List Record) (i : ℕ) (rec : Record) → IsHistory config h → slice_get h i ≡ Some rec
    → (rec.previous ≡ i * config.step) × (rec.version ≡ suc i * config.step) × (rec.version < 2 ^ 63) × (rec.proxy < config.proxies)
numbers_at config h i rec history at =
    let follows = history i rec at in
    let versions = versions_at config h i rec history at in
    (versions.0, versions.1, follows.representable, follows.proxy)

pub versions_rise : (config : Config) (h : List Record) (i j : ℕ) (a b : Record) → IsHistory config h → i < j → slice_get h i ≡ Some a → slice_get h j ≡ Some b → a.version ≤ b.previous
versions_rise config h i j a b history less is_a is_b = (grows config h i j a b history less is_a is_b).chained

pub oldest_rises : (config : Config) (h : List Record) (i j : ℕ) (a b : Record) → IsHistory config h → i < j → slice_get h i ≡ Some a → slice_get h j ≡ Some b → oldest config a ≤ oldest config b
oldest_rises config h i j a b history less is_a is_b =
    let chained : a.version ≤ b.previous = versions_rise config h i j a b history less is_a is_b in
    let stepped : a.version ≡ a.previous + config.step = (history i a is_a).version in
    omega arith

pub own_up_to_previous : (config : Config) (h : List Record) (i : ℕ) (rec : Record) → IsHistory config h → slice_get h i ≡ Some rec → rec.own_previous ≤ rec.previous
own_up_to_previous config h i rec history at =
    let follows = history i rec at in
    let own : rec.own_previous ≡ last_version (records_of_proxy rec.proxy (take i h)) = follows.own_previous in
    let previous : rec.previous ≡ last_version (take i h) = follows.previous in
    let all : take (length (records_of_proxy rec.proxy (take i h))) (records_of_proxy rec.proxy (take i h)) ≡ records_of_proxy rec.proxy (take i h) = take_all (length (records_of_proxy rec.proxy (take i h))) (records_of_proxy rec.proxy (take i h)) (omega arith) in
    let whole : last_version (take (length (records_of_proxy rec.proxy (take i h))) (records_of_proxy rec.proxy (take i h))) ≡ last_version (records_of_proxy rec.proxy (take i h)) = ap last_version all in
    let below : last_version (take (length (records_of_proxy rec.proxy (take i h))) (records_of_proxy rec.proxy (take i h))) ≤ last_version (take i h) = own_version_up_to config (take i h) rec.proxy (length (records_of_proxy rec.proxy (take i h))) (history_take config h i history) in
    omega (arith, own, previous, whole, below)

-- ---- the next record

pub next_follows_moves : (config : Config) (h : List Record) (moves : List Move) (p : ℕ) (batch : List StampedTransaction) → MovesFollow config h moves → p < config.proxies → last_version h + config.step < version_limit →
    Follows config h (record { row = length h; previous = last_version h; version = last_version h + config.step; own_previous = last_version (records_of_proxy p h); proxy = p; moves = moves; batch = batch })
next_follows_moves config h moves p batch kept there below =
    record {
      row = refl;
      previous = refl;
      version = refl;
      representable = below;
      own_previous = refl;
      proxy = there;
      kept_moves = kept.kept_moves;
      further_moves = kept.further_moves;
    }

-- ---- rows up to a version

pub last_versions_rise : (config : Config) (h : List Record) (n k : ℕ) → IsHistory config h → n ≤ k → n ≤ length h → last_version (take n h) ≤ last_version (take k h)
last_versions_rise config h zero k history fewer within = omega arith
last_versions_rise config h (suc n) k history fewer within =
    let here = element_at h n (omega arith) in
    let at : last_version (take (suc n) h) ≡ here.0.version = last_version_at h n here.0 here.1 in
    let up_to : here.0.version ≤ last_version (take k h) = up_to_last config (take k h) n here.0 (history_take config h k history) (slice_get-take_back h k n here.0 (omega arith) here.1) in
    omega (arith, at, up_to)

-- a version at or below that before row n is of a row below n
pub below_front : (config : Config) (h : List Record) (n i : ℕ) (rec : Record) → 1 ≤ config.step → IsHistory config h → n ≤ length h → slice_get h i ≡ Some rec → rec.version ≤ last_version (take n h) → i < n
below_front config h n i rec stepping history within at up_to = by (cases_order i n)
  where
    not_past : n ≤ i → i < n
    not_past past =
        let follows = history i rec at in
        let previous : rec.previous ≡ last_version (take i h) = follows.previous in
        let version : rec.version ≡ rec.previous + config.step = follows.version in
        let later : last_version (take n h) ≤ last_version (take i h) = last_versions_rise config h n i history past within in
        absurd (omega (arith, previous, version, later))

    by : (i ≡ n) ⊎ ((i < n) ⊎ (n < i)) → i < n
    by (inl same) = not_past (omega arith)
    by (inr (inl less)) = less
    by (inr (inr more)) = not_past (omega arith)

-- and the versions of the first n rows are at or below it
pub up_to_front : (config : Config) (h : List Record) (n i : ℕ) (rec : Record) → IsHistory config h → i < n → slice_get h i ≡ Some rec → rec.version ≤ last_version (take n h)
up_to_front config h n i rec history below at = up_to_last config (take n h) i rec (history_take config h n history) (slice_get-take_back h n i rec below at)

-- so the records up to the version before row n are the first n
pub up_to_front_are : (config : Config) (h : List Record) (n : ℕ) → 1 ≤ config.step → IsHistory config h → n ≤ length h → up_to_version (last_version (take n h)) h ≡ take n h
up_to_front_are config h n stepping history within =
    filter_first (λ (rec : Record). nat_le rec.version (last_version (take n h))) h n
    (λ k rec below at. le-leb rec.version (last_version (take n h)) (up_to_front config h n k rec history below at))
    (λ k rec past at. above k rec past at)
  where
    above : (k : ℕ) (rec : Record) → n ≤ k → slice_get h k ≡ Some rec → nat_le rec.version (last_version (take n h)) ≡ false
    above k rec past at =
        let follows = history k rec at in
        let previous : rec.previous ≡ last_version (take k h) = follows.previous in
        let version : rec.version ≡ rec.previous + config.step = follows.version in
        let later : last_version (take n h) ≤ last_version (take k h) = last_versions_rise config h n k history past within in
        lt-leb rec.version (last_version (take n h)) (omega (arith, previous, version, later))

pub rows_up_to_front : (config : Config) (h : List Record) (n : ℕ) → 1 ≤ config.step → IsHistory config h → n ≤ length h → rows_up_to (last_version (take n h)) h ≡ n
rows_up_to_front config h n stepping history within = ap length (up_to_front_are config h n stepping history within) ∙ length-take-le n h within

pub rows_up_to_record : (config : Config) (h : List Record) (i : ℕ) (rec : Record) → 1 ≤ config.step → IsHistory config h → slice_get h i ≡ Some rec → rows_up_to rec.version h ≡ suc i
rows_up_to_record config h i rec stepping history at =
    let within : i < length h = slice_get_within h i rec at in
    ap (λ (version : ℕ). rows_up_to version h) (sym (last_version_at h i rec at)) ∙ rows_up_to_front config h (suc i) stepping history (omega arith)

pub rows_up_to_none : (config : Config) (h : List Record) → 1 ≤ config.step → IsHistory config h → rows_up_to 0 h ≡ 0
rows_up_to_none config h stepping history = rows_up_to_front config h 0 stepping history (omega arith)

pub one_row : (config : Config) (h : List Record) (i j : ℕ) (a b : Record) → 1 ≤ config.step → IsHistory config h → slice_get h i ≡ Some a → slice_get h j ≡ Some b → a.version ≡ b.version → i ≡ j
one_row config h i j a b stepping history is_a is_b same =
    let of_a : rows_up_to a.version h ≡ suc i = rows_up_to_record config h i a stepping history is_a in
    let of_b : rows_up_to b.version h ≡ suc j = rows_up_to_record config h j b stepping history is_b in
    let both : suc i ≡ suc j = sym of_a ∙ ap (λ (version : ℕ). rows_up_to version h) same ∙ of_b in
    omega arith
