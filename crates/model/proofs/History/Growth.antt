-- Histories that grow, by a record and by a move; and the versions and the records of a proxy in them.
use Rattle.std.proofs.Common.{◌≡◌, refl, sym, ap, ◌∙◌, subst, ℕ, zero, suc, ◌+◌, ◌<◌, ◌≤◌, ◌⊎◌, inl, inr, List, [], ◌∷◌, ◌++◌, length, take, drop, Bool, true, false, nat_eq, nat_lt, if◌then◌else◌, slice_get, slice_index, slice_set, Some, arith}
use Rattle.std.proofs.Math.Seq.{take-append_seam}
use Rattle.std.proofs.Math.ListN.{drop_of_length-le}
use Rattle.std.proofs.lemmas.Bool.{ltb-true, ltb-false}
use Rattle.std.proofs.lemmas.List.{take_all, take-append-le, drop-append-le, length-take}
use Rattle.std.proofs.lemmas.List.Elements.{All-nil, All-push, All-same}
use Rattle.model.specs.Configs.{Config}
use Rattle.model.specs.declared.moves.Move.{Move}
use Rattle.model.specs.Records.{Record, IsHistory, Follows, IsMadeAfter, MovesFollow, last_version, last_moves, records_of_proxy}
use Rattle.model.specs.Shares.{each_below}
use Rattle.model.proofs.Members.{Has, Has-append_left, Has-append_right}
use Rattle.model.proofs.Owners.Moves.{Grows, grows}

-- ---- places of a list

pub slice_get-push : {X : Type 0} (xs : List X) (x : X) → slice_get (xs ++ x ∷ []) (length xs) ≡ Some x
slice_get-push [] x = refl
slice_get-push (y ∷ ys) x = slice_get-push ys x

-- what stands at a place of a list with one element more
pub push_cases : {X : Type 0} (xs : List X) (x : X) (i : ℕ) (y : X) → slice_get (xs ++ x ∷ []) i ≡ Some y → ((i ≡ length xs) × (x ≡ y)) ⊎ ((i < length xs) × (slice_get xs i ≡ Some y))
push_cases [] x zero y at = inl (refl, cc)
push_cases [] x (suc i) y at = absurd (cc)
push_cases (z ∷ xs) x zero y at = inr (omega arith, at)
push_cases (z ∷ xs) x (suc i) y at = go (push_cases xs x i y at)
  where
    go : ((i ≡ length xs) × (x ≡ y)) ⊎ ((i < length xs) × (slice_get xs i ≡ Some y)) → ((suc i ≡ suc (length xs)) × (x ≡ y)) ⊎ ((suc i < suc (length xs)) × (slice_get xs i ≡ Some y))
    go (inl last) = inl (ap (λ (k : ℕ). suc k) last.0, last.1)
    go (inr sooner) = inr (omega (arith, sooner.0), sooner.1)

-- the number at a place that is there
pub index_there : (ns : List ℕ) (i : ℕ) → i < length ns → slice_get ns i ≡ Some (slice_index ns i)
index_there [] i within = absurd (omega arith)
index_there (n ∷ ns) zero within = refl
index_there (n ∷ ns) (suc i) within = index_there ns i (omega arith)

-- the numbers after one of them is set
pub set_cases : (ns : List ℕ) (i n j m : ℕ) → slice_get (slice_set ns i n) j ≡ Some m → ((j ≡ i) × (m ≡ n)) ⊎ (slice_get ns j ≡ Some m)
set_cases [] i n j m at = inr at
set_cases (x ∷ ns) zero n zero m at = inl (refl, cc)
set_cases (x ∷ ns) zero n (suc j) m at = inr at
set_cases (x ∷ ns) (suc i) n zero m at = inr at
set_cases (x ∷ ns) (suc i) n (suc j) m at = go (set_cases ns i n j m at)
  where
    go : ((j ≡ i) × (m ≡ n)) ⊎ (slice_get ns j ≡ Some m) → ((suc j ≡ suc i) × (m ≡ n)) ⊎ (slice_get ns j ≡ Some m)
    go (inl here) = inl (ap (λ (k : ℕ). suc k) here.0, here.1)
    go (inr there) = inr there

pub Has-each_below : (n r : ℕ) → r < n → Has (each_below n) r
Has-each_below zero r below = absurd (omega arith)
Has-each_below (suc n) r below = go (nat_lt r n) refl (λ (less : r < n). Has-each_below n r less)
  where
    go : (b : Bool) → nat_lt r n ≡ b → (r < n → Has (each_below n) r) → Has (each_below n ++ n ∷ []) r
    go true less sooner = Has-append_left (each_below n) (n ∷ []) r (sooner (ltb-true r n less))
    go false more sooner = Has-append_right (each_below n) (n ∷ []) r (inl (let above = ltb-false r n more in omega arith))

-- ---- a record more

pub last_version-push : (h : List Record) (rec : Record) → last_version (h ++ rec ∷ []) ≡ rec.version
last_version-push [] rec = refl
last_version-push (x ∷ []) rec = refl
last_version-push (x ∷ y ∷ h) rec = last_version-push (y ∷ h) rec

pub last_moves-push : (h : List Record) (rec : Record) → last_moves (h ++ rec ∷ []) ≡ rec.moves
last_moves-push [] rec = refl
last_moves-push (x ∷ []) rec = refl
last_moves-push (x ∷ y ∷ h) rec = last_moves-push (y ∷ h) rec

pub no_history : (config : Config) → IsHistory config []
no_history config i rec at = absurd (cc)

-- a history, and a record that may follow it, are a history
pub history_push : (config : Config) (h : List Record) (rec : Record) → IsHistory config h → Follows config h rec → IsHistory config (h ++ rec ∷ [])
history_push config h rec chain follows i found at = go (push_cases h rec i found at)
  where
    go : ((i ≡ length h) × (rec ≡ found)) ⊎ ((i < length h) × (slice_get h i ≡ Some found)) → Follows config (take i (h ++ rec ∷ [])) found
    go (inl here) =
        let front : take i (h ++ rec ∷ []) ≡ h = ap (λ (k : ℕ). take k (h ++ rec ∷ [])) here.0 ∙ take-append_seam h (rec ∷ []) in
        subst (λ (before : List Record). Follows config before found) (sym front) (subst (Follows config h) here.1 follows)
    go (inr within) =
        subst (λ (before : List Record). Follows config before found) (sym (take-append-le i h (rec ∷ []) (omega (arith, within.0)))) (chain i found within.1)

-- what stands last follows the rest
pub history_last : (config : Config) (h : List Record) (rec : Record) → IsHistory config (h ++ rec ∷ []) → Follows config h rec
history_last config h rec chain = subst (λ (before : List Record). Follows config before rec) (take-append_seam h (rec ∷ [])) (chain (length h) rec (slice_get-push h rec))

-- ---- the moves so far

pub no_moves : (config : Config) → MovesFollow config [] []
no_moves config = record { history = no_history config; kept_moves = refl; further_moves = All-nil (IsMadeAfter config 0) }

-- they go on from the last record that has all of them
pub moves_follow_record : (config : Config) (h : List Record) (rec : Record) (moves : List Move) → MovesFollow config h moves → Follows config h rec → rec.moves ≡ moves → MovesFollow config (h ++ rec ∷ []) moves
moves_follow_record config h rec moves kept follows whole =
    let all : last_moves (h ++ rec ∷ []) ≡ moves = last_moves-push h rec ∙ whole in
    let none : drop (length moves) moves ≡ [] = drop_of_length-le moves (omega arith) in
    record {
      history = history_push config h rec kept.history follows;
      kept_moves = ap (λ (known : List Move). take (length known) moves) all ∙ take_all (length moves) moves (omega arith) ∙ sym all;
      further_moves = All-same (IsMadeAfter config (last_version (h ++ rec ∷ []))) (drop (length (last_moves (h ++ rec ∷ []))) moves) [] (ap (λ (known : List Move). drop (length known) moves) all ∙ none) (All-nil (IsMadeAfter config (last_version (h ++ rec ∷ []))));
    }

-- and a move more
pub moves_follow_move : (config : Config) (h : List Record) (moves : List Move) (m : Move) → MovesFollow config h moves → IsMadeAfter config (last_version h) m → MovesFollow config h (moves ++ m ∷ [])
moves_follow_move config h moves m kept made =
    let reach : length (last_moves h) ≤ length moves = omega (arith, length-take (length (last_moves h)) moves, ap length kept.kept_moves) in
    record {
      history = kept.history;
      kept_moves = take-append-le (length (last_moves h)) moves (m ∷ []) reach ∙ kept.kept_moves;
      further_moves = All-same (IsMadeAfter config (last_version h)) (drop (length (last_moves h)) (moves ++ m ∷ [])) (drop (length (last_moves h)) moves ++ m ∷ []) (drop-append-le (length (last_moves h)) moves (m ∷ []) reach)
          (All-push (IsMadeAfter config (last_version h)) (drop (length (last_moves h)) moves) m kept.further_moves made);
    }

-- ---- no version is above the last one

up_to_last_from : (config : Config) (whole : List Record) (k : ℕ) (h : List Record) (i : ℕ) (rec : Record) → IsHistory config whole → ((j : ℕ) (s : Record) → slice_get h j ≡ Some s → slice_get whole (k + j) ≡ Some s) → slice_get h i ≡ Some rec → rec.version ≤ last_version h
up_to_last_from config whole k [] i rec history there at = absurd (cc)
up_to_last_from config whole k (x ∷ []) zero rec history there at = let same : x ≡ rec = cc in let e : x.version ≡ rec.version = ap (λ (s : Record). s.version) same in omega arith
up_to_last_from config whole k (x ∷ []) (suc i) rec history there at = absurd (cc)
up_to_last_from config whole k (x ∷ y ∷ h) zero rec history there at =
    let same : x ≡ rec = cc in
    let e : x.version ≡ rec.version = ap (λ (s : Record). s.version) same in
    let grown : Grows x y = grows config whole (k + 0) (k + 1) x y history (omega arith) (there 0 x refl) (there 1 y refl) in
    let chained : x.version ≤ y.previous = grown.chained in
    let stepped = (history (k + 1) y (there 1 y refl)).version in
    let rest : y.version ≤ last_version (y ∷ h) = up_to_last_from config whole (suc k) (y ∷ h) 0 y history (λ j s is. let goes_on : k + suc j ≡ suc k + j = omega arith in rw (← goes_on) (there (suc j) s is)) refl in
    omega (arith, e, chained, stepped, rest)
up_to_last_from config whole k (x ∷ y ∷ h) (suc i) rec history there at =
    up_to_last_from config whole (suc k) (y ∷ h) i rec history (λ j s is. let goes_on : k + suc j ≡ suc k + j = omega arith in rw (← goes_on) (there (suc j) s is)) at

pub up_to_last : (config : Config) (h : List Record) (i : ℕ) (rec : Record) → IsHistory config h → slice_get h i ≡ Some rec → rec.version ≤ last_version h
up_to_last config h i rec history at = up_to_last_from config h 0 h i rec history (λ j s is. let same : 0 + j ≡ j = omega arith in rw same is) at

-- ---- the records of a proxy

pub records_of_proxy-append : (p : ℕ) (xs ys : List Record) → records_of_proxy p (xs ++ ys) ≡ records_of_proxy p xs ++ records_of_proxy p ys
records_of_proxy-append p [] ys = refl
records_of_proxy-append p (x ∷ xs) ys = by (nat_eq x.proxy p) (records_of_proxy-append p xs ys)
  where
    by : (t : Bool) → records_of_proxy p (xs ++ ys) ≡ records_of_proxy p xs ++ records_of_proxy p ys → (if t then x ∷ records_of_proxy p (xs ++ ys) else records_of_proxy p (xs ++ ys)) ≡ (if t then x ∷ records_of_proxy p xs else records_of_proxy p xs) ++ records_of_proxy p ys
    by true rest = ap (λ (rs : List Record). x ∷ rs) rest
    by false rest = rest

-- a place in the whole list
record Found (h : List Record) (rec : Record) : Type 0 where
  i : ℕ
  at : slice_get h i ≡ Some rec

of_proxy_found : (p : ℕ) (h : List Record) (k : ℕ) (rec : Record) → slice_get (records_of_proxy p h) k ≡ Some rec → Found h rec
of_proxy_found p [] k rec at = absurd (cc)
of_proxy_found p (x ∷ h) k rec at = by (nat_eq x.proxy p) k at (λ (k : ℕ) (is : slice_get (records_of_proxy p h) k ≡ Some rec). of_proxy_found p h k rec is)
  where
    behind : Found h rec → Found (x ∷ h) rec
    behind found = record { i = suc found.i; at = found.at }

    by : (t : Bool) (k : ℕ) → slice_get (if t then x ∷ records_of_proxy p h else records_of_proxy p h) k ≡ Some rec → ((k : ℕ) → slice_get (records_of_proxy p h) k ≡ Some rec → Found h rec) → Found (x ∷ h) rec
    by true zero is later = record { i = 0; at = is }
    by true (suc k) is later = behind (later k is)
    by false k is later = behind (later k is)

-- the last version of some of them is no more than that of all
last_of : (bound : ℕ) (h : List Record) (n : ℕ) → ((k : ℕ) (rec : Record) → slice_get h k ≡ Some rec → rec.version ≤ bound) → last_version (take n h) ≤ bound
last_of bound [] zero below = omega arith
last_of bound [] (suc n) below = omega arith
last_of bound (x ∷ h) zero below = omega arith
last_of bound (x ∷ []) (suc zero) below = below 0 x refl
last_of bound (x ∷ []) (suc (suc n)) below = below 0 x refl
last_of bound (x ∷ y ∷ h) (suc zero) below = below 0 x refl
last_of bound (x ∷ y ∷ h) (suc (suc n)) below = last_of bound (y ∷ h) (suc n) (λ k rec at. below (suc k) rec at)

pub own_version_up_to : (config : Config) (h : List Record) (p n : ℕ) → IsHistory config h → last_version (take n (records_of_proxy p h)) ≤ last_version h
own_version_up_to config h p n history =
    last_of (last_version h) (records_of_proxy p h) n (λ k rec at. let found = of_proxy_found p h k rec at in up_to_last config h found.i rec history found.at)
