-- What the checks of a whole run find.
use Rattle.std.proofs.Common.{◌≡◌, ◌≢◌, ◌∙◌, ◌++◌, ◌+◌, ◌-◌, ◌<◌, ◌≤◌, [], ◌∷◌, ℕ, List, refl, sym, ap, subst, take, map, length, filter, get_or, append-nil, length-append, inl, inr, arith}
use Rattle.std.specs.Prelude.{◌⊎◌, All, true, false, nat_eq, slice_get, Some}
use Rattle.std.proofs.Math.Nat.{suc-mul}
use Rattle.std.proofs.lemmas.Bool.{cases_order, eq-eqb, ne_eqb}
use Rattle.std.proofs.lemmas.Bool.Decides.{eqb_tells}
use lib.Dec.{eqb}
use Rattle.std.proofs.lemmas.List.{length-map, map-append}
use Rattle.std.proofs.lemmas.List.Elements.{All-cons, All-head, All-nil, All-push, All-same, All-tail, filter-append}
use Rattle.std.proofs.lemmas.Option.{get_or_from_slice_get, same_Some, slice_get-get_or, slice_get-map, slice_get_within}
use Rattle.facts.specs.Stretches.{HasAt, Lacks, Stretch}
use Rattle.model.specs.Configs.{Config}
use Rattle.model.specs.Records.{Record, IsHistory, last_version, records_of_proxy}
use Rattle.model.specs.declared.moves.Move.{Move}
use Rattle.model.proofs.History.Chain.{versions_at}
use Rattle.model.proofs.History.Growth.{last_version-push}
use Rattle.model.proofs.Owners.Moves.{grows}
use Rattle.locked_resolvers.proofs.Lists.{take_all, take_next}
use Rattle.threads_lines.specs.Moves.{AreAfterMoves, dated}
use Rattle.threads_scripts.specs.declared.script.UndatedMove.{UndatedMove}

-- ---- records at their rows

-- the records have this one at the row
pub had_at : (s : Stretch Record) (h : List Record) (row : ℕ) (rec : Record) → s ≡ record { first = 0; known = h } → HasAt s row rec → slice_get h row ≡ Some rec
had_at s h row rec is has =
    let there : HasAt (record { first = 0; known = h }) row rec = subst (λ (t : Stretch Record). HasAt t row rec) is has in
    let same : row - 0 ≡ row = omega arith in
    ap (slice_get h) (sym same) ∙ there.1

-- no row before the end is lacking
pub none_lacking : (s : Stretch Record) (h : List Record) (row : ℕ) → s ≡ record { first = 0; known = h } → row < length h → Lacks s row → ⊥
none_lacking s h row is within lacks = by (subst (λ (t : Stretch Record). Lacks t row) is lacks)
  where
    by : Lacks (record { first = 0; known = h }) row → ⊥
    by (inl below) = omega (arith, below)
    by (inr above) = omega (arith, above, within)

-- ---- the last version of a proxy

own_next : (p : ℕ) (h : List Record) (k : ℕ) (rec : Record) → slice_get h k ≡ Some rec
    → records_of_proxy p (take (k + 1) h) ≡ records_of_proxy p (take k h) ++ filter (λ (r : Record). nat_eq r.proxy p) (rec ∷ [])
own_next p h k rec at = ap (records_of_proxy p) (take_next h k rec at) ∙ filter-append (λ (r : Record). nat_eq r.proxy p) (take k h) (rec ∷ [])

-- its own record
pub own_version_next : (p : ℕ) (h : List Record) (k : ℕ) (rec : Record) → slice_get h k ≡ Some rec → rec.proxy ≡ p
    → rec.version ≡ last_version (records_of_proxy p (take (k + 1) h))
own_version_next p h k rec at own =
    let one : filter (λ (r : Record). nat_eq r.proxy p) (rec ∷ []) ≡ rec ∷ [] = rw (eq-eqb rec.proxy p own) refl in
    sym (ap (λ (rs : List Record). last_version rs) (own_next p h k rec at ∙ ap (λ (rs : List Record). records_of_proxy p (take k h) ++ rs) one) ∙ last_version-push (records_of_proxy p (take k h)) rec)

-- another's record
pub other_version_next : (p : ℕ) (h : List Record) (k : ℕ) (rec : Record) (version : ℕ) → slice_get h k ≡ Some rec → (rec.proxy ≡ p → ⊥)
    → version ≡ last_version (records_of_proxy p (take k h)) → version ≡ last_version (records_of_proxy p (take (k + 1) h))
other_version_next p h k rec version at other is =
    let none : filter (λ (r : Record). nat_eq r.proxy p) (rec ∷ []) ≡ [] = rw (ne_eqb rec.proxy p other) refl in
    is ∙ sym (ap (λ (rs : List Record). last_version rs) (own_next p h k rec at ∙ ap (λ (rs : List Record). records_of_proxy p (take k h) ++ rs) none ∙ append-nil (records_of_proxy p (take k h))))

-- whichever it is
pub version_next : (p : ℕ) (h : List Record) (k : ℕ) (rec : Record) (before next : ℕ) → slice_get h k ≡ Some rec
    → (rec.proxy ≡ p → next ≡ rec.version) → ((rec.proxy ≡ p → ⊥) → next ≡ before)
    → before ≡ last_version (records_of_proxy p (take k h)) → next ≡ last_version (records_of_proxy p (take (k + 1) h))
version_next p h k rec before next at own other is = by (eqb_tells rec.proxy p)
  where
    by : ((eqb rec.proxy p ≡ true) × (rec.proxy ≡ p)) ⊎ ((eqb rec.proxy p ≡ false) × (rec.proxy ≡ p → ⊥)) → next ≡ last_version (records_of_proxy p (take (k + 1) h))
    by (inl (_, same)) = own same ∙ own_version_next p h k rec at same
    by (inr (_, apart)) = other_version_next p h k rec next at apart (other apart ∙ is)

-- all were looked at
pub version_last : (p : ℕ) (h : List Record) (k version : ℕ) → length h ≤ k → version ≡ last_version (records_of_proxy p (take k h)) → version ≡ last_version (records_of_proxy p h)
version_last p h k version all is = is ∙ ap (λ (rs : List Record). last_version (records_of_proxy p rs)) (take_all h k all)

-- ---- all of a list

pub all_next : {X : Type 0} (P : X → Type 0) (xs : List X) (k : ℕ) (x : X) → slice_get xs k ≡ Some x → P x → All P (take k xs) → All P (take (k + 1) xs)
all_next P xs k x at is all = All-same P (take (k + 1) xs) (take k xs ++ x ∷ []) (take_next xs k x at) (All-push P (take k xs) x all is)

pub all_taken : {X : Type 0} (P : X → Type 0) (xs : List X) (k : ℕ) → length xs ≤ k → All P (take k xs) → All P xs
all_taken P xs k whole all = All-same P xs (take k xs) (sym (take_all xs k whole)) all

pub all_at : {X : Type 0} (P : X → Type 0) (xs : List X) (k : ℕ) (x : X) → All P xs → slice_get xs k ≡ Some x → P x
all_at P xs k x all at = subst P (get_or_from_slice_get xs k x x at) (all k x (slice_get_within xs k x at))

-- ---- how many records a proxy has

-- one record more is looked at
pub count_next : (p : ℕ) (h : List Record) (k : ℕ) (rec : Record) (count one : ℕ) → slice_get h k ≡ Some rec
    → (rec.proxy ≡ p → one ≡ 1) → ((rec.proxy ≡ p → ⊥) → one ≡ 0)
    → count ≡ length (records_of_proxy p (take k h)) → count + one ≡ length (records_of_proxy p (take (k + 1) h))
count_next p h k rec count one at own other is = by (eqb_tells rec.proxy p)
  where
    earlier : List Record
    earlier = records_of_proxy p (take k h)

    grown : (more : List Record) → filter (λ (r : Record). nat_eq r.proxy p) (rec ∷ []) ≡ more → length (records_of_proxy p (take (k + 1) h)) ≡ length earlier + length more
    grown more filtered = ap (λ (rs : List Record). length rs) (own_next p h k rec at ∙ ap (λ (rs : List Record). earlier ++ rs) filtered) ∙ length-append earlier more

    by : ((eqb rec.proxy p ≡ true) × (rec.proxy ≡ p)) ⊎ ((eqb rec.proxy p ≡ false) × (rec.proxy ≡ p → ⊥)) → count + one ≡ length (records_of_proxy p (take (k + 1) h))
    by (inl (_, same)) =
        let size = grown (rec ∷ []) (rw (eq-eqb rec.proxy p same) refl) in
        let first : one ≡ 1 = own same in
        let before : count ≡ length earlier = is in
        omega (arith, size, first, before)
    by (inr (_, apart)) =
        let size = grown [] (rw (ne_eqb rec.proxy p apart) refl) in
        let none : one ≡ 0 = other apart in
        let before : count ≡ length earlier = is in
        omega (arith, size, none, before)

-- all were looked at
pub count_last : (p : ℕ) (h : List Record) (k count : ℕ) → length h ≤ k → count ≡ length (records_of_proxy p (take k h)) → count ≡ length (records_of_proxy p h)
count_last p h k count all is = is ∙ ap (λ (rs : List Record). length (records_of_proxy p rs)) (take_all h k all)

-- ---- moves

all_after : (P : Move → Type 0) (xs ys : List Move) → All P (xs ++ ys) → All P ys
all_after P [] ys all = all
all_after P (x ∷ xs) ys all = all_after P xs ys (All-tail P x (xs ++ ys) all)

all_dated : (moves : List UndatedMove) → All (λ (m : Move). m.date ≡ 1) (map (dated 1) moves)
all_dated [] = All-nil (λ (m : Move). m.date ≡ 1)
all_dated (one ∷ moves) = All-cons (λ (m : Move). m.date ≡ 1) (dated 1 one) (map (dated 1) moves) refl (all_dated moves)

none_newer : (version : ℕ) (newer : List Move) → 1 ≤ version → All (λ (m : Move). version < m.date) newer → All (λ (m : Move). m.date ≡ 1) newer → newer ≡ []
none_newer version [] above late early = refl
none_newer version (m ∷ newer) above late early =
    let after : version < m.date = All-head (λ (n : Move). version < n.date) m newer late in
    let first : m.date ≡ 1 = All-head (λ (n : Move). n.date ≡ 1) m newer early in
    absurd (omega (arith, above, after, first))

-- an earlier record has the moves of the last one, if all of these are dated 1
same_moves : (config : Config) (h : List Record) (moves : List UndatedMove) (i j : ℕ) (a b : Record) → 1 ≤ config.step → IsHistory config h
    → i < j → slice_get h i ≡ Some a → slice_get h j ≡ Some b → b.moves ≡ map (dated 1) moves → a.moves ≡ map (dated 1) moves
same_moves config h moves i j a b stepping history less is_a is_b last =
    let grown = grows config h i j a b history less is_a is_b in
    let above : 1 ≤ a.version = omega (arith, stepping, (versions_at config h i a history is_a).1, suc-mul i config.step) in
    let early : All (λ (m : Move). m.date ≡ 1) grown.newer = all_after (λ (m : Move). m.date ≡ 1) a.moves grown.newer (subst (λ (ms : List Move). All (λ (m : Move). m.date ≡ 1) ms) (sym last ∙ grown.moves) (all_dated moves)) in
    let none : grown.newer ≡ [] = none_newer a.version grown.newer above grown.dated early in
    sym (append-nil a.moves) ∙ ap (λ (ms : List Move). a.moves ++ ms) (sym none) ∙ sym grown.moves ∙ last

-- each record has the moves that the last one has
pub moves_of_each : (config : Config) (h : List Record) (moves : List UndatedMove) (last : ℕ) (rec : Record) → 1 ≤ config.step → IsHistory config h
    → slice_get h last ≡ Some rec → last + 1 ≡ length h → rec.moves ≡ map (dated 1) moves → AreAfterMoves moves h
moves_of_each config h moves last rec stepping history there end is k d within = by (cases_order k last)
  where
    at : slice_get h k ≡ Some (get_or h k d)
    at = slice_get-get_or h k d within

    by : (k ≡ last) ⊎ ((k < last) ⊎ (last < k)) → (get_or h k d).moves ≡ map (dated 1) moves
    by (inl same) = ap (λ (r : Record). r.moves) (same_Some (get_or h k d) rec (sym at ∙ ap (slice_get h) same ∙ there)) ∙ is
    by (inr (inl less)) = same_moves config h moves k last (get_or h k d) rec stepping history less at there is
    by (inr (inr above)) = absurd (omega (arith, above, within, end))

-- one more move is the same
pub one_more_dated : (moves : List Move) (undated : List UndatedMove) (k : ℕ) (m : Move) (one : UndatedMove)
    → slice_get moves k ≡ Some m → slice_get undated k ≡ Some one → m ≡ dated 1 one → take k moves ≡ map (dated 1) (take k undated)
    → take (k + 1) moves ≡ map (dated 1) (take (k + 1) undated)
one_more_dated moves undated k m one at there is earlier =
    take_next moves k m at ∙ ap (λ (ms : List Move). ms ++ m ∷ []) earlier ∙ ap (λ (n : Move). map (dated 1) (take k undated) ++ n ∷ []) is
    ∙ sym (ap (map (dated 1)) (take_next undated k one there) ∙ map-append (dated 1) (take k undated) (one ∷ []))

-- all moves are the same
pub all_are_dated : (moves : List Move) (undated : List UndatedMove) (k : ℕ) → length moves ≡ length undated → length undated ≤ k → take k moves ≡ map (dated 1) (take k undated) → moves ≡ map (dated 1) undated
all_are_dated moves undated k same all is =
    sym (take_all moves k (omega (arith, same, all))) ∙ is ∙ ap (map (dated 1)) (take_all undated k all)

-- there are more moves, or fewer
pub other_count : (moves : List Move) (undated : List UndatedMove) → length moves ≢ length undated → moves ≢ map (dated 1) undated
other_count moves undated apart same = apart (ap (λ (ms : List Move). length ms) same ∙ length-map undated (dated 1))

-- one move is another
pub other_move : (moves : List Move) (undated : List UndatedMove) (k : ℕ) (m : Move) (one : UndatedMove)
    → slice_get moves k ≡ Some m → slice_get undated k ≡ Some one → m ≢ dated 1 one → moves ≢ map (dated 1) undated
other_move moves undated k m one at there apart same =
    let here : slice_get (map (dated 1) undated) k ≡ Some (dated 1 one) = rw (slice_get-map (dated 1) undated k, there) refl in
    apart (same_Some m (dated 1 one) (sym at ∙ ap (λ (ms : List Move). slice_get ms k) same ∙ here))
