-- Changes that are put into their mutations.
use Rattle.std.proofs.Common.{◌≡◌, ◌∙◌, ℕ, zero, suc, ◌+◌, ◌<◌, ◌≤◌, List, [], ◌∷◌, ◌++◌, length, map, take, drop, take-append-drop, get_or, slice_set, drop-cons, length-append, refl, sym, ap, ap₂, arith}
use Rattle.std.proofs.lemmas.List.{map-append, length-map}
use Rattle.system_keys.specs.declared.change.Change.{Change}
use Rattle.model.specs.declared.outcome.Outcome.{Outcome}
use Rattle.model.specs.declared.outcome.Outcome.TheVariants.{Committed, Conflict, TooOld, Locked}
use Rattle.model.specs.declared.outcome.Tagged.{Tagged}
use Rattle.model.specs.Metadata.{Entries}
use Rattle.model.specs.Transactions.{StampedTransaction}
use Rattle.model.specs.World.{tagged_from, tagged_one, tagged_all}
use Rattle.proxy_state.specs.TakenChanges.{without_change, with_changes, changes_if_committed, changes_of}

abbrev change_of : Tagged → Change
change_of mutation = mutation.change

-- ---- the mutations of a batch have the changes of its committed transactions

from_changes : (entries : Entries) (number n : ℕ) (changes : List Change) → map change_of (tagged_from entries number n changes) ≡ changes
from_changes entries number n [] = refl
from_changes entries number n (change ∷ changes) = ap (λ (cs : List Change). change ∷ cs) (from_changes entries number (suc n) changes)

one_changes : (entries : Entries) (t : StampedTransaction) (outcome : Outcome) → map change_of (tagged_one entries t outcome) ≡ changes_if_committed t outcome
one_changes entries t (Committed version number) = from_changes entries number 0 t.changes
one_changes entries t Conflict = refl
one_changes entries t TooOld = refl
one_changes entries t Locked = refl

all_changes : (entries : Entries) (ts : List StampedTransaction) (outcomes : List Outcome) → map change_of (tagged_all entries ts outcomes) ≡ changes_of ts outcomes
all_changes entries [] outcomes = refl
all_changes entries (t ∷ ts) [] = refl
all_changes entries (t ∷ ts) (outcome ∷ outcomes) =
    map-append change_of (tagged_one entries t outcome) (tagged_all entries ts outcomes)
    ∙ ap₂ (λ (xs ys : List Change). xs ++ ys) (one_changes entries t outcome) (all_changes entries ts outcomes)

put_back : (mutations : List Tagged) → with_changes (map without_change mutations) (map change_of mutations) ≡ mutations
put_back [] = refl
put_back (mutation ∷ mutations) = ap (λ (ts : List Tagged). mutation ∷ ts) (put_back mutations)

-- with the changes of the batch put in, the mutations are those of the definition
pub all_put : (entries : Entries) (ts : List StampedTransaction) (outcomes : List Outcome) → with_changes (map without_change (tagged_all entries ts outcomes)) (changes_of ts outcomes) ≡ tagged_all entries ts outcomes
all_put entries ts outcomes =
    ap (with_changes (map without_change (tagged_all entries ts outcomes))) (sym (all_changes entries ts outcomes))
    ∙ put_back (tagged_all entries ts outcomes)

pub all_room : (entries : Entries) (ts : List StampedTransaction) (outcomes : List Outcome) → length (changes_of ts outcomes) ≤ length (map without_change (tagged_all entries ts outcomes))
all_room entries ts outcomes =
    let changes : length (map change_of (tagged_all entries ts outcomes)) ≡ length (tagged_all entries ts outcomes) = length-map (tagged_all entries ts outcomes) change_of in
    let labels : length (map without_change (tagged_all entries ts outcomes)) ≡ length (tagged_all entries ts outcomes) = length-map (tagged_all entries ts outcomes) without_change in
    let same : length (map change_of (tagged_all entries ts outcomes)) ≡ length (changes_of ts outcomes) = ap (λ (cs : List Change). length cs) (all_changes entries ts outcomes) in
    omega (arith, changes, labels, same)

-- the mutations without their changes, of one list after another
pub labels_append : (xs ys : List Tagged) → map without_change (xs ++ ys) ≡ map without_change xs ++ map without_change ys
labels_append xs ys = map-append without_change xs ys

-- ---- one change after another

put_none : (xs : List Tagged) → with_changes xs [] ≡ xs
put_none [] = refl
put_none (x ∷ xs) = refl

put_at : (xs : List Tagged) (i : ℕ) (x : Tagged) (change : Change) (rest : List Change) → i < length xs → x ≡ get_or xs i x
    → let now = slice_set xs i (record x { change = change }) in take (suc i) now ++ with_changes (drop (suc i) now) rest ≡ take i xs ++ with_changes (drop i xs) (change ∷ rest)
put_at [] i x change rest within at = absurd (omega (arith, within))
put_at (y ∷ ys) zero x change rest within at = ap (λ (z : Tagged). record z { change = change } ∷ with_changes ys rest) at
put_at (y ∷ ys) (suc i) x change rest within at = ap (λ (zs : List Tagged). y ∷ zs) (put_at ys i x change rest (omega (arith, within)) at)

-- one more change is put in
pub put_next : (xs now : List Tagged) (i m : ℕ) (x : Tagged) (change : Change) (left rest : List Change) (whole : List Tagged) → i < length xs → x ≡ get_or xs i x → m ≡ i + 1 → now ≡ slice_set xs i (record x { change = change }) → left ≡ change ∷ rest
    → take i xs ++ with_changes (drop i xs) left ≡ whole → take m now ++ with_changes (drop m now) rest ≡ whole
put_next xs now i m x change left rest whole within at next is split so_far =
    let step : m ≡ suc i = omega (arith, next) in
    rw (is, step) (put_at xs i x change rest within at ∙ ap (λ (cs : List Change). take i xs ++ with_changes (drop i xs) cs) (sym split) ∙ so_far)

-- after the last one all are put in
pub put_last : (xs : List Tagged) (i : ℕ) (left : List Change) (whole : List Tagged) → length left ≡ 0 → take i xs ++ with_changes (drop i xs) left ≡ whole → xs ≡ whole
put_last xs i [] whole none so_far = sym (ap (λ (ys : List Tagged). take i xs ++ ys) (put_none (drop i xs)) ∙ take-append-drop i xs) ∙ so_far
put_last xs i (change ∷ left) whole none so_far = absurd (omega (arith, none))

-- ---- the changes of one transaction after another

front_put : (xs : List Tagged) (cs more : List Change) → length cs ≤ length xs
    → let now = with_changes xs cs in take (length cs) now ++ with_changes (drop (length cs) now) more ≡ with_changes xs (cs ++ more)
front_put [] [] more room = refl
front_put [] (c ∷ cs) more room = absurd (omega (arith, room))
front_put (x ∷ xs) [] more room = refl
front_put (x ∷ xs) (c ∷ cs) more room = ap (λ (zs : List Tagged). record x { change = c } ∷ zs) (front_put xs cs more (omega (arith, room)))

runs_put : (xs : List Tagged) (i m : ℕ) (cs more : List Change) → i + length cs ≤ length xs → m ≡ i + length cs
    → let now = take i xs ++ with_changes (drop i xs) cs in take m now ++ with_changes (drop m now) more ≡ take i xs ++ with_changes (drop i xs) (cs ++ more)
runs_put xs zero m cs more room is = let all : m ≡ length cs = omega (arith, is) in rw all (front_put xs cs more (omega (arith, room)))
runs_put [] (suc i) m cs more room is = absurd (omega (arith, room))
runs_put (x ∷ xs) (suc i) zero cs more room is = absurd (omega (arith, is))
runs_put (x ∷ xs) (suc i) (suc m) cs more room is = ap (λ (zs : List Tagged). x ∷ zs) (runs_put xs i m cs more (omega (arith, room)) (omega (arith, is)))

pub put_run : (xs now : List Tagged) (i m : ℕ) (cs more left : List Change) (whole : List Tagged) → i + length cs ≤ length xs → m ≡ i + length cs → now ≡ take i xs ++ with_changes (drop i xs) cs → left ≡ cs ++ more
    → take i xs ++ with_changes (drop i xs) left ≡ whole → take m now ++ with_changes (drop m now) more ≡ whole
put_run xs now i m cs more left whole room next is split so_far =
    rw is (runs_put xs i m cs more room next ∙ ap (λ (all : List Change). take i xs ++ with_changes (drop i xs) all) (sym split) ∙ so_far)

-- ---- the transactions that are left

-- of the transactions that are left the first has its changes first
pub next_changes : (ts rest : List StampedTransaction) (t : StampedTransaction) (outcomes : List Outcome) (n m : ℕ) (d : Outcome) (cs : List Change) → ts ≡ t ∷ rest → n < length outcomes → cs ≡ changes_if_committed t (get_or outcomes n d) → m ≡ n + 1
    → changes_of ts (drop n outcomes) ≡ cs ++ changes_of rest (drop m outcomes)
next_changes ts rest t outcomes n m d cs split within is next =
    let step : suc n ≡ m = omega (arith, next) in
    let front : drop n outcomes ≡ get_or outcomes n d ∷ drop m outcomes = drop-cons outcomes n d within ∙ ap (λ (k : ℕ). get_or outcomes n d ∷ drop k outcomes) step in
    ap₂ (λ (left : List StampedTransaction) (later : List Outcome). changes_of left later) split front
    ∙ ap (λ (all : List Change). all ++ changes_of rest (drop m outcomes)) (sym is)

-- there is room for its changes, and then for the others
pub room_for : (left cs more : List Change) (i room : ℕ) → left ≡ cs ++ more → i + length left ≤ room → (i + length cs ≤ room) × ((i + length cs) + length more ≤ room)
room_for left cs more i room split fits =
    let size : length left ≡ length cs + length more = ap (λ (all : List Change). length all) split ∙ length-append cs more in
    (omega (arith, size, fits), omega (arith, size, fits))

-- after the last transaction all changes are put in
pub put_all : (xs : List Tagged) (i : ℕ) (ts : List StampedTransaction) (outcomes : List Outcome) (whole : List Tagged) → length ts ≡ 0 → take i xs ++ with_changes (drop i xs) (changes_of ts outcomes) ≡ whole → xs ≡ whole
put_all xs i [] outcomes whole none so_far = put_last xs i [] whole refl so_far
put_all xs i (t ∷ ts) outcomes whole none so_far = absurd (omega (arith, none))

-- ---- the mutations of a batch

-- there is a mutation for each change
pub labels_have_room : (entries : Entries) (lent batch : List StampedTransaction) (told outcomes : List Outcome) (labelled : List Tagged) → lent ≡ batch → told ≡ outcomes → labelled ≡ map without_change (tagged_all entries lent told) → length (changes_of batch outcomes) ≤ length labelled
labels_have_room entries lent batch told outcomes labelled same alike are =
    rw (are, same, alike) (all_room entries batch outcomes)

-- with the changes put in they are those of the definition
pub labels_put : (entries : Entries) (lent batch : List StampedTransaction) (told outcomes : List Outcome) (labelled now : List Tagged) → lent ≡ batch → told ≡ outcomes → labelled ≡ map without_change (tagged_all entries lent told) → now ≡ with_changes labelled (changes_of batch outcomes) → now ≡ tagged_all entries batch outcomes
labels_put entries lent batch told outcomes labelled now same alike are is =
    is
    ∙ ap (λ (ts : List Tagged). with_changes ts (changes_of batch outcomes)) (are ∙ (λ i. map without_change (tagged_all entries (same i) (alike i))))
    ∙ all_put entries batch outcomes
