-- Records that are a start of one history.
use Rattle.std.proofs.Common.{◌≡◌, ◌∙◌, ◌++◌, ◌+◌, ◌-◌, ◌<◌, ◌≤◌, [], ◌∷◌, ℕ, suc, List, refl, sym, ap, subst, drop, take, length, append-nil, append_assoc, inl, inr, arith}
use Rattle.std.specs.Prelude.{◌⊎◌, cond, nat_le, true, slice_get, Some}
use Rattle.std.proofs.lemmas.Bool.{le-leb}
use Rattle.facts.specs.Stretches.{Agree, HasAt, Stretch, StretchesAgree, end_of, extended, rest_from}
use Rattle.model.specs.Configs.{Config}
use Rattle.model.specs.Records.{Record, IsHistory, last_version}
use Rattle.model.proofs.History.Growth.{push_cases}
use Rattle.model.proofs.Owners.Moves.{last_version_at}
use Rattle.locked_cluster.specs.Answers.{NotedFinishedView}
use Rattle.locked_resolvers.proofs.Lists.{agree_rest, beginning_of, take_all, take_next}
use Rattle.threads_lines.specs.Histories.{IsStartOf, Joins, Known, SeesFinished}

-- ---- starts

take_front : (xs rest : List Record) → IsStartOf xs (xs ++ rest)
take_front [] rest = refl
take_front (x ∷ xs) rest = ap (λ ys. x ∷ ys) (take_front xs rest)

pub start_self : (xs : List Record) → IsStartOf xs xs
start_self xs = sym (take_all xs (length xs) (omega arith))

pub start_more : (xs ys zs : List Record) → IsStartOf xs ys → IsStartOf ys zs → IsStartOf xs zs
start_more xs ys zs first second =
    let (rest, is) = beginning_of ys (length xs) in
    let (further, whole) = beginning_of zs (length ys) in
    let mine : ys ≡ xs ++ rest = is ∙ ap (λ (front : List Record). front ++ rest) (sym first) in
    let theirs : zs ≡ ys ++ further = whole ∙ ap (λ (front : List Record). front ++ further) (sym second) in
    let all : zs ≡ xs ++ (rest ++ further) = theirs ∙ ap (λ (front : List Record). front ++ further) mine ∙ append_assoc xs rest further in
    subst (λ (ts : List Record). IsStartOf xs ts) (sym all) (take_front xs (rest ++ further))

-- ---- what is learned

-- the longer of two lists that agree
longer : (xs ys : List Record) → Agree 0 xs 0 ys
    → ((xs ++ drop (length xs) ys ≡ xs) × IsStartOf ys xs) ⊎ ((xs ++ drop (length xs) ys ≡ ys) × IsStartOf xs ys)
longer [] ys agree = inr (refl, refl)
longer (x ∷ xs) [] agree = inl (append-nil (x ∷ xs), refl)
longer (x ∷ xs) (y ∷ ys) agree = by (longer xs ys (agree_rest x y xs ys agree))
  where
    first : x ≡ y
    first = agree 0 0 x y refl refl refl

    by : ((xs ++ drop (length xs) ys ≡ xs) × IsStartOf ys xs) ⊎ ((xs ++ drop (length xs) ys ≡ ys) × IsStartOf xs ys)
        → (((x ∷ xs) ++ drop (length (x ∷ xs)) (y ∷ ys) ≡ x ∷ xs) × IsStartOf (y ∷ ys) (x ∷ xs)) ⊎ (((x ∷ xs) ++ drop (length (x ∷ xs)) (y ∷ ys) ≡ y ∷ ys) × IsStartOf (x ∷ xs) (y ∷ ys))
    by (inl (same, start)) = inl (ap (λ (ts : List Record). x ∷ ts) same, λ i. sym first i ∷ start i)
    by (inr (same, start)) = inr (λ i. first i ∷ same i, λ i. first i ∷ start i)

-- what a history has become that learned another one
pub record HasLearned (config : Config) (old other new : List Record) : Type 0 where
  pub history : IsHistory config new
  pub kept : IsStartOf old new
  pub learned : IsStartOf other new

learned_lists : (config : Config) (xs ys zs : List Record) → Agree 0 xs 0 ys → zs ≡ xs ++ drop (length xs) ys → IsHistory config xs → IsHistory config ys → HasLearned config xs ys zs
learned_lists config xs ys zs agree is mine theirs = by (longer xs ys agree)
  where
    by : ((xs ++ drop (length xs) ys ≡ xs) × IsStartOf ys xs) ⊎ ((xs ++ drop (length xs) ys ≡ ys) × IsStartOf xs ys) → HasLearned config xs ys zs
    by (inl (same, start)) =
        subst (λ (ts : List Record). HasLearned config xs ys ts) (sym (is ∙ same))
        (record { history = mine; kept = start_self xs; learned = start })
    by (inr (same, start)) =
        subst (λ (ts : List Record). HasLearned config xs ys ts) (sym (is ∙ same))
        (record { history = theirs; kept = start; learned = start_self ys })

rest_after : (n : ℕ) (ys : List Record) → rest_from (0 + n) (record { first = 0; known = ys }) ≡ drop n ys
rest_after n ys =
    let within : 0 ≤ 0 + n = omega arith in
    let from_start : nat_le 0 (0 + n) ≡ true = le-leb 0 (0 + n) within in
    let same : 0 + n - 0 ≡ n = omega arith in
    λ i. cond (from_start i) (drop (same i) ys) []

from_zero : (s : Stretch Record) → s.first ≡ 0 → s ≡ record { first = 0; known = s.known }
from_zero s first = λ i. record { first = first i; known = s.known }

agree_lists : (s t : Stretch Record) (xs ys : List Record) → s ≡ record { first = 0; known = xs } → t ≡ record { first = 0; known = ys } → StretchesAgree s t → Agree 0 xs 0 ys
agree_lists s t xs ys is other agree =
    subst (λ (u : Stretch Record). Agree u.first u.known 0 ys) is (subst (λ (w : Stretch Record). Agree s.first s.known w.first w.known) other agree)

-- two histories of one ledger were joined
pub has_learned : (config : Config) (old other new : Stretch Record) → old.first ≡ 0 → other.first ≡ 0 → StretchesAgree old other → new ≡ extended old other
    → IsHistory config old.known → IsHistory config other.known → HasLearned config old.known other.known new.known
has_learned config old other new first from agree is mine theirs =
    learned_lists config old.known other.known new.known (agree_lists old other old.known other.known (from_zero old first) (from_zero other from) agree) known mine theirs
  where
    known : new.known ≡ old.known ++ drop (length old.known) other.known
    known =
        ap (λ (s : Stretch Record). s.known) (is ∙ (λ i. extended (from_zero old first i) (from_zero other from i)))
        ∙ ap (λ (rest : List Record). old.known ++ rest) (rest_after (length old.known) other.known)

-- the records that are told are a history
pub told_history : (config : Config) (told : Stretch Record) (records : List Record) → told ≡ record { first = 0; known = records } → IsHistory config records → IsHistory config told.known
told_history config told records is history = subst (λ (s : Stretch Record). IsHistory config s.known) (sym is) history

-- a batch was seen finished: its records were learned, and it was counted
pub finish_seen : (noted : NotedFinishedView) (told : Stretch Record) (before between after : Known)
    → length before.records ≤ noted.finished.row → told ≡ record { first = 0; known = noted.records }
    → IsStartOf before.records between.records → IsStartOf told.known between.records → between.finished ≡ before.finished
    → after.records ≡ between.records → after.finished ≡ between.finished + 1
    → SeesFinished noted before after
finish_seen noted told before between after beyond is kept learned uncounted same counted = record {
  kept = subst (λ (rs : List Record). IsStartOf before.records rs) (sym same) kept;
  beyond = beyond;
  learned = subst (λ (rs : List Record). IsStartOf noted.records rs) (sym same) (subst (λ (s : Stretch Record). IsStartOf s.known between.records) is learned);
  counted = counted ∙ ap (λ (n : ℕ). n + 1) uncounted;
}

-- another was joined: its records were learned, and what it saw finished was counted
pub both_known : (other : Known) (told : Stretch Record) (before between after : Known)
    → told ≡ record { first = 0; known = other.records }
    → IsStartOf before.records between.records → IsStartOf told.known between.records → between.finished ≡ before.finished
    → after.records ≡ between.records → after.finished ≡ between.finished + other.finished
    → Joins other before after
both_known other told before between after is kept learned uncounted same counted = record {
  kept = subst (λ (rs : List Record). IsStartOf before.records rs) (sym same) kept;
  learned = subst (λ (rs : List Record). IsStartOf other.records rs) (sym same) (subst (λ (s : Stretch Record). IsStartOf s.known between.records) is learned);
  counted = counted ∙ ap (λ (n : ℕ). n + other.finished) uncounted;
}

-- ---- guards

-- the records of these guards are learned, and no batch was counted
pub record LearnedFrom {V : Type 0} (records_of : V → List Record) (guards : List V) (first now : Known) : Type 0 where
  pub kept : IsStartOf first.records now.records
  pub counted : now.finished ≡ first.finished
  pub learned : (place : ℕ) (w : V) → slice_get guards place ≡ Some w → IsStartOf (records_of w) now.records

-- those of one more guard are learned
pub one_more_guard : {V : Type 0} (records_of : V → List Record) (guards : List V) (k : ℕ) (v : V) (told : Stretch Record) (first before after : Known)
    → slice_get guards k ≡ Some v → told ≡ record { first = 0; known = records_of v }
    → IsStartOf before.records after.records → after.finished ≡ before.finished → IsStartOf told.known after.records
    → LearnedFrom records_of (take k guards) first before → LearnedFrom records_of (take (k + 1) guards) first after
one_more_guard {V = V} records_of guards k v told first before after here is kept counted learned earlier = record {
  kept = start_more first.records before.records after.records earlier.kept kept;
  counted = counted ∙ earlier.counted;
  learned = λ place w at. by place w (push_cases (take k guards) v place w (ap (λ (vs : List V). slice_get vs place) (sym (take_next guards k v here)) ∙ at));
}
  where
    mine : IsStartOf (records_of v) after.records
    mine = subst (λ (s : Stretch Record). IsStartOf s.known after.records) is learned

    by : (place : ℕ) (w : V) → ((place ≡ length (take k guards)) × (v ≡ w)) ⊎ ((place < length (take k guards)) × (slice_get (take k guards) place ≡ Some w)) → IsStartOf (records_of w) after.records
    by place w (inl (last, same)) = subst (λ (u : V). IsStartOf (records_of u) after.records) same mine
    by place w (inr (within, sooner)) = start_more (records_of w) before.records after.records (earlier.learned place w sooner) kept

-- those of all guards are learned
pub all_of : {V : Type 0} (records_of : V → List Record) (guards : List V) (k : ℕ) (first now : Known) → length guards ≤ k
    → LearnedFrom records_of (take k guards) first now
    → (place : ℕ) (w : V) → slice_get guards place ≡ Some w → IsStartOf (records_of w) now.records
all_of {V = V} records_of guards k first now all learned place w at = learned.learned place w (ap (λ (vs : List V). slice_get vs place) (take_all guards k all) ∙ at)

-- ---- the last record

-- the version of the record before the end is the last one
pub last_of_stretch : (s : Stretch Record) (row : ℕ) (rec : Record) → s.first ≡ 0 → row + 1 ≡ end_of s → HasAt s row rec → rec.version ≡ last_version s.known
last_of_stretch s row rec first last has =
    let same : row - s.first ≡ row = omega (arith, first) in
    let at : slice_get s.known row ≡ Some rec = ap (slice_get s.known) (sym same) ∙ has.1 in
    let all : length s.known ≤ suc row = omega (arith, first, last) in
    sym (last_version_at s.known row rec at) ∙ ap (λ (rs : List Record). last_version rs) (take_all s.known (suc row) all)
