-- What a resolver says of its share is its verdict on each transaction that asks it; cells that hold its verdicts say the same.
use Rattle.std.proofs.Common.{◌≡◌, refl, sym, ap, ◌∙◌, subst, ℕ, zero, suc, ◌+◌, ◌<◌, ◌≤◌, List, [], ◌∷◌, ◌++◌, map, length, take, arith, append_assoc}
use Rattle.std.proofs.lemmas.List.{append-nil, map-append, length-append, take-append-le}
use Rattle.std.specs.Prelude.{Bool, true, false, if◌then◌else◌, slice_get, Some, None, Option}
use Rattle.std.proofs.lemmas.Bool.{eq-eqb, ne_eqb}
use Rattle.model.specs.Configs.{Config}
use Rattle.model.specs.declared.part.Part.{Part}
use Rattle.model.specs.declared.verdict.Verdict.{Verdict}
use Rattle.model.specs.Transactions.{StampedTransaction, is_state_transaction}
use Rattle.model.specs.Records.{Record}
use Rattle.model.specs.Shares.{share_back_to, share, part_of, parts_from, asks, each_below}
use Rattle.model.specs.Verdicts.{JudgedPart, judged_at, judged_before, verdict_of, verdicts_after, share_verdicts, verdicts_of_askers}
use Rattle.model.specs.Journal.{VerdictSource, history_verdicts, history_verdict_in_row, history_verdict_in_record, verdict_or_conflict, list_at, cell_verdicts, state_of, states_from, journal_row, AgreeOn}

-- ---- parts

-- the parts of transactions in a row
pub parts_from-append : (config : Config) (rec : Record) (r n m : ℕ) (xs ys : List StampedTransaction) → m ≡ n + length xs → parts_from config rec r n (xs ++ ys) ≡ parts_from config rec r n xs ++ parts_from config rec r m ys
parts_from-append config rec r n m [] ys e = ap (λ (k : ℕ). parts_from config rec r k ys) (let same : n ≡ m = omega arith in same)
parts_from-append config rec r n m (x ∷ xs) ys e = go (asks config rec r x) (parts_from-append config rec r (suc n) m xs ys (omega arith))
  where
    go : (b : Bool) → parts_from config rec r (suc n) (xs ++ ys) ≡ parts_from config rec r (suc n) xs ++ parts_from config rec r m ys → (if b then part_of config rec r n x ∷ parts_from config rec r (suc n) (xs ++ ys) else parts_from config rec r (suc n) (xs ++ ys)) ≡ (if b then part_of config rec r n x ∷ parts_from config rec r (suc n) xs else parts_from config rec r (suc n) xs) ++ parts_from config rec r m ys
    go true later = ap (λ (ps : List Part). part_of config rec r n x ∷ ps) later
    go false later = later

-- a part in the order of judging
abbrev pub seen : Config → ℕ → Record → ℕ → StampedTransaction → JudgedPart
seen config r rec n t = record { version = rec.version; part = part_of config rec r n t }

-- what was judged, with one transaction more that asks the resolver
pub judged_before_asker : (config : Config) (r : ℕ) (before : List Record) (rec : Record) (earlier : List StampedTransaction) (n : ℕ) (t : StampedTransaction) → n ≡ length earlier → asks config rec r t ≡ true → judged_before config r before rec (earlier ++ t ∷ []) ≡ judged_before config r before rec earlier ++ seen config r rec n t ∷ []
unfolding judged_before
judged_before_asker config r before rec earlier n t e asking =
    rw (parts_from-append config rec r 0 n earlier (t ∷ []) (omega arith), asking, map-append, ← append_assoc)

-- what was judged, with one transaction more that does not
pub judged_before_other : (config : Config) (r : ℕ) (before : List Record) (rec : Record) (earlier : List StampedTransaction) (t : StampedTransaction) → asks config rec r t ≡ false → judged_before config r before rec (earlier ++ t ∷ []) ≡ judged_before config r before rec earlier
unfolding judged_before
judged_before_other config r before rec earlier t other =
    rw (parts_from-append config rec r 0 (length earlier) earlier (t ∷ []) (omega arith), other, append-nil)

-- ---- the share

pub verdicts_after_share : (config : Config) (r : ℕ) (before : List Record) (rec : Record) (earlier ts : List StampedTransaction) (n : ℕ) → n ≡ length earlier →
    verdicts_after config.window (judged_before config r before rec earlier) (judged_at rec.version (parts_from config rec r n ts)) ≡ verdicts_of_askers config r before rec earlier ts
unfolding verdict_of
verdicts_after_share config r before rec earlier [] n e = refl
verdicts_after_share config r before rec earlier (t ∷ ts) n e =
    go (asks config rec r t) refl (verdicts_after_share config r before rec (earlier ++ t ∷ []) ts (suc n) (omega (arith, length-append earlier (t ∷ []))))
  where
    after : List StampedTransaction → List Verdict
    after passed = verdicts_after config.window (judged_before config r before rec passed) (judged_at rec.version (parts_from config rec r (suc n) ts))

    go : (b : Bool) → asks config rec r t ≡ b → after (earlier ++ t ∷ []) ≡ verdicts_of_askers config r before rec (earlier ++ t ∷ []) ts →
        verdicts_after config.window (judged_before config r before rec earlier) (judged_at rec.version (if b then part_of config rec r n t ∷ parts_from config rec r (suc n) ts else parts_from config rec r (suc n) ts))
        ≡ (if b then verdict_of config r before rec earlier t ∷ verdicts_of_askers config r before rec (earlier ++ t ∷ []) ts else verdicts_of_askers config r before rec (earlier ++ t ∷ []) ts)
    go true asking later = rw (← later, judged_before_asker config r before rec earlier n t e asking, e)
    go false other later = rw (← later, judged_before_other config r before rec earlier t other)

-- what a resolver says of its share
pub share_verdicts_are : (config : Config) (r : ℕ) (before : List Record) (rec : Record) → share_verdicts config r before rec ≡ verdicts_of_askers config r before rec [] rec.batch
unfolding share_verdicts share_back_to
share_verdicts_are config r before rec = verdicts_after_share config r before rec [] rec.batch 0 refl

-- a part of a list of transactions stands for one that asks the resolver, by its number
abbrev StandsIn : Config → Record → ℕ → ℕ → List StampedTransaction → Part → Type 0
StandsIn config rec r n ts part = (k : ℕ) × (t : StampedTransaction) × (slice_get ts k ≡ Some t) × (asks config rec r t ≡ true) × (part ≡ part_of config rec r (n + k) t)

part_stands : (config : Config) (rec : Record) (r n : ℕ) (ts : List StampedTransaction) (place : ℕ) (part : Part) → slice_get (parts_from config rec r n ts) place ≡ Some part → StandsIn config rec r n ts part
part_stands config rec r n [] place part at = absurd (cc)
part_stands config rec r n (x ∷ ts) place part at = go (asks config rec r x) refl place at (λ p there. later (part_stands config rec r (suc n) ts p part there))
  where
    later : StandsIn config rec r (suc n) ts part → StandsIn config rec r n (x ∷ ts) part
    later found =
        let (k, t, there, asking, is) = found in
        let same : suc n + k ≡ n + suc k = omega arith in
        (suc k, t, there, asking, is ∙ ap (λ (m : ℕ). part_of config rec r m t) same)

    go : (b : Bool) → asks config rec r x ≡ b → (place : ℕ) → slice_get (if b then part_of config rec r n x ∷ parts_from config rec r (suc n) ts else parts_from config rec r (suc n) ts) place ≡ Some part → ((p : ℕ) → slice_get (parts_from config rec r (suc n) ts) p ≡ Some part → StandsIn config rec r n (x ∷ ts) part) → StandsIn config rec r n (x ∷ ts) part
    go true asking zero at rest =
        let here : part_of config rec r n x ≡ part = cc in
        let same : n ≡ n + 0 = omega arith in
        (0, x, refl, asking, sym here ∙ ap (λ (k : ℕ). part_of config rec r k x) same)
    go true asking (suc place) at rest = rest place at
    go false other place at rest = rest place at

-- each part of a share stands for a transaction that asks the resolver, by its number
pub share_part : (config : Config) (rec : Record) (r place : ℕ) (part : Part) → slice_get (share config rec r) place ≡ Some part → (t : StampedTransaction) × (slice_get rec.batch part.number ≡ Some t) × (asks config rec r t ≡ true) × (part ≡ part_of config rec r part.number t)
unfolding share_back_to
share_part config rec r place part at =
    let (k, t, there, asking, is) = part_stands config rec r 0 rec.batch place part at in
    let same : 0 + k ≡ k = omega arith in
    let number : part.number ≡ k = ap (λ (p : Part). p.number) is ∙ same in
    (t, subst (λ (m : ℕ). slice_get rec.batch m ≡ Some t) (sym number) there, asking, is ∙ ap (λ (m : ℕ). part_of config rec r m t) (same ∙ sym number))

-- ---- verdict cells

-- the verdict that stands at the number of a transaction that asks the resolver
pub verdict_at_asker : (config : Config) (r : ℕ) (before : List Record) (rec : Record) (earlier ts : List StampedTransaction) (m k n : ℕ) (t : StampedTransaction) → m ≡ length earlier → n ≡ m + k → slice_get ts k ≡ Some t → asks config rec r t ≡ true →
    verdict_or_conflict (parts_from config rec r m ts) (verdicts_of_askers config r before rec earlier ts) n ≡ verdict_of config r before rec (earlier ++ take k ts) t
verdict_at_asker config r before rec earlier [] m k n t e number at asking = absurd (cc)
verdict_at_asker config r before rec earlier (x ∷ ts) m zero n t e number at asking =
    let same : x ≡ t = cc in
    let here : m ≡ n = omega arith in
    rw (same, asking, eq-eqb m n here, append-nil)
verdict_at_asker config r before rec earlier (x ∷ ts) m (suc k) n t e number at asking =
    go (asks config rec r x) (verdict_at_asker config r before rec (earlier ++ x ∷ []) ts (suc m) k n t (omega (arith, length-append earlier (x ∷ []))) (omega arith) at asking)
  where
    go : (b : Bool) → verdict_or_conflict (parts_from config rec r (suc m) ts) (verdicts_of_askers config r before rec (earlier ++ x ∷ []) ts) n ≡ verdict_of config r before rec ((earlier ++ x ∷ []) ++ take k ts) t →
        verdict_or_conflict (if b then part_of config rec r m x ∷ parts_from config rec r (suc m) ts else parts_from config rec r (suc m) ts) (if b then verdict_of config r before rec earlier x ∷ verdicts_of_askers config r before rec (earlier ++ x ∷ []) ts else verdicts_of_askers config r before rec (earlier ++ x ∷ []) ts) n
        ≡ verdict_of config r before rec (earlier ++ x ∷ take k ts) t
    go true later = rw (ne_eqb m n (λ (h : m ≡ n). omega arith), later, append_assoc)
    go false later = rw (later, append_assoc)

pub known_in_is : (config : Config) (h : List Record) (columns : List (List (List Verdict))) (r i n : ℕ) (rec : Record) (t : StampedTransaction) → slice_get h i ≡ Some rec → slice_get rec.batch n ≡ Some t → asks config rec r t ≡ true →
    list_at (list_at columns r) i ≡ share_verdicts config r (take i h) rec → cell_verdicts config h columns r i n ≡ history_verdicts config h r i n
unfolding cell_verdicts history_verdicts share_back_to
known_in_is config h columns r i n rec t at there asking cell =
    rw (at, there, cell, share_verdicts_are config r (take i h) rec) (verdict_at_asker config r (take i h) rec [] rec.batch 0 n n t refl (omega arith) there asking)

-- ---- longer histories

pub slice_get-append_left : {X : Type 0} (xs ys : List X) (i : ℕ) → i < length xs → slice_get (xs ++ ys) i ≡ slice_get xs i
slice_get-append_left [] ys i within = absurd (omega arith)
slice_get-append_left (x ∷ xs) ys zero within = refl
slice_get-append_left (x ∷ xs) ys (suc i) within = slice_get-append_left xs ys i (omega arith)

pub verdict_in_later : (config : Config) (h later : List Record) (r i n : ℕ) → i < length h → history_verdicts config (h ++ later) r i n ≡ history_verdicts config h r i n
unfolding history_verdicts
verdict_in_later config h later r i n within =
    let known : i ≤ length h = omega arith in
    rw (slice_get-append_left h later i within) (go (slice_get h i) (take-append-le i h later known))
  where
    go : (o : Option Record) → take i (h ++ later) ≡ take i h → history_verdict_in_row config (h ++ later) r i n o ≡ history_verdict_in_row config h r i n o
    go None same = refl
    go (Some rec) same = ap (λ (before : List Record). history_verdict_in_record config r before rec n (slice_get rec.batch n)) same

-- ---- journals

pub map-each_below : {X : Type 0} (f g : ℕ → X) (n : ℕ) → ((r : ℕ) → r < n → f r ≡ g r) → map f (each_below n) ≡ map g (each_below n)
map-each_below f g zero same = refl
map-each_below f g (suc n) same = rw (map-append, map-append, map-each_below f g n (λ r within. same r (omega arith)), same n (omega arith))

states_from_alike : (config : Config) (verdict_by told : VerdictSource) (rec : Record) (ts : List StampedTransaction) (n : ℕ) → AgreeOn config verdict_by told rec → ((k : ℕ) (t : StampedTransaction) → slice_get ts k ≡ Some t → slice_get rec.batch (n + k) ≡ Some t) → states_from config verdict_by rec n ts ≡ states_from config told rec n ts
states_from_alike config verdict_by told rec [] n alike at = refl
states_from_alike config verdict_by told rec (t ∷ ts) n alike at =
    go (is_state_transaction t) refl (states_from_alike config verdict_by told rec ts (suc n) alike (λ k u there. let same : suc n + k ≡ n + suc k = omega arith in rw same (at (suc k) u there)))
  where
    here : slice_get rec.batch n ≡ Some t
    here = let same : n + 0 ≡ n = omega arith in rw same at (at 0 t refl)

    go : (b : Bool) → is_state_transaction t ≡ b → states_from config verdict_by rec (suc n) ts ≡ states_from config told rec (suc n) ts →
        (if b then state_of config verdict_by rec n t ∷ states_from config verdict_by rec (suc n) ts else states_from config verdict_by rec (suc n) ts) ≡ (if b then state_of config told rec n t ∷ states_from config told rec (suc n) ts else states_from config told rec (suc n) ts)
    go true state later = rw (later, map-each_below (λ (r : ℕ). verdict_by r rec.row n) (λ (r : ℕ). told r rec.row n) config.resolvers (λ r within. alike.same r n t within here (rw state)))
    go false other later = later

pub journal_row_alike : (config : Config) (verdict_by told : VerdictSource) (rec : Record) → AgreeOn config verdict_by told rec → journal_row config verdict_by rec ≡ journal_row config told rec
unfolding journal_row
journal_row_alike config verdict_by told rec alike =
    rw (states_from_alike config verdict_by told rec rec.batch 0 alike (λ k t there. let same : 0 + k ≡ k = omega arith in rw same there))
