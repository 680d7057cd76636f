-- The moves of the records of a history: how they grow from record to record, and what holds of all of them.
use Rattle.std.proofs.Common.{◌≡◌, ℕ, zero, suc, ◌+◌, ◌<◌, ◌≤◌, ⊎_elim, refl, sym, ap, ◌∙◌, subst, Bool, true, false, if◌then◌else◌, List, [], ◌∷◌, ◌++◌, length, take, drop, slice_get, Some, All, append_assoc, take-append-drop, arith}
use Rattle.std.proofs.Math.Seq.{take-append_seam, drop-append_seam}
use Rattle.std.proofs.lemmas.Bool.{cases_order}
use Rattle.std.proofs.lemmas.List.Elements.{All-head, All-tail, All-append, All-weaker}
use Rattle.system_keys.specs.Keys.{Key, Range, holds}
use Rattle.model.specs.Configs.{Config}
use Rattle.model.specs.declared.moves.Move.{Move}
use Rattle.model.specs.Owners.{Owner, later_owners, owners, DatesNeverDecrease}
use Rattle.model.specs.Records.{Record, last_version, last_moves, IsMadeAfter, Follows, IsHistory}

-- ---- the record before another

-- the element in front of one that is there
pub record Before {X : Type 0} (xs : List X) (i : ℕ) : Type 0 where
  pub element : X
  pub is : slice_get xs i ≡ Some element

pub before : {X : Type 0} (xs : List X) (i : ℕ) (x : X) → slice_get xs (suc i) ≡ Some x → Before xs i
before [] i x h = absurd (cc)
before (y ∷ xs) zero x h = record { element = y; is = refl }
before (y ∷ xs) (suc i) x h = let b = before xs i x h in record { element = b.element; is = b.is }

pub last_version_at : (h : List Record) (i : ℕ) (rec : Record) → slice_get h i ≡ Some rec → last_version (take (suc i) h) ≡ rec.version
last_version_at [] i rec h = absurd (cc)
last_version_at (x ∷ xs) zero rec h = let e : x ≡ rec = cc in ap (λ (r : Record). r.version) e
last_version_at (x ∷ []) (suc i) rec h = absurd (cc)
last_version_at (x ∷ y ∷ ys) (suc i) rec h = last_version_at (y ∷ ys) i rec h

pub last_moves_at : (h : List Record) (i : ℕ) (rec : Record) → slice_get h i ≡ Some rec → last_moves (take (suc i) h) ≡ rec.moves
last_moves_at [] i rec h = absurd (cc)
last_moves_at (x ∷ xs) zero rec h = let e : x ≡ rec = cc in ap (λ (r : Record). r.moves) e
last_moves_at (x ∷ []) (suc i) rec h = absurd (cc)
last_moves_at (x ∷ y ∷ ys) (suc i) rec h = last_moves_at (y ∷ ys) i rec h

-- ---- one record after another

-- the moves that a record adds to those known before it
abbrev pub added : List Record → Record → List Move
added earlier rec = drop (length (last_moves earlier)) rec.moves

pub moves_split : {config : Config} (earlier : List Record) (rec : Record) → Follows config earlier rec → rec.moves ≡ last_moves earlier ++ added earlier rec
moves_split earlier rec f = sym (take-append-drop (length (last_moves earlier)) rec.moves) ∙ ap (λ front. front ++ added earlier rec) f.kept_moves

-- a later record has the moves of the earlier one and newer ones, which are dated after the version of the earlier one
pub record Grows (earlier later : Record) : Type 0 where
  pub newer : List Move
  pub moves : later.moves ≡ earlier.moves ++ newer
  pub dated : All (λ (m : Move). earlier.version < m.date) newer
  pub chained : earlier.version ≤ later.previous

previous_up_to : {config : Config} {earlier : List Record} (rec : Record) → Follows config earlier rec → rec.previous ≤ rec.version
previous_up_to rec f = omega (arith, f.version)

-- the very next record
grows_next : (config : Config) (h : List Record) (i : ℕ) (a b : Record) → IsHistory config h → slice_get h i ≡ Some a → slice_get h (suc i) ≡ Some b → Grows a b
grows_next config h i a b history is_a is_b =
    record {
      newer = added (take (suc i) h) b;
      moves = moves_split (take (suc i) h) b follows ∙ ap (λ front. front ++ added (take (suc i) h) b) (last_moves_at h i a is_a);
      dated = All-weaker (IsMadeAfter config b.previous) (λ (m : Move). a.version < m.date) (λ m made. omega (arith, made.date, chain)) (added (take (suc i) h) b) follows.further_moves;
      chained = omega (arith, chain);
    }
  where
    follows : Follows config (take (suc i) h) b
    follows = history (suc i) b is_b

    chain : b.previous ≡ a.version
    chain = follows.previous ∙ last_version_at h i a is_a

grows_trans : (a b c : Record) → b.previous ≤ b.version → Grows a b → Grows b c → Grows a c
grows_trans a b c up_to ab bc =
    record {
      newer = ab.newer ++ bc.newer;
      moves = bc.moves ∙ ap (λ front. front ++ bc.newer) ab.moves ∙ append_assoc a.moves ab.newer bc.newer;
      dated = All-append (λ (m : Move). a.version < m.date) ab.newer bc.newer ab.dated (All-weaker (λ (m : Move). b.version < m.date) (λ (m : Move). a.version < m.date) (λ m h. omega (arith, ab.chained, up_to, h)) bc.newer bc.dated);
      chained = omega (arith, ab.chained, up_to, bc.chained);
    }

-- the records of a history grow
pub grows : (config : Config) (h : List Record) (i j : ℕ) (a b : Record) → IsHistory config h → i < j → slice_get h i ≡ Some a → slice_get h j ≡ Some b → Grows a b
grows config h i zero a b history less is_a is_b = absurd (omega arith)
grows config h i (suc j) a b history less is_a is_b = by (before h j b is_b) (λ mid l is. grows config h i j a mid history l is_a is)
  where
    by : Before h j → ((mid : Record) → i < j → slice_get h j ≡ Some mid → Grows a mid) → Grows a b
    by mid more =
        ⊎_elim (λ same. grows_next config h i a b history is_a (subst (λ (k : ℕ). slice_get h (suc k) ≡ Some b) (sym same) is_b))
        (λ either.
        ⊎_elim (λ l. grows_trans a mid.element b (previous_up_to mid.element (history j mid.element mid.is)) (more mid.element l mid.is) (grows_next config h j mid.element b history mid.is is_b))
        (λ above. absurd (omega arith))
        either)
        (cases_order i j)

-- ---- what holds of all moves

-- a fact of each move that was made after some version holds of all moves of a record
pub all_moves : (P : Move → Type 0) (config : Config) → ((previous : ℕ) (m : Move) → IsMadeAfter config previous m → P m) → (h : List Record) (i : ℕ) (rec : Record) → IsHistory config h → slice_get h i ≡ Some rec → All P rec.moves
all_moves P config each h zero rec history is =
    let f = history 0 rec is in
    subst (λ (ms : List Move). All P ms) (sym (moves_split (take 0 h) rec f)) (All-weaker (IsMadeAfter config rec.previous) P (λ m made. each rec.previous m made) (added (take 0 h) rec) f.further_moves)
all_moves P config each h (suc i) rec history is = by (before h i rec is) (λ mid is_mid. all_moves P config each h i mid history is_mid)
  where
    f : Follows config (take (suc i) h) rec
    f = history (suc i) rec is

    by : Before h i → ((mid : Record) → slice_get h i ≡ Some mid → All P mid.moves) → All P rec.moves
    by mid earlier =
        subst (λ (ms : List Move). All P ms) (sym (moves_split (take (suc i) h) rec f))
        (All-append P (last_moves (take (suc i) h)) (added (take (suc i) h) rec)
        (subst (λ (ms : List Move). All P ms) (sym (last_moves_at h i mid.element mid.is)) (earlier mid.element mid.is))
        (All-weaker (IsMadeAfter config rec.previous) P (λ m made. each rec.previous m made) (added (take (suc i) h) rec) f.further_moves))

-- each destination is a resolver that is there
pub destinations_within : (config : Config) (h : List Record) (i : ℕ) (rec : Record) → IsHistory config h → slice_get h i ≡ Some rec → All (λ (m : Move). m.dest < config.resolvers) rec.moves
destinations_within config h i rec history is = all_moves (λ (m : Move). m.dest < config.resolvers) config (λ previous m made. made.dest) h i rec history is

-- the dates of the moves never go back, from `first` on and up to `last`
abbrev pub DatesRise : ℕ → List Move → ℕ → Type 0
DatesRise first [] last = first ≤ last
DatesRise first (m ∷ moves) last = (first ≤ m.date) × DatesRise m.date moves last

rise_from : (first earlier last : ℕ) (moves : List Move) → earlier ≤ first → DatesRise first moves last → DatesRise earlier moves last
rise_from first earlier last [] h k = omega arith
rise_from first earlier last (m ∷ moves) h k = (omega (arith, k.0), k.1)

rise_append : (first middle last : ℕ) (xs ys : List Move) → DatesRise first xs middle → DatesRise middle ys last → DatesRise first (xs ++ ys) last
rise_append first middle last [] ys h k = rise_from middle first last ys h k
rise_append first middle last (m ∷ xs) ys h k = (h.0, rise_append m.date middle last xs ys h.1 k)

-- moves made after one version all have one date
rise_added : (config : Config) (previous first : ℕ) (moves : List Move) → first ≤ previous + 1 → All (IsMadeAfter config previous) moves → DatesRise first moves (previous + 1)
rise_added config previous first [] h all = h
rise_added config previous first (m ∷ moves) h all =
    let made = All-head (IsMadeAfter config previous) m moves all in
    (omega (arith, made.date), rise_added config previous m.date moves (omega (arith, made.date)) (All-tail (IsMadeAfter config previous) m moves all))

-- the dates of a record's moves never go back, up to the one after its previous version
pub dates_rise : (config : Config) (h : List Record) (i : ℕ) (rec : Record) → IsHistory config h → slice_get h i ≡ Some rec → DatesRise 0 rec.moves (rec.previous + 1)
dates_rise config h zero rec history is =
    let f = history 0 rec is in
    subst (λ (ms : List Move). DatesRise 0 ms (rec.previous + 1)) (sym (moves_split (take 0 h) rec f)) (rise_added config rec.previous 0 (added (take 0 h) rec) (omega arith) f.further_moves)
dates_rise config h (suc i) rec history is = by (before h i rec is) (λ mid is_mid. dates_rise config h i mid history is_mid)
  where
    f : Follows config (take (suc i) h) rec
    f = history (suc i) rec is

    by : Before h i → ((mid : Record) → slice_get h i ≡ Some mid → DatesRise 0 mid.moves (mid.previous + 1)) → DatesRise 0 rec.moves (rec.previous + 1)
    by mid earlier =
        let chain : rec.previous ≡ mid.element.version = f.previous ∙ last_version_at h i mid.element mid.is in
        let up_to = previous_up_to mid.element (history i mid.element mid.is) in
        subst (λ (ms : List Move). DatesRise 0 ms (rec.previous + 1)) (sym (moves_split (take (suc i) h) rec f))
        (rise_append 0 (mid.element.previous + 1) (rec.previous + 1) (last_moves (take (suc i) h)) (added (take (suc i) h) rec)
        (subst (λ (ms : List Move). DatesRise 0 ms (mid.element.previous + 1)) (sym (last_moves_at h i mid.element mid.is)) (earlier mid.element mid.is))
        (rise_added config rec.previous (mid.element.previous + 1) (added (take (suc i) h) rec) (omega (arith, chain, up_to)) f.further_moves))

-- so do those of the owners of a key
never_back_from : (first last : ℕ) (moves : List Move) (key : Key) → DatesRise first moves last → DatesNeverDecrease first (later_owners moves key)
never_back_from first last [] key h = tt
never_back_from first last (m ∷ moves) key h = by (holds range key) (never_back_from m.date last moves key h.1)
  where
    range : Range
    range = m.range

    weaker : (later : List Owner) → DatesNeverDecrease m.date later → DatesNeverDecrease first later
    weaker [] k = tt
    weaker (o ∷ later) k = (omega (arith, h.0, k.0), k.1)

    by : (t : Bool) → DatesNeverDecrease m.date (later_owners moves key) → DatesNeverDecrease first (if t then record { date = m.date; resolver = m.dest } ∷ later_owners moves key else later_owners moves key)
    by true k = (h.0, k)
    by false k = weaker (later_owners moves key) k

-- in a history the dates of the owners of a key never go back
pub owners_never_back : (config : Config) (h : List Record) (i : ℕ) (rec : Record) (key : Key) → IsHistory config h → slice_get h i ≡ Some rec → DatesNeverDecrease 0 (owners rec.moves key)
owners_never_back config h i rec key history is = (omega arith, never_back_from 0 (rec.previous + 1) rec.moves key (dates_rise config h i rec history is))

-- what `Grows` says by the places in the list of moves
pub grown_moves : (a b : Record) → Grows a b → (take (length a.moves) b.moves ≡ a.moves) × All (λ (m : Move). a.version < m.date) (drop (length a.moves) b.moves)
grown_moves a b g =
    (ap (λ (ms : List Move). take (length a.moves) ms) g.moves ∙ take-append_seam a.moves g.newer, subst (λ (ms : List Move). All (λ (m : Move). a.version < m.date) ms) (sym (ap (λ (ms : List Move). drop (length a.moves) ms) g.moves ∙ drop-append_seam a.moves g.newer)) g.dated)
