-- Where the moves of a record go, how their dates lie, and what that says of the owners of a key; and walks over lists whose front was dropped.
use Rattle.std.proofs.Common.{◌≡◌, refl, sym, ap, ◌∙◌, ℕ, zero, suc, ◌+◌, ◌<◌, ◌≤◌, ◌⊎◌, inl, inr, List, [], ◌∷◌, ◌++◌, Bool, true, false, ◌&&◌, nat_eq, nat_lt, if◌then◌else◌, slice_get, Some, All, append-nil, arith}
use Rattle.std.proofs.lemmas.Bool.{ltb-true, eqb-true, and_parts, or_cases}
use Rattle.std.proofs.lemmas.List.Elements.{All-nil, All-cons, All-head, All-tail}
use Rattle.system_keys.specs.Keys.{Key, Range, holds}
use Rattle.model.specs.Configs.{Config}
use Rattle.model.specs.declared.moves.Move.{Move}
use Rattle.model.specs.Owners.{Owner, later_owners, owners, is_last, none_dated_below, walk_visits, trimmed, DatesNeverDecrease}
use Rattle.model.specs.Records.{Record, IsHistory}
use Rattle.model.proofs.Owners.Walks.{not_met_before}
use Rattle.model.proofs.Owners.Moves.{DatesRise, dates_rise, destinations_within}
use Rattle.model.proofs.Owners.Asked.{owners_append}

-- ---- destinations and dates

all_both : (P Q : Move → Type 0) (moves : List Move) → All P moves → All Q moves → All (λ (m : Move). P m × Q m) moves
all_both P Q [] in_p in_q = All-nil (λ (m : Move). P m × Q m)
all_both P Q (m ∷ moves) in_p in_q =
    All-cons (λ (m : Move). P m × Q m) m moves (All-head P m moves in_p, All-head Q m moves in_q) (all_both P Q moves (All-tail P m moves in_p) (All-tail Q m moves in_q))

first_up_to_last : (first last : ℕ) (moves : List Move) → DatesRise first moves last → first ≤ last
first_up_to_last first last [] rise = rise
first_up_to_last first last (m ∷ moves) rise = let rest = first_up_to_last m.date last moves rise.1 in omega (arith, rise.0, rest)

all_up_to_last : (first last : ℕ) (moves : List Move) → DatesRise first moves last → All (λ (m : Move). m.date ≤ last) moves
all_up_to_last first last [] rise = All-nil (λ (m : Move). m.date ≤ last)
all_up_to_last first last (m ∷ moves) rise = All-cons (λ (m : Move). m.date ≤ last) m moves (first_up_to_last m.date last moves rise.1) (all_up_to_last m.date last moves rise.1)

pub moves_within : (config : Config) (h : List Record) (i : ℕ) (rec : Record) → IsHistory config h → slice_get h i ≡ Some rec → All (λ (m : Move). (m.dest < config.resolvers) × (m.date ≤ rec.previous + 1)) rec.moves
moves_within config h i rec history at =
    all_both (λ (m : Move). m.dest < config.resolvers) (λ (m : Move). m.date ≤ rec.previous + 1) rec.moves (destinations_within config h i rec history at) (all_up_to_last 0 (rec.previous + 1) rec.moves (dates_rise config h i rec history at))

from_first : (first last : ℕ) (moves : List Move) (k : ℕ) (m : Move) → DatesRise first moves last → slice_get moves k ≡ Some m → first ≤ m.date
from_first first last [] k m rise at = absurd (cc)
from_first first last (x ∷ moves) zero m rise at = let same : x ≡ m = cc in let date : x.date ≡ m.date = ap (λ (y : Move). y.date) same in omega (arith, rise.0, date)
from_first first last (x ∷ moves) (suc k) m rise at = let rest = from_first x.date last moves k m rise.1 at in omega (arith, rise.0, rest)

dates_at : (first last : ℕ) (moves : List Move) (j k : ℕ) (m n : Move) → DatesRise first moves last → j < k → slice_get moves j ≡ Some m → slice_get moves k ≡ Some n → m.date ≤ n.date
dates_at first last [] j k m n rise less is_m is_n = absurd (cc)
dates_at first last (x ∷ moves) j zero m n rise less is_m is_n = absurd (omega arith)
dates_at first last (x ∷ moves) zero (suc k) m n rise less is_m is_n =
    let same : x ≡ m = cc in
    let date : x.date ≡ m.date = ap (λ (y : Move). y.date) same in
    let rest = from_first x.date last moves k n rise.1 is_n in
    omega (arith, date, rest)
dates_at first last (x ∷ moves) (suc j) (suc k) m n rise less is_m is_n = dates_at x.date last moves j k m n rise.1 (omega arith) is_m is_n

pub moves_rise : (config : Config) (h : List Record) (i : ℕ) (rec : Record) (j k : ℕ) (m n : Move) → IsHistory config h → slice_get h i ≡ Some rec → j < k → slice_get rec.moves j ≡ Some m → slice_get rec.moves k ≡ Some n → m.date ≤ n.date
moves_rise config h i rec j k m n history at less is_m is_n = dates_at 0 (rec.previous + 1) rec.moves j k m n (dates_rise config h i rec history at) less is_m is_n

-- ---- owners

-- each owner of the list is a resolver below n
abbrev OwnersBelow : ℕ → List Owner → Type 0
OwnersBelow n [] = Unit {0}
OwnersBelow n (o ∷ list) = (o.resolver < n) × OwnersBelow n list

later_below : (n : ℕ) (moves : List Move) (key : Key) → All (λ (m : Move). m.dest < n) moves → OwnersBelow n (later_owners moves key)
later_below n [] key all = tt
later_below n (m ∷ moves) key all = by (holds range key) (later_below n moves key (All-tail (λ (m : Move). m.dest < n) m moves all))
  where
    range : Range
    range = m.range

    by : (t : Bool) → OwnersBelow n (later_owners moves key) → OwnersBelow n (if t then record { date = m.date; resolver = m.dest } ∷ later_owners moves key else later_owners moves key)
    by true rest = (All-head (λ (m : Move). m.dest < n) m moves all, rest)
    by false rest = rest

met_below : (bound r n : ℕ) (list : List Owner) → OwnersBelow n list → walk_visits bound r list ≡ true → r < n
met_below bound r n [] below met = absurd (cc)
met_below bound r n (o ∷ list) below met = by (or_cases (nat_eq o.resolver r && none_dated_below bound list) (walk_visits bound r list) met) (met_below bound r n list below.1)
  where
    by : ((nat_eq o.resolver r && none_dated_below bound list) ≡ true) ⊎ (walk_visits bound r list ≡ true) → (walk_visits bound r list ≡ true → r < n) → r < n
    by (inl here) rest = let same : o.resolver ≡ r = eqb-true o.resolver r (and_parts (nat_eq o.resolver r) (none_dated_below bound list) here).0 in omega (arith, same, below.0)
    by (inr later) rest = rest later

last_below : (r n : ℕ) (list : List Owner) → OwnersBelow n list → is_last r list ≡ true → r < n
last_below r n [] below last = absurd (cc)
last_below r n (o ∷ []) below last = let same : o.resolver ≡ r = eqb-true o.resolver r last in omega (arith, same, below.0)
last_below r n (o ∷ p ∷ list) below last = last_below r n (p ∷ list) below.1 last

owners_below : (config : Config) (h : List Record) (i : ℕ) (rec : Record) (key : Key) → 0 < config.resolvers → IsHistory config h → slice_get h i ≡ Some rec → OwnersBelow config.resolvers (owners rec.moves key)
owners_below config h i rec key some history at = (some, later_below config.resolvers rec.moves key (destinations_within config h i rec history at))

pub met_within : (config : Config) (h : List Record) (i : ℕ) (rec : Record) (key : Key) (bound r : ℕ) → 0 < config.resolvers → IsHistory config h → slice_get h i ≡ Some rec → walk_visits bound r (owners rec.moves key) ≡ true → r < config.resolvers
met_within config h i rec key bound r some history at met = met_below bound r config.resolvers (owners rec.moves key) (owners_below config h i rec key some history at) met

pub last_within : (config : Config) (h : List Record) (i : ℕ) (rec : Record) (key : Key) (r : ℕ) → 0 < config.resolvers → IsHistory config h → slice_get h i ≡ Some rec → is_last r (owners rec.moves key) ≡ true → r < config.resolvers
last_within config h i rec key r some history at last = last_below r config.resolvers (owners rec.moves key) (owners_below config h i rec key some history at) last

pub one_move_more : (moves : List Move) (m : Move) (key : Key) → owners (moves ++ m ∷ []) key ≡ (if holds m.range key then owners moves key ++ (record { date = m.date; resolver = m.dest }) ∷ [] else owners moves key)
one_move_more moves m key = owners_append moves (m ∷ []) key ∙ by (holds range key)
  where
    range : Range
    range = m.range

    by : (t : Bool) → owners moves key ++ (if t then record { date = m.date; resolver = m.dest } ∷ [] else []) ≡ (if t then owners moves key ++ (record { date = m.date; resolver = m.dest }) ∷ [] else owners moves key)
    by true = refl
    by false = append-nil (owners moves key)

-- ---- walks over lists whose front was dropped

pub met_with_newer : (bound oldest r : ℕ) (list newer : List Owner) → oldest ≤ bound → walk_visits bound r (trimmed oldest list ++ newer) ≡ walk_visits bound r (list ++ newer)
met_with_newer bound oldest r [] newer up_to = refl
met_with_newer bound oldest r (o ∷ []) newer up_to = refl
met_with_newer bound oldest r (o ∷ p ∷ list) newer up_to = by (nat_lt p.date oldest) refl (met_with_newer bound oldest r (p ∷ list) newer up_to)
  where
    by : (t : Bool) → nat_lt p.date oldest ≡ t → walk_visits bound r (trimmed oldest (p ∷ list) ++ newer) ≡ walk_visits bound r (p ∷ list ++ newer) → walk_visits bound r ((if t then trimmed oldest (p ∷ list) else o ∷ p ∷ list) ++ newer) ≡ walk_visits bound r (o ∷ p ∷ list ++ newer)
    by true e rest = let below : p.date < oldest = ltb-true p.date oldest e in rest ∙ sym (not_met_before bound r o p (list ++ newer) (omega (arith, below, up_to)))
    by false e rest = refl

never_back_behind : (date oldest : ℕ) (list : List Owner) → DatesNeverDecrease date list → DatesNeverDecrease date (trimmed oldest list)
never_back_behind date oldest [] rise = tt
never_back_behind date oldest (o ∷ []) rise = rise
never_back_behind date oldest (o ∷ p ∷ list) rise = by (nat_lt p.date oldest) (never_back_behind date oldest (p ∷ list) (omega (arith, rise.0, rise.1.0), rise.1.1))
  where
    by : (t : Bool) → DatesNeverDecrease date (trimmed oldest (p ∷ list)) → DatesNeverDecrease date (if t then trimmed oldest (p ∷ list) else o ∷ p ∷ list)
    by true rest = rest
    by false rest = rise

pub never_back_kept : (oldest : ℕ) (list : List Owner) → DatesNeverDecrease 0 list → DatesNeverDecrease 0 (trimmed oldest list)
never_back_kept oldest list rise = never_back_behind 0 oldest list rise
