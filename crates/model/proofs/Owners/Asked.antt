-- Who is asked about a key that one transaction wrote and a later one reads.
use Rattle.std.proofs.Common.{◌≡◌, ℕ, ◌<◌, max, ◌⊎◌, inl, inr, ⊎_elim, refl, ap, ◌∙◌, Bool, true, false, not, ◌&&◌, if◌then◌else◌, nat_eq, nat_lt, List, [], ◌∷◌, ◌++◌, All, Some, slice_get, arith}
use Rattle.std.proofs.lemmas.Bool.{and_from, or_right, or_left, eq-eqb, ltb-true}
use Rattle.std.proofs.lemmas.List.Elements.{All-head, All-tail}
use Rattle.system_keys.specs.Keys.{Key, Range, holds}
use Rattle.model.specs.Configs.{Config}
use Rattle.model.specs.declared.moves.Move.{Move}
use Rattle.model.specs.Owners.{Owner, later_owners, owners, is_last, none_dated_below, walk_visits}
use Rattle.model.specs.Records.{Record, oldest, IsHistory}
use Rattle.model.proofs.Owners.Moves.{Grows, destinations_within}

-- ---- the owners of more moves

later_owners_append : (xs ys : List Move) (key : Key) → later_owners (xs ++ ys) key ≡ later_owners xs key ++ later_owners ys key
later_owners_append [] ys key = refl
later_owners_append (m ∷ xs) ys key = by (holds range key) (later_owners_append xs ys key)
  where
    range : Range
    range = m.range

    by : (t : Bool) → later_owners (xs ++ ys) key ≡ later_owners xs key ++ later_owners ys key →
        (if t then record { date = m.date; resolver = m.dest } ∷ later_owners (xs ++ ys) key else later_owners (xs ++ ys) key)
        ≡ (if t then record { date = m.date; resolver = m.dest } ∷ later_owners xs key else later_owners xs key) ++ later_owners ys key
    by true e = ap (λ later. record { date = m.date; resolver = m.dest } ∷ later) e
    by false e = e

-- newer moves add their owners behind
pub owners_append : (xs ys : List Move) (key : Key) → owners (xs ++ ys) key ≡ owners xs key ++ later_owners ys key
owners_append xs ys key = ap (λ later. record { date = 0; resolver = 0 } ∷ later) (later_owners_append xs ys key)

-- ---- the last owner

-- a resolver below n stands last
pub record LastBelow (n : ℕ) (list : List Owner) : Type 0 where
  pub resolver : ℕ
  pub there : resolver < n
  pub last : is_last resolver list ≡ true

last_among : (n : ℕ) (o : Owner) (moves : List Move) (key : Key) → o.resolver < n → All (λ (m : Move). m.dest < n) moves → LastBelow n (o ∷ later_owners moves key)
last_among n o [] key h all = record { resolver = o.resolver; there = h; last = eq-eqb o.resolver o.resolver refl }
last_among n o (m ∷ moves) key h all =
    by (holds range key) (λ p there. last_among n p moves key there (All-tail (λ (m : Move). m.dest < n) m moves all))
  where
    range : Range
    range = m.range

    behind : (p : Owner) (later : List Owner) → LastBelow n (p ∷ later) → LastBelow n (o ∷ p ∷ later)
    behind p later l = record { resolver = l.resolver; there = l.there; last = l.last }

    by : (t : Bool) → ((p : Owner) → p.resolver < n → LastBelow n (p ∷ later_owners moves key)) → LastBelow n (o ∷ (if t then record { date = m.date; resolver = m.dest } ∷ later_owners moves key else later_owners moves key))
    by true more = behind (record { date = m.date; resolver = m.dest }) (later_owners moves key) (more (record { date = m.date; resolver = m.dest }) (All-head (λ (m : Move). m.dest < n) m moves all))
    by false more = more o h

-- some resolver that is there stands last among the owners of each key
pub some_last : (config : Config) (h : List Record) (i : ℕ) (rec : Record) (key : Key) → 0 < config.resolvers → IsHistory config h → slice_get h i ≡ Some rec → LastBelow config.resolvers (owners rec.moves key)
some_last config h i rec key some history is = last_among config.resolvers (record { date = 0; resolver = 0 }) rec.moves key some (destinations_within config h i rec history is)

-- ---- the walk meets it

-- an owner that stands last, and then owners that do not stop the walk
pub met_behind : (bound r : ℕ) (list later : List Owner) → is_last r list ≡ true → none_dated_below bound later ≡ true → walk_visits bound r (list ++ later) ≡ true
met_behind bound r [] later h k = absurd (cc)
met_behind bound r (o ∷ []) later h k = or_left (nat_eq o.resolver r && none_dated_below bound later) (walk_visits bound r later) (and_from (nat_eq o.resolver r) (none_dated_below bound later) h k)
met_behind bound r (o ∷ p ∷ list) later h k =
    or_right (nat_eq o.resolver r && none_dated_below bound (p ∷ list ++ later)) (walk_visits bound r (p ∷ list ++ later)) (met_behind bound r (p ∷ list) later h k)

-- the last owner is always met
pub last_met : (bound r : ℕ) (list : List Owner) → is_last r list ≡ true → walk_visits bound r list ≡ true
last_met bound r [] h = absurd (cc)
last_met bound r (o ∷ []) h = or_left (nat_eq o.resolver r && true) false (and_from (nat_eq o.resolver r) true h refl)
last_met bound r (o ∷ p ∷ list) h = or_right (nat_eq o.resolver r && none_dated_below bound (p ∷ list)) (walk_visits bound r (p ∷ list)) (last_met bound r (p ∷ list) h)

-- a walk that newer owners stop stops at a date below `low`, where all of them are dated above the snapshot
none_or_old : (snapshot low version : ℕ) (moves : List Move) (key : Key) → snapshot < version → All (λ (m : Move). version < m.date) moves → (none_dated_below (max snapshot low) (later_owners moves key) ≡ true) ⊎ (snapshot < low)
none_or_old snapshot low version [] key h all = inl refl
none_or_old snapshot low version (m ∷ moves) key h all =
    ⊎_elim (λ none. by (holds range key) (nat_lt m.date (max snapshot low)) refl none) inr (none_or_old snapshot low version moves key h (All-tail (λ (m : Move). version < m.date) m moves all))
  where
    range : Range
    range = m.range

    above : version < m.date
    above = All-head (λ (m : Move). version < m.date) m moves all

    by : (t s : Bool) → nat_lt m.date (max snapshot low) ≡ s → none_dated_below (max snapshot low) (later_owners moves key) ≡ true →
        (none_dated_below (max snapshot low) (if t then record { date = m.date; resolver = m.dest } ∷ later_owners moves key else later_owners moves key) ≡ true) ⊎ (snapshot < low)
    by false s e none = inl none
    by true true e none = inr (omega (arith, ltb-true m.date (max snapshot low) e, above))
    by true false e none = inl (and_from (not (nat_lt m.date (max snapshot low))) (none_dated_below (max snapshot low) (later_owners moves key)) (ap not e) none)

-- the resolver that stood last for a writer is met by a later reader whose snapshot is below the writer's version, or the snapshot is below the reader's oldest version
pub met_or_old : (config : Config) (a b : Record) (key : Key) (r snapshot : ℕ) → Grows a b → snapshot < a.version → is_last r (owners a.moves key) ≡ true →
    (walk_visits (max snapshot (oldest config b)) r (owners b.moves key) ≡ true) ⊎ (snapshot < oldest config b)
met_or_old config a b key r snapshot g h last =
    ⊎_elim (λ none. inl (list_is ∙ met_behind (max snapshot (oldest config b)) r (owners a.moves key) (later_owners g.newer key) last none)) inr
    (none_or_old snapshot (oldest config b) a.version g.newer key h g.dated)
  where
    list_is : walk_visits (max snapshot (oldest config b)) r (owners b.moves key) ≡ walk_visits (max snapshot (oldest config b)) r (owners a.moves key ++ later_owners g.newer key)
    list_is = ap (λ list. walk_visits (max snapshot (oldest config b)) r list) (ap (λ (ms : List Move). owners ms key) g.moves ∙ owners_append a.moves g.newer key)
