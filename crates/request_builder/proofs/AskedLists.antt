-- The lists of the resolvers that are asked: what they give each resolver is what it is asked about.
use Rattle.std.proofs.Common.{◌≡◌, ℕ, suc, ◌<◌, refl, sym, ap, ap₂, ◌∙◌, Bool, true, false, not, ◌&&◌, ◌||◌, ◌==◌, cond, List, [], ◌∷◌, ◌++◌, length, map, filter, arith}
use Rattle.std.specs.List.{list_any}
use Rattle.std.proofs.lemmas.Bool.{ne_eqb}
use Rattle.std.proofs.lemmas.List.Elements.{filter-append}
use Rattle.std.proofs.lemmas.List.Folds.{list_any-append}
use Rattle.system_keys.specs.Keys.{Range, only}
use Rattle.model.specs.declared.moves.Move.{Move}
use Rattle.model.specs.declared.part.Part.{Part}
use Rattle.model.specs.Transactions.{StampedTransaction, is_state_transaction, locked_key, lock_read, all_reads}
use Rattle.model.specs.Owners.{asks_read, asks_write}
use Rattle.model.specs.Records.{Record}
use Rattle.model.specs.Shares.{each_below, read_bound, part_back_to, asks_back_to, parts_back_to, asked_back_to}
use Rattle.model.specs.Requests.{marks_from}
use Rattle.model.specs.OwnerMaps.{OwnerMapView}
use Rattle.dated_owners.proofs.FlagLaws.{filter_below, in_filter}
use Rattle.request_builder.specs.AskedResolvers.{reader_lists, asked_resolvers_of, is_in_some, ranges_for, part_for, is_part_sent, sent_part, parts_for, mark_by, marks_for, is_asked_by, asked_by}

-- ---- the lists of some ranges

-- the list of each range
abbrev lists_of : (p : ℕ → Range → Bool) (n : ℕ) → List Range → List (List ℕ)
lists_of p n ranges = map (λ (range : Range). filter (λ r. p r range) (each_below n)) ranges

cond_cons : {X : Type 0} (b : Bool) (x : X) (xs : List X) → cond b (x ∷ []) [] ++ xs ≡ cond b (x ∷ xs) xs
cond_cons true x xs = refl
cond_cons false x xs = refl

pub ranges_for_filter : (p : ℕ → Range → Bool) (r n : ℕ) (ranges : List Range) → r < n → ranges_for r ranges (lists_of p n ranges) ≡ filter (p r) ranges
ranges_for_filter p r n [] below = refl
ranges_for_filter p r n (range ∷ ranges) below =
    ap₂ (λ (b : Bool) (rest : List Range). cond b (range ∷ []) [] ++ rest) (in_filter (λ s. p s range) r n below) (ranges_for_filter p r n ranges below)
    ∙ cond_cons (p r range) range (filter (p r) ranges)

pub in_some_filter : (p : ℕ → Range → Bool) (r n : ℕ) (ranges : List Range) → r < n → is_in_some r (lists_of p n ranges) ≡ list_any (p r) ranges
in_some_filter p r n [] below = refl
in_some_filter p r n (range ∷ ranges) below =
    ap₂ (λ x y. x || y) (in_filter (λ s. p s range) r n below) (in_some_filter p r n ranges below)

-- something passes exactly if the list of those that pass is not empty
pub any_filter : {X : Type 0} (p : X → Bool) (xs : List X) → not (length (filter p xs) == 0) ≡ list_any p xs
any_filter p [] = refl
any_filter p (x ∷ xs) = by (p x) (any_filter p xs)
  where
    by : (b : Bool) → not (length (filter p xs) == 0) ≡ list_any p xs → not (length (cond b (x ∷ filter p xs) (filter p xs)) == 0) ≡ (b || list_any p xs)
    by true e = ap not (ne_eqb (suc (length (filter p xs))) 0 (λ same. absurd (omega arith)))
    by false e = e

-- ---- a transaction

lock_ranges : (map_of : OwnerMapView) (moves : List Move) (snapshot r : ℕ) (b : Bool) → ranges_for r (only locked_key ∷ []) (reader_lists map_of moves snapshot (lock_read b)) ≡ ranges_for r (lock_read b) (reader_lists map_of moves snapshot (lock_read b))
lock_ranges map_of moves snapshot r true = refl
lock_ranges map_of moves snapshot r false = refl

reads_are : (map_of : OwnerMapView) (rec : Record) (r n : ℕ) (t : StampedTransaction) → r < map_of.resolvers → (part_for r n t (asked_resolvers_of map_of rec.moves t)).reads ≡ filter (asks_read rec.moves (read_bound map_of.oldest t) r) (all_reads t)
reads_are map_of rec r n t below =
    let p = λ (s : ℕ) (range : Range). asks_read rec.moves (read_bound map_of.oldest t) s range in
    let b = is_state_transaction t && not t.lock_aware in
    ap₂ (λ (xs ys : List Range). xs ++ ys) (ranges_for_filter p r map_of.resolvers t.reads below) (lock_ranges map_of rec.moves t.snapshot r b ∙ ranges_for_filter p r map_of.resolvers (lock_read b) below)
    ∙ sym (filter-append (p r) t.reads (lock_read b))

writes_are : (map_of : OwnerMapView) (rec : Record) (r n : ℕ) (t : StampedTransaction) → r < map_of.resolvers → (part_for r n t (asked_resolvers_of map_of rec.moves t)).writes ≡ filter (asks_write rec.moves r) t.writes
writes_are map_of rec r n t below = ranges_for_filter (λ (s : ℕ) (range : Range). asks_write rec.moves s range) r map_of.resolvers t.writes below

part_is : (map_of : OwnerMapView) (rec : Record) (r n : ℕ) (t : StampedTransaction) → r < map_of.resolvers → part_for r n t (asked_resolvers_of map_of rec.moves t) ≡ part_back_to map_of.oldest rec r n t
part_is map_of rec r n t below =
    ap₂ (λ (reads writes : List Range). record { number = n; snapshot = t.snapshot; reads = reads; writes = writes }) (reads_are map_of rec r n t below) (writes_are map_of rec r n t below)

or_assoc : (p q r : Bool) → (p || (q || r)) ≡ (p || q || r)
or_assoc true q r = refl
or_assoc false q r = refl

or_four : (s p q r : Bool) → (s || (p || (q || r))) ≡ (s || (p || q) || r)
or_four true p q r = refl
or_four false true q r = refl
or_four false false q r = refl

sent_is : (map_of : OwnerMapView) (rec : Record) (r n : ℕ) (t : StampedTransaction) → is_part_sent (is_state_transaction t) (part_back_to map_of.oldest rec r n t) ≡ asks_back_to map_of.oldest rec r t
sent_is map_of rec r n t =
    ap₂ (λ x y. is_state_transaction t || (x || y)) (any_filter (asks_read rec.moves (read_bound map_of.oldest t) r) (all_reads t)) (any_filter (asks_write rec.moves r) t.writes)
    ∙ or_assoc (is_state_transaction t) (list_any (asks_read rec.moves (read_bound map_of.oldest t) r) (all_reads t)) (list_any (asks_write rec.moves r) t.writes)

-- ---- all transactions

pub parts_are : (map_of : OwnerMapView) (rec : Record) (r n : ℕ) (ts : List StampedTransaction) → r < map_of.resolvers → parts_for r n ts (map (asked_resolvers_of map_of rec.moves) ts) ≡ parts_back_to map_of.oldest rec r n ts
parts_are map_of rec r n [] below = refl
parts_are map_of rec r n (t ∷ ts) below =
    ap₂ (λ (part : Part) (rest : List Part). sent_part (is_state_transaction t) part ++ rest) (part_is map_of rec r n t below) (parts_are map_of rec r (suc n) ts below)
    ∙ ap (λ (b : Bool). cond b (part_back_to map_of.oldest rec r n t ∷ []) [] ++ parts_back_to map_of.oldest rec r (suc n) ts) (sent_is map_of rec r n t)
    ∙ cond_cons (asks_back_to map_of.oldest rec r t) (part_back_to map_of.oldest rec r n t) (parts_back_to map_of.oldest rec r (suc n) ts)

pub marks_are : (map_of : OwnerMapView) (moves : List Move) (r n : ℕ) (ts : List StampedTransaction) → marks_for r n ts (map (asked_resolvers_of map_of moves) ts) ≡ marks_from r n ts
marks_are map_of moves r n [] = refl
marks_are map_of moves r n (t ∷ ts) =
    ap (λ rest. mark_by r n t (asked_resolvers_of map_of moves t) ++ rest) (marks_are map_of moves r (suc n) ts)
    ∙ cond_cons (is_state_transaction t) _ (marks_from r (suc n) ts)

-- ---- the resolvers that are asked

asked_is : (map_of : OwnerMapView) (rec : Record) (t : StampedTransaction) (r : ℕ) → r < map_of.resolvers → is_asked_by (asked_resolvers_of map_of rec.moves t) r ≡ asks_back_to map_of.oldest rec r t
asked_is map_of rec t r below =
    let p = λ (s : ℕ) (range : Range). asks_read rec.moves (read_bound map_of.oldest t) s range in
    let q = λ (s : ℕ) (range : Range). asks_write rec.moves s range in
    let b = is_state_transaction t && not t.lock_aware in
    ap₂ (λ x y. is_state_transaction t || (x || y)) (in_some_filter p r map_of.resolvers t.reads below) (ap₂ (λ x y. x || y) (in_some_filter p r map_of.resolvers (lock_read b) below) (in_some_filter q r map_of.resolvers t.writes below))
    ∙ or_four (is_state_transaction t) (list_any (p r) t.reads) (list_any (p r) (lock_read b)) (list_any (q r) t.writes)
    ∙ ap (λ x. is_state_transaction t || x || list_any (q r) t.writes) (sym (list_any-append (p r) t.reads (lock_read b)))

pub asked_are : (map_of : OwnerMapView) (rec : Record) (t : StampedTransaction) → asked_by map_of.resolvers (asked_resolvers_of map_of rec.moves t) ≡ asked_back_to map_of.oldest map_of.resolvers rec t
asked_are map_of rec t =
    filter_below (is_asked_by (asked_resolvers_of map_of rec.moves t)) (λ r. asks_back_to map_of.oldest rec r t) map_of.resolvers (asked_is map_of rec t)
