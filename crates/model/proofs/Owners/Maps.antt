-- Maps of owners that stand for moves: what one more move, or a longer forgotten front, makes of them, and whom they ask.
use Rattle.std.proofs.Common.{◌≡◌, ℕ, ◌≤◌, max, refl, sym, ap, ap₂, ◌∙◌, Bool, true, false, cond, if◌then◌else◌, nat_lt, List, [], ◌∷◌, ◌++◌, filter, IsTrue, append-nil, arith}
use Rattle.system_keys.specs.Keys.{Key, Range, holds}
use Rattle.model.specs.declared.moves.Move.{Move}
use Rattle.model.specs.Owners.{Owner, later_owners, owners, is_last, walk_visits, trimmed, DatesNeverDecrease, asks_write, asks_read}
use Rattle.model.specs.Shares.{each_below}
use Rattle.model.specs.OwnerMaps.{OwnerMapView, owners_left, DatesInOrder, last_date, StandsForMoves, readers, writers, left_after_move}
use Rattle.model.specs.OwnerMaps.{NewStandsForNoMoves, MoveAddsOneMove, ForgettingKeepsTheMoves, SameMovesLeaveTheSame, LeftOwnersAreEnough, ReadersAreThoseOfTheMap, WritersAreThoseOfTheMap, SameMovesAnswerAlike}
use Rattle.model.proofs.Owners.Walks.{met_without_front, without_front_again}
use Rattle.model.proofs.Owners.MadeMoves.{met_with_newer, one_move_more}
use Rattle.model.proofs.Owners.FiniteTests.{asks_write_iff, asks_read_iff}

-- ---- lists whose front is forgotten

-- a front forgotten earlier changes nothing once more is forgotten
pub trimmed_twice : (earlier later : ℕ) (list : List Owner) → earlier ≤ later → trimmed later (trimmed earlier list) ≡ trimmed later list
trimmed_twice earlier later list h =
    ap (trimmed later) (sym (append-nil (trimmed earlier list))) ∙ without_front_again earlier later list [] h ∙ ap (trimmed later) (append-nil list)

-- the walk back to a bound at or above the forgotten dates visits the same resolvers
pub visits_trimmed : (bound oldest r : ℕ) (list : List Owner) → oldest ≤ bound → walk_visits bound r (trimmed oldest list) ≡ walk_visits bound r list
visits_trimmed bound oldest r list h =
    ap (walk_visits bound r) (sym (append-nil (trimmed oldest list))) ∙ met_with_newer bound oldest r list [] h ∙ ap (walk_visits bound r) (append-nil list)

-- the last owner is never forgotten
pub last_trimmed : (oldest r : ℕ) (list : List Owner) → is_last r (trimmed oldest list) ≡ is_last r list
last_trimmed oldest r [] = refl
last_trimmed oldest r (o ∷ []) = refl
last_trimmed oldest r (o ∷ p ∷ list) = by (nat_lt p.date oldest) (last_trimmed oldest r (p ∷ list))
  where
    by : (t : Bool) → is_last r (trimmed oldest (p ∷ list)) ≡ is_last r (p ∷ list) → is_last r (cond t (trimmed oldest (p ∷ list)) (o ∷ p ∷ list)) ≡ is_last r (p ∷ list)
    by true e = e
    by false e = refl

-- ---- one more move

pub in_order_more : (date : ℕ) (moves : List Move) (m : Move) → DatesInOrder date moves → last_date date moves ≤ m.date → DatesInOrder date (moves ++ m ∷ [])
in_order_more date [] m order h = (h, tt)
in_order_more date (n ∷ moves) m order h = (order.0, in_order_more n.date moves m order.1 h)

pub last_date_more : (date : ℕ) (moves : List Move) (m : Move) → last_date date (moves ++ m ∷ []) ≡ m.date
last_date_more date [] m = refl
last_date_more date (n ∷ moves) m = last_date_more n.date moves m

-- the owners left after a move are those of the longer list
pub left_with_move : (map : OwnerMapView) (moves : List Move) (m : Move) (key : Key) → owners_left map key ≡ trimmed map.oldest (owners moves key) → left_after_move map m key ≡ trimmed map.oldest (owners (moves ++ m ∷ []) key)
left_with_move map moves m key same = by (holds range key) (one_move_more moves m key)
  where
    range : Range
    range = m.range

    newest : Owner
    newest = record { date = m.date; resolver = m.dest }

    by : (t : Bool) → owners (moves ++ m ∷ []) key ≡ (if t then owners moves key ++ newest ∷ [] else owners moves key) →
        (if t then trimmed map.oldest (owners_left map key ++ newest ∷ []) else owners_left map key) ≡ trimmed map.oldest (owners (moves ++ m ∷ []) key)
    by true e =
        ap (λ list. trimmed map.oldest (list ++ newest ∷ [])) same
        ∙ without_front_again map.oldest map.oldest (owners moves key) (newest ∷ []) (omega arith)
        ∙ sym (ap (trimmed map.oldest) e)
    by false e = same ∙ sym (ap (trimmed map.oldest) e)

-- ---- what a map stands for

pub new_stands : NewStandsForNoMoves
new_stands map none date = record { in_order = tt; last = date; same = λ key. ap (λ owned. trimmed map.oldest owned) (none key) }

pub move_adds_one : MoveAddsOneMove
move_adds_one map next moves m stands later oldest last left =
    let up_to : last_date 0 moves ≤ m.date = omega (arith, stands.last, later) in
    record {
      in_order = in_order_more 0 moves m stands.in_order up_to;
      last = last ∙ sym (last_date_more 0 moves m);
      same = λ key. left key ∙ left_with_move map moves m key (stands.same key) ∙ ap (λ bound. trimmed bound (owners (moves ++ m ∷ []) key)) (sym oldest);
    }

pub forgetting_keeps : ForgettingKeepsTheMoves
forgetting_keeps map next moves stands more last left =
    record {
      in_order = stands.in_order;
      last = last ∙ stands.last;
      same = λ key. left key ∙ ap (trimmed next.oldest) (stands.same key) ∙ trimmed_twice map.oldest next.oldest (owners moves key) more;
    }

pub same_left : SameMovesLeaveTheSame
same_left map other moves key stands stands_too oldest =
    stands.same key ∙ ap (λ bound. trimmed bound (owners moves key)) oldest ∙ sym (stands_too.same key)

-- ---- who is asked

-- the owners of a key lie in the order of the moves
later_in_order : (date : ℕ) (moves : List Move) (key : Key) → DatesInOrder date moves → DatesNeverDecrease date (later_owners moves key)
later_in_order date [] key order = tt
later_in_order date (m ∷ moves) key order = by (holds range key) (later_in_order m.date moves key order.1)
  where
    range : Range
    range = m.range

    weaker : (later : List Owner) → DatesNeverDecrease m.date later → DatesNeverDecrease date later
    weaker [] k = tt
    weaker (o ∷ later) k = (omega (arith, order.0, k.0), k.1)

    by : (t : Bool) → DatesNeverDecrease m.date (later_owners moves key) → DatesNeverDecrease date (cond t (record { date = m.date; resolver = m.dest } ∷ later_owners moves key) (later_owners moves key))
    by true k = (order.0, k)
    by false k = weaker (later_owners moves key) k

pub left_are_enough : LeftOwnersAreEnough
left_are_enough map moves bound r key stands =
    ap (walk_visits bound r) (stands.same key) ∙ met_without_front bound map.oldest r 0 (owners moves key) (omega arith, later_in_order 0 moves key stands.in_order)

same_truth : (p q : Bool) → (IsTrue p → IsTrue q) → (IsTrue q → IsTrue p) → p ≡ q
same_truth true q to from = sym (to refl)
same_truth false true to from = absurd (cc (from refl))
same_truth false false to from = refl

pub filter_alike : (p q : ℕ → Bool) (xs : List ℕ) → ((x : ℕ) → p x ≡ q x) → filter p xs ≡ filter q xs
filter_alike p q [] e = refl
filter_alike p q (x ∷ xs) e = ap₂ (λ b rest. cond b (x ∷ rest) rest) (e x) (filter_alike p q xs e)

-- if the walks over two lists of moves visit a resolver at the same keys, it is asked to read the same ranges
pub same_reads : (moves others : List Move) (bound r : ℕ) (range : Range) → ((key : Key) → walk_visits bound r (owners moves key) ≡ walk_visits bound r (owners others key)) → asks_read moves bound r range ≡ asks_read others bound r range
same_reads moves others bound r range same =
    same_truth (asks_read moves bound r range) (asks_read others bound r range)
    (λ h. let a = (asks_read_iff moves bound r range).0 h in (asks_read_iff others bound r range).1 (record { key = a.key; inside = a.inside; met = sym (same a.key) ∙ a.met }))
    (λ h. let a = (asks_read_iff others bound r range).0 h in (asks_read_iff moves bound r range).1 (record { key = a.key; inside = a.inside; met = same a.key ∙ a.met }))

pub same_writes : (moves others : List Move) (r : ℕ) (range : Range) → ((key : Key) → is_last r (owners moves key) ≡ is_last r (owners others key)) → asks_write moves r range ≡ asks_write others r range
same_writes moves others r range same =
    same_truth (asks_write moves r range) (asks_write others r range)
    (λ h. let a = (asks_write_iff moves r range).0 h in (asks_write_iff others r range).1 (record { key = a.key; inside = a.inside; owns = sym (same a.key) ∙ a.owns }))
    (λ h. let a = (asks_write_iff others r range).0 h in (asks_write_iff moves r range).1 (record { key = a.key; inside = a.inside; owns = same a.key ∙ a.owns }))

pub same_visits : (map : OwnerMapView) (moves : List Move) (bound r : ℕ) (key : Key) → StandsForMoves map moves → map.oldest ≤ bound → walk_visits bound r (owners map.moves key) ≡ walk_visits bound r (owners moves key)
same_visits map moves bound r key stands h =
    sym (visits_trimmed bound map.oldest r (owners map.moves key) h) ∙ ap (walk_visits bound r) (stands.same key) ∙ visits_trimmed bound map.oldest r (owners moves key) h

pub same_last : (map : OwnerMapView) (moves : List Move) (r : ℕ) (key : Key) → StandsForMoves map moves → is_last r (owners map.moves key) ≡ is_last r (owners moves key)
same_last map moves r key stands =
    sym (last_trimmed map.oldest r (owners map.moves key)) ∙ ap (is_last r) (stands.same key) ∙ last_trimmed map.oldest r (owners moves key)

pub readers_are : ReadersAreThoseOfTheMap
readers_are map moves bound range stands =
    filter_alike (λ r. asks_read map.moves (max bound map.oldest) r range) (λ r. asks_read moves (max bound map.oldest) r range) (each_below map.resolvers)
    (λ r. same_reads map.moves moves (max bound map.oldest) r range (λ key. same_visits map moves (max bound map.oldest) r key stands (omega arith)))

pub writers_are : WritersAreThoseOfTheMap
writers_are map moves range stands =
    filter_alike (λ r. asks_write map.moves r range) (λ r. asks_write moves r range) (each_below map.resolvers)
    (λ r. same_writes map.moves moves r range (λ key. same_last map moves r key stands))

pub answer_alike : SameMovesAnswerAlike
answer_alike map other moves stands stands_too resolvers oldest =
    record {
      reads = λ bound range.
          readers_are map moves bound range stands
          ∙ ap₂ (λ n b. readers n moves (max bound b) range) resolvers oldest
          ∙ sym (readers_are other moves bound range stands_too);
      writes = λ range.
          writers_are map moves range stands
          ∙ ap (λ n. writers n moves range) resolvers
          ∙ sym (writers_are other moves range stands_too);
    }
