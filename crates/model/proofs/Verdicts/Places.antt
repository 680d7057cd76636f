-- The parts that a resolver judges before a transaction, as places of the history.
use Rattle.std.proofs.Common.{◌≡◌, refl, sym, ap, ◌∙◌, ℕ, zero, suc, ◌+◌, ◌<◌, ◌≤◌, List, [], ◌∷◌, ◌++◌, length, take, arith, append_assoc}
use Rattle.std.proofs.lemmas.List.{map-append, length-take-le}
use Rattle.std.proofs.lemmas.Grind.{flat_map-append}
use Rattle.std.proofs.lemmas.Option.{slice_get_within}
use Rattle.std.specs.Prelude.{Bool, true, false, if◌then◌else◌, slice_get, Some, flat_map, ◌⊎◌}
use mathlib.Core.Logic.{inl, inr}
use Rattle.model.specs.Configs.{Config}
use Rattle.model.specs.Transactions.{StampedTransaction}
use Rattle.model.specs.Records.{Record, IsHistory}
use Rattle.model.specs.Shares.{share, share_back_to, part_of, parts_from, asks}
use Rattle.model.specs.Verdicts.{JudgedPart, judged_at, judged_before, verdict, verdict_of}
use Rattle.model.specs.Serial.{Place, seen_at, verdict_at_place}
use Rattle.model.proofs.Shares.Askers.{parts_from-append, seen}

-- ---- lists

-- what stands behind an element, as far as m
pub record Around {X : Type 0} (xs : List X) (n m : ℕ) (x : X) : Type 0 where
  pub rest : List X
  pub whole : take m xs ≡ take n xs ++ x ∷ rest

pub around : {X : Type 0} (xs : List X) (n m : ℕ) (x : X) → slice_get xs n ≡ Some x → n < m → Around xs n m x
around [] n m x at below = absurd (cc)
around (y ∷ ys) n zero x at below = absurd (omega arith)
around (y ∷ ys) zero (suc m) x at below = let same : y ≡ x = cc in record { rest = take m ys; whole = ap (λ z. z ∷ take m ys) same }
around (y ∷ ys) (suc n) (suc m) x at below = let later = around ys n m x at (omega arith) in record { rest = later.rest; whole = ap (λ zs. y ∷ zs) later.whole }

-- the same in the whole list
pub around_all : {X : Type 0} (xs : List X) (n : ℕ) (x : X) → slice_get xs n ≡ Some x → (rest : List X) × (xs ≡ take n xs ++ x ∷ rest)
around_all [] n x at = absurd (cc)
around_all (y ∷ ys) zero x at = let same : y ≡ x = cc in (ys, ap (λ z. z ∷ ys) same)
around_all (y ∷ ys) (suc n) x at = let later = around_all ys n x at in (later.0, ap (λ zs. y ∷ zs) later.1)

pub slice_get-take : {X : Type 0} (xs : List X) (n k : ℕ) (x : X) → slice_get (take n xs) k ≡ Some x → (k < n) × (slice_get xs k ≡ Some x)
slice_get-take xs zero k x at = absurd (cc)
slice_get-take [] (suc n) k x at = absurd (cc)
slice_get-take (y ∷ ys) (suc n) zero x at = (omega arith, at)
slice_get-take (y ∷ ys) (suc n) (suc k) x at = let later = slice_get-take ys n k x at in (omega arith, later.1)

pub slice_get-take_back : {X : Type 0} (xs : List X) (n k : ℕ) (x : X) → k < n → slice_get xs k ≡ Some x → slice_get (take n xs) k ≡ Some x
slice_get-take_back [] n k x below at = absurd (cc)
slice_get-take_back (y ∷ ys) zero k x below at = absurd (omega arith)
slice_get-take_back (y ∷ ys) (suc n) zero x below at = at
slice_get-take_back (y ∷ ys) (suc n) (suc k) x below at = slice_get-take_back ys n k x (omega arith) at

pub take-take_le : {X : Type 0} (xs : List X) (k n : ℕ) → k ≤ n → take k (take n xs) ≡ take k xs
take-take_le xs zero n below = refl
take-take_le xs (suc k) zero below = absurd (omega arith)
take-take_le [] (suc k) (suc n) below = refl
take-take_le (x ∷ xs) (suc k) (suc n) below = ap (λ ys. x ∷ ys) (take-take_le xs k n (omega arith))

-- an element of one of two lists in a row
pub record InSecond {X : Type 0} (ys zs front : List X) (u : X) (back : List X) : Type 0 where
  pub rest : List X
  pub front_is : front ≡ ys ++ rest
  pub second : zs ≡ rest ++ u ∷ back

pub record InFirst {X : Type 0} (ys front : List X) (u : X) : Type 0 where
  pub rest : List X
  pub first : ys ≡ front ++ u ∷ rest

pub append_split : {X : Type 0} (ys zs front : List X) (u : X) (back : List X) → ys ++ zs ≡ front ++ u ∷ back → InFirst ys front u ⊎ InSecond ys zs front u back
append_split [] zs front u back e = inr (record { rest = front; front_is = refl; second = e })
append_split (y ∷ ys) zs [] u back e = let same : y ≡ u = cc in inl (record { rest = ys; first = ap (λ x. x ∷ ys) same })
append_split (y ∷ ys) zs (x ∷ front) u back e = go (append_split ys zs front u back (cc))
  where
    head : y ≡ x
    head = cc

    go : InFirst ys front u ⊎ InSecond ys zs front u back → InFirst (y ∷ ys) (x ∷ front) u ⊎ InSecond (y ∷ ys) zs (x ∷ front) u back
    go (inl l) = inl (record { rest = l.rest; first = rw head (ap (λ vs. x ∷ vs) l.first) })
    go (inr r) = inr (record { rest = r.rest; front_is = rw head (ap (λ vs. x ∷ vs) r.front_is); second = r.second })

-- an element of some lists in a row
pub record InOne {X Y : Type 0} (f : Y → List X) (ys : List Y) (front : List X) (u : X) : Type 0 where
  pub j : ℕ
  pub y : Y
  pub at : slice_get ys j ≡ Some y
  pub inner : List X
  pub behind : List X
  pub list_is : f y ≡ inner ++ u ∷ behind
  pub front_is : front ≡ flat_map f (take j ys) ++ inner

pub flat_map_split : {X Y : Type 0} (f : Y → List X) (ys : List Y) (front : List X) (u : X) (back : List X) → flat_map f ys ≡ front ++ u ∷ back → InOne f ys front u
flat_map_split f [] [] u back e = absurd (cc)
flat_map_split f [] (x ∷ front) u back e = absurd (cc)
flat_map_split {X} {Y} f (y ∷ ys) front u back e = go (append_split (f y) (flat_map f ys) front u back e) (λ (rest : List X). flat_map_split f ys rest u back)
  where
    go : InFirst (f y) front u ⊎ InSecond (f y) (flat_map f ys) front u back → ((rest : List X) → flat_map f ys ≡ rest ++ u ∷ back → InOne f ys rest u) → InOne f (y ∷ ys) front u
    go (inl l) later = record { j = 0; y = y; at = refl; inner = front; behind = l.rest; list_is = l.first; front_is = refl }
    go (inr r) later =
        let one = later r.rest r.second in
        record { j = suc one.j; y = one.y; at = one.at; inner = one.inner; behind = one.behind; list_is = one.list_is; front_is = r.front_is ∙ (ap (λ (vs : List X). f y ++ vs) one.front_is ∙ sym (append_assoc (f y) (flat_map f (take one.j ys)) one.inner)) }

-- ---- parts of a record

-- a part of these transactions, numbered from m: the transaction that it is of
pub record OfTransaction (config : Config) (r : ℕ) (rec : Record) (m : ℕ) (ts : List StampedTransaction) (front : List JudgedPart) (u : JudgedPart) : Type 0 where
  pub k : ℕ
  pub t : StampedTransaction
  pub at : slice_get ts k ≡ Some t
  pub asking : asks config rec r t ≡ true
  pub u_is : u ≡ seen config r rec (m + k) t
  pub front_is : front ≡ judged_at rec.version (parts_from config rec r m (take k ts))

pub parts_from_split : (config : Config) (r : ℕ) (rec : Record) (m : ℕ) (ts : List StampedTransaction) (front : List JudgedPart) (u : JudgedPart) (back : List JudgedPart) → judged_at rec.version (parts_from config rec r m ts) ≡ front ++ u ∷ back → OfTransaction config r rec m ts front u
parts_from_split config r rec m [] [] u back e = absurd (cc)
parts_from_split config r rec m [] (x ∷ front) u back e = absurd (cc)
parts_from_split config r rec m (t ∷ ts) front u back e = go (asks config rec r t) refl front e (λ (front' : List JudgedPart). parts_from_split config r rec (suc m) ts front' u back)
  where
    goes_on : (k : ℕ) → suc m + k ≡ m + suc k
    goes_on k = omega arith

    go : (b : Bool) → asks config rec r t ≡ b → (front : List JudgedPart) → judged_at rec.version (if b then part_of config rec r m t ∷ parts_from config rec r (suc m) ts else parts_from config rec r (suc m) ts) ≡ front ++ u ∷ back →
        ((front' : List JudgedPart) → judged_at rec.version (parts_from config rec r (suc m) ts) ≡ front' ++ u ∷ back → OfTransaction config r rec (suc m) ts front' u) → OfTransaction config r rec m (t ∷ ts) front u
    go true asking [] whole later =
        let same : seen config r rec m t ≡ u = cc in
        let first : m + 0 ≡ m = omega arith in
        record { k = 0; t = t; at = refl; asking = asking; u_is = rw first (sym same); front_is = refl }
    go true asking (x ∷ front) whole later =
        let same : seen config r rec m t ≡ x = cc in
        let one = later front (cc) in
        record { k = suc one.k; t = one.t; at = one.at; asking = one.asking; u_is = rw (← goes_on one.k) one.u_is; front_is = rw asking (ap (λ (z : JudgedPart). z ∷ front) (sym same) ∙ ap (λ (vs : List JudgedPart). seen config r rec m t ∷ vs) one.front_is) }
    go false other front whole later =
        let one = later front whole in
        record { k = suc one.k; t = one.t; at = one.at; asking = one.asking; u_is = rw (← goes_on one.k) one.u_is; front_is = rw other one.front_is }

-- ---- places

-- a record of a history is at its row
pub row_at : (config : Config) (h : List Record) (i : ℕ) (rec : Record) → IsHistory config h → slice_get h i ≡ Some rec → rec.row ≡ i
row_at config h i rec history at =
    let within = slice_get_within h i rec at in
    (history i rec at).row ∙ length-take-le i h (omega arith)

-- a stands before b in the order of judging
abbrev pub IsBefore : {h : List Record} → Place h → Place h → Type 0
IsBefore a b = ((a.i ≡ b.i) × (a.n < b.n)) ⊎ (a.i < b.i)

abbrev pub judged_before_place : Config → ℕ → (h : List Record) → Place h → List JudgedPart
judged_before_place config r h a = judged_before config r (take a.i h) a.rec (take a.n a.rec.batch)

pub same_record : {h : List Record} (a b : Place h) → a.i ≡ b.i → a.rec ≡ b.rec
same_record {h} a b same =
    let left = a.record_is in
    let right = b.record_is in
    let handle_move : slice_get h a.i ≡ slice_get h b.i = ap (λ (i : ℕ). slice_get h i) same in
    cc

pub length_earlier : {h : List Record} (a : Place h) → length (take a.n a.rec.batch) ≡ a.n
length_earlier a =
    let within = slice_get_within a.rec.batch a.n a.transaction a.transaction_is in
    length-take-le a.n a.rec.batch (omega arith)

-- the verdict at a place, by the parts judged before it
pub verdict_at_place_is : (config : Config) (r : ℕ) (h : List Record) (a : Place h) → verdict_at_place config r h a ≡ verdict config.window (judged_before_place config r h a) (seen_at config r a)
unfolding verdict_of
verdict_at_place_is config r h a = ap (λ (n : ℕ). verdict config.window (judged_before_place config r h a) (seen config r a.rec n a.transaction)) (length_earlier a)

-- the parts of a record with one of its transactions that asks
pub parts_from_around : (config : Config) (r : ℕ) (rec : Record) (n : ℕ) (earlier rest : List StampedTransaction) (t : StampedTransaction) → length earlier ≡ n → asks config rec r t ≡ true →
    (back : List JudgedPart) × (judged_at rec.version (parts_from config rec r 0 (earlier ++ t ∷ rest)) ≡ judged_at rec.version (parts_from config rec r 0 earlier) ++ seen config r rec n t ∷ back)
parts_from_around config r rec n earlier rest t e asking =
    (judged_at rec.version (parts_from config rec r (suc n) rest), rw (parts_from-append config rec r 0 n earlier (t ∷ rest) (omega arith), asking, map-append))

-- the share of a record, as it is judged
abbrev pub shares : Config → ℕ → Record → List JudgedPart
shares config r s = judged_at s.version (share config s r)

-- a transaction that asks, and stands before another one, is judged before it
pub record JudgedAround (config : Config) (r : ℕ) (h : List Record) (a b : Place h) : Type 0 where
  pub back : List JudgedPart
  pub whole : judged_before_place config r h b ≡ judged_before_place config r h a ++ seen_at config r a ∷ back

pub judged_around : (config : Config) (r : ℕ) (h : List Record) (a b : Place h) → IsBefore a b → asks config a.rec r a.transaction ≡ true → JudgedAround config r h a b
unfolding judged_before share_back_to
judged_around config r h a b (inl (same, earlier)) asking =
    let one = same_record a b same in
    let near = around a.rec.batch a.n b.n a.transaction a.transaction_is earlier in
    let parts = parts_from_around config r a.rec a.n (take a.n a.rec.batch) near.rest a.transaction (length_earlier a) asking in
    record { back = parts.0; whole = rw (← one, ← same, near.whole, parts.1, append_assoc) }
judged_around config r h a b (inr earlier) asking =
    let near = around h a.i b.i a.rec a.record_is earlier in
    let all = around_all a.rec.batch a.n a.transaction a.transaction_is in
    let parts = parts_from_around config r a.rec a.n (take a.n a.rec.batch) all.0 a.transaction (length_earlier a) asking in
    let shared : judged_at a.rec.version (share config a.rec r) ≡ judged_at a.rec.version (parts_from config a.rec r 0 (take a.n a.rec.batch)) ++ seen_at config r a ∷ parts.0 = ap (λ (ts : List StampedTransaction). judged_at a.rec.version (parts_from config a.rec r 0 ts)) all.1 ∙ parts.1 in
    record {
      back = (parts.0 ++ flat_map (shares config r) near.rest) ++ judged_at b.rec.version (parts_from config b.rec r 0 (take b.n b.rec.batch));
      whole = rw (near.whole, flat_map-append, shared) (simp append_assoc);
    }

-- a part judged before a transaction is of a transaction before it
pub record JudgedPlace (config : Config) (r : ℕ) (h : List Record) (b : Place h) (front : List JudgedPart) (u : JudgedPart) : Type 0 where
  pub a : Place h
  pub before : IsBefore a b
  pub asking : asks config a.rec r a.transaction ≡ true
  pub u_is : u ≡ seen_at config r a
  pub front_is : front ≡ judged_before_place config r h a

pub judged_place : (config : Config) (r : ℕ) (h : List Record) (b : Place h) (front : List JudgedPart) (u : JudgedPart) (back : List JudgedPart) → judged_before_place config r h b ≡ front ++ u ∷ back → JudgedPlace config r h b front u
unfolding judged_before share_back_to
judged_place config r h b front u back e = go (append_split (flat_map (shares config r) (take b.i h)) (judged_at b.rec.version (parts_from config b.rec r 0 (take b.n b.rec.batch))) front u back e)
  where
    from_zero : (k : ℕ) → 0 + k ≡ k
    from_zero k = omega arith

    go : InFirst (flat_map (shares config r) (take b.i h)) front u ⊎ InSecond (flat_map (shares config r) (take b.i h)) (judged_at b.rec.version (parts_from config b.rec r 0 (take b.n b.rec.batch))) front u back → JudgedPlace config r h b front u
    go (inl l) =
        let one = flat_map_split (shares config r) (take b.i h) front u l.rest l.first in
        let there = slice_get-take h b.i one.j one.y one.at in
        let part = parts_from_split config r one.y 0 one.y.batch one.inner u one.behind one.list_is in
        let number : 0 + part.k ≡ part.k = from_zero part.k in
        record {
          a = record { i = one.j; n = part.k; rec = one.y; transaction = part.t; record_is = there.1; transaction_is = part.at };
          before = inr there.0;
          asking = part.asking;
          u_is = part.u_is ∙ ap (λ (n : ℕ). seen config r one.y n part.t) number;
          front_is = one.front_is ∙ (ap (λ (hs : List Record). flat_map (shares config r) hs ++ one.inner) (take-take_le h one.j b.i (omega (arith, there.0))) ∙ ap (λ (vs : List JudgedPart). flat_map (shares config r) (take one.j h) ++ vs) part.front_is);
        }
    go (inr s) =
        let part = parts_from_split config r b.rec 0 (take b.n b.rec.batch) s.rest u back s.second in
        let there = slice_get-take b.rec.batch b.n part.k part.t part.at in
        let number : 0 + part.k ≡ part.k = from_zero part.k in
        record {
          a = record { i = b.i; n = part.k; rec = b.rec; transaction = part.t; record_is = b.record_is; transaction_is = there.1 };
          before = inl (refl, there.0);
          asking = part.asking;
          u_is = part.u_is ∙ ap (λ (n : ℕ). seen config r b.rec n part.t) number;
          front_is = s.front_is ∙ ap (λ (vs : List JudgedPart). flat_map (shares config r) (take b.i h) ++ vs) (part.front_is ∙ ap (λ (ts : List StampedTransaction). judged_at b.rec.version (parts_from config b.rec r 0 ts)) (take-take_le b.rec.batch part.k b.n (omega (arith, there.0))));
        }
