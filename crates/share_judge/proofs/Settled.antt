-- What tells the same: an edge put in, a repeated start taken out, and starts that are settled.
use Rattle.std.proofs.Common.{◌≡◌, refl, sym, ap, ◌∙◌, ℕ, ◌⊎◌, inl, inr, List, [], ◌∷◌, Bool, true, false, cond, nat_eq, nat_le, Ordering, Less, Equal, Greater, arith}
use Rattle.std.proofs.lemmas.Bool.{eqb-true, eq-eqb, leb-true}
use Rattle.std.specs.Ordering.{match_ordering}
use Rattle.std.specs.Map.{remove_entry}
use Rattle.std.specs.BTreeMap.{insert_entry}
use Rattle.system_keys.specs.Keys.{Key, is_key_below}
use Rattle.system_keys.proofs.KeyOrder.{not_below_itself, not_below_back}
use Rattle.model.specs.WriteHistories.{unless_forgotten}
use Rattle.share_judge.specs.Steps.{Start, last_from, last_before, last_of_all, settled, IsBefore, AreRising, HasStart, TellTheSame, is_same_key}
use Rattle.share_judge.proofs.Starts.{key_cmp, less, greater, equal, same_itself, below_differs, above_differs, before_trans, none_before}

eq_itself : (n : ℕ) → nat_eq n n ≡ true
eq_itself n = eq-eqb n n refl

-- a start with the version that is there already tells nothing
repeated : (dropped first : ℕ) (key : Key) (ss : List Start) → settled dropped first ((key, first) ∷ ss) ≡ settled dropped first ss
repeated dropped first key ss = ap (λ (b : Bool). cond b (settled dropped first ss) ((key, unless_forgotten dropped first) ∷ settled dropped first ss)) (eq_itself (unless_forgotten dropped first))

-- the same first start, and then what tells the same
behind : (dropped first : ℕ) (s : Start) (ss others : List Start) → settled dropped s.1 ss ≡ settled dropped s.1 others → settled dropped first (s ∷ ss) ≡ settled dropped first (s ∷ others)
behind dropped first s ss others e = ap (λ (rest : List Start). cond (nat_eq (unless_forgotten dropped s.1) (unless_forgotten dropped first)) rest ((s.0, unless_forgotten dropped s.1) ∷ rest)) e

-- ---- an edge put in

pub edge_same : (dropped first : ℕ) (ss : List Start) (key : Key) → AreRising ss → settled dropped first (insert_entry key_cmp ss key (last_from first ss key)) ≡ settled dropped first ss
edge_same dropped first [] key rising = repeated dropped first key []
edge_same dropped first (s ∷ ss) key rising = by (key_cmp key s.0) refl (edge_same dropped s.1 ss key rising.1)
  where
    version : ℕ
    version = last_from first (s ∷ ss) key

    by : (r : Ordering) → key_cmp key s.0 ≡ r → settled dropped s.1 (insert_entry key_cmp ss key (last_from s.1 ss key)) ≡ settled dropped s.1 ss →
        settled dropped first (match_ordering r ((key, version) ∷ s ∷ ss) ((s.0, version) ∷ ss) (s ∷ insert_entry key_cmp ss key version)) ≡ settled dropped first (s ∷ ss)
    by Less is rest =
        let same : version ≡ first = ap (λ (b : Bool). cond b first (last_from s.1 ss key)) (less key s.0 is) in
        rw same (repeated dropped first key (s ∷ ss))
    by Equal is rest =
        let at : key ≡ s.0 = equal key s.0 is in
        let same : version ≡ s.1 = rw at (ap (λ (b : Bool). cond b first (last_from s.1 ss s.0)) (not_below_itself s.0) ∙ none_before s.1 ss s.0 rising.0) in
        rw same refl
    by Greater is rest =
        let same : version ≡ last_from s.1 ss key = ap (λ (b : Bool). cond b first (last_from s.1 ss key)) (not_below_back s.0 key (greater key s.0 is)) in
        behind dropped first s (insert_entry key_cmp ss key version) ss (ap (λ n. settled dropped s.1 (insert_entry key_cmp ss key n)) same ∙ rest)

pub edge_there : {X : Type 0} → (ss : List (Key × X)) (key : Key) (version : X) → HasStart (insert_entry key_cmp ss key version) key
edge_there [] key version = inl refl
edge_there (s ∷ ss) key version = by (key_cmp key s.0) refl (edge_there ss key version)
  where
    by : (r : Ordering) → key_cmp key s.0 ≡ r → HasStart (insert_entry key_cmp ss key version) key →
        HasStart (match_ordering r ((key, version) ∷ s ∷ ss) ((s.0, version) ∷ ss) (s ∷ insert_entry key_cmp ss key version)) key
    by Less is rest = inl refl
    by Equal is rest = inl (equal key s.0 is)
    by Greater is rest = inr rest

pub still_there : {X : Type 0} → (ss : List (Key × X)) (key : Key) (version : X) (other : Key) → HasStart ss other → HasStart (insert_entry key_cmp ss key version) other
still_there [] key version other has = absurd has
still_there (s ∷ ss) key version other has = by (key_cmp key s.0) has (still_there ss key version other)
  where
    by : (r : Ordering) → HasStart (s ∷ ss) other → (HasStart ss other → HasStart (insert_entry key_cmp ss key version) other) →
        HasStart (match_ordering r ((key, version) ∷ s ∷ ss) ((s.0, version) ∷ ss) (s ∷ insert_entry key_cmp ss key version)) other
    by Less has rest = inr has
    by Equal (inl e) rest = inl e
    by Equal (inr there) rest = inr there
    by Greater (inl e) rest = inl e
    by Greater (inr there) rest = inr (rest there)

pub no_other : {X : Type 0} → (ss : List (Key × X)) (key : Key) (version : X) (other : Key) → HasStart (insert_entry key_cmp ss key version) other → HasStart ss other ⊎ (other ≡ key)
no_other [] key version other (inl is) = inr is
no_other [] key version other (inr none) = absurd none
no_other (s ∷ ss) key version other has = by (key_cmp key s.0) has (no_other ss key version other)
  where
    by : (r : Ordering) → HasStart (match_ordering r ((key, version) ∷ s ∷ ss) ((s.0, version) ∷ ss) (s ∷ insert_entry key_cmp ss key version)) other
        → (HasStart (insert_entry key_cmp ss key version) other → HasStart ss other ⊎ (other ≡ key)) → HasStart (s ∷ ss) other ⊎ (other ≡ key)
    by Less (inl is) rest = inr is
    by Less (inr has) rest = inl has
    by Equal (inl is) rest = inl (inl is)
    by Equal (inr has) rest = inl (inr has)
    by Greater (inl is) rest = inl (inl is)
    by Greater (inr has) rest = later (rest has)
      where
        later : HasStart ss other ⊎ (other ≡ key) → HasStart (s ∷ ss) other ⊎ (other ≡ key)
        later (inl old) = inl (inr old)
        later (inr is) = inr is

-- ---- a repeated start taken out

pub taken_out : (dropped first : ℕ) (ss : List Start) (key : Key) → AreRising ss → last_from first ss key ≡ last_before first ss key → settled dropped first (remove_entry (is_same_key key) ss) ≡ settled dropped first ss
taken_out dropped first [] key rising h = refl
taken_out dropped first (s ∷ ss) key rising h = by (key_cmp key s.0) refl (taken_out dropped s.1 ss key rising.1)
  where
    by : (r : Ordering) → key_cmp key s.0 ≡ r → (last_from s.1 ss key ≡ last_before s.1 ss key → settled dropped s.1 (remove_entry (is_same_key key) ss) ≡ settled dropped s.1 ss) →
        settled dropped first (cond (is_same_key key s.0) ss (s ∷ remove_entry (is_same_key key) ss)) ≡ settled dropped first (s ∷ ss)
    by Less is rest = rw (below_differs key s.0 (less key s.0 is), none_below key ss (before_trans key s.0 ss (less key s.0 is) rising.0)) refl
      where
        none_below : (k : Key) (ts : List Start) → IsBefore k ts → remove_entry (is_same_key k) ts ≡ ts
        none_below k [] all = refl
        none_below k (t ∷ ts) all = rw (below_differs k t.0 all.0, none_below k ts all.1) refl
    by Equal is rest =
        let at : key ≡ s.0 = equal key s.0 is in
        let left : last_from first (s ∷ ss) key ≡ s.1 = rw at (ap (λ (b : Bool). cond b first (last_from s.1 ss s.0)) (not_below_itself s.0) ∙ none_before s.1 ss s.0 rising.0) in
        let right : last_before first (s ∷ ss) key ≡ first = rw at (ap (λ (b : Bool). cond b (last_before s.1 ss s.0) first) (not_below_itself s.0)) in
        let same : s.1 ≡ first = sym left ∙ h ∙ right in
        let gone : is_same_key key s.0 ≡ true = rw at (same_itself s.0) in
        rw gone (ap (λ n. settled dropped n ss) (sym same) ∙ again same)
      where
        again : s.1 ≡ first → settled dropped s.1 ss ≡ settled dropped first (s ∷ ss)
        again e = sym (ap (λ (b : Bool). cond b (settled dropped s.1 ss) ((s.0, unless_forgotten dropped s.1) ∷ settled dropped s.1 ss)) (eq-eqb (unless_forgotten dropped s.1) (unless_forgotten dropped first) (ap (unless_forgotten dropped) e)))
    by Greater is rest =
        let above = greater key s.0 is in
        let left : last_from first (s ∷ ss) key ≡ last_from s.1 ss key = ap (λ (b : Bool). cond b first (last_from s.1 ss key)) (not_below_back s.0 key above) in
        let right : last_before first (s ∷ ss) key ≡ last_before s.1 ss key = ap (λ (b : Bool). cond b (last_before s.1 ss key) first) above in
        rw (above_differs key s.0 above) (behind dropped first s (remove_entry (is_same_key key) ss) ss (rest (sym left ∙ h ∙ right)))

-- ---- what the settled starts tell

-- at each key, the version, where those that are dropped count as none
pub settled_last : (dropped first : ℕ) (ss : List Start) (key : Key) → AreRising ss → last_from (unless_forgotten dropped first) (settled dropped first ss) key ≡ unless_forgotten dropped (last_from first ss key)
settled_last dropped first [] key rising = refl
settled_last dropped first (s ∷ ss) key rising = by (nat_eq (unless_forgotten dropped s.1) (unless_forgotten dropped first)) refl (is_key_below key s.0) refl (settled_last dropped s.1 ss key rising.1)
  where
    own : ℕ
    own = unless_forgotten dropped s.1

    by : (t : Bool) → nat_eq own (unless_forgotten dropped first) ≡ t → (b : Bool) → is_key_below key s.0 ≡ b → last_from own (settled dropped s.1 ss) key ≡ unless_forgotten dropped (last_from s.1 ss key) →
        last_from (unless_forgotten dropped first) (cond t (settled dropped s.1 ss) ((s.0, own) ∷ settled dropped s.1 ss)) key ≡ unless_forgotten dropped (cond b first (last_from s.1 ss key))
    by true same true below rest =
        let e : own ≡ unless_forgotten dropped first = eqb-true own (unless_forgotten dropped first) same in
        rw (← e) (rest ∙ ap (unless_forgotten dropped) (none_before s.1 ss key (before_trans key s.0 ss below rising.0)))
    by true same false above rest =
        let e : own ≡ unless_forgotten dropped first = eqb-true own (unless_forgotten dropped first) same in
        rw (← e) rest
    by false differs true below rest = rw below refl
    by false differs false above rest = rw above rest

pub settled_past : (dropped first : ℕ) (ss : List Start) → last_of_all (unless_forgotten dropped first) (settled dropped first ss) ≡ unless_forgotten dropped (last_of_all first ss)
settled_past dropped first [] = refl
settled_past dropped first (s ∷ ss) = by (nat_eq (unless_forgotten dropped s.1) (unless_forgotten dropped first)) refl (settled_past dropped s.1 ss)
  where
    own : ℕ
    own = unless_forgotten dropped s.1

    by : (t : Bool) → nat_eq own (unless_forgotten dropped first) ≡ t → last_of_all own (settled dropped s.1 ss) ≡ unless_forgotten dropped (last_of_all s.1 ss) →
        last_of_all (unless_forgotten dropped first) (cond t (settled dropped s.1 ss) ((s.0, own) ∷ settled dropped s.1 ss)) ≡ unless_forgotten dropped (last_of_all s.1 ss)
    by true same rest = ap (λ n. last_of_all n (settled dropped s.1 ss)) (sym (eqb-true own (unless_forgotten dropped first) same)) ∙ rest
    by false differs rest = rest

pub settled_before : (dropped first : ℕ) (key : Key) (ss : List Start) → IsBefore key ss → IsBefore key (settled dropped first ss)
settled_before dropped first key [] all = tt
settled_before dropped first key (s ∷ ss) all = by (nat_eq (unless_forgotten dropped s.1) (unless_forgotten dropped first)) (settled_before dropped s.1 key ss all.1)
  where
    by : (t : Bool) → IsBefore key (settled dropped s.1 ss) → IsBefore key (cond t (settled dropped s.1 ss) ((s.0, unless_forgotten dropped s.1) ∷ settled dropped s.1 ss))
    by true rest = rest
    by false rest = (all.0, rest)

pub settled_rising : (dropped first : ℕ) (ss : List Start) → AreRising ss → AreRising (settled dropped first ss)
settled_rising dropped first [] rising = tt
settled_rising dropped first (s ∷ ss) rising = by (nat_eq (unless_forgotten dropped s.1) (unless_forgotten dropped first)) (settled_rising dropped s.1 ss rising.1)
  where
    by : (t : Bool) → AreRising (settled dropped s.1 ss) → AreRising (cond t (settled dropped s.1 ss) ((s.0, unless_forgotten dropped s.1) ∷ settled dropped s.1 ss))
    by true rest = rest
    by false rest = (settled_before dropped s.1 s.0 ss rising.0, rest)

pub none_twice : (dropped n : ℕ) → unless_forgotten dropped (unless_forgotten dropped n) ≡ unless_forgotten dropped n
none_twice dropped n = by (nat_le n dropped) refl
  where
    by : (t : Bool) → nat_le n dropped ≡ t → unless_forgotten dropped (cond t 0 n) ≡ cond t 0 n
    by true is = either (nat_le 0 dropped)
      where
        either : (b : Bool) → ◌≡◌ {A = ℕ} (cond b 0 0) 0
        either true = refl
        either false = refl
    by false is = rw is refl

-- settled starts are settled
pub settled_twice : (dropped first : ℕ) (ss : List Start) → settled dropped (unless_forgotten dropped first) (settled dropped first ss) ≡ settled dropped first ss
settled_twice dropped first [] = refl
settled_twice dropped first (s ∷ ss) = by (nat_eq (unless_forgotten dropped s.1) (unless_forgotten dropped first)) refl (settled_twice dropped s.1 ss)
  where
    own : ℕ
    own = unless_forgotten dropped s.1

    by : (t : Bool) → nat_eq own (unless_forgotten dropped first) ≡ t → settled dropped own (settled dropped s.1 ss) ≡ settled dropped s.1 ss →
        settled dropped (unless_forgotten dropped first) (cond t (settled dropped s.1 ss) ((s.0, own) ∷ settled dropped s.1 ss)) ≡ cond t (settled dropped s.1 ss) ((s.0, own) ∷ settled dropped s.1 ss)
    by true same rest = ap (λ n. settled dropped n (settled dropped s.1 ss)) (sym (eqb-true own (unless_forgotten dropped first) same)) ∙ rest
    by false differs rest = rw (none_twice dropped s.1, none_twice dropped first, differs) (ap (λ (more : List Start). (s.0, own) ∷ more) rest)

-- what tells the same gives each key the same version
zero_is : (n : ℕ) → unless_forgotten 0 n ≡ n
zero_is n = by (nat_le n 0) refl
  where
    by : (t : Bool) → nat_le n 0 ≡ t → cond t 0 n ≡ n
    by true is = let low = leb-true n 0 is in omega (arith, low)
    by false is = refl

pub same_last : (old new : List Start) → AreRising old → AreRising new → TellTheSame old new → (key : Key) → last_from 0 new key ≡ last_from 0 old key
same_last old new rising rising_too same key =
    sym (zero_is (last_from 0 new key))
    ∙ sym (settled_last 0 0 new key rising_too)
    ∙ ap (λ (ss : List Start). last_from 0 ss key) (same 0)
    ∙ settled_last 0 0 old key rising
    ∙ zero_is (last_from 0 old key)

pub same_past : (old new : List Start) → TellTheSame old new → last_of_all 0 new ≡ last_of_all 0 old
same_past old new same =
    sym (zero_is (last_of_all 0 new))
    ∙ sym (settled_past 0 0 new)
    ∙ ap (last_of_all 0) (same 0)
    ∙ settled_past 0 0 old
    ∙ zero_is (last_of_all 0 old)
